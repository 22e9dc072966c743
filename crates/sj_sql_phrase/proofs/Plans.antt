-- The turns of the loops that join plans, beside the recursions that read them.
use Rattle.std.proofs.Common.{◌≡◌, ℕ, suc, ◌+◌, ◌-◌, ◌<◌, Option, Some, None, refl, sym, ap, ◌∙◌, arith}
use Rattle.sj_sql_token.specs.declared.keyword.Keyword.TheVariants as w
use Rattle.sj_sql_grammar.specs.Tree.{NamedPlan, Union, Cross}
use Rattle.sj_sql_grammar.specs.Phrases.{Tokens, Phrase, word}
use Rattle.sj_sql_grammar.specs.Reading.{plan_prim_at, union_from, cross_from}
use Rattle.sj_sql_grammar.proofs.ReadTokens.{bind_is, some_on, none_on}

pub union_turn : (inner : Phrase NamedPlan) {start : Option (NamedPlan × Tokens)} (n at : ℕ) (x y z : NamedPlan) (rest mid after : Tokens) → at < n
    → start ≡ union_from inner (n - at) x rest → Some mid ≡ word w.Union rest → plan_prim_at inner mid ≡ Some (y, after) → z ≡ Union x y
    → start ≡ union_from inner (n - (at + 1)) z after
unfolding union_from
union_turn inner n at x y z rest mid after below e sign operand made =
    let count : n - at ≡ suc (n - (at + 1)) = omega arith in
    e ∙ ap (λ m. union_from inner m x rest) count ∙ some_on _ _ _ (sym sign) (bind_is _ _ operand (ap (λ p. union_from inner (n - (at + 1)) p after) (sym made)))

pub union_ends : (inner : Phrase NamedPlan) {start : Option (NamedPlan × Tokens)} (n at : ℕ) (x : NamedPlan) (rest : Tokens) → at < n
    → start ≡ union_from inner (n - at) x rest → None ≡ word w.Union rest → start ≡ Some (x, rest)
unfolding union_from
union_ends inner n at x rest below e sign =
    let count : n - at ≡ suc (n - (at + 1)) = omega arith in
    e ∙ ap (λ m. union_from inner m x rest) count ∙ none_on _ _ _ (sym sign) refl

pub cross_turn : (inner : Phrase NamedPlan) {start : Option (NamedPlan × Tokens)} (n at : ℕ) (x y z : NamedPlan) (rest mid after : Tokens) → at < n
    → start ≡ cross_from inner (n - at) x rest → Some mid ≡ word w.Cross rest → plan_prim_at inner mid ≡ Some (y, after) → z ≡ Cross x y
    → start ≡ cross_from inner (n - (at + 1)) z after
unfolding cross_from
cross_turn inner n at x y z rest mid after below e sign operand made =
    let count : n - at ≡ suc (n - (at + 1)) = omega arith in
    e ∙ ap (λ m. cross_from inner m x rest) count ∙ some_on _ _ _ (sym sign) (bind_is _ _ operand (ap (λ p. cross_from inner (n - (at + 1)) p after) (sym made)))

pub cross_ends : (inner : Phrase NamedPlan) {start : Option (NamedPlan × Tokens)} (n at : ℕ) (x : NamedPlan) (rest : Tokens) → at < n
    → start ≡ cross_from inner (n - at) x rest → None ≡ word w.Cross rest → start ≡ Some (x, rest)
unfolding cross_from
cross_ends inner n at x rest below e sign =
    let count : n - at ≡ suc (n - (at + 1)) = omega arith in
    e ∙ ap (λ m. cross_from inner m x rest) count ∙ none_on _ _ _ (sym sign) refl
