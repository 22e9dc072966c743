-- The tokens of a plan are that plan.
use Rattle.std.proofs.Common.{◌≡◌, Bool, true, false, ◌∷◌, codes, Some, refl, sym}
use Rattle.sj_sql_token.specs.declared.keyword.Keyword.TheVariants as w
use Rattle.sj_sql_token.specs.Keywords.{keyword_of}
use Rattle.sj_sql_grammar.specs.declared.clauses.InOut.{InOut}
use Rattle.sj_sql_grammar.specs.declared.clauses.InOut.TheVariants as in_out
use Rattle.sj_sql_grammar.specs.declared.clauses.Siblings.{Siblings}
use Rattle.sj_sql_grammar.specs.declared.clauses.Siblings.TheVariants as siblings
use Rattle.sj_sql_grammar.specs.Tree.{NamedPlan, PathOf, Outer, Inner, Union, Cross, PlanTree, Default, Named}
use Rattle.sj_sql_grammar.specs.Phrases.{Tokens, word, default_at}
use Rattle.sj_sql_grammar.specs.Grammar as g
use Rattle.sj_sql_grammar.specs.Grammar.{IsPlanExpr, IsUnion, IsCross, IsPlanPrim, IsPlan}
use Rattle.sj_sql_text.specs.Pieces.{Pieces, Open, Close, Comma}
use Rattle.sj_sql_text.specs.Phrases as on
use Rattle.sj_sql_text.specs.Plans.{is_name, alone_or_enclosed, named_on, in_out_on, siblings_on, plan_on}
use Rattle.sj_sql_text.specs.Tokens.{tokens_of}
use Rattle.sj_sql_text.proofs.ReadPhrases.{IsDefault, default_read}
use Rattle.sj_sql_text.proofs.WordTokens.{stands, plan_is, default_is, outer_is, inner_is, union_is, cross_is}

apart : true ≡ false → ⊥
apart q = cc

-- ---- one more operand at the end

abbrev is_union : NamedPlan → Bool
is_union (Union a b) = true
is_union _ = false

abbrev is_cross : NamedPlan → Bool
is_cross (Cross a b) = true
is_cross _ = false

union_last : {x p y : NamedPlan} {ts a b rest : Tokens} → IsUnion x ts p a → word w.Union a ≡ Some b → IsPlanPrim b y rest → IsUnion x ts (Union p y) rest
union_last g.union_end h d = g.union_more h d g.union_end
union_last (g.union_more k c more) h d = g.union_more k c (union_last more h d)

cross_last : {x p y : NamedPlan} {ts a b rest : Tokens} → IsCross x ts p a → word w.Cross a ≡ Some b → IsPlanPrim b y rest → IsCross x ts (Cross p y) rest
cross_last g.cross_end h d = g.cross_more h d g.cross_end
cross_last (g.cross_more k c more) h d = g.cross_more k c (cross_last more h d)

union_stays : {x p : NamedPlan} {ts rest : Tokens} → IsUnion x ts p rest → is_union x ≡ true → is_union p ≡ true
union_stays g.union_end is = is
union_stays (g.union_more k c more) is = union_stays more refl

cross_stays : {x p : NamedPlan} {ts rest : Tokens} → IsCross x ts p rest → is_cross x ≡ true → is_cross p ≡ true
cross_stays g.cross_end is = is
cross_stays (g.cross_more k c more) is = cross_stays more refl

one_kind : (p : NamedPlan) → is_union p ≡ true → is_cross p ≡ true → ⊥
one_kind (Union a b) u c = apart (sym c)
one_kind (Cross a b) u c = apart (sym u)
one_kind (PathOf name) u c = apart (sym u)
one_kind (Outer name p) u c = apart (sym u)
one_kind (Inner name p) u c = apart (sym u)

union_of : {p y : NamedPlan} {ts a b rest : Tokens} → IsPlanExpr ts p a → is_union p ≡ true → word w.Union a ≡ Some b → IsPlanPrim b y rest → IsPlanExpr ts (Union p y) rest
union_of (g.lone h) is o d = absurd (apart (sym is))
union_of (g.outer h k e) is o d = absurd (apart (sym is))
union_of (g.inner h k e) is o d = absurd (apart (sym is))
union_of (g.union e k f q) is o d = g.union e k f (union_last q o d)
union_of (g.cross {p = p} e k f q) is o d = absurd (one_kind p is (cross_stays q refl))

cross_of : {p y : NamedPlan} {ts a b rest : Tokens} → IsPlanExpr ts p a → is_cross p ≡ true → word w.Cross a ≡ Some b → IsPlanPrim b y rest → IsPlanExpr ts (Cross p y) rest
cross_of (g.lone h) is o d = absurd (apart (sym is))
cross_of (g.outer h k e) is o d = absurd (apart (sym is))
cross_of (g.inner h k e) is o d = absurd (apart (sym is))
cross_of (g.union {p = p} e k f q) is o d = absurd (one_kind p (union_stays q refl) is)
cross_of (g.cross e k f q) is o d = g.cross e k f (cross_last q o d)

-- ---- named plans

abbrev Spells : NamedPlan → Type 0
Spells p = (ps : Pieces) → IsPlanExpr (tokens_of (named_on p ps)) p (tokens_of ps)

-- an operand
prim_is : (p : NamedPlan) → Spells p → (ps : Pieces) → IsPlanPrim (tokens_of (alone_or_enclosed (is_name p) (named_on p) ps)) p (tokens_of ps)
prim_is (PathOf name) d ps = g.plan_name refl
prim_is (Outer name p) d ps = g.parens refl (d (Close ∷ ps)) refl
prim_is (Inner name p) d ps = g.parens refl (d (Close ∷ ps)) refl
prim_is (Union p q) d ps = g.parens refl (d (Close ∷ ps)) refl
prim_is (Cross p q) d ps = g.parens refl (d (Close ∷ ps)) refl

unions_are : (p q : NamedPlan) → Spells p → Spells q → Spells (Union p q)
unions_are p q d e ps = go p d
  where
    behind : Pieces
    behind = alone_or_enclosed (is_name q) (named_on q) ps

    its_word : word w.Union (tokens_of (on.word (codes "UNION") behind)) ≡ Some (tokens_of behind)
    its_word = stands w.Union (codes "UNION") (tokens_of behind) union_is

    by_parens : (p : NamedPlan) → Spells p → IsPlanExpr (tokens_of (Open ∷ named_on p (Close ∷ on.word (codes "UNION") behind))) (Union p q) (tokens_of ps)
    by_parens p d = g.union (g.parens refl (d (Close ∷ on.word (codes "UNION") behind)) refl) its_word (prim_is q e ps) g.union_end

    go : (p : NamedPlan) → Spells p → IsPlanExpr (tokens_of (named_on (Union p q) ps)) (Union p q) (tokens_of ps)
    go (PathOf name) d = g.union (g.plan_name refl) its_word (prim_is q e ps) g.union_end
    go (Outer name p) d = by_parens (Outer name p) d
    go (Inner name p) d = by_parens (Inner name p) d
    go (Union a b) d = union_of (d (on.word (codes "UNION") behind)) refl its_word (prim_is q e ps)
    go (Cross a b) d = by_parens (Cross a b) d

crosses_are : (p q : NamedPlan) → Spells p → Spells q → Spells (Cross p q)
crosses_are p q d e ps = go p d
  where
    behind : Pieces
    behind = alone_or_enclosed (is_name q) (named_on q) ps

    its_word : word w.Cross (tokens_of (on.word (codes "CROSS") behind)) ≡ Some (tokens_of behind)
    its_word = stands w.Cross (codes "CROSS") (tokens_of behind) cross_is

    by_parens : (p : NamedPlan) → Spells p → IsPlanExpr (tokens_of (Open ∷ named_on p (Close ∷ on.word (codes "CROSS") behind))) (Cross p q) (tokens_of ps)
    by_parens p d = g.cross (g.parens refl (d (Close ∷ on.word (codes "CROSS") behind)) refl) its_word (prim_is q e ps) g.cross_end

    go : (p : NamedPlan) → Spells p → IsPlanExpr (tokens_of (named_on (Cross p q) ps)) (Cross p q) (tokens_of ps)
    go (PathOf name) d = g.cross (g.plan_name refl) its_word (prim_is q e ps) g.cross_end
    go (Outer name p) d = by_parens (Outer name p) d
    go (Inner name p) d = by_parens (Inner name p) d
    go (Union a b) d = by_parens (Union a b) d
    go (Cross a b) d = cross_of (d (on.word (codes "CROSS") behind)) refl its_word (prim_is q e ps)

named_is : (p : NamedPlan) → Spells p
named_is (PathOf name) ps = g.lone refl
named_is (Outer name p) ps = g.outer refl (stands w.Outer (codes "OUTER") (tokens_of (alone_or_enclosed (is_name p) (named_on p) ps)) outer_is) (prim_is p (named_is p) ps)
named_is (Inner name p) ps = g.inner refl (stands w.Inner (codes "INNER") (tokens_of (alone_or_enclosed (is_name p) (named_on p) ps)) inner_is) (prim_is p (named_is p) ps)
named_is (Union p q) ps = unions_are p q (named_is p) (named_is q) ps
named_is (Cross p q) ps = crosses_are p q (named_is p) (named_is q) ps

-- ---- plans

default_plan_is : (i : InOut) (s : Siblings) (ps : Pieces) → default_at (tokens_of (in_out_on i (Comma ∷ siblings_on s ps))) ≡ Some (Default i s, tokens_of ps)
unfolding keyword_of default_at
default_plan_is in_out.Outer siblings.Union ps = refl
default_plan_is in_out.Outer siblings.Cross ps = refl
default_plan_is in_out.Inner siblings.Union ps = refl
default_plan_is in_out.Inner siblings.Cross ps = refl

default_spelled : (i : InOut) (s : Siblings) (ps : Pieces) → IsPlan (tokens_of (plan_on (Default i s) ps)) (Default i s) (tokens_of ps)
default_spelled i s ps =
    let clauses = in_out_on i (Comma ∷ siblings_on s (Close ∷ ps)) in
    g.default_plan (stands w.Plan (codes "PLAN") (tokens_of (on.word (codes "DEFAULT") (Open ∷ clauses))) plan_is)
    (stands w.Default (codes "DEFAULT") (tokens_of (Open ∷ clauses)) default_is) refl (default_plan_is i s (Close ∷ ps)) refl

default_only : (p : PlanTree) → IsDefault p → (ps : Pieces) → IsPlan (tokens_of (plan_on p ps)) p (tokens_of ps)
default_only (Default i s) h ps = default_spelled i s ps
default_only (Named p) h ps = absurd (apart (sym h.is))

pub plan_spelled : {p : PlanTree} {ts rest : Tokens} → IsPlan ts p rest → (ps : Pieces) → IsPlan (tokens_of (plan_on p ps)) p (tokens_of ps)
plan_spelled (g.named_plan {p = p} h o d z few) ps =
    g.named_plan (stands w.Plan (codes "PLAN") (tokens_of (Open ∷ named_on p (Close ∷ ps))) plan_is) refl (named_is p (Close ∷ ps)) refl few
plan_spelled (g.default_plan {c = c} {d = d} {p = p} h e o q z) ps = default_only p (default_read c d p q) ps
plan_spelled g.no_plan ps = default_spelled in_out.Outer siblings.Union ps
