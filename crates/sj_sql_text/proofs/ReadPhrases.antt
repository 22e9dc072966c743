-- What is known of types and of default plans that some tokens spell.
use Rattle.std.proofs.Common.{◌≡◌, ℕ, Bool, true, false, ◌∷◌, Some, refl}
use Rattle.std.specs.Prelude.{◌&&◌, nat_le}
use Rattle.sj_decimal.specs.Limits.{max_digits}
use Rattle.sj_value.specs.declared.types.SqlType.TheVariants as sql
use Rattle.sj_sql_token.specs.declared.token.Token.TheVariants as k
use Rattle.sj_sql_token.specs.declared.keyword.Keyword.{Keyword}
use Rattle.sj_sql_token.specs.declared.keyword.Keyword.TheVariants as w
use Rattle.sj_sql_grammar.specs.declared.clauses.TypeName.{TypeName}
use Rattle.sj_sql_grammar.specs.declared.clauses.TypeName.TheVariants.{Known, Approximate, Datetime}
use Rattle.sj_sql_grammar.specs.Tree.{PlanTree, Default, Named}
use Rattle.sj_sql_grammar.specs.Phrases.{Tokens, word, open_at, close_at, comma_at, count_at, meant, in_out_of, siblings_of, max_varchar, sized, varchar_at, fixed_at, numeric_at, type_from, type_at, returning_at, default_at}
use Rattle.sj_sql_grammar.specs.Grammar as g
use Rattle.sj_sql_grammar.specs.Grammar.{IsOptional}
use Rattle.sj_sql_grammar.proofs.ReadTokens.{If, nothing, here, given, either, chosen}

-- the numbers of a type are within their limits
abbrev is_within : TypeName → Bool
is_within (Known (sql.VarcharMax n)) = nat_le 1 n && nat_le n max_varchar
is_within (Known (sql.NumericFixed p s)) = nat_le 1 p && nat_le p max_digits && nat_le s p
is_within _ = true

pub record IsWithin (ty : TypeName) : Type 0 where
  pub is : is_within ty ≡ true

abbrev IsRead : TypeName × Tokens → Type 0
IsRead x = IsWithin x.0

sized_read : (ty : TypeName) (ts : Tokens) → IsWithin ty → If IsRead (sized ty ts)
sized_read ty ts h = either (open_at ts) _ _ (λ a _. given (count_at a) _ (λ n _. given (close_at n.1) _ (λ rest _. here h))) (λ _. here h)

varchar_read : (ts : Tokens) → If IsRead (varchar_at ts)
varchar_read ts = either (open_at ts) _ _ (λ a _. given (count_at a) _ (λ n _. given (close_at n.1) _ (λ rest _. chosen (nat_le 1 n.0 && nat_le n.0 max_varchar) _ _ (λ h. here (record { is = h })) (λ _. nothing))))
    (λ _. here (record { is = refl }))

fixed_read : (p s : ℕ) (ts : Tokens) → If IsRead (fixed_at p s ts)
fixed_read p s ts = chosen (nat_le 1 p && nat_le p max_digits && nat_le s p) _ _ (λ h. given (close_at ts) _ (λ rest _. here (record { is = h }))) (λ _. nothing)

numeric_read : (ts : Tokens) → If IsRead (numeric_at ts)
numeric_read ts =
    either (open_at ts) _ _ (λ a _. given (count_at a) _ (λ p _. either (comma_at p.1) _ _ (λ b _. given (count_at b) _ (λ s _. fixed_read p.0 s.0 s.1)) (λ _. fixed_read p.0 0 p.1)))
    (λ _. here (record { is = refl }))

type_from_read : (v : Keyword) (ts : Tokens) → If IsRead (type_from v ts)
unfolding type_from
type_from_read w.Varchar ts = varchar_read ts
type_from_read w.Numeric ts = numeric_read ts
type_from_read w.Decimal ts = numeric_read ts
type_from_read w.Integer ts = here (record { is = refl })
type_from_read w.Int ts = here (record { is = refl })
type_from_read w.Bigint ts = here (record { is = refl })
type_from_read w.Boolean ts = here (record { is = refl })
type_from_read w.Float ts = sized_read Approximate ts (record { is = refl })
type_from_read w.Real ts = here (record { is = refl })
type_from_read w.Double ts = given (word w.Precision ts) _ (λ rest _. here (record { is = refl }))
type_from_read w.Date ts = here (record { is = refl })
type_from_read w.Time ts = sized_read Datetime ts (record { is = refl })
type_from_read w.Timestamp ts = sized_read Datetime ts (record { is = refl })
type_from_read _ ts = nothing

type_at_read : (ts : Tokens) → If IsRead (type_at ts)
unfolding type_at
type_at_read (k.Word v text ∷ ts) = type_from_read v ts
type_at_read _ = nothing

pub type_read : (ts rest : Tokens) (ty : TypeName) → type_at ts ≡ Some (ty, rest) → IsWithin ty
type_read ts rest ty h = (type_at_read ts).holds (ty, rest) h

returning_at_read : (ts : Tokens) → If IsRead (returning_at ts)
unfolding returning_at
returning_at_read ts = given (word w.Returning ts) _ (λ a _. type_at_read a)

pub returning_read : {ts rest : Tokens} {ty : TypeName} → IsOptional returning_at (Known sql.Varchar) ts ty rest → IsWithin ty
returning_read {ts} {rest} {ty} (g.there h) = (returning_at_read ts).holds (ty, rest) h
returning_read g.absent = record { is = refl }

abbrev is_default : PlanTree → Bool
is_default (Default i s) = true
is_default (Named p) = false

pub record IsDefault (p : PlanTree) : Type 0 where
  pub is : is_default p ≡ true

abbrev IsDefaultRead : PlanTree × Tokens → Type 0
IsDefaultRead x = IsDefault x.0

default_at_read : (ts : Tokens) → If IsDefaultRead (default_at ts)
unfolding default_at
default_at_read ts =
    either (meant in_out_of ts) _ _ (λ i _. either (comma_at i.1) _ _ (λ a _. given (meant siblings_of a) _ (λ s _. here (record { is = refl }))) (λ _. here (record { is = refl })))
    (λ _. given (meant siblings_of ts) _ (λ s _. either (comma_at s.1) _ _ (λ a _. given (meant in_out_of a) _ (λ i _. here (record { is = refl }))) (λ _. here (record { is = refl }))))

pub default_read : (ts rest : Tokens) (p : PlanTree) → default_at ts ≡ Some (p, rest) → IsDefault p
default_read ts rest p h = (default_at_read ts).holds (p, rest) h
