-- The clauses of a function or a column that breaks no rule can be given.
use Rattle.std.proofs.Common.{◌≡◌, ℕ, Bool, true, false, cond, is_err, unwrap_or, Result, Ok, Err, ℤ, refl, arith}
use Rattle.std.specs.Result.{result_ok}
use Rattle.sj_decimal.specs.declared.arithmetic.NumFault.{NumFault}
use Rattle.sj_decimal.specs.Rounding.{rounded_within}
use Rattle.sj_path_tree.specs.declared.parts.Literal.{Literal}
use Rattle.sj_path_tree.specs.declared.parts.Literal.TheVariants as literal
use Rattle.sj_json.specs.Tree.{exact, Tree, truth, string, number}
use Rattle.sj_base.specs.declared.state.State.{State as SqlState}
use Rattle.sj_item.specs.Scalars.{number_cast, whole_cast, truth_cast, text_cast}
use Rattle.sj_sql_grammar.specs.declared.clauses.TypeName.{TypeName}
use Rattle.sj_sql_grammar.specs.declared.clauses.TypeName.TheVariants.{Known, Approximate, Datetime}
use Rattle.sj_sql_grammar.specs.declared.clauses.ValueDo.{ValueDo}
use Rattle.sj_sql_grammar.specs.declared.clauses.ValueDo.TheVariants as do_
use Rattle.sj_value.specs.Casts.{Cast, given, text_within, fixed, scalar_cast, tree_cast}
use Rattle.sj_value.specs.Clauses.{GivesPrintable}
use Rattle.sj_value.specs.Types.{AreDigits, IsCastType}
use Rattle.sj_value.specs.Values.{IsPrintable}
use Rattle.sj_value.specs.declared.types.SqlType.{SqlType}
use Rattle.sj_value.specs.declared.types.SqlType.TheVariants as types
use Rattle.sj_value.specs.declared.value.SqlValue.{SqlValue}
use Rattle.sj_value.specs.declared.value.SqlValue.TheVariants as value
use Rattle.sj_value.proofs.Rounded.{rounded_prints}
use Rattle.sj_bound.specs.Sound.{is_text_type}
use Rattle.sj_bind.specs.Clauses.{IsBindableType, sql_type, literal_cast, default_fails, value_action, value_clauses}
use Rattle.sj_bound.specs.Sound.{IsTextOrNull, GivesTextOrNull, AreClauses}

-- ---- what a cast gives

-- a cast that gives a value gives one with P
abbrev pub Gives : (SqlValue → Type 0) → Cast → Type 0
Gives P (Ok v) = P v
Gives P (Err s) = Unit {0}

chosen : (P : SqlValue → Type 0) (b : Bool) (v : SqlValue) (s : SqlState) → P v → Gives P (cond {A = Cast} b (Ok v) (Err s))
chosen P true v s h = h
chosen P false v s h = tt

given_gives : {A : Type 0} (P : SqlValue → Type 0) (f : A → Cast) (r : Result A SqlState) → ((x : A) → Gives P (f x)) → Gives P (given f r)
given_gives P f (Ok x) h = h x
given_gives P f (Err s) h = tt

-- ---- printable values

plain_prints : (d : ℤ × ℕ) → IsPrintable (value.Num d 0)
plain_prints d h = absurd (omega arith)

fixed_prints : (p s : ℕ) (d : ℤ × ℕ) → AreDigits p s → (r : Result (ℤ × ℕ) NumFault) → rounded_within p s d ≡ r → Gives IsPrintable (fixed s r)
fixed_prints p s d digits (Ok q) e = λ _. rounded_prints p s d q digits.few digits.decimals e
fixed_prints p s d digits (Err fault) e = tt

scalar_prints : (t : Tree) (ty : SqlType) → IsCastType ty → Gives IsPrintable (scalar_cast t ty)
unfolding scalar_cast
scalar_prints t types.Varchar h = given_gives IsPrintable (λ s. Ok (value.Text s)) (text_cast t) (λ s. tt)
scalar_prints t (types.VarcharMax n) h = given_gives IsPrintable (text_within n) (text_cast t) (λ s. chosen IsPrintable _ _ _ tt)
scalar_prints t types.Numeric h = given_gives IsPrintable (λ d. Ok (value.Num d 0)) (number_cast t) plain_prints
scalar_prints t (types.NumericFixed p s) h =
    given_gives IsPrintable (λ d. fixed s (rounded_within p s d)) (number_cast t) (λ d. fixed_prints p s d h (rounded_within p s d) refl)
scalar_prints t types.Integer h = given_gives IsPrintable (λ d. Ok (value.Num d 0)) (whole_cast _ _ t) plain_prints
scalar_prints t types.Bigint h = given_gives IsPrintable (λ d. Ok (value.Num d 0)) (whole_cast _ _ t) plain_prints
scalar_prints t types.Boolean h = given_gives IsPrintable (λ b. Ok (value.Bool b)) (truth_cast t) (λ b. tt)

cast_prints : (x : Literal) (ty : SqlType) → IsCastType ty → Gives IsPrintable (literal_cast x ty)
unfolding tree_cast
cast_prints (literal.Text s) ty h = scalar_prints (string s) ty h
cast_prints (literal.Num d) ty h = scalar_prints (number (exact d)) ty h
cast_prints (literal.Bool b) ty h = scalar_prints (truth b) ty h
cast_prints literal.Null ty h = tt

-- ---- texts

scalar_text : (t : Tree) (ty : SqlType) → is_text_type ty ≡ true → Gives IsTextOrNull (scalar_cast t ty)
unfolding scalar_cast
scalar_text t types.Varchar h = given_gives IsTextOrNull (λ s. Ok (value.Text s)) (text_cast t) (λ s. tt)
scalar_text t (types.VarcharMax n) h = given_gives IsTextOrNull (text_within n) (text_cast t) (λ s. chosen IsTextOrNull _ _ _ tt)
scalar_text t types.Numeric h = absurd cc
scalar_text t (types.NumericFixed p s) h = absurd cc
scalar_text t types.Integer h = absurd cc
scalar_text t types.Bigint h = absurd cc
scalar_text t types.Boolean h = absurd cc

cast_text : (x : Literal) (ty : SqlType) → is_text_type ty ≡ true → Gives IsTextOrNull (literal_cast x ty)
unfolding tree_cast
cast_text (literal.Text s) ty h = scalar_text (string s) ty h
cast_text (literal.Num d) ty h = scalar_text (number (exact d)) ty h
cast_text (literal.Bool b) ty h = scalar_text (truth b) ty h
cast_text literal.Null ty h = tt

-- ---- clauses

of_ok : (P : SqlValue → Type 0) (r : Cast) → is_err r ≡ false → Gives P r → P (unwrap_or (result_ok r) value.Null)
of_ok P (Ok v) h g = g
of_ok P (Err s) h g = absurd cc

prints : (ty : SqlType) (a : ValueDo) → IsCastType ty → default_fails ty a ≡ false → GivesPrintable (value_action ty a)
prints ty do_.Error h casts = tt
prints ty do_.Null h casts = tt
prints ty (do_.Default x) h casts = of_ok IsPrintable (literal_cast x ty) casts (cast_prints x ty h)

texts : (ty : SqlType) (a : ValueDo) → default_fails ty a ≡ false → is_text_type ty ≡ true → GivesTextOrNull (value_action ty a)
texts ty do_.Error casts h = tt
texts ty do_.Null casts h = tt
texts ty (do_.Default x) casts h = of_ok IsTextOrNull (literal_cast x ty) casts (cast_text x ty h)

castable : (ty : TypeName) → IsBindableType ty → IsCastType (sql_type ty)
castable (Known ty) h = h
castable Approximate h = absurd h
castable Datetime h = absurd h

pub sound_clauses : (ty : TypeName) (on_empty on_error : ValueDo) → IsBindableType ty → default_fails (sql_type ty) on_empty ≡ false → default_fails (sql_type ty) on_error ≡ false
    → AreClauses (value_clauses ty on_empty on_error)
sound_clauses ty on_empty on_error h e r = record {
  can_be_given = record {
    ty = castable ty h;
    on_empty = prints (sql_type ty) on_empty (castable ty h) e;
    on_error = prints (sql_type ty) on_error (castable ty h) r;
  };
  empty_text = texts (sql_type ty) on_empty e;
  error_text = texts (sql_type ty) on_error r;
}
