-- THE CAST OF AN ITEM TO A TYPE: a type reads one column of the table of casts (`Scalars` of sj_item), and says what
-- becomes of the number, the truth value or the text that stands there.
use Rattle.std.specs.Prelude.{◌≡◌, ℕ, nat_le, List, length, if◌then◌else◌, ℤ, Result, Ok, Err}
use Rattle.std.specs.Str.{chars}
use Rattle.sj_base.specs.declared.state.State.{State as SqlState}
use Rattle.sj_base.specs.declared.state.State.TheVariants.{S22001, S22003}
use Rattle.sj_decimal.specs.declared.arithmetic.NumFault.{NumFault}
use Rattle.sj_decimal.specs.Rounding.{rounded_within}
use Rattle.sj_json.specs.Tree.{Tree, null}
use Rattle.sj_item.specs.Bounds.{integer_low, integer_high, bigint_low, bigint_high}
use Rattle.sj_item.specs.Items.{ItemValue, item_tree}
use Rattle.sj_item.specs.Scalars.{number_cast, whole_cast, truth_cast, text_cast}
use Rattle.sj_value.specs.declared.types.SqlType.{SqlType}
use Rattle.sj_value.specs.declared.types.SqlType.TheVariants.{Varchar, VarcharMax, Numeric, NumericFixed, Integer, Bigint, Boolean}
use Rattle.sj_value.specs.declared.value.SqlValue.{SqlValue}
use Rattle.sj_value.specs.declared.value.SqlValue.TheVariants.{Null, Text, Num, Bool}
use Rattle.sj_value.specs.declared.refusal.CastRefusal.{CastRefusal}
use Rattle.sj_value.specs.declared.refusal.CastRefusal.TheVariants.{State, Memory}

-- a value, or the state of the refusal
abbrev pub Cast : Type 0
Cast = Result SqlValue SqlState

-- ---- what a type makes of a cell

-- a state stays
abbrev pub given : {A : Type 0} → (A → Cast) → Result A SqlState → Cast
given f (Ok x) = f x
given f (Err state) = Err state

-- VARCHAR(n): a text of more than n code points is refused, and never cut
abbrev pub text_within : ℕ → List ℕ → Cast
text_within n s = if nat_le (length (chars s)) n then Ok (Text s) else Err S22001

-- NUMERIC(p, s): rounded half away from zero; it keeps s as the decimals to print
abbrev pub fixed : ℕ → Result (ℤ × ℕ) NumFault → Cast
fixed s (Ok d) = Ok (Num d s)
fixed s (Err fault) = Err S22003

-- ---- types

-- every type but for null
unfoldable pub scalar_cast : Tree → SqlType → Cast
scalar_cast t Varchar = given (λ s. Ok (Text s)) (text_cast t)
scalar_cast t (VarcharMax n) = given (text_within n) (text_cast t)
scalar_cast t Numeric = given (λ d. Ok (Num d 0)) (number_cast t)
scalar_cast t (NumericFixed p s) = given (λ d. fixed s (rounded_within p s d)) (number_cast t)
scalar_cast t Integer = given (λ d. Ok (Num d 0)) (whole_cast integer_low integer_high t)
scalar_cast t Bigint = given (λ d. Ok (Num d 0)) (whole_cast bigint_low bigint_high t)
scalar_cast t Boolean = given (λ b. Ok (Bool b)) (truth_cast t)

-- a JSON null is NULL for every type
unfoldable pub tree_cast : Tree → SqlType → Cast
tree_cast null ty = Ok Null
tree_cast t ty = scalar_cast t ty

abbrev pub cast_of : ItemValue → SqlType → Cast
cast_of x ty = tree_cast (item_tree x) ty

-- ---- answers

-- the answer of a cast: what the table says, or that memory ran out
abbrev pub GivesCast : Cast → Result SqlValue CastRefusal → Type 0
GivesCast cast (Ok value) = cast ≡ Ok value
GivesCast cast (Err (State state)) = cast ≡ Err state
GivesCast cast (Err Memory) = Unit {0}
