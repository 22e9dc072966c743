-- The texts of rows.
use Rattle.std.specs.Prelude.{◌≡◌, ◌≢◌, ℕ, List, [], ◌∷◌, ◌++◌, Bool as Logical, true, false, not, ◌||◌, ◌==◌, if◌then◌else◌, codes, decimal, ℤ, Result, Ok, Err}
use Rattle.std.specs.List.{flat_map}
use Rattle.sj_base.specs.State.{code_of}
use Rattle.sj_base.specs.declared.state.State.{State as SqlState}
use Rattle.sj_decimal.specs.Text.{decimal_text, with_places}
use Rattle.sj_value.specs.Casts.{Cast}
use Rattle.sj_value.specs.declared.refusal.CastRefusal.{CastRefusal}
use Rattle.sj_value.specs.declared.refusal.CastRefusal.TheVariants.{State, Memory}
use Rattle.sj_value.specs.declared.value.SqlValue.{SqlValue}
use Rattle.sj_value.specs.declared.value.SqlValue.TheVariants.{Null, Text, Num, Bool, Json}

-- ---- a field

-- a backslash, TAB, LF or CR
abbrev pub has_escape : ℕ → Logical
has_escape b = b == 92 || b == 9 || b == 10 || b == 13

-- a byte that stands for itself
abbrev pub stands : ℕ → Logical
stands b = not (has_escape b)

-- TAB, LF and CR as a backslash and a letter, and a backslash as two; any other byte as it is
abbrev pub escaped_byte : ℕ → List ℕ
escaped_byte b =
    if b == 92 then codes "\\\\" else (if b == 9 then codes "\\t" else (if b == 10 then codes "\\n" else (if b == 13 then codes "\\r" else b ∷ [])))

abbrev pub escaped : List ℕ → List ℕ
escaped text = flat_map escaped_byte text

-- a byte that does not end a field, as TAB and LF do
abbrev pub IsNoEnd : ℕ → Type 0
IsNoEnd b = (b ≢ 9) × (b ≢ 10)

-- a number with the decimals that it is to print, or its plain text
abbrev pub number_field : ℤ × ℕ → ℕ → List ℕ
number_field d places = if places == 0 then decimal_text d else decimal_text (with_places places d)

abbrev pub truth_field : Logical → List ℕ
truth_field true = codes "TRUE"
truth_field false = codes "FALSE"

abbrev pub field : SqlValue → List ℕ
field Null = codes "\\N"
field (Text s) = escaped s
field (Num d places) = number_field d places
field (Bool b) = truth_field b
field (Json s) = escaped s

-- ---- a row

-- line, TAB and statement
abbrev pub row_head : ℕ → ℕ → List ℕ
row_head line statement = decimal line ++ (codes "\t" ++ decimal statement)

-- what stands before the fields of a row
abbrev pub row_front : ℕ → ℕ → List ℕ
row_front line statement = row_head line statement ++ codes "\tR"

-- a TAB and a field
abbrev pub tabbed : SqlValue → List ℕ
tabbed value = codes "\t" ++ field value

-- line, TAB, statement, TAB, R, then TAB and a field for each column, and LF
abbrev pub row_bytes : ℕ → ℕ → List SqlValue → List ℕ
row_bytes line statement fields = row_head line statement ++ (codes "\tR" ++ (flat_map tabbed fields ++ codes "\n"))

-- line, TAB, statement, TAB, E, TAB, the state, and LF
abbrev pub error_bytes : ℕ → ℕ → SqlState → List ℕ
error_bytes line statement state = row_head line statement ++ (codes "\tE\t" ++ (code_of state ++ codes "\n"))

-- ---- what a call that appends fields leaves

-- what stood there stays, and something may stand behind it
pub record Extends (old new : List ℕ) : Type 0 where
  pub behind : List ℕ
  pub grown : new ≡ old ++ behind

-- x is made of a value, whose field was appended with its TAB
pub record HasField {X : Type 0} (made : SqlValue → X) (x : X) (old new : List ℕ) : Type 0 where
  pub value : SqlValue
  pub is : x ≡ made value
  pub grown : new ≡ old ++ tabbed value

-- the field of what a cast gives was appended, or the cast is refused
abbrev pub AppendsCast : Cast → Result Unit CastRefusal → List ℕ → List ℕ → Type 0
AppendsCast cast (Ok u) old new = HasField Ok cast old new
AppendsCast cast (Err (State s)) old new = (cast ≡ Err s) × (new ≡ old)
AppendsCast cast (Err Memory) old new = Extends old new
