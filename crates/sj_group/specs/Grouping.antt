-- ROWS GATHERED BY THE FIELD OF THEIR FIRST VALUE, of a whole list of rows.
use Rattle.std.specs.Prelude.{◌≡◌, ◌^◌, ◌-◌, ℕ, min, List, [], ◌∷◌, ◌++◌, map, filter, length, slice_index_or, All, Bool, true, not, codes, decimal}
use Rattle.std.specs.Str.{bytes_eq}
use Rattle.sj_value.specs.Values.{IsPrintable}
use Rattle.sj_value.specs.declared.clauses.Nulls.TheVariants as nulls
use Rattle.sj_value.specs.declared.value.SqlValue.{SqlValue}
use Rattle.sj_value.specs.declared.value.SqlValue.TheVariants.{Null, Text, Json}
use Rattle.sj_rows.specs.RowText.{field}
use Rattle.sj_build.specs.declared.field.Field.{Field}
use Rattle.sj_build.specs.Constructors.{is_null, array_text, object_text}
use Rattle.sj_group.specs.declared.aggregate.Aggregate.{Aggregate}
use Rattle.sj_group.specs.declared.aggregate.Aggregate.TheVariants.{Array, Object}

-- ---- rows

abbrev pub Row : Type 0
Row = List SqlValue

-- its values by their places, from 0
abbrev pub value_at : ℕ → Row → SqlValue
value_at place row = slice_index_or row place Null

-- the field of the first value
abbrev pub key_of : Row → List ℕ
key_of row = field (value_at 0 row)

-- the second value as the name of a member, and the third as its value
abbrev pub member_of : Row → Field
member_of row = record { key = value_at 1 row; value = value_at 2 row }

-- two values, or three for an object
abbrev pub columns_of : Aggregate → ℕ
columns_of Array = 2
columns_of Object = 3

-- whether a row can be gathered: the name of a member is not NULL
abbrev pub takes : Aggregate → Row → Bool
takes Array row = true
takes Object row = not (is_null (value_at 1 row))

-- the name of a member is a text
pub record IsText (value : SqlValue) : Type 0 where
  pub text : List ℕ
  pub is : value ≡ Text text

abbrev pub HasName : Aggregate → Row → Type 0
HasName Array row = Unit {0}
HasName Object row = IsText (value_at 1 row)

-- a row that can be gathered, by its number of values, which can be printed, and by its name
pub record IsRow (aggregate : Aggregate) (row : Row) : Type 0 where
  pub columns : length row ≡ columns_of aggregate
  pub printable : All IsPrintable row
  pub named : HasName aggregate row

-- ---- groups

-- each of these keys once, in the order of first sight
abbrev pub each_once : List (List ℕ) → List (List ℕ)
each_once [] = []
each_once (key ∷ keys) = key ∷ filter (λ later. not (bytes_eq key later)) (each_once keys)

-- the keys of these rows
abbrev pub first_seen : List Row → List (List ℕ)
first_seen rows = each_once (map key_of rows)

-- the rows with this key
abbrev pub rows_of : List ℕ → List Row → List Row
rows_of key rows = filter (λ row. bytes_eq key (key_of row)) rows

-- how many they are, as far as 64 bits tell
abbrev pub number_of : List Row → ℕ
number_of rows = min (length rows) (2 ^ 64 - 1)

-- What is made of them: an array of their second values, or an object of their members, in order. A NULL is kept, and so are names that are equal.
abbrev pub aggregate_text : Aggregate → List Row → List ℕ
aggregate_text Array rows = array_text nulls.Null (map (value_at 1) rows)
aggregate_text Object rows = object_text nulls.Null (map member_of rows)

-- G, TAB, key, TAB, number, TAB, what is made of the rows as a field, and LF
abbrev pub entry_text : List ℕ → ℕ → List ℕ → List ℕ
entry_text key number made = codes "G\t" ++ (key ++ (codes "\t" ++ (decimal number ++ (codes "\t" ++ (field (Json made) ++ codes "\n")))))

-- the text of the group of these rows, which have this key
abbrev pub group_text : Aggregate → List ℕ → List Row → List ℕ
group_text aggregate key rows = entry_text key (number_of rows) (aggregate_text aggregate rows)

-- the texts of all groups, in the order of first sight of their keys
abbrev pub grouped : Aggregate → List Row → List (List ℕ)
grouped aggregate rows = map (λ key. group_text aggregate key (rows_of key rows)) (first_seen rows)
