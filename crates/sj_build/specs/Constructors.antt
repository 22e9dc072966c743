-- WHAT THE CONSTRUCTORS AND THE AGGREGATES GIVE, of whole lists of values and members (ISO/IEC 9075-2, JSON object and array constructors,
-- JSON aggregate functions).
use Rattle.std.specs.Prelude.{ℕ, List, [], ◌∷◌, ◌++◌, map, filter, Bool as Logical, true, false, not, ◌&&◌, if◌then◌else◌, codes, Option, Some, None, Result, Ok, Err}
use Rattle.std.specs.List.{join_by}
use Rattle.sj_base.specs.declared.state.State.{State}
use Rattle.sj_base.specs.declared.state.State.TheVariants.{S22004, S22030}
use Rattle.sj_base.specs.Names.{is_among}
use Rattle.sj_decimal.specs.Text.{decimal_text}
use Rattle.sj_json.specs.Printing.{printed_string, truth_text}
use Rattle.sj_value.specs.declared.clauses.Nulls.{Nulls}
use Rattle.sj_value.specs.declared.clauses.Nulls.TheVariants as choices
use Rattle.sj_value.specs.declared.value.SqlValue.{SqlValue}
use Rattle.sj_value.specs.declared.value.SqlValue.TheVariants.{Null, Text, Num, Bool, Json}
use Rattle.sj_build.specs.declared.field.Field.{Field}

-- ---- values

-- A value as JSON text. A number has its plain text, whatever decimals it is to print.
abbrev pub value_text : SqlValue → List ℕ
value_text Null = codes "null"
value_text (Text s) = printed_string s
value_text (Num d places) = decimal_text d
value_text (Bool b) = truth_text b
value_text (Json s) = s

abbrev pub is_null : SqlValue → Logical
is_null Null = true
is_null (Text s) = false
is_null (Num d places) = false
is_null (Bool b) = false
is_null (Json s) = false

-- ABSENT ON NULL drops a NULL
abbrev pub is_kept : Nulls → SqlValue → Logical
is_kept choices.Null value = true
is_kept choices.Absent value = not (is_null value)

-- the texts in order, with commas between them
abbrev pub joined : {X : Type 0} → (X → List ℕ) → List X → List ℕ
joined text xs = join_by text (codes ",") xs

-- ---- arrays

abbrev pub kept_values : Nulls → List SqlValue → List SqlValue
kept_values choice values = filter (is_kept choice) values

abbrev pub array_text : Nulls → List SqlValue → List ℕ
array_text choice values = codes "[" ++ (joined value_text (kept_values choice values) ++ codes "]")

abbrev pub array_value : Nulls → List SqlValue → SqlValue
array_value choice values = Json (array_text choice values)

-- ---- objects

-- the text of a key, where it is a text
abbrev pub text_of : SqlValue → Option (List ℕ)
text_of Null = None
text_of (Text s) = Some s
text_of (Num d places) = None
text_of (Bool b) = None
text_of (Json s) = None

abbrev pub or_empty : Option (List ℕ) → List ℕ
or_empty None = []
or_empty (Some s) = s

-- the text of the key, of a field whose key is a text
abbrev pub key_text : Field → List ℕ
key_text field = or_empty (text_of field.key)

abbrev pub kept_fields : Nulls → List Field → List Field
kept_fields choice fields = filter (λ field. is_kept choice field.value) fields

abbrev pub is_repeated : Nulls → List Field → List ℕ → Logical
is_repeated choice before key = is_among (map key_text (kept_fields choice before)) key

-- What becomes of a field by itself: a key that is no text is refused, a NULL value may be dropped, and what is kept has a key.
abbrev pub key_kept : Logical → Option (List ℕ) → Result (Option (List ℕ)) State
key_kept kept None = Err S22004
key_kept false (Some key) = Ok None
key_kept true (Some key) = Ok (Some key)

abbrev pub kept_key : Nulls → Field → Result (Option (List ℕ)) State
kept_key choice field = key_kept (is_kept choice field.value) (text_of field.key)

-- Why it is refused behind the fields before it, if it is: by itself; or, WITH UNIQUE KEYS, because its key is that of a member kept before.
abbrev pub key_refusal : Nulls → Logical → List Field → Result (Option (List ℕ)) State → Option State
key_refusal choice unique before (Err state) = Some state
key_refusal choice unique before (Ok None) = None
key_refusal choice unique before (Ok (Some key)) = if unique && is_repeated choice before key then Some S22030 else None

abbrev pub refusal : Nulls → Logical → List Field → Field → Option State
refusal choice unique before field = key_refusal choice unique before (kept_key choice field)

abbrev pub first_of : Option State → Option State → Option State
first_of None later = later
first_of (Some state) later = Some state

-- the first refusal among the fields that stand behind others
abbrev pub first_refusal : Nulls → Logical → List Field → List Field → Option State
first_refusal choice unique before [] = None
first_refusal choice unique before (field ∷ fields) = first_of (refusal choice unique before field) (first_refusal choice unique (before ++ field ∷ []) fields)

abbrev pub pair_text : List ℕ → SqlValue → List ℕ
pair_text key value = printed_string key ++ (codes ":" ++ value_text value)

abbrev pub member_text : Field → List ℕ
member_text field = pair_text (key_text field) field.value

abbrev pub object_text : Nulls → List Field → List ℕ
object_text choice fields = codes "{" ++ (joined member_text (kept_fields choice fields) ++ codes "}")

abbrev pub unless_refused : Option State → SqlValue → Result SqlValue State
unless_refused None value = Ok value
unless_refused (Some state) value = Err state

abbrev pub object_value : Nulls → Logical → List Field → Result SqlValue State
object_value choice unique fields = unless_refused (first_refusal choice unique [] fields) (Json (object_text choice fields))

-- ---- aggregates

-- over no values NULL, else the array of all of them
abbrev pub array_aggregate : Nulls → List SqlValue → SqlValue
array_aggregate choice [] = Null
array_aggregate choice (value ∷ values) = array_value choice (value ∷ values)

-- over no members NULL, else the object of all of them
abbrev pub object_aggregate : Nulls → Logical → List Field → Result SqlValue State
object_aggregate choice unique [] = Ok Null
object_aggregate choice unique (field ∷ fields) = object_value choice unique (field ∷ fields)
