-- A group and its rows, as one row more comes.
use Rattle.std.proofs.Common.{◌≡◌, ℕ, ◌+◌, ◌-◌, ◌<◌, ◌^◌, min, List, [], ◌∷◌, ◌++◌, length, true, false, Some, None, Ok, Err, refl, sym, ap, ◌∙◌, arith, get_or}
use Rattle.std.proofs.lemmas.List.{get_or_default, length-append}
use Rattle.sj_base.specs.declared.state.State.{State}
use Rattle.sj_value.specs.declared.clauses.Nulls.TheVariants as nulls
use Rattle.sj_value.specs.declared.value.SqlValue.{SqlValue}
use Rattle.sj_value.specs.declared.value.SqlValue.TheVariants.{Null, Json}
use Rattle.sj_build.specs.declared.field.Field.{Field}
use Rattle.sj_build.specs.Constructors.{text_of, key_kept, key_refusal, refusal, first_of, first_refusal, unless_refused, object_value, object_text}
use Rattle.sj_build.specs.SoFar.{ObjectSoFar, StandsForFields}
use Rattle.sj_build.proofs.Taken.{next_decides}
use Rattle.sj_group.specs.declared.aggregate.Aggregate.{Aggregate}
use Rattle.sj_group.specs.declared.gathered.Gathered.{Gathered}
use Rattle.sj_group.specs.declared.group.Group.{Group}
use Rattle.sj_group.specs.Grouping.{Row, value_at, columns_of}
use Rattle.sj_group.specs.Held.{Gathers, IsGroupOf}

-- a value of a row, by its place
pub value_is : (aggregate : Aggregate) (row : Row) (place : ℕ) (value : SqlValue) → length row ≡ columns_of aggregate → place < columns_of aggregate → value ≡ get_or row place value → value ≡ value_at place row
value_is aggregate row place value columns within is = is ∙ get_or_default row place value Null (omega (arith, columns, within))

-- a number that stops at the greatest, and one more
stops : (n top : ℕ) → min (min n top + 1) top ≡ min (n + 1) top
stops n top = omega arith

pub grown : (rows : List Row) (row : Row) (group : Group) (count : ℕ) (gathered : Gathered) → IsGroupOf rows group → count ≡ min (group.count + 1) (2 ^ 64 - 1) → Gathers (rows ++ row ∷ []) gathered
    → IsGroupOf (rows ++ row ∷ []) (record { count = count; gathered = gathered })
grown rows row group count gathered g c h =
    record {
      some = omega (arith, more);
      count = c ∙ ap (λ n. min (n + 1) (2 ^ 64 - 1)) g.count ∙ stops (length rows) (2 ^ 64 - 1) ∙ ap (λ n. min n (2 ^ 64 - 1)) (sym more);
      gathers = h;
    }
  where
    more : length (rows ++ row ∷ []) ≡ length rows + 1
    more = length-append rows (row ∷ [])

pub begun : (row : Row) (gathered : Gathered) → Gathers (row ∷ []) gathered → IsGroupOf (row ∷ []) (record { count = 1; gathered = gathered })
begun row gathered h = record { some = omega arith; count = refl; gathers = h }

-- No member whose key is a text is refused, where keys may be equal.
pub not_refused : (fields : List Field) (object : ObjectSoFar) (field : Field) (text : List ℕ) (state : State) → object.nulls ≡ nulls.Null → object.unique ≡ false → StandsForFields fields object
    → text_of field.key ≡ Some text → object_value object.nulls object.unique (fields ++ field ∷ []) ≡ Err state → ⊥
not_refused fields object field text state n u s t e = absurd (is_ok (sym (ap (λ o. unless_refused o value) allowed) ∙ e))
  where
    value : SqlValue
    value = Json (object_text object.nulls (fields ++ field ∷ []))

    is_ok : Ok value ≡ Err state → ⊥
    is_ok e = cc

    quiet : refusal object.nulls object.unique fields field ≡ None
    quiet =
        ap (λ c. refusal c object.unique fields field) n
        ∙ ap (λ o. key_refusal nulls.Null object.unique fields (key_kept true o)) t
        ∙ ap (λ u. key_refusal nulls.Null u fields (Ok (Some text))) u

    allowed : first_refusal object.nulls object.unique [] (fields ++ field ∷ []) ≡ None
    allowed = next_decides object.nulls object.unique fields object.place object.keys s.taken field [] ∙ ap (λ o. first_of o None) quiet
