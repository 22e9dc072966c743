-- What an aggregate holds, and for which lists it stands.
use Rattle.std.specs.Prelude.{◌≡◌, ℕ, List, [], ◌∷◌, map, Bool, if◌then◌else◌, None}
use Rattle.sj_value.specs.declared.clauses.Nulls.{Nulls}
use Rattle.sj_value.specs.declared.value.SqlValue.{SqlValue}
use Rattle.sj_build.specs.declared.field.Field.{Field}
use Rattle.sj_text.specs.declared.place.Place.{Place}
use Rattle.sj_build.specs.Growing.{place_behind}
use Rattle.sj_build.specs.Constructors.{kept_values, array_text, kept_fields, key_text, object_text, first_refusal}

-- no text as long as nothing was added, and then that of all that was
abbrev pub so_far : {X : Type 0} → (List X → List ℕ) → List X → List ℕ
so_far text [] = []
so_far text (x ∷ xs) = text (x ∷ xs)

-- ---- arrays

-- what is made of a NULL, the text so far, and where the next element stands in it
pub record ArraySoFar : Type 0 where
  pub nulls : Nulls
  pub text : List ℕ
  pub place : Place

-- These values were added, in this order, and nothing else.
pub record StandsForValues (values : List SqlValue) (held : ArraySoFar) : Type 0 where
  pub text : held.text ≡ so_far (array_text held.nulls) values
  pub place : held.place ≡ place_behind (kept_values held.nulls values)

-- ---- objects

-- the same, whether no two keys may be equal, and the keys so far where they may not
pub record ObjectSoFar : Type 0 where
  pub nulls : Nulls
  pub unique : Bool
  pub text : List ℕ
  pub place : Place
  pub keys : List (List ℕ)

-- None of these fields is refused, and behind them the next member stands in this place and the keys are these.
pub record AreTaken (choice : Nulls) (unique : Bool) (fields : List Field) (place : Place) (keys : List (List ℕ)) : Type 0 where
  pub allowed : first_refusal choice unique [] fields ≡ None
  pub stands : place ≡ place_behind (kept_fields choice fields)
  pub known : keys ≡ (if unique then map key_text (kept_fields choice fields) else [])

-- These fields were added, in this order, and nothing else.
pub record StandsForFields (fields : List Field) (held : ObjectSoFar) : Type 0 where
  pub taken : AreTaken held.nulls held.unique fields held.place held.keys
  pub text : held.text ≡ so_far (object_text held.nulls) fields
