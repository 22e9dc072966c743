-- The members of an object that is made of a whole list, one after another.
use Rattle.std.proofs.Common.{◌≡◌, ℕ, suc, ◌+◌, ◌<◌, add-one, Bool, false, ◌&&◌, List, [], ◌∷◌, ◌++◌, length, take, drop, get_or, Some, None, Ok, sym, ap, ◌∙◌, append_assoc}
use Rattle.std.proofs.Math.Seq.{drop-cons, take-suc}
use Rattle.std.proofs.lemmas.List.{take-append-drop}
use Rattle.sj_base.specs.Names.{is_among}
use Rattle.sj_value.specs.declared.clauses.Nulls.{Nulls}
use Rattle.sj_build.specs.declared.field.Field.{Field}
use Rattle.sj_text.specs.declared.place.Place.{Place}
use Rattle.sj_text.specs.declared.place.Place.TheVariants.{Later}
use Rattle.sj_build.specs.Constructors.{is_kept, kept_key, kept_fields, joined, pair_text, member_text}
use Rattle.sj_text.specs.Rendering.{comma}
use Rattle.sj_build.specs.SoFar.{AreTaken}
use Rattle.sj_build.specs.Keys.{noted}
use Rattle.sj_build.proofs.Growing.{open_kept, dropped_more}
use Rattle.sj_build.proofs.Taken.{is_dropped, has_key, takes_dropped, takes_kept}

-- these fields are taken, and the open text is theirs
abbrev pub IsOpen : Nulls → Bool → List Field → List ℕ → Place → List (List ℕ) → Type 0
IsOpen choice unique fields text place keys = (text ≡ 123 ∷ joined member_text (kept_fields choice fields)) × AreTaken choice unique fields place keys

-- the fields before a place, and those behind it
pub parted : (fields : List Field) (i : ℕ) (field : Field) → i < length fields → field ≡ get_or fields i field → take i fields ++ field ∷ drop (suc i) fields ≡ fields
parted fields i field lt is = ap (λ f. take i fields ++ f ∷ drop (suc i) fields) is ∙ ap (λ l. take i fields ++ l) (sym (drop-cons fields i field lt)) ∙ take-append-drop i fields

pub one_more : {X : Type 0} (xs : List X) (i : ℕ) (x : X) → i < length xs → x ≡ get_or xs i x → take i xs ++ x ∷ [] ≡ take (i + 1) xs
one_more xs i x lt is = ap (λ y. take i xs ++ y ∷ []) is ∙ sym (take-suc xs i x lt) ∙ ap (λ n. take n xs) (sym (add-one i))

module _ (choice : Nulls) (unique : Bool) (fields : List Field) (text : List ℕ) (place : Place) (keys : List (List ℕ)) (o : IsOpen choice unique fields text place keys) (field : Field) where
  pub open_dropped : kept_key choice field ≡ Ok None → IsOpen choice unique (fields ++ field ∷ []) text place keys
  open_dropped k = (
    o.0 ∙ ap (λ l. 123 ∷ joined member_text l) (sym (dropped_more member_text (λ f. is_kept choice f.value) 123 125 fields field (is_dropped choice field k))),
    takes_dropped choice unique fields place keys o.1 field k,
  )

  pub open_more : (key leading later : List ℕ) (after : List (List ℕ)) → kept_key choice field ≡ Ok (Some key) → (unique && is_among keys key) ≡ false → after ≡ noted unique keys key
      → leading ≡ text ++ comma place → later ≡ leading ++ pair_text key field.value → IsOpen choice unique (fields ++ field ∷ []) later Later after
  open_more key leading later after k r n h g = (
    g
        ∙ ap (λ l. l ++ pair_text key field.value) (h ∙ ap (λ l. l ++ comma place) o.0)
        ∙ append_assoc (123 ∷ joined member_text (kept_fields choice fields)) (comma place) (pair_text key field.value)
        ∙ ap (λ k. (123 ∷ joined member_text (kept_fields choice fields)) ++ (comma place ++ pair_text k field.value)) (sym (has_key choice field key k).1)
        ∙ ap (λ l. 123 ∷ l) (sym (open_kept member_text (λ f. is_kept choice f.value) 123 125 fields field place (has_key choice field key k).0 o.1.stands)),
    takes_kept choice unique fields place keys o.1 field key after k r n,
  )
