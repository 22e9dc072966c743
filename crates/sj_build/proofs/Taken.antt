-- Fields that are taken one after another, and the first that is refused.
use Rattle.std.proofs.Common.{◌≡◌, ℕ, Bool, true, false, ◌&&◌, if◌then◌else◌, List, [], ◌∷◌, ◌++◌, map, Option, Some, None, option_map, Result, Ok, Err, refl, sym, ap, ◌∙◌, append_assoc, append-nil}
use Rattle.std.proofs.lemmas.List.{map-append}
use Rattle.std.specs.Borrow.{Bor}
use Rattle.sj_base.specs.declared.state.State.{State}
use Rattle.sj_base.specs.declared.state.State.TheVariants.{S22030}
use Rattle.sj_base.specs.Names.{is_among}
use Rattle.sj_value.specs.declared.clauses.Nulls.{Nulls}
use Rattle.sj_value.specs.declared.value.SqlValue.{SqlValue}
use Rattle.sj_build.specs.Answers.{RefusesAs, RefusesNull, RefusesRepeated}
use Rattle.sj_build.specs.declared.refusal.BuildRefusal.{BuildRefusal}
use Rattle.sj_build.specs.declared.refusal.BuildRefusal.TheVariants as refused
use Rattle.sj_build.specs.declared.field.Field.{Field}
use Rattle.sj_text.specs.declared.place.Place.{Place}
use Rattle.sj_text.specs.declared.place.Place.TheVariants.{Later}
use Rattle.sj_build.specs.Constructors.{text_of, or_empty, key_text, is_kept, kept_fields, key_kept, kept_key, key_refusal, refusal, first_of, first_refusal, unless_refused, member_text}
use Rattle.sj_build.specs.Growing.{place_behind}
use Rattle.sj_build.specs.SoFar.{AreTaken}
use Rattle.sj_build.specs.Keys.{noted}
use Rattle.sj_build.proofs.Growing.{kept_more, dropped_more, place_kept}

-- what the answer on a field that is not refused shows
abbrev pub shown : Option (Bor (List ℕ)) → Result (Option (List ℕ)) State
shown kept = Ok (option_map (λ (key : Bor (List ℕ)). key.now) kept)

-- what is dropped
pub is_dropped : (choice : Nulls) (field : Field) → kept_key choice field ≡ Ok None → is_kept choice field.value ≡ false
is_dropped choice field = go (is_kept choice field.value) (text_of field.key)
  where
    go : (b : Bool) (o : Option (List ℕ)) → key_kept b o ≡ Ok None → b ≡ false
    go b None e = absurd cc
    go true (Some key) e = absurd cc
    go false (Some key) e = refl

-- what is kept has its key
pub has_key : (choice : Nulls) (field : Field) (key : List ℕ) → kept_key choice field ≡ Ok (Some key) → (is_kept choice field.value ≡ true) × (key_text field ≡ key)
has_key choice field key = go (is_kept choice field.value) (text_of field.key)
  where
    go : (b : Bool) (o : Option (List ℕ)) → key_kept b o ≡ Ok (Some key) → (b ≡ true) × (or_empty o ≡ key)
    go b None e = absurd cc
    go true (Some k) e = (refl, cc)
    go false (Some k) e = absurd cc

-- the first refusal among two parts
pub first_refusal-append : (choice : Nulls) (unique : Bool) (before xs ys : List Field)
    → first_refusal choice unique before (xs ++ ys) ≡ first_of (first_refusal choice unique before xs) (first_refusal choice unique (before ++ xs) ys)
first_refusal-append choice unique before [] ys = ap (λ l. first_refusal choice unique l ys) (sym (append-nil before))
first_refusal-append choice unique before (x ∷ xs) ys =
    ap (first_of (refusal choice unique before x)) (first_refusal-append choice unique (before ++ x ∷ []) xs ys
    ∙ ap (λ l. first_of (first_refusal choice unique (before ++ x ∷ []) xs) (first_refusal choice unique l ys)) (append_assoc before (x ∷ []) xs))
    ∙ grouped (refusal choice unique before x) (first_refusal choice unique (before ++ x ∷ []) xs) (first_refusal choice unique (before ++ x ∷ xs) ys)
  where
    grouped : (a b c : Option State) → first_of a (first_of b c) ≡ first_of (first_of a b) c
    grouped None b c = refl
    grouped (Some s) b c = refl

-- behind fields that are taken
module _ (choice : Nulls) (unique : Bool) (fields : List Field) (place : Place) (keys : List (List ℕ)) (t : AreTaken choice unique fields place keys) (field : Field) where
  -- a field decides, whatever stands behind it
  pub next_decides : (rest : List Field) → first_refusal choice unique [] (fields ++ field ∷ rest) ≡ first_of (refusal choice unique fields field) (first_refusal choice unique (fields ++ field ∷ []) rest)
  next_decides rest = first_refusal-append choice unique [] fields (field ∷ rest) ∙ ap (λ o. first_of o (first_refusal choice unique fields (field ∷ rest))) t.allowed

  -- a field that is refused by itself
  pub refuses_null : (rest : List Field) (value : SqlValue) (r : BuildRefusal) → RefusesNull (kept_key choice field) r
      → RefusesAs (unless_refused (first_refusal choice unique [] (fields ++ field ∷ rest)) value) r
  refuses_null rest value (refused.State state) because =
      ap (λ o. unless_refused o value) (next_decides rest ∙ ap (λ k. first_of (key_refusal choice unique fields k) (first_refusal choice unique (fields ++ field ∷ []) rest)) because)
  refuses_null rest value refused.Memory because = tt

  -- the keys that were noted tell whether a key is repeated
  tells : (key : List ℕ) → (unique && is_among (map key_text (kept_fields choice fields)) key) ≡ (unique && is_among keys key)
  tells key = go unique t.known
    where
      go : (u : Bool) → keys ≡ (if u then map key_text (kept_fields choice fields) else []) → (u && is_among (map key_text (kept_fields choice fields)) key) ≡ (u && is_among keys key)
      go true e = ap (λ l. is_among l key) (sym e)
      go false e = refl

  -- why a field that is kept is refused
  kept_refusal : (key : List ℕ) → kept_key choice field ≡ Ok (Some key) → refusal choice unique fields field ≡ (if unique && is_among keys key then Some S22030 else None)
  kept_refusal key k = ap (key_refusal choice unique fields) k ∙ ap (λ b. if b then Some S22030 else None) (tells key)

  refuses_repeated : (key : List ℕ) → kept_key choice field ≡ Ok (Some key) → (unique && is_among keys key) ≡ true
      → (rest : List Field) → first_refusal choice unique [] (fields ++ field ∷ rest) ≡ Some S22030
  refuses_repeated key k r rest =
      next_decides rest ∙ ap (λ o. first_of o (first_refusal choice unique (fields ++ field ∷ []) rest)) (kept_refusal key k ∙ ap (λ b. if b then Some S22030 else None) r)

  -- a refusal of a repeated key is that of the meaning
  pub refuses_as : (key : List ℕ) → kept_key choice field ≡ Ok (Some key) → (rest : List Field) (value : SqlValue) (r : BuildRefusal)
      → RefusesRepeated (unique && is_among keys key) r → RefusesAs (unless_refused (first_refusal choice unique [] (fields ++ field ∷ rest)) value) r
  refuses_as key k rest value (refused.State state) because = ap (λ o. unless_refused o value) (refuses_repeated key k because.1 rest) ∙ ap Err (sym because.0)
  refuses_as key k rest value refused.Memory because = tt

  allowed_more : refusal choice unique fields field ≡ None → first_refusal choice unique [] (fields ++ field ∷ []) ≡ None
  allowed_more e = next_decides [] ∙ ap (λ o. first_of o None) e

  -- a field is dropped
  pub takes_dropped : kept_key choice field ≡ Ok None → AreTaken choice unique (fields ++ field ∷ []) place keys
  takes_dropped k =
      record {
        allowed = allowed_more (ap (key_refusal choice unique fields) k);
        stands = t.stands ∙ ap place_behind (sym same);
        known = t.known ∙ ap (λ l. if unique then map key_text l else []) (sym same);
      }
    where
      same : kept_fields choice (fields ++ field ∷ []) ≡ kept_fields choice fields
      same = dropped_more member_text (λ f. is_kept choice f.value) 123 125 fields field (is_dropped choice field k)

  -- a field is kept
  pub takes_kept : (key : List ℕ) (after : List (List ℕ)) → kept_key choice field ≡ Ok (Some key) → (unique && is_among keys key) ≡ false → after ≡ noted unique keys key
      → AreTaken choice unique (fields ++ field ∷ []) Later after
  takes_kept key after k r n =
      record {
        allowed = allowed_more (kept_refusal key k ∙ ap (λ b. if b then Some S22030 else None) r);
        stands = sym (place_kept member_text (λ f. is_kept choice f.value) 123 125 fields field (has_key choice field key k).0);
        known = n ∙ more unique t.known;
      }
    where
      kept : kept_fields choice (fields ++ field ∷ []) ≡ kept_fields choice fields ++ field ∷ []
      kept = kept_more member_text (λ f. is_kept choice f.value) 123 125 fields field (has_key choice field key k).0

      more : (u : Bool) → keys ≡ (if u then map key_text (kept_fields choice fields) else []) → noted u keys key ≡ (if u then map key_text (kept_fields choice (fields ++ field ∷ [])) else [])
      more true e =
          ap (λ l. l ++ key ∷ []) e
          ∙ ap (λ s. map key_text (kept_fields choice fields) ++ s ∷ []) (sym (has_key choice field key k).1)
          ∙ sym (map-append key_text (kept_fields choice fields) (field ∷ []))
          ∙ ap (map key_text) (sym kept)
      more false e = e
