-- Elements that come one after another between brackets.
use Rattle.std.proofs.Common.{◌≡◌, ℕ, ◌-◌, List, [], ◌∷◌, ◌++◌, length, take, drop, codes, Bool, true, false, cond, refl, sym, ap, ◌∙◌, append_assoc, append-nil, arith}
use Rattle.std.proofs.Math.Seq.{take-append_seam, drop-append_seam}
use Rattle.std.proofs.lemmas.List.{length-append}
use Rattle.std.proofs.lemmas.List.Elements.{filter-append}
use Rattle.std.proofs.lemmas.Grind.{flat_map-append}
use Rattle.std.specs.List.{filter, flat_map}
use Rattle.sj_build.specs.Constructors.{joined}
use Rattle.sj_text.specs.Rendering.{comma}
use Rattle.sj_build.specs.Growing.{place_behind, opening, opened}
use Rattle.sj_build.specs.SoFar.{so_far}
use Rattle.sj_text.specs.declared.place.Place.{Place}
use Rattle.sj_text.specs.declared.place.Place.TheVariants.{Later}

-- the opening bracket was appended where there was no text
pub opening_first : (bracket old new : List ℕ) → old ≡ [] → new ≡ old ++ bracket → new ≡ old ++ opening bracket old
opening_first bracket [] new none is = is
opening_first bracket (x ∷ xs) new none is = absurd cc

pub opening_later : (bracket old new : List ℕ) → (old ≡ [] → ⊥) → new ≡ old → new ≡ old ++ opening bracket old
opening_later bracket [] new some is = absurd (some refl)
opening_later bracket (x ∷ xs) new some is = is ∙ sym (append-nil (x ∷ xs))

-- four pieces, one behind the other
pub four_behind : (old a b c d one two three four : List ℕ) → one ≡ old ++ a → two ≡ one ++ b → three ≡ two ++ c → four ≡ three ++ d → four ≡ old ++ (a ++ (b ++ (c ++ d)))
four_behind old a b c d one two three four e1 e2 e3 e4 =
    e4
    ∙ ap (λ l. l ++ d) (e3 ∙ ap (λ l. l ++ c) (e2 ∙ ap (λ l. l ++ b) e1))
    ∙ append_assoc ((old ++ a) ++ b) c d
    ∙ append_assoc (old ++ a) b (c ++ d)
    ∙ append_assoc old a (b ++ (c ++ d))

-- one text more stands behind a comma, unless it is the first
joined-push : {X : Type 0} (text : X → List ℕ) (xs : List X) (x : X) → joined text (xs ++ x ∷ []) ≡ joined text xs ++ (comma (place_behind xs) ++ text x)
joined-push text [] x = append-nil (text x)
joined-push text (y ∷ xs) x =
    ap (λ l. text y ++ l) (flat_map-append (λ z. codes "," ++ text z) xs (x ∷ []) ∙ ap (λ l. flat_map (λ z. codes "," ++ text z) xs ++ l) (append-nil (codes "," ++ text x)))
    ∙ sym (append_assoc (text y) (flat_map (λ z. codes "," ++ text z) xs) (codes "," ++ text x))

behind_some : {X : Type 0} (xs : List X) (x : X) → place_behind (xs ++ x ∷ []) ≡ Later
behind_some [] x = refl
behind_some (y ∷ xs) x = refl

-- A closing bracket is taken out that the old text had at its end, and what came behind it stays.
without_bracket : (body tail : List ℕ) (last end : ℕ) (new after : List ℕ) → end ≡ length (body ++ last ∷ []) → new ≡ (body ++ last ∷ []) ++ tail → after ≡ take (end - 1) new ++ drop end new
    → after ≡ body ++ tail
without_bracket body tail last end new after e n a =
    a
    ∙ ap (λ k. take (k - 1) new ++ drop k new) e
    ∙ ap (λ l. take (length (body ++ last ∷ []) - 1) l ++ drop (length (body ++ last ∷ [])) l) n
    ∙ ap (λ l. take (length (body ++ last ∷ []) - 1) ((body ++ last ∷ []) ++ tail) ++ l) (drop-append_seam (body ++ last ∷ []) tail)
    ∙ ap (λ l. l ++ tail) before
  where
    shorter : length (body ++ last ∷ []) - 1 ≡ length body
    shorter = omega (arith, length-append body (last ∷ []))

    before : take (length (body ++ last ∷ []) - 1) ((body ++ last ∷ []) ++ tail) ≡ body
    before = ap (λ k. take k ((body ++ last ∷ []) ++ tail)) shorter ∙ ap (take (length body)) (append_assoc body (last ∷ []) tail) ∙ take-append_seam body (last ∷ tail)

-- elements by their texts, those that are kept, and the brackets
module _ {X : Type 0} (text : X → List ℕ) (keep : X → Bool) (first last : ℕ) where
  abbrev pub whole : List X → List ℕ
  whole xs = first ∷ (joined text (filter keep xs) ++ last ∷ [])

  -- an element that is kept is one more
  pub kept_more : (xs : List X) (x : X) → keep x ≡ true → filter keep (xs ++ x ∷ []) ≡ filter keep xs ++ x ∷ []
  kept_more xs x k = filter-append keep xs (x ∷ []) ∙ ap (λ b. filter keep xs ++ cond b (x ∷ []) []) k

  -- and one that is dropped changes nothing
  pub dropped_more : (xs : List X) (x : X) → keep x ≡ false → filter keep (xs ++ x ∷ []) ≡ filter keep xs
  dropped_more xs x k = filter-append keep xs (x ∷ []) ∙ ap (λ b. filter keep xs ++ cond b (x ∷ []) []) k ∙ append-nil (filter keep xs)

  pub place_kept : (xs : List X) (x : X) → keep x ≡ true → place_behind (filter keep (xs ++ x ∷ [])) ≡ Later
  place_kept xs x k = ap place_behind (kept_more xs x k) ∙ behind_some (filter keep xs) x

  -- the text of the elements grows
  pub open_kept : (xs : List X) (x : X) (place : Place) → keep x ≡ true → place ≡ place_behind (filter keep xs)
      → joined text (filter keep (xs ++ x ∷ [])) ≡ joined text (filter keep xs) ++ (comma place ++ text x)
  open_kept xs x place k p =
      ap (joined text) (kept_more xs x k)
      ∙ joined-push text (filter keep xs) x
      ∙ ap (λ p. joined text (filter keep xs) ++ (comma p ++ text x)) (sym p)

  -- and so does that between brackets
  grown : (xs : List X) (x : X) (place : Place) → keep x ≡ true → place ≡ place_behind (filter keep xs)
      → (first ∷ joined text (filter keep xs)) ++ (comma place ++ (text x ++ last ∷ [])) ≡ whole (xs ++ x ∷ [])
  grown xs x place k p =
      ap (λ l. first ∷ l) (ap (λ l. joined text (filter keep xs) ++ l) (sym (append_assoc (comma place) (text x) (last ∷ [])))
      ∙ sym (append_assoc (joined text (filter keep xs)) (comma place ++ text x) (last ∷ []))
      ∙ ap (λ l. l ++ last ∷ []) (sym (open_kept xs x place k p)))

  -- The text that a call leaves behind one element more, which was appended with what is missing.
  pub text_kept : (xs : List X) (x : X) (place : Place) (end : ℕ) (old new after : List ℕ) → keep x ≡ true → old ≡ so_far whole xs → place ≡ place_behind (filter keep xs)
      → end ≡ length old → new ≡ old ++ (opening (first ∷ []) old ++ (comma place ++ (text x ++ last ∷ []))) → after ≡ take (end - 1) new ++ drop end new
      → after ≡ so_far whole (xs ++ x ∷ [])
  text_kept [] x place end old new after k o p e n a =
      a
      ∙ ap (λ i. take (i - 1) new ++ drop i new) (e ∙ ap length o)
      ∙ n
      ∙ ap (λ l. l ++ (opening (first ∷ []) l ++ (comma place ++ (text x ++ last ∷ [])))) o
      ∙ grown [] x place k p
  text_kept (y ∷ xs) x place end old new after k o p e n a =
      without_bracket (first ∷ joined text (filter keep (y ∷ xs))) (comma place ++ (text x ++ last ∷ [])) last end new after (e ∙ ap length o)
      (n ∙ ap (λ l. l ++ (opening (first ∷ []) l ++ (comma place ++ (text x ++ last ∷ [])))) o) a
      ∙ grown (y ∷ xs) x place k p

  -- the same where it is dropped
  pub text_dropped : (xs : List X) (x : X) (old new : List ℕ) → keep x ≡ false → old ≡ so_far whole xs → new ≡ opened (first ∷ last ∷ []) old → new ≡ so_far whole (xs ++ x ∷ [])
  text_dropped [] x old new k o n = n ∙ ap (opened (first ∷ last ∷ [])) o ∙ ap (λ l. first ∷ (joined text l ++ last ∷ [])) (sym (dropped_more [] x k))
  text_dropped (y ∷ xs) x old new k o n = n ∙ ap (opened (first ∷ last ∷ [])) o ∙ ap (λ l. first ∷ (joined text l ++ last ∷ [])) (sym (dropped_more (y ∷ xs) x k))
