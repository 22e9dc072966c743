-- A run of bytes that pass q, seen a vector at a time through the mask of those that fail it.
use Rattle.std.proofs.Common.{◌≡◌, ◌≢◌, ℕ, ◌+◌, ◌*◌, ◌<◌, ◌≤◌, ◌==◌, inl, inr, get_or, Bool, true, false, not, cond, eqb, List, [], ◌∷◌, map, length, drop, refl, sym, ap, ap₂, ◌∙◌, arith}
use Rattle.std.proofs.lemmas.Simd.{chunk-drop, length-chunk, leading_from_mask_l, trailing_mask_l}
use Rattle.std.proofs.lemmas.List.{get_or-drop, length-drop}
use Rattle.std.proofs.lemmas.List.Folds.{prefix_len-append}
use Rattle.std.proofs.lemmas.List.Sums.{prefix_len-le-length, prefix_len_passes}
use Rattle.std.proofs.lemmas.Bool.{eq-eqb, ne_eqb}
use Rattle.std.specs.List.{prefix_len}
use Rattle.std.proofs.lemmas.Bool.Decides.{eqb_tells}
use Rattle.sj_base.specs.ByteClasses.{is_plain}
use Rattle.sj_doc.specs.Builders.{feeds_behind, EndsInFeeds}
use lib.Lanes.{chunk, mask_l}
use lib.Count.{count_trailing_zeros}

pub run_bound : (q : ℕ → Bool) (d : List ℕ) (i : ℕ) → i ≤ length d → i + prefix_len q (drop i d) ≤ length d
run_bound q d i h = omega (arith, prefix_len-le-length q (drop i d), length-drop i d)

none_fails : (b : Bool) (n l m : ℕ) → n ≤ l → cond (not b) (1 + n) 0 ≡ 1 + l → (n ≡ l → m ≡ 0) → cond b 1 0 + 2 * m ≡ 0
none_fails true n l m le e ih = let no : ⊥ = omega arith in absurd no
none_fails false n l m le e ih = let z = ih (omega arith) in omega arith

module _ (p q : ℕ → Bool) (opposite : (x : ℕ) → q x ≡ not (p x)) where
  same_run : (xs : List ℕ) → prefix_len q xs ≡ prefix_len (λ x. not (p x)) xs
  same_run [] = refl
  same_run (x ∷ xs) = ap₂ (λ b n. cond b (1 + n) 0) (opposite x) (same_run xs)

  all_pass : (xs : List ℕ) → prefix_len (λ x. not (p x)) xs ≡ length xs → mask_l (map p xs) ≡ 0
  all_pass [] e = refl
  all_pass (x ∷ xs) e = none_fails (p x) _ (length xs) _ (prefix_len-le-length (λ y. not (p y)) xs) (omega arith) (all_pass xs)

  split : (d : List ℕ) (i n : ℕ) → prefix_len q (drop i d) ≡ cond (eqb (prefix_len q (chunk i n d)) (length (chunk i n d))) (length (chunk i n d) + prefix_len q (drop (i + n) d)) (prefix_len q (chunk i n d))
  split d i n = ap (prefix_len q) (chunk-drop i n d) ∙ prefix_len-append q (chunk i n d) (drop (i + n) d)

  pub run_through : (d : List ℕ) (i n : ℕ) → i + n ≤ length d → mask_l (map p (chunk i n d)) ≡ 0 → prefix_len q (drop i d) ≡ n + prefix_len q (drop (i + n) d)
  run_through d i n room none =
      let c = chunk i n d in
      split d i n ∙ ap (λ b. cond b (length c + prefix_len q (drop (i + n) d)) (prefix_len q c)) (eq-eqb _ _ (same_run c ∙ leading_from_mask_l p c none))
      ∙ ap (λ k. k + prefix_len q (drop (i + n) d)) (length-chunk i n d room)

  pub run_stops : (d : List ℕ) (i n : ℕ) → i + n ≤ length d → n ≤ 64 → 0 < mask_l (map p (chunk i n d)) → prefix_len q (drop i d) ≡ count_trailing_zeros 64 (mask_l (map p (chunk i n d)))
  run_stops d i n room short some =
      let c = chunk i n d in
      split d i n ∙ ap (λ b. cond b (length c + prefix_len q (drop (i + n) d)) (prefix_len q c)) (ne_eqb _ _ (λ (e : prefix_len q c ≡ length c). omega (arith, all_pass c (sym (same_run c) ∙ e))))
      ∙ same_run c ∙ sym (trailing_mask_l p 64 c (omega (arith, length-chunk i n d room)) some)

  -- it stops within the vector
  pub run_short : (d : List ℕ) (i n : ℕ) → i + n ≤ length d → 0 < mask_l (map p (chunk i n d)) → prefix_len q (drop i d) < n
  run_short d i n room some =
      let c = chunk i n d in
      let stops : prefix_len q c ≢ length c = λ e. omega (arith, all_pass c (sym (same_run c) ∙ e)) in
      let here : prefix_len q (drop i d) ≡ prefix_len q c = split d i n ∙ ap (λ b. cond b (length c + prefix_len q (drop (i + n) d)) (prefix_len q c)) (ne_eqb _ _ stops) in
      omega (arith, here, prefix_len-le-length q c, length-chunk i n d room)

-- behind 16 bytes of plain text there are line feeds still
pub plain_inside : (text : List ℕ) (at : ℕ) → EndsInFeeds text → 16 ≤ prefix_len is_plain (drop at text) → at + 16 ≤ length text → at + 16 + feeds_behind ≤ length text
plain_inside text at feeds more within =
    let plain : is_plain (get_or (drop at text) 15 0) ≡ true = prefix_len_passes is_plain (drop at text) 15 0 (omega (arith, more)) in
    omega (arith, feeds (at + 15) (omega (arith, within)) (λ q. let no : true ≡ false = sym plain ∙ ap is_plain (get_or-drop at text 15 0 ∙ q) in cc))

no_plain_front : (xs : List ℕ) → (0 < length xs → get_or xs 0 0 ≡ 10) → prefix_len is_plain xs ≡ 0
no_plain_front [] h = refl
no_plain_front (x ∷ xs) h = ap (λ (y : ℕ). cond (is_plain y) (1 + prefix_len is_plain xs) 0) (h (omega arith))

-- among the line feeds there is no plain text
pub no_plain_behind : (text : List ℕ) (at : ℕ) → EndsInFeeds text → at ≤ length text → length text < at + 16 → prefix_len is_plain (drop at text) ≡ 0
no_plain_behind text at feeds within far =
    no_plain_front (drop at text) (λ some.
    elim (eqb_tells (get_or text at 0) 10) as (λ _. get_or (drop at text) 0 0 ≡ 10) [
      | inl e ↦ get_or-drop at text 0 0 ∙ ap (λ (i : ℕ). get_or text i 0) (omega arith) ∙ e.1
      | inr e ↦ absurd (omega (arith, far, feeds at (omega (arith, some, length-drop at text)) (λ q. let no : true ≡ false = sym (ap (λ (y : ℕ). y == 10) q) ∙ e.0 in cc)))
    ])
