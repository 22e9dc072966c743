-- LF, looked for a vector at a time.
use Rattle.std.proofs.Common.{◌≡◌, ℕ, ◌+◌, ◌<◌, ◌≤◌, Bool, true, false, not, List, map, length, drop, slice_index, get_or, refl, sym, ap, ◌∙◌, arith, inl, inr}
use Rattle.std.proofs.lemmas.Simd.{length-chunk, leading_from_mask_l, trailing_mask_l, run_in_chunk_le, run_in_chunk_fails}
use Rattle.std.proofs.lemmas.List.{length-drop, get_or-drop}
use Rattle.std.proofs.lemmas.List.Sums.{prefix_len_stops}
use Rattle.std.proofs.lemmas.Bool.Decides.{leb_tells}
use Rattle.std.specs.List.{prefix_len}
use Rattle.std.proofs.lemmas.Bool.{eqb-true, eqb-false}
use lib.Lanes.{chunk, mask_l}
use lib.Count.{count_trailing_zeros}
use Rattle.sj_rows.specs.HeldLines.{is_feed, HasNoFeed}
use Rattle.sj_rows.proofs.Runs.{run_stops}

module _ (d : List ℕ) (i n : ℕ) (room : i + n ≤ length d) (known : HasNoFeed d i) where
  joined : (r : ℕ) → ((k : ℕ) → i ≤ k → k < i + r → is_feed (get_or d k 0) ≡ false) → HasNoFeed d (i + r)
  joined r none k below = elim (leb_tells i k) [
    | inl p ↦ eqb-false (get_or d k 0) 10 (none k p.1 below)
    | inr p ↦ known k (omega (arith, p.1))
  ]

  -- none among these
  pub none_among : mask_l (map is_feed (chunk i n d)) ≡ 0 → HasNoFeed d (i + n)
  none_among none = joined n (run_in_chunk_fails is_feed d i n n 0 room (sym (leading_from_mask_l is_feed (chunk i n d) none ∙ length-chunk i n d room)))

  module _ (short : n ≤ 64) (some : 0 < mask_l (map is_feed (chunk i n d))) (r : ℕ) (is : r ≡ count_trailing_zeros 64 (mask_l (map is_feed (chunk i n d)))) where
    counted : r ≡ prefix_len (λ x. not (is_feed x)) (chunk i n d)
    counted = is ∙ trailing_mask_l is_feed 64 (chunk i n d) (omega (arith, length-chunk i n d room)) some

    pub first_within : r ≤ n
    first_within = run_in_chunk_le is_feed d i n r 0 room counted

    pub none_before : HasNoFeed d (i + r)
    none_before = joined r (run_in_chunk_fails is_feed d i n r 0 room counted)

    opposite : (b : Bool) → not b ≡ false → b ≡ true
    opposite true h = refl
    opposite false h = cc

    pub first_is : i + r < length d → slice_index d (i + r) ≡ 10
    first_is lt =
        let q : ℕ → Bool = λ x. not (is_feed x) in
        let run : prefix_len q (drop i d) ≡ r = run_stops is_feed q (λ x. refl) d i n room short some ∙ sym is in
        let stops : not (is_feed (get_or (drop i d) (prefix_len q (drop i d)) 0)) ≡ false = prefix_len_stops q (drop i d) 0 (omega (arith, run, lt, length-drop i d)) in
        eqb-true (get_or d (i + r) 0) 10 (opposite _ (ap (λ (k : ℕ). not (is_feed k)) (sym (get_or-drop i d r 0) ∙ ap (λ (k : ℕ). get_or (drop i d) k 0) (sym run)) ∙ stops))
