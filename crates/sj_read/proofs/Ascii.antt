-- Bytes that are ASCII, seen a vector at a time through the mask of those that are not, and the text that they belong to.
use Rattle.std.proofs.Common.{◌≡◌, ℕ, ◌+◌, ◌-◌, ◌<◌, ◌≤◌, List, length, map, take, get_or, sym, ◌∙◌, subst, arith, inl, inr, IsUtf8}
use Rattle.std.proofs.Math.Seq.{take-add}
use Rattle.std.proofs.lemmas.Bool.{cases_order}
use Rattle.std.specs.List.{prefix_len}
use Rattle.std.proofs.lemmas.List.Sums.{prefix_len-le-length}
use Rattle.std.proofs.lemmas.Simd.{length-chunk, get_or-chunk, leading_from_mask_l, trailing_mask_l, run_in_chunk_fails}
use Rattle.std.proofs.lemmas.Str.{IsUtf8-append, IsUtf8-from_ascii}
use Rattle.std.proofs.lemmas.Str.Ascii.{IsAscii-from_reads}
use borrow.Author.Tests.{ltb-false}
use lib.Lanes.{chunk, mask_l}
use lib.Count.{count_trailing_zeros}
use mathlib.Core.Bool.{not}
use Rattle.sj_read.specs.Scans.{is_high, AsciiBetween}

pub none_high : (d : List ℕ) (i n : ℕ) → i + n ≤ length d → mask_l (map is_high (chunk i n d)) ≡ 0 → AsciiBetween d i (i + n)
none_high d i n room none k from below =
    let all : n ≡ prefix_len (λ x. not (is_high x)) (chunk i n d) = sym (leading_from_mask_l is_high (chunk i n d) none ∙ length-chunk i n d room) in
    let low = run_in_chunk_fails is_high d i n n 0 room all k from below in
    omega (arith, ltb-false, low)

module _ (d : List ℕ) (i n : ℕ) (room : i + n ≤ length d) (short : n ≤ 64) (some : 0 < mask_l (map is_high (chunk i n d))) (r : ℕ) (is : r ≡ count_trailing_zeros 64 (mask_l (map is_high (chunk i n d)))) where
  counted : r ≡ prefix_len (λ x. not (is_high x)) (chunk i n d)
  counted = is ∙ trailing_mask_l is_high 64 (chunk i n d) (omega (arith, length-chunk i n d room)) some

  pub high_within : r ≤ n
  high_within = omega (arith, counted, prefix_len-le-length (λ x. not (is_high x)) (chunk i n d), length-chunk i n d room)

  pub below_high : AsciiBetween d i (i + r)
  below_high k from below =
      let low = run_in_chunk_fails is_high d i n r 0 room counted k from below in
      omega (arith, ltb-false, low)

pub joined : (d : List ℕ) (a i e : ℕ) → AsciiBetween d a i → AsciiBetween d i e → AsciiBetween d a e
joined d a i e low high k from below =
    elim (cases_order k i) [
      | inl q ↦ high k (omega (arith, q)) below
      | inr (inl l) ↦ low k from l
      | inr (inr g) ↦ high k (omega (arith, g)) below
    ]

-- a text goes on
pub text_more : (d : List ℕ) (i n : ℕ) → IsUtf8 (take i d) → IsUtf8 (chunk i n d) → IsUtf8 (take (i + n) d)
text_more d i n h k = subst IsUtf8 (sym (take-add i n d)) (IsUtf8-append (take i d) (chunk i n d) h k)

pub ascii_more : (d : List ℕ) (i e : ℕ) → i ≤ e → e ≤ length d → AsciiBetween d i e → IsUtf8 (take i d) → IsUtf8 (take e d)
ascii_more d i e later within ascii h =
    let n = e - i in
    let end : i + n ≡ e = omega (arith, later) in
    let reads : (k : ℕ) → k < n → get_or (chunk i n d) k 0 < 128 =
    λ k below. subst (λ (x : ℕ). x < 128) (sym (get_or-chunk i n d k 0 below)) (ascii (i + k) (omega arith) (omega (arith, below))) in
    subst (λ (j : ℕ). IsUtf8 (take j d)) end
    (text_more d i n h (IsUtf8-from_ascii (chunk i n d) (IsAscii-from_reads (chunk i n d) n (omega (arith, length-chunk i n d (omega (arith, within, later)))) reads)))
