-- A number that was rounded to some decimals prints them.
use Rattle.std.proofs.Common.{◌≡◌, ℕ, zero, suc, ◌-◌, ◌*◌, ◌/◌, ◌%◌, ◌^◌, ◌≤◌, ℤ, unsigned_abs, Ok, ap, ◌∙◌, arith, ⊎_elim, pow-suc, mul_assoc}
use Rattle.std.proofs.lemmas.Bool.{cases_eq}
use Rattle.std.proofs.Math.Nat.{pow-le-pow_right}
use Rattle.sj_decimal.specs.Limits.{max_digits, magnitude_limit}
use Rattle.sj_decimal.specs.Normal.{reduced}
use Rattle.sj_decimal.specs.Rounding.{rounded, rounded_within}
use Rattle.sj_decimal.proofs.NormalForm.{unsigned_abs-normal, normal_scale}
use Rattle.sj_decimal.proofs.Reduced.{reduced_step, reduced_stop, reduced_whole, reduced_le}
use Rattle.sj_item.proofs.Rounded.{rounded_is}
use Rattle.sj_value.specs.Values.{HasPlaces}

tenth : (n : ℕ) → n % 10 ≡ 0 → n / 10 * 10 ≡ n
tenth n e = omega arith

no_places : (n s : ℕ) → n * 10 ^ (s - s) ≡ n
no_places n s =
    let none : s - s ≡ 0 = omega arith in
    rw none (omega arith)

-- the normal form with its zeros again
reduced_places : (n s : ℕ) → (reduced n s).0 * 10 ^ (s - (reduced n s).1) ≡ n
reduced_places n zero = rw reduced_whole (omega arith)
reduced_places n (suc s) =
    ⊎_elim
    (λ e.
    let down : reduced n (suc s) ≡ reduced (n / 10) s = reduced_step n s e in
    let below : (reduced (n / 10) s).1 ≤ s = (reduced_le (n / 10) s).1 in
    let more : suc s - (reduced (n / 10) s).1 ≡ suc (s - (reduced (n / 10) s).1) = omega (arith, below) in
    rw (down, more, pow-suc, ← mul_assoc, reduced_places (n / 10) s) (tenth n e))
    (λ h. rw (reduced_stop n s h) (no_places n (suc s)))
    (cases_eq (n % 10) 0)

pub rounded_prints : (p s : ℕ) (d r : ℤ × ℕ) → p ≤ max_digits → s ≤ p → rounded_within p s d ≡ Ok r → HasPlaces r s
rounded_prints p s d r few decimals h =
    let is = rounded_is p s d r h in
    let n : ℕ = unsigned_abs (rounded s d) in
    let scale : r.1 ≡ (reduced n s).1 = ap (λ (q : ℤ × ℕ). q.1) is.1 ∙ normal_scale (rounded s d, s) in
    let size : unsigned_abs r.0 ≡ (reduced n s).0 = ap (λ (q : ℤ × ℕ). unsigned_abs q.0) is.1 ∙ unsigned_abs-normal (rounded s d, s) in
    let below : (reduced n s).1 ≤ s = (reduced_le n s).1 in
    let limit : 10 ^ p ≤ magnitude_limit = pow-le-pow_right {n = 10} (omega arith) few in
    record {
      few = omega (arith, few, decimals);
      fits = record {
        whole = rw scale below;
        below = rw (size, scale, reduced_places n s) (omega (arith, is.0, limit));
      };
    }
