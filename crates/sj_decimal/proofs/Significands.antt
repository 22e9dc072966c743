-- What `Significand` keeps of the digits so far.
use Rattle.std.proofs.Common.{◌≡◌, ◌≢◌, ℕ, zero, suc, ◌+◌, ◌*◌, ◌/◌, ◌%◌, ◌^◌, ◌<◌, ◌≤◌, Bool, eqb, cond, List, [], ◌∷◌, ◌++◌, fold, refl, sym, ap, ◌∙◌, ⊎_elim, arith, ltb, ltb-false, eqb-true, add-one, add-zero, pow-suc, mul_assoc, mul-one, zero-mul, le_refl, le_trans, le-mul_of_pos_right, ℤ, pos, negsuc}
use borrow.Author.Tests.{eqb-false}
use Rattle.std.proofs.lemmas.Nat.{mod-mul-add}
use Rattle.sj_decimal.specs.Limits.{max_scale, magnitude_limit}
use Rattle.sj_decimal.specs.Normal.{reduced, IsExact}
use Rattle.sj_decimal.specs.Number.{shifted}
use Rattle.sj_decimal.proofs.Powers.{power_pos}
use Rattle.sj_decimal.proofs.Reduced.{reduced_whole, reduced_step, reduced_stop}
use Rattle.sj_decimal.proofs.NormalForm.{reduced_from_exact}
use Rattle.sj_decimal.proofs.Shifts.{too_big}
use Rattle.std.proofs.lemmas.Bool.{cases_eq, cond_both}
use Rattle.std.specs.Char.{digit_value}
use Rattle.std.specs.Str.Parse.{AllDigits, digits_value, digits_value_after}
use Rattle.sj_decimal.specs.declared.significand.Significand.{Significand}
use Rattle.sj_decimal.specs.declared.significand.Significand.TheVariants.{Fits, TooLong}
use Rattle.sj_decimal.specs.Significant.{with_last_digit, with_digit, with_byte, zeros_of, IsTooLong, Keeps}

pub zeros_with_digit : (s : Significand) (d : ℕ) → zeros_of (with_digit s d) ≤ zeros_of s + 1
unfolding with_digit with_last_digit
zeros_with_digit TooLong d = omega arith
zeros_with_digit (Fits m z) d =
    cond_both (eqb d 0) (Fits m (cond (eqb m 0) 0 (z + 1))) (with_last_digit m z d) (λ s. zeros_of s ≤ z + 1)
    (λ _. cond_both (eqb m 0) 0 (z + 1) (λ k. k ≤ z + 1) (λ _. omega arith) (λ _. omega arith))
    (λ _. cond_both _ (Fits (m * 10 ^ (z + 1) + d) 0) TooLong (λ s. zeros_of s ≤ z + 1) (λ _. omega arith) (λ _. omega arith))

grown : (m z : ℕ) → m * 10 ^ (z + 1) ≡ m * 10 ^ z * 10
grown m z = rw (add-one, pow-suc, ← mul_assoc) refl

too_long_digit : (n d : ℕ) → d < 10 → IsTooLong n → IsTooLong (n * 10 + d)
too_long_digit n d small h =
    let low : h.front * 10 ^ (h.places + 1) ≡ h.front * 10 ^ h.places * 10 = grown h.front h.places in
    let high : (h.front + 1) * 10 ^ (h.places + 1) ≡ (h.front + 1) * 10 ^ h.places * 10 = grown (h.front + 1) h.places in
    record {
      front = h.front;
      places = h.places + 1;
      long = h.long;
      ends = h.ends;
      from = rw low (omega (arith, h.from));
      below = rw high (omega (arith, h.below));
    }

keeps_last : (n m z d : ℕ) → n ≡ m * 10 ^ z → d < 10 → d ≢ 0 → Keeps (n * 10 + d) (with_last_digit m z d)
unfolding with_last_digit
keeps_last n m z d e small some =
    let next : n * 10 + d ≡ m * 10 ^ (z + 1) + d = rw (e, grown m z) refl in
    let ends : (m * 10 ^ (z + 1) + d) % 10 ≡ d = rw (grown m z) (mod-mul-add (m * 10 ^ z) 10 d small) in
    cond_both (ltb (m * 10 ^ (z + 1) + d) magnitude_limit) (Fits (m * 10 ^ (z + 1) + d) 0) TooLong (λ s. Keeps (n * 10 + d) s)
    (λ _. (next ∙ sym (mul-one (m * 10 ^ (z + 1) + d)), λ zero_end. absurd (some (sym ends ∙ zero_end))))
    (λ over. record {
      front = m * 10 ^ (z + 1) + d;
      places = 0;
      long = ltb-false _ _ over;
      ends = λ zero_end. some (sym ends ∙ zero_end);
      from = rw (next, mul-one) (le_refl _);
      below = rw (next, mul-one) (omega arith);
    })

pub keeps_digit : (n : ℕ) (s : Significand) (d : ℕ) → d < 10 → Keeps n s → Keeps (n * 10 + d) (with_digit s d)
unfolding with_digit
keeps_digit n TooLong d small h = too_long_digit n d small h
keeps_digit n (Fits m z) d small h =
    cond_both (eqb d 0) (Fits m (cond (eqb m 0) 0 (z + 1))) (with_last_digit m z d) (λ s. Keeps (n * 10 + d) s)
    (λ none. cond_both (eqb m 0) 0 (z + 1) (λ k. Keeps (n * 10 + d) (Fits m k))
    (λ empty. (
      let d0 : d ≡ 0 = eqb-true d 0 none in let m0 : m ≡ 0 = eqb-true m 0 empty in
          rw (h.0, d0, m0) (simp zero-mul),
      h.1,
    ))
    (λ some. (let d0 : d ≡ 0 = eqb-true d 0 none in rw (h.0, d0, add-zero, grown m z) refl, h.1)))
    (λ some. keeps_last n m z d h.0 small (eqb-false d 0 some))

pub keeps_digits : (n : ℕ) (s : Significand) (ds : List ℕ) → AllDigits 10 ds → Keeps n s → Keeps (digits_value_after 10 n ds) (fold with_byte s ds)
keeps_digits n s [] all h = h
keeps_digits n s (c ∷ cs) all h = keeps_digits (n * 10 + digit_value c) (with_byte s c) cs all.1 (keeps_digit n s (digit_value c) all.0 h)

pub digits_value_after-append : (n : ℕ) (xs ys : List ℕ) → digits_value_after 10 n (xs ++ ys) ≡ digits_value_after 10 (digits_value_after 10 n xs) ys
digits_value_after-append n [] ys = refl
digits_value_after-append n (x ∷ xs) ys = digits_value_after-append (n * 10 + digit_value x) xs ys

-- the digits before the point and those after it, one after the other
pub keeps_both : (xs ys : List ℕ) → AllDigits 10 xs → AllDigits 10 ys → Keeps (digits_value 10 (xs ++ ys)) (fold with_byte (fold with_byte (Fits 0 0) xs) ys)
keeps_both xs ys all more =
    let first : Keeps (digits_value 10 xs) (fold with_byte (Fits 0 0) xs) = keeps_digits 0 (Fits 0 0) xs all (refl, λ e. e) in
    rw (digits_value_after-append 0 xs ys) (keeps_digits (digits_value 10 xs) (fold with_byte (Fits 0 0) xs) ys more first)

-- the steps of the code
pub keeps_steps : (xs ys : List ℕ) (a b s t : Significand) → a ≡ Fits 0 0 → b ≡ fold with_byte a xs → s ≡ fold with_byte b ys → s ≡ t
    → AllDigits 10 xs → AllDigits 10 ys → Keeps (digits_value 10 (xs ++ ys)) t
keeps_steps xs ys a b s t empty front whole is all more = rw (← is, whole, front, empty) (keeps_both xs ys all more)

shorter_at : (n m k : ℕ) → n % 10 ≡ 0 → magnitude_limit ≤ m → m % 10 ≢ 0 → m * 10 ^ k ≤ n → n < (m + 1) * 10 ^ k → IsTooLong (n / 10)
shorter_at n m zero e long ends from below =
    let low : m ≤ n = rw mul-one at from in
    let high : n < m + 1 = rw mul-one at below in
    let same : m ≡ n = omega arith in
    absurd (ends (ap (λ k. k % 10) same ∙ e))
shorter_at n m (suc k) e long ends from below =
    let low : m * 10 ^ k * 10 ≤ n = rw (pow-suc, ← mul_assoc) at from in
    let high : n < (m + 1) * 10 ^ k * 10 = rw (pow-suc, ← mul_assoc) at below in
    record { front = m; places = k; long = long; ends = ends; from = omega arith; below = omega arith }

shorter : (n : ℕ) → n % 10 ≡ 0 → IsTooLong n → IsTooLong (n / 10)
shorter n e h = shorter_at n h.front h.places e h.long h.ends h.from h.below

pub reduced_too_long : (n s : ℕ) → IsTooLong n → magnitude_limit ≤ (reduced n s).0
reduced_too_long n zero h = rw (reduced_whole n) (le_trans h.long (le_trans (le-mul_of_pos_right h.front (power_pos h.places)) h.from))
reduced_too_long n (suc s) h =
    ⊎_elim
    (λ e. rw (reduced_step n s e) (reduced_too_long (n / 10) s (shorter n e h)))
    (λ stop. rw (reduced_stop n s stop) (le_trans h.long (le_trans (le-mul_of_pos_right h.front (power_pos h.places)) h.from)))
    (cases_eq (n % 10) 0)

-- such a number is exact with no power of ten
pub too_long_wide : (b : Bool) (n : ℕ) (e : ℤ) → IsTooLong n → ¬ (IsExact (shifted b n e))
too_long_wide b n (pos k) h exact =
    too_big b (n * 10 ^ k) (le_trans (rw (reduced_whole n) at (reduced_too_long n 0 h)) (le-mul_of_pos_right n (power_pos k))) exact
too_long_wide b n (negsuc k) h exact =
    let small : ((reduced n (suc k)).0 < magnitude_limit) × ((reduced n (suc k)).1 ≤ max_scale) = reduced_from_exact b n (suc k) (reduced n (suc k)) refl exact in
    omega (arith, small.0, reduced_too_long n (suc k) h)
