-- What `reduced` does to a magnitude: it keeps the number, and ends in normal form.
use Rattle.std.proofs.Common.{◌≡◌, ◌≢◌, ℕ, zero, suc, ◌+◌, ◌-◌, ◌*◌, ◌/◌, ◌%◌, ◌^◌, ◌<◌, ◌≤◌, eqb, refl, ap, ◌∙◌, ⊎_elim, arith, eq-eqb, ne_eqb, pow-suc, mul_assoc, mul-div_cancel, add-suc, add-zero, mul-one, mul_right_comm, lit<}
use Rattle.std.proofs.Math.Nat.{mul-mod_left}
use Rattle.std.proofs.lemmas.Bool.{cases_eq, cond-true, cond-false}
use Rattle.sj_decimal.specs.Normal.{reduced}

pub reduced_step : (n s : ℕ) → n % 10 ≡ 0 → reduced n (suc s) ≡ reduced (n / 10) s
unfolding reduced
reduced_step n s e = cond-true (eqb (n % 10) 0) _ _ (eq-eqb (n % 10) 0 e)

pub reduced_stop : (n s : ℕ) → n % 10 ≢ 0 → reduced n (suc s) ≡ (n, suc s)
unfolding reduced
reduced_stop n s h = cond-false (eqb (n % 10) 0) _ _ (ne_eqb (n % 10) 0 h)

pub reduced_whole : (n : ℕ) → reduced n 0 ≡ (n, 0)
unfolding reduced
reduced_whole n = refl

pub reduced_zero : (s : ℕ) → reduced 0 s ≡ (0, 0)
reduced_zero zero = reduced_whole 0
reduced_zero (suc s) = reduced_step 0 s refl ∙ reduced_zero s

-- what is in normal form stays
pub reduced_same : (n s : ℕ) → (0 < s → n % 10 ≢ 0) → reduced n s ≡ (n, s)
reduced_same n zero h = reduced_whole n
reduced_same n (suc s) h = reduced_stop n s (h (omega arith))

tenth : (n : ℕ) → n % 10 ≡ 0 → n / 10 * 10 ≡ n
tenth n e = omega arith

-- the same number
pub reduced_value : (n s : ℕ) → (reduced n s).0 * 10 ^ s ≡ n * 10 ^ (reduced n s).1
reduced_value n zero = rw reduced_whole refl
reduced_value n (suc s) =
    ⊎_elim
    (λ e. let down : reduced n (suc s) ≡ reduced (n / 10) s = reduced_step n s e in
    let same : (reduced (n / 10) s).0 * 10 ^ s ≡ n / 10 * 10 ^ (reduced (n / 10) s).1 = reduced_value (n / 10) s in
    rw (down, pow-suc, ← mul_assoc, same, mul_right_comm) (ap (λ k. k * 10 ^ (reduced (n / 10) s).1) (tenth n e)))
    (λ h. rw (reduced_stop n s h) refl)
    (cases_eq (n % 10) 0)

pub reduced_normal : (n s : ℕ) → 0 < (reduced n s).1 → (reduced n s).0 % 10 ≢ 0
reduced_normal n zero = rw reduced_whole (λ h. absurd (omega arith))
reduced_normal n (suc s) =
    ⊎_elim
    (λ e. rw (reduced_step n s e) (reduced_normal (n / 10) s))
    (λ h. rw (reduced_stop n s h) (λ _. h))
    (cases_eq (n % 10) 0)

pub reduced_le : (n s : ℕ) → ((reduced n s).0 ≤ n) × ((reduced n s).1 ≤ s)
reduced_le n zero = rw reduced_whole (omega arith, omega arith)
reduced_le n (suc s) =
    ⊎_elim
    (λ e. let below : ((reduced (n / 10) s).0 ≤ n / 10) × ((reduced (n / 10) s).1 ≤ s) = reduced_le (n / 10) s in
    rw (reduced_step n s e) (omega arith, omega arith))
    (λ h. rw (reduced_stop n s h) (omega arith, omega arith))
    (cases_eq (n % 10) 0)

-- zeros at the end with as many decimals more change nothing
pub reduced_scaled : (n s k : ℕ) → reduced (n * 10 ^ k) (s + k) ≡ reduced n s
reduced_scaled n s zero = omega_free
  where
    omega_free : reduced (n * 10 ^ 0) (s + 0) ≡ reduced n s
    omega_free = rw (mul-one, add-zero) refl
reduced_scaled n s (suc k) =
    let grown : n * 10 ^ suc k ≡ n * 10 ^ k * 10 = rw (pow-suc, ← mul_assoc) refl in
    let ends : n * 10 ^ suc k % 10 ≡ 0 = rw grown (mul-mod_left (n * 10 ^ k) 10) in
    let less : n * 10 ^ suc k / 10 ≡ n * 10 ^ k = rw grown (mul-div_cancel (n * 10 ^ k) (lit< tt)) in
    rw (add-suc, reduced_step (n * 10 ^ suc k) (s + k) ends, less) (reduced_scaled n s k)

-- a step of the code
pub reduced_tenth : (n s : ℕ) → 0 < s → n % 10 ≡ 0 → reduced n s ≡ reduced (n / 10) (s - 1)
reduced_tenth n zero h e = absurd (omega arith)
reduced_tenth n (suc s) h e = reduced_step n s e ∙ ap (λ k. reduced (n / 10) k) (omega arith)
