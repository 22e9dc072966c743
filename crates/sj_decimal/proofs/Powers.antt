-- Powers of ten, and a test before a product.
use Rattle.std.proofs.Common.{◌≡◌, ℕ, zero, suc, List, [], ◌∷◌, slice_index_or, ap, sym, ◌∙◌, mul_assoc, mul-one, ◌-◌, ◌*◌, ◌/◌, ◌^◌, ◌<◌, ◌≤◌, arith, lt_of_le_of_lt, lit<, mul-le-mul, div-lt_iff_lt-mul, le-div_iff_mul-le, le_refl}
use Rattle.std.proofs.Math.Nat.{pow-le-pow_right, one-le-pow, pow-succ'}
use Rattle.sj_decimal.specs.Limits.{max_scale, magnitude_limit}

pub power_pos : (k : ℕ) → 0 < 10 ^ k
power_pos k = one-le-pow k 10 (lit< tt)

pub power_le : (j k : ℕ) → j ≤ k → 10 ^ j ≤ 10 ^ k
power_le j k h = pow-le-pow_right {n = 10} (lit< tt) h

pub power_small : (k : ℕ) → k ≤ max_scale → 10 ^ k ≤ magnitude_limit
power_small k h = power_le k max_scale h

pub power_fits : (k : ℕ) → k ≤ max_scale → 10 ^ k < 2 ^ 128
power_fits k h = lt_of_le_of_lt (power_small k h) (lit< tt)

-- a number of 64 bits with at most 18 zeros behind it is below the limit
pub short_product : (m k : ℕ) → m ≤ 18446744073709551615 → k ≤ 18 → m * 10 ^ k < magnitude_limit
short_product m k small few =
    let most : m * 10 ^ k ≤ 18446744073709551615 * 10 ^ 18 = mul-le-mul small (power_le k 18 few) in
    lt_of_le_of_lt most (lit< tt)

-- a number other than 0 has more than 38 digits with more than 38 zeros after it
pub scaled_too_far : (m k : ℕ) → 0 < m → max_scale ≤ k → magnitude_limit ≤ m * 10 ^ k
scaled_too_far m k h far =
    let big : magnitude_limit ≤ 10 ^ k = power_le max_scale k far in
    let grown : 1 * 10 ^ k ≤ m * 10 ^ k = mul-le-mul h (le_refl (10 ^ k)) in
    omega (arith, big, grown)

pub within_quotient : (m l p : ℕ) → 0 < p → 0 < l → m ≤ (l - 1) / p → m * p < l
within_quotient m l p hp hl h =
    let k : m * p ≤ l - 1 = (le-div_iff_mul-le {k = p} {x = m} {y = l - 1} hp).0 h in
    omega arith

pub past_quotient : (m l p : ℕ) → 0 < p → (l - 1) / p < m → l ≤ m * p
past_quotient m l p hp h =
    let k : l - 1 < m * p = (div-lt_iff_lt-mul {k = p} {x = l - 1} {y = m} hp).0 h in
    omega arith

-- p and the next products with 10
unfoldable pub products : ℕ → ℕ → List ℕ
products p zero = []
products p (suc n) = p ∷ products (p * 10) n

pub product_at : (p n k : ℕ) → k < n → slice_index_or (products p n) k 0 ≡ p * 10 ^ k
unfolding products
product_at p zero k h = absurd (omega (arith, h))
product_at p (suc n) zero h = sym (mul-one p)
product_at p (suc n) (suc k) h = product_at (p * 10) n k (omega (arith, h)) ∙ mul_assoc p 10 (10 ^ k) ∙ ap (λ q. p * q) (sym (pow-succ' 10 k))

pub power_at : (n k : ℕ) → k < n → slice_index_or (products 1 n) k 0 ≡ 10 ^ k
power_at n k h = product_at 1 n k h ∙ omega arith
