-- The order of decimals by their signs and magnitudes.
use Rattle.std.proofs.Common.{◌≡◌, ℕ, ◌-◌, ◌*◌, ◌^◌, ◌<◌, ◌≤◌, Bool, true, false, not, ℤ, pos, neg_ℤ, ◌<ℤ◌, Ordering, Less, Equal, Greater, nat_cmp, int_cmp, ◌↔◌, sym, ap, ap₂, ◌∙◌, arith, mul_assoc, pow-add, mul-lt-mul_of_pos_right, mul-pos, pos_of_ne-zero, true≢false}
use mathlib.Core.Bool.{beq}
use Rattle.std.specs.Ordering.{ordering_reverse, MatchOrdering}
use Rattle.std.specs.Cmp.{nat_cmp_is, int_cmp_is, int_ranked, ranks, tied_itself}
use Rattle.sj_decimal.specs.Limits.{magnitude_limit}
use Rattle.sj_decimal.specs.Normal.{IsDecimal}
use Rattle.std.proofs.lemmas.Int.{ints}
use Rattle.sj_decimal.specs.Signed.{signed, IsSignOf}
use Rattle.sj_decimal.specs.Compare.{decimal_cmp, decimal_total}
use Rattle.sj_decimal.proofs.Powers.{power_pos}
use Rattle.sj_decimal.proofs.NormalForm.{signed-mul, same_decimal}

ranks_scaled : (r : Ordering) (x y p : ℕ) → 0 < p → MatchOrdering r (x < y) (x ≡ y) (y < x) → MatchOrdering r (x * p < y * p) (x * p ≡ y * p) (y * p < x * p)
ranks_scaled Less x y p some h = mul-lt-mul_of_pos_right {m = x} {n = y} {k = p} h some
ranks_scaled Equal x y p some h = ap (λ z. z * p) h
ranks_scaled Greater x y p some h = mul-lt-mul_of_pos_right {m = y} {n = x} {k = p} h some

nat_cmp_scaled : (x y p : ℕ) → 0 < p → nat_cmp (x * p) (y * p) ≡ nat_cmp x y
nat_cmp_scaled x y p some = sym (nat_cmp_is (x * p) (y * p) (nat_cmp x y) (ranks_scaled (nat_cmp x y) x y p some (ranks x y)))

pub same_scale : (m j n k : ℕ) → j ≡ k → nat_cmp m n ≡ nat_cmp (m * 10 ^ k) (n * 10 ^ j)
same_scale m j n k h = sym (nat_cmp_scaled m n (10 ^ j) (power_pos j)) ∙ ap (λ e. nat_cmp (m * 10 ^ e) (n * 10 ^ j)) h

split_power : (m j k : ℕ) → j ≤ k → m * 10 ^ (k - j) * 10 ^ j ≡ m * 10 ^ k
split_power m j k h =
    mul_assoc m (10 ^ (k - j)) (10 ^ j) ∙ ap (λ e. m * e) (sym (pow-add 10 (k - j) j)) ∙ ap (λ e. m * 10 ^ e) (omega (arith, h))

-- one side alone is brought to the scale of the other
pub left_scaled : (m j n k : ℕ) → j ≤ k → nat_cmp (m * 10 ^ (k - j)) n ≡ nat_cmp (m * 10 ^ k) (n * 10 ^ j)
left_scaled m j n k h =
    sym (nat_cmp_scaled (m * 10 ^ (k - j)) n (10 ^ j) (power_pos j)) ∙ ap (λ e. nat_cmp e (n * 10 ^ j)) (split_power m j k h)

pub right_scaled : (m j n k : ℕ) → k ≤ j → nat_cmp m (n * 10 ^ (j - k)) ≡ nat_cmp (m * 10 ^ k) (n * 10 ^ j)
right_scaled m j n k h =
    sym (nat_cmp_scaled m (n * 10 ^ (j - k)) (10 ^ k) (power_pos k)) ∙ ap (λ e. nat_cmp (m * 10 ^ k) e) (split_power n k j h)

-- a side that passes the limit is the greater
pub left_over : (m j n k : ℕ) → j ≤ k → n < magnitude_limit → (m * 10 ^ (k - j) < magnitude_limit → ⊥) → Greater ≡ nat_cmp (m * 10 ^ k) (n * 10 ^ j)
left_over m j n k h small over = nat_cmp_is (m * 10 ^ (k - j)) n Greater (omega (arith, small, over)) ∙ left_scaled m j n k h

pub right_over : (m j n k : ℕ) → k ≤ j → m < magnitude_limit → (n * 10 ^ (j - k) < magnitude_limit → ⊥) → Less ≡ nat_cmp (m * 10 ^ k) (n * 10 ^ j)
right_over m j n k h small over = nat_cmp_is m (n * 10 ^ (j - k)) Less (omega (arith, small, over)) ∙ right_scaled m j n k h

-- ---- the signs

crossed : (b d : Bool) (m j n k : ℕ) → decimal_cmp (signed b m, j) (signed d n, k) ≡ int_cmp (signed b (m * 10 ^ k)) (signed d (n * 10 ^ j))
crossed b d m j n k = ap₂ (λ (x y : ℤ). int_cmp x y) (signed-mul b m (10 ^ k)) (signed-mul d n (10 ^ j))

pub below_zero : (m j n k : ℕ) → 0 < m → Less ≡ decimal_cmp (signed true m, j) (signed false n, k)
below_zero m j n k some =
    let size : 0 < m * 10 ^ k = mul-pos some (power_pos k) in
    int_cmp_is (signed true (m * 10 ^ k)) (signed false (n * 10 ^ j)) Less (omega (arith, ints, size)) ∙ sym (crossed true false m j n k)

pub above_zero : (m j n k : ℕ) → 0 < n → Greater ≡ decimal_cmp (signed false m, j) (signed true n, k)
above_zero m j n k some =
    let size : 0 < n * 10 ^ j = mul-pos some (power_pos j) in
    int_cmp_is (signed false (m * 10 ^ k)) (signed true (n * 10 ^ j)) Greater (omega (arith, ints, size)) ∙ sym (crossed false true m j n k)

plain_ranks : (r : Ordering) (x y : ℕ) → MatchOrdering r (x < y) (x ≡ y) (y < x) → MatchOrdering r (pos x <ℤ pos y) (pos x ≡ pos y) (pos y <ℤ pos x)
plain_ranks Less x y h = omega (arith, ints, h)
plain_ranks Equal x y h = ap pos h
plain_ranks Greater x y h = omega (arith, ints, h)

turned_ranks : (r : Ordering) (x y : ℕ) → MatchOrdering r (x < y) (x ≡ y) (y < x)
    → MatchOrdering (ordering_reverse r) (neg_ℤ (pos x) <ℤ neg_ℤ (pos y)) (neg_ℤ (pos x) ≡ neg_ℤ (pos y)) (neg_ℤ (pos y) <ℤ neg_ℤ (pos x))
turned_ranks Less x y h = omega (arith, ints, h)
turned_ranks Equal x y h = ap (λ n. neg_ℤ (pos n)) h
turned_ranks Greater x y h = omega (arith, ints, h)

pub both_positive : (m j n k : ℕ) → nat_cmp (m * 10 ^ k) (n * 10 ^ j) ≡ decimal_cmp (signed false m, j) (signed false n, k)
both_positive m j n k =
    int_cmp_is (pos (m * 10 ^ k)) (pos (n * 10 ^ j)) (nat_cmp (m * 10 ^ k) (n * 10 ^ j)) (plain_ranks (nat_cmp (m * 10 ^ k) (n * 10 ^ j)) (m * 10 ^ k) (n * 10 ^ j) (ranks (m * 10 ^ k) (n * 10 ^ j)))
    ∙ sym (crossed false false m j n k)

pub both_negative : (m j n k : ℕ) → ordering_reverse (nat_cmp (m * 10 ^ k) (n * 10 ^ j)) ≡ decimal_cmp (signed true m, j) (signed true n, k)
both_negative m j n k =
    int_cmp_is (neg_ℤ (pos (m * 10 ^ k))) (neg_ℤ (pos (n * 10 ^ j))) (ordering_reverse (nat_cmp (m * 10 ^ k) (n * 10 ^ j)))
    (turned_ranks (nat_cmp (m * 10 ^ k) (n * 10 ^ j)) (m * 10 ^ k) (n * 10 ^ j) (ranks (m * 10 ^ k) (n * 10 ^ j)))
    ∙ sym (crossed true true m j n k)

-- a number below zero has a magnitude
some_magnitude : (m : ℕ) → IsSignOf true m → 0 < m
some_magnitude m h = pos_of_ne-zero (λ none. true≢false (h none))

pub opposite_less : (b d : Bool) (m j n k : ℕ) → b ≡ true → not (beq b d) ≡ true → IsSignOf b m → Less ≡ decimal_cmp (signed b m, j) (signed d n, k)
opposite_less false d m j n k sign other h = absurd (true≢false (sym sign))
opposite_less true true m j n k sign other h = absurd (true≢false (sym other))
opposite_less true false m j n k sign other h = below_zero m j n k (some_magnitude m h)

pub opposite_greater : (b d : Bool) (m j n k : ℕ) → b ≡ false → not (beq b d) ≡ true → IsSignOf d n → Greater ≡ decimal_cmp (signed b m, j) (signed d n, k)
opposite_greater true d m j n k sign other h = absurd (true≢false sign)
opposite_greater false false m j n k sign other h = absurd (true≢false (sym other))
opposite_greater false true m j n k sign other h = above_zero m j n k (some_magnitude n h)

-- decimals that compare equal are equal
pub equal_decimals : (a b : ℤ × ℕ) → IsDecimal a → IsDecimal b → (decimal_cmp a b ≡ Equal) ↔ (a ≡ b)
equal_decimals a b h k =
    (λ e. same_decimal a b h k (int_ranked _ _ Equal (sym e)), λ e. ap (λ x. decimal_cmp a x) (sym e) ∙ tied_itself decimal_total a)

pub equal_answers : (a b : ℤ × ℕ) (r : Ordering) → r ≡ decimal_cmp a b → IsDecimal a → IsDecimal b → (r ≡ Equal) ↔ (a ≡ b)
equal_answers a b r is h k = rw is (equal_decimals a b h k)
