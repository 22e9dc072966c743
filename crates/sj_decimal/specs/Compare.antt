-- The order of the numbers that pairs stand for.
use Rattle.std.specs.Prelude.{◌≡◌, ℕ, zero, suc, ◌*◌, ◌^◌, ◌<◌, Bool, ℤ, pos, negsuc, neg_ℤ, ◌*ℤ◌, ◌<ℤ◌, Option, refl}
use Rattle.std.specs.declared.cmp.Ordering.{Ordering}
use Rattle.std.specs.declared.cmp.Ordering.TheVariants.{Less, Equal, Greater}
use Rattle.std.specs.Ordering.{int_cmp, is_eq, as_partial_cmp, MatchOrdering}
use Rattle.std.specs.Cmp.{IsTotalOrder, IsEquivalence, IsPartialEquivalence, IsPartialOrder, int_cmp_total, int_cmp_is, int_ranks, eq_by_cmp_equiv, partial_equiv_from_equiv, po}
use Rattle.std.proofs.Common.{sym, ap, ap₂, ◌∙◌, arith, mul_assoc, mul_comm, zero-mul, mul-lt-mul_of_pos_right, mul-pos}
use Rattle.std.proofs.Math.Nat.{one-le-pow}
use Rattle.std.proofs.lemmas.Int.{ints}

-- a / 10 ^ j against b / 10 ^ k, by a * 10 ^ k against b * 10 ^ j
abbrev pub decimal_cmp : ℤ × ℕ → ℤ × ℕ → Ordering
decimal_cmp a b = int_cmp (a.0 *ℤ pos (10 ^ b.1)) (b.0 *ℤ pos (10 ^ a.1))

-- the two stand for one number
abbrev pub decimal_eq : ℤ × ℕ → ℤ × ℕ → Bool
decimal_eq a b = is_eq (decimal_cmp a b)

abbrev pub decimal_partial_cmp : ℤ × ℕ → ℤ × ℕ → Option Ordering
decimal_partial_cmp = as_partial_cmp decimal_cmp

-- ---- it is a total order

power_pos : (k : ℕ) → 0 < 10 ^ k
power_pos k = one-le-pow k 10 (omega arith)

-- a product of a number and a positive one keeps the sign
negative-mul : (n p : ℕ) → neg_ℤ (pos n) *ℤ pos p ≡ neg_ℤ (pos (n * p))
negative-mul zero p = rw zero-mul refl
negative-mul (suc n) p = refl

times_times : (x : ℤ) (p q : ℕ) → x *ℤ pos p *ℤ pos q ≡ x *ℤ pos (p * q)
times_times (pos n) p q = ap pos (mul_assoc n p q)
times_times (negsuc n) p q = negative-mul (suc n * p) q ∙ ap (λ k. neg_ℤ (pos k)) (mul_assoc (suc n) p q)

turned : (x : ℤ) (p q : ℕ) → x *ℤ pos p *ℤ pos q ≡ x *ℤ pos q *ℤ pos p
turned x p q = times_times x p q ∙ ap (λ k. x *ℤ pos k) (mul_comm p q) ∙ sym (times_times x q p)

lt_scaled : (x y : ℤ) (p : ℕ) → 0 < p → x <ℤ y → (x *ℤ pos p) <ℤ (y *ℤ pos p)
lt_scaled (pos a) (pos b) p some h =
    let below : a * p < b * p = mul-lt-mul_of_pos_right {m = a} {n = b} {k = p} (omega (arith, ints, h)) some in
    omega (arith, ints, below)
lt_scaled (pos a) (negsuc b) p some h = absurd (omega (arith, ints, h))
lt_scaled (negsuc a) (pos b) p some h =
    let size : 0 < suc a * p = mul-pos {m = suc a} {n = p} (omega arith) some in
    omega (arith, ints, size)
lt_scaled (negsuc a) (negsuc b) p some h =
    let below : suc b * p < suc a * p = mul-lt-mul_of_pos_right {m = suc b} {n = suc a} {k = p} (omega (arith, ints, h)) some in
    omega (arith, ints, below)

ranks_scaled : (r : Ordering) (x y : ℤ) (p : ℕ) → 0 < p → MatchOrdering r (x <ℤ y) (x ≡ y) (y <ℤ x) → MatchOrdering r ((x *ℤ pos p) <ℤ (y *ℤ pos p)) (x *ℤ pos p ≡ y *ℤ pos p) ((y *ℤ pos p) <ℤ (x *ℤ pos p))
ranks_scaled Less x y p some h = lt_scaled x y p some h
ranks_scaled Equal x y p some h = ap (λ z. z *ℤ pos p) h
ranks_scaled Greater x y p some h = lt_scaled y x p some h

pub int_cmp_scaled : (x y : ℤ) (p : ℕ) → 0 < p → int_cmp (x *ℤ pos p) (y *ℤ pos p) ≡ int_cmp x y
int_cmp_scaled x y p some = sym (int_cmp_is (x *ℤ pos p) (y *ℤ pos p) (int_cmp x y) (ranks_scaled (int_cmp x y) x y p some (int_ranks x y)))

-- the comparison of a and b at a third scale as well
at_third : (a b : ℤ × ℕ) (k : ℕ) → decimal_cmp a b ≡ int_cmp (a.0 *ℤ pos (10 ^ b.1) *ℤ pos (10 ^ k)) (b.0 *ℤ pos (10 ^ a.1) *ℤ pos (10 ^ k))
at_third a b k = sym (int_cmp_scaled (a.0 *ℤ pos (10 ^ b.1)) (b.0 *ℤ pos (10 ^ a.1)) (10 ^ k) (power_pos k))

-- the same with the two powers of each side turned
at_third_turned : (a b : ℤ × ℕ) (k : ℕ) → decimal_cmp a b ≡ int_cmp (a.0 *ℤ pos (10 ^ k) *ℤ pos (10 ^ b.1)) (b.0 *ℤ pos (10 ^ k) *ℤ pos (10 ^ a.1))
at_third_turned a b k = at_third a b k ∙ ap₂ (λ (x y : ℤ). int_cmp x y) (turned a.0 (10 ^ b.1) (10 ^ k)) (turned b.0 (10 ^ a.1) (10 ^ k))

decimal_trans : (a b c : ℤ × ℕ) → decimal_cmp a b ≡ Less → decimal_cmp b c ≡ Less → decimal_cmp a c ≡ Less
decimal_trans a b c p q =
    at_third a c b.1
    ∙ int_cmp_total.trans (a.0 *ℤ pos (10 ^ c.1) *ℤ pos (10 ^ b.1)) (b.0 *ℤ pos (10 ^ c.1) *ℤ pos (10 ^ a.1)) (c.0 *ℤ pos (10 ^ a.1) *ℤ pos (10 ^ b.1))
    (sym (at_third_turned a b c.1) ∙ p)
    (ap₂ (λ (x y : ℤ). int_cmp x y) refl (turned c.0 (10 ^ a.1) (10 ^ b.1)) ∙ sym (at_third b c a.1) ∙ q)

decimal_congr : (a b c : ℤ × ℕ) → decimal_cmp a b ≡ Equal → decimal_cmp a c ≡ decimal_cmp b c
decimal_congr a b c p =
    at_third a c b.1
    ∙ int_cmp_total.congr (a.0 *ℤ pos (10 ^ c.1) *ℤ pos (10 ^ b.1)) (b.0 *ℤ pos (10 ^ c.1) *ℤ pos (10 ^ a.1)) (c.0 *ℤ pos (10 ^ a.1) *ℤ pos (10 ^ b.1))
    (sym (at_third_turned a b c.1) ∙ p)
    ∙ ap₂ (λ (x y : ℤ). int_cmp x y) refl (turned c.0 (10 ^ a.1) (10 ^ b.1))
    ∙ sym (at_third b c a.1)

pub decimal_total : IsTotalOrder decimal_cmp
decimal_total = record {
  antisymm = λ a b. int_cmp_total.antisymm (a.0 *ℤ pos (10 ^ b.1)) (b.0 *ℤ pos (10 ^ a.1));
  trans = decimal_trans;
  congr = decimal_congr;
}

pub decimal_equivalence : IsEquivalence decimal_eq
decimal_equivalence = eq_by_cmp_equiv decimal_total

pub decimal_partial_equivalence : IsPartialEquivalence decimal_eq
decimal_partial_equivalence = partial_equiv_from_equiv decimal_equivalence

pub decimal_partial_order : IsPartialOrder decimal_eq decimal_partial_cmp
decimal_partial_order = po decimal_total (λ x y. refl)
