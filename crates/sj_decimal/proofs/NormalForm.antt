-- Normal forms, and which numbers are exact.
use Rattle.std.proofs.Common.{◌≡◌, ℕ, zero, suc, ◌+◌, ◌*◌, ◌^◌, ◌<◌, ◌≤◌, Bool, true, false, ℤ, pos, negsuc, ◌*ℤ◌, unsigned_abs, refl, sym, ap, ap₂, ◌∙◌, subst, arith, zero-mul, add_comm, Option, Some, None, SomeIff, IfSome, int_lt, le-ltb}
use Rattle.sj_decimal.specs.Limits.{max_scale, magnitude_limit}
use Rattle.sj_decimal.specs.Signed.{signed, is_negative, unsigned_abs-signed, signed_parts}
use Rattle.sj_decimal.specs.Normal.{reduced, normal, IsNormal, IsWithinLimits, IsExact, IsDecimal, IsSameNumber}
use Rattle.sj_decimal.proofs.Reduced.{reduced_value, reduced_normal, reduced_same, reduced_scaled, reduced_zero, reduced_le}

pub signed-mul : (b : Bool) (m p : ℕ) → signed b m *ℤ pos p ≡ signed b (m * p)
signed-mul false m p = refl
signed-mul true zero p = rw zero-mul refl
signed-mul true (suc m) p = refl

pub unsigned_abs-normal : (d : ℤ × ℕ) → unsigned_abs (normal d).0 ≡ (reduced (unsigned_abs d.0) d.1).0
unfolding normal
unsigned_abs-normal d = unsigned_abs-signed (is_negative d.0) (reduced (unsigned_abs d.0) d.1).0

pub normal_scale : (d : ℤ × ℕ) → (normal d).1 ≡ (reduced (unsigned_abs d.0) d.1).1
unfolding normal
normal_scale d = refl

-- the normal form keeps the sign
pub normal-signed : (b : Bool) (m s : ℕ) → normal (signed b m, s) ≡ (signed b (reduced m s).0, (reduced m s).1)
unfolding normal
normal-signed false m s = refl
normal-signed true zero s = rw reduced_zero refl
normal-signed true (suc m) s = refl

pub normal_same : (d : ℤ × ℕ) → IsNormal d → normal d ≡ d
unfolding normal
normal_same d h =
    let same : reduced (unsigned_abs d.0) d.1 ≡ (unsigned_abs d.0, d.1) = reduced_same (unsigned_abs d.0) d.1 h in
    rw same (ap (λ c. (c, d.1)) (signed_parts d.0))

pub IsNormal-normal : (d : ℤ × ℕ) → IsNormal (normal d)
IsNormal-normal d = rw (unsigned_abs-normal d, normal_scale d) (reduced_normal (unsigned_abs d.0) d.1)

pub IsDecimal-normal : (d : ℤ × ℕ) → IsExact d → IsDecimal (normal d)
unfolding IsExact
IsDecimal-normal d h = record { normal = IsNormal-normal d; limits = h }

pub exact_from_limits : (d : ℤ × ℕ) → IsWithinLimits (normal d) → IsExact d
unfolding IsExact
exact_from_limits d h = h

pub limits_from_exact : (d : ℤ × ℕ) → IsExact d → IsWithinLimits (normal d)
unfolding IsExact
limits_from_exact d h = h

-- a decimal is exact, and is its own normal form
pub normal_decimal : (d : ℤ × ℕ) → IsDecimal d → normal d ≡ d
normal_decimal d h = normal_same d h.normal

pub IsExact-decimal : (d : ℤ × ℕ) → IsDecimal d → IsExact d
IsExact-decimal d h = exact_from_limits d (rw (normal_decimal d h) h.limits)

-- what the code finds of the reduced magnitude r
pub exact_from_reduced : (b : Bool) (m s : ℕ) (r : ℕ × ℕ) → r ≡ reduced m s → r.0 < magnitude_limit → r.1 ≤ max_scale → IsExact (signed b m, s)
exact_from_reduced b m s r e small few =
    exact_from_limits (signed b m, s) (record {
      coefficient = rw (unsigned_abs-normal (signed b m, s), unsigned_abs-signed b m, ← e) small;
      scale = rw (normal_scale (signed b m, s), unsigned_abs-signed b m, ← e) few;
    })

pub reduced_from_exact : (b : Bool) (m s : ℕ) (r : ℕ × ℕ) → r ≡ reduced m s → IsExact (signed b m, s) → (r.0 < magnitude_limit) × (r.1 ≤ max_scale)
reduced_from_exact b m s r e h =
    let l : IsWithinLimits (normal (signed b m, s)) = limits_from_exact (signed b m, s) h in
    let small : (reduced m s).0 < magnitude_limit = rw (unsigned_abs-normal (signed b m, s), unsigned_abs-signed b m) at l.coefficient in
    let few : (reduced m s).1 ≤ max_scale = rw (normal_scale (signed b m, s), unsigned_abs-signed b m) at l.scale in
    rw e (small, few)

pub normal_from_reduced : (b : Bool) (m s : ℕ) (r : ℕ × ℕ) → r ≡ reduced m s → (signed b r.0, r.1) ≡ normal (signed b m, s)
normal_from_reduced b m s r e = ap (λ (q : ℕ × ℕ). (signed b q.0, q.1)) e ∙ sym (normal-signed b m s)

-- a coefficient and a scale within the limits make an exact number
pub exact_small : (b : Bool) (m s : ℕ) → m < magnitude_limit → s ≤ max_scale → IsExact (signed b m, s)
exact_small b m s small few =
    let below : ((reduced m s).0 ≤ m) × ((reduced m s).1 ≤ s) = reduced_le m s in
    exact_from_reduced b m s (reduced m s) refl (omega (arith, below.0, small)) (omega (arith, below.1, few))

pub whole_decimal : (b : Bool) (m : ℕ) → m < magnitude_limit → IsDecimal (signed b m, 0)
whole_decimal b m small =
    record {
      normal = λ some. absurd (omega arith);
      limits = record { coefficient = rw (unsigned_abs-signed b m) small; scale = omega arith };
    }

-- ---- the normal form stands for the same number, and is the only one that does

product_of : (c : ℤ) (p : ℕ) → c *ℤ pos p ≡ signed (is_negative c) (unsigned_abs c * p)
product_of c p = ap (λ z. z *ℤ pos p) (sym (signed_parts c)) ∙ signed-mul (is_negative c) (unsigned_abs c) p

pub normal-scaled : (c : ℤ) (s k : ℕ) → normal (c *ℤ pos (10 ^ k), s + k) ≡ normal (c, s)
normal-scaled c s k =
    ap (λ z. normal (z, s + k)) (product_of c (10 ^ k))
    ∙ normal-signed (is_negative c) (unsigned_abs c * 10 ^ k) (s + k)
    ∙ ap (λ (q : ℕ × ℕ). (signed (is_negative c) q.0, q.1)) (reduced_scaled (unsigned_abs c) s k)
    ∙ sym (normal-signed (is_negative c) (unsigned_abs c) s)
    ∙ ap (λ z. normal (z, s)) (signed_parts c)

pub same_normal : (a b : ℤ × ℕ) → IsSameNumber a b → normal a ≡ normal b
same_normal a b h =
    sym (normal-scaled a.0 a.1 b.1)
    ∙ ap₂ (λ (z : ℤ) (k : ℕ). normal (z, k)) h (add_comm a.1 b.1)
    ∙ normal-scaled b.0 b.1 a.1

pub same_decimal : (a b : ℤ × ℕ) → IsDecimal a → IsDecimal b → IsSameNumber a b → a ≡ b
same_decimal a b h k same = sym (normal_decimal a h) ∙ same_normal a b same ∙ normal_decimal b k

pub normal_is_same : (d : ℤ × ℕ) → IsSameNumber (normal d) d
unfolding normal
normal_is_same d =
    let b : Bool = is_negative d.0 in
    let m : ℕ = unsigned_abs d.0 in
    signed-mul b (reduced m d.1).0 (10 ^ d.1)
    ∙ ap (signed b) (reduced_value m d.1)
    ∙ sym (product_of d.0 (10 ^ (reduced m d.1).1))

pub some_same : (d : ℤ × ℕ) (o : Option (ℤ × ℕ)) → SomeIff o (IsExact d) (normal d) → IfSome o (λ n. IsSameNumber n d)
some_same d None h = tt
some_same d (Some n) h = subst (λ (x : ℤ × ℕ). IsSameNumber x d) (sym h.1) (normal_is_same d)

-- a number by the tests that the code makes of it
pub signed_from_test : (c : ℤ) → signed (int_lt c (pos 0)) (unsigned_abs c) ≡ c
signed_from_test (pos n) = rw (le-ltb n 0 (omega arith)) refl
signed_from_test (negsuc n) = refl
