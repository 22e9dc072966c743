-- The answer whether a number is exact.
use Rattle.std.proofs.Common.{◌≡◌, ℕ, Bool, true, false, ◌&&◌, nat_lt, nat_le, ℤ, unsigned_abs, refl, ap, ◌∙◌, leb-true, ltb-true, le-leb, lt-ltb}
use Rattle.sj_decimal.specs.Limits.{max_scale, magnitude_limit}
use Rattle.sj_decimal.specs.Normal.{normal, IsExact}
use Rattle.sj_decimal.specs.Exact.{is_exact}
use Rattle.sj_decimal.proofs.NormalForm.{exact_from_limits, limits_from_exact}

pub exact_is : (v : ℤ × ℕ) → is_exact v ≡ true → IsExact v
unfolding is_exact
exact_is v h = go (nat_lt (unsigned_abs (normal v).0) magnitude_limit) (nat_le (normal v).1 max_scale) refl refl h
  where
    go : (a b : Bool) → nat_lt (unsigned_abs (normal v).0) magnitude_limit ≡ a → nat_le (normal v).1 max_scale ≡ b → (a && b) ≡ true → IsExact v
    go true true p q _ = exact_from_limits v (record { coefficient = ltb-true _ _ p; scale = leb-true _ _ q })
    go true false p q x = absurd cc
    go false b p q x = absurd cc

pub exact_true : (v : ℤ × ℕ) → IsExact v → is_exact v ≡ true
unfolding is_exact
exact_true v h =
    let l = limits_from_exact v h in
    ap (λ a. a && nat_le (normal v).1 max_scale) (lt-ltb (unsigned_abs (normal v).0) magnitude_limit l.coefficient) ∙ le-leb (normal v).1 max_scale l.scale

pub exact_false : (v : ℤ × ℕ) → (IsExact v → ⊥) → is_exact v ≡ false
exact_false v h = go (is_exact v) refl
  where
    go : (b : Bool) → is_exact v ≡ b → is_exact v ≡ false
    go true e = absurd (h (exact_is v e))
    go false e = e
