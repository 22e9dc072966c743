-- Numbers with as many decimals stand in the order of their coefficients.
use Rattle.std.proofs.Common.{◌≡◌, ℕ, ◌^◌, ℤ, pos, nat_cmp, int_cmp, refl, sym, ◌∙◌, arith}
use Rattle.std.proofs.Math.Nat.{one-le-pow}
use Rattle.sj_decimal.proofs.Comparisons as numbers
use Rattle.sj_decimal.specs.Compare.{decimal_cmp, int_cmp_scaled}

pub same_scale : (a b : ℤ) (j k : ℕ) → j ≡ k → int_cmp a b ≡ decimal_cmp (a, j) (b, k)
same_scale a b j k h = rw h (sym (int_cmp_scaled a b (10 ^ k) (one-le-pow k 10 (omega arith))))

pub whole_order : (a b : ℕ) → nat_cmp a b ≡ decimal_cmp (pos a, 0) (pos b, 0)
whole_order a b = numbers.same_scale a 0 b 0 refl ∙ numbers.both_positive a 0 b 0
