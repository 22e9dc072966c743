-- Whole numbers are exact decimals.
use Rattle.std.proofs.Common.{◌<◌, ℤ, unsigned_abs, subst}
use Rattle.sj_decimal.specs.Limits.{magnitude_limit}
use Rattle.sj_decimal.specs.Signed.{is_negative, signed_parts}
use Rattle.sj_decimal.specs.Normal.{IsDecimal}
use Rattle.sj_decimal.proofs.NormalForm.{whole_decimal}

pub whole_is_decimal : (n : ℤ) → unsigned_abs n < magnitude_limit → IsDecimal (n, 0)
whole_is_decimal n small = subst (λ (z : ℤ). IsDecimal (z, 0)) (signed_parts n) (whole_decimal (is_negative n) (unsigned_abs n) small)
