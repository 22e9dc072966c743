-- The bounds of the types of whole numbers (ISO/IEC 9075-2, numeric types), which the item methods of their names share.
use Rattle.std.specs.Prelude.{◌-◌, ◌^◌, ℤ, pos, neg_ℤ}

abbrev pub integer_low : ℤ
integer_low = neg_ℤ (pos (2 ^ 31))

abbrev pub integer_high : ℤ
integer_high = pos (2 ^ 31 - 1)

abbrev pub bigint_low : ℤ
bigint_low = neg_ℤ (pos (2 ^ 63))

abbrev pub bigint_high : ℤ
bigint_high = pos (2 ^ 63 - 1)
