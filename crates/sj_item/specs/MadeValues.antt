-- What an item holds in itself.
use Rattle.std.specs.Prelude.{ℕ, ◌+◌, ◌*◌, ◌^◌, ℤ}
use Rattle.sj_decimal.specs.Signed.{signed}
use Rattle.sj_item.specs.declared.made.Exact.{Exact}

-- the decimal
abbrev pub exact_value : Exact → ℤ × ℕ
exact_value n = (signed n.negative (n.upper * 2 ^ 64 + n.lower), n.scale)
