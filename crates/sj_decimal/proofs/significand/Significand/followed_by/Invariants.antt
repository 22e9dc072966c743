use Rattle.std.proofs.Common.{◌≡◌, ◌+◌, ◌≤◌, fold, take}
use Rattle.sj_decimal.specs.Significant.{with_byte, zeros_of}
use Rattle.sj_decimal.proofs.significand.Significand.followed_by.Given as goal

abbrev pub invariant-loop-byte : goal.invariant-loop-byte
invariant-loop-byte l = (l.significand ≡ fold with_byte l.fn.self (take l.byte-index l.digits)) × (zeros_of l.significand ≤ zeros_of l.fn.self + l.byte-index)
