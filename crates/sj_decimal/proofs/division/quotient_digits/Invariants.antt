use Rattle.std.proofs.Common.{◌≡◌, ◌≤◌, ◌+◌, ◌*◌, ◌/◌, ◌%◌, ◌^◌}
use Rattle.sj_decimal.specs.Limits.{max_scale}
use Rattle.sj_decimal.specs.Significant.{Keeps, zeros_of}
use Rattle.sj_decimal.proofs.division.quotient_digits.Given as goal

abbrev pub invariant-loop-place : goal.invariant-loop-place
invariant-loop-place l =
    Keeps (l.left * 10 ^ l._place / l.right) l.significand × (l.rest ≡ l.left * 10 ^ l._place % l.right) × (zeros_of l.significand ≤ max_scale + l._place)
