use Rattle.std.proofs.Common.{◌≡◌, pos, negsuc, ◌<ℤ◌, arith, to_z, of_z, to_z-of_z, int_lt, true, unsigned_abs}
use Rattle.std.specs.Int.{w128}
use Rattle.std.proofs.lemmas.Int.{ints}
use Rattle.sj_decimal.specs.Limits.{max_scale}
use Rattle.sj_decimal.specs.Signed.{signed}
use Rattle.sj_decimal.specs.Number.{shifted}
use Rattle.sj_decimal.specs.Parses.{option_parsed}
use Rattle.sj_decimal.proofs.Shifts.{evaluates_option, evaluates_along, shifted_zero, too_far_left, too_far_right, too_big_shifted, far_below}
use Rattle.sj_decimal.proofs.parsing.Parsed.shifted.Goals as goal

pub returns-then-magnitude-eq0-clause-value : goal.returns-then-magnitude-eq0-clause-value
returns-then-magnitude-eq0-clause-value c =
    rw (c.if-magnitude-eq0.true, c.exact.ensures)
    (evaluates_along (shifted c.args.negative 0 (pos 0)) (shifted c.args.negative 0 c.args.shift) (option_parsed c.normalized.result)
    (shifted_zero c.args.negative (pos 0) c.args.shift)
    (evaluates_option (signed c.args.negative 0, 0) c.normalized.result c.normalized.ensures.value))

is_far : (c : goal.Then-places) → c.args.shift <ℤ negsuc 37
is_far c =
    let same : to_z w128 (of_z w128 c.args.shift) ≡ c.args.shift = to_z-of_z c.ranges.shift in
    let low : int_lt c.args.shift (pos 0) ≡ true = simp same at c.if-shift-lt0.true in
    let far : c.unsigned_abs-places.result ≡ unsigned_abs c.args.shift = simp same at c.unsigned_abs-places.ensures.value in
    far_below c.args.shift c.unsigned_abs-places.result low far c.if-places.true

pub returns-then-places-clause-value : goal.returns-then-places-clause-value
returns-then-places-clause-value c =
    too_far_left c.args.negative c.args.magnitude c.args.shift (λ e. c.if-magnitude-eq0.false (c.requires e)) (is_far c)

pub returns-then-shift-clause-value : goal.returns-then-shift-clause-value
returns-then-shift-clause-value c =
    too_far_right c.args.negative c.args.magnitude c.args.shift (omega (arith, c.if-magnitude-eq0.false))
    (let same : to_z w128 (of_z w128 c.args.shift) ≡ c.args.shift = to_z-of_z c.ranges.shift in
    let far : int_lt (pos max_scale) c.args.shift ≡ true = simp same at c.if-shift.true in
    grind (arith, ints))

pub returns-in-None-clause-value : goal.returns-in-None-clause-value
returns-in-None-clause-value c =
    let same : to_z w128 (of_z w128 c.args.shift) ≡ c.args.shift = to_z-of_z c.ranges.shift in
    too_big_shifted c.args.negative c.args.magnitude c.args.shift (simp same at c.if-shift-lt0.false) (simp same at (c.in-None.ensures {u = tt}))
