use Rattle.std.proofs.Common.{◌≡◌, ◌∙◌, ◌+◌, ◌/◌, ◌^◌, ◌≤◌, sym, ap, subst, arith, ℕ, length}
use Rattle.std.proofs.lemmas.Bool.Decides.{nat_tests}
use Rattle.sj_rows.proofs.Windows.{others, all_digits, digits_but_one, read_whole}
use Rattle.sj_rows.proofs.numeral.has_digits.Goals as goal
use Rattle.sj_rows.proofs.numeral.has_digits.Goals.{After-others_in_16-others}
use lib.Count.{count_trailing_zeros}

mask : (c : After-others_in_16-others) → c.others_in_16-others.result ≡ others c.args.window.now
mask c = c.others_in_16-others.ensures ∙ ap others (read_whole c.args.numeral.now c.args.window.now c.requires)

pub returns-then-len-first : goal.returns-then-len-first
returns-then-len-first c =
    λ _.
    all_digits c.args.numeral.now c.args.window.now c.requires c.args.point
    (omega (arith, c.if-len-first.true, ap (count_trailing_zeros 64) (mask (goal.at.returns-then-len-first c).After-others_in_16-others)))

pub returns : goal.returns
returns c =
    λ rest.
    let is = mask (goal.at.returns c).After-others_in_16-others in
    let within : length c.args.numeral.now ≤ c.args.point + 1 + count_trailing_zeros 64 (c.others_in_16-others.result / 2 ^ (count_trailing_zeros 64 c.others_in_16-others.result + 1)) = grind (arith, nat_tests, rest) in
    digits_but_one c.args.numeral.now c.args.window.now c.requires c.args.point (ap (count_trailing_zeros 64) (sym is) ∙ c.if-first-point.false)
    (subst (λ (m : ℕ). length c.args.numeral.now ≤ c.args.point + 1 + count_trailing_zeros 64 (m / 2 ^ (count_trailing_zeros 64 m + 1))) is within)
