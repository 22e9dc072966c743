use Rattle.std.proofs.Common.{nat_cmp, ap, ◌∙◌, ◌≤◌, arith}
use Rattle.sj_decimal.proofs.Comparisons.{same_scale, left_scaled, right_scaled, left_over, right_over}
use Rattle.sj_decimal.proofs.comparing.compare_magnitudes.Goals as goal

pub returns-then-left_scale-right_scale : goal.returns-then-left_scale-right_scale
returns-then-left_scale-right_scale c =
    c.cmp.ensures ∙ same_scale c.args.left c.args.left_scale c.args.right c.args.right_scale c.if-left_scale-right_scale.true

pub returns-in-Some : goal.returns-in-Some
returns-in-Some c =
    let less : c.args.left_scale ≤ c.args.right_scale = omega arith in
    c.cmp-in-Some.ensures
    ∙ ap (λ n. nat_cmp n c.args.right) (c.in-Some.ensures {u = tt}).1
    ∙ left_scaled c.args.left c.args.left_scale c.args.right c.args.right_scale less

pub returns-in-None : goal.returns-in-None
returns-in-None c =
    let less : c.args.left_scale ≤ c.args.right_scale = omega arith in
    left_over c.args.left c.args.left_scale c.args.right c.args.right_scale less c.requires.right (c.in-None.ensures {u = tt})

pub returns-in-Some-scaled : goal.returns-in-Some-scaled
returns-in-Some-scaled c =
    let more : c.args.right_scale ≤ c.args.left_scale = omega arith in
    c.cmp-in-Some-scaled.ensures
    ∙ ap (λ n. nat_cmp c.args.left n) (c.in-Some-scaled.ensures {u = tt}).1
    ∙ right_scaled c.args.left c.args.left_scale c.args.right c.args.right_scale more

pub returns-in-None-scaled : goal.returns-in-None-scaled
returns-in-None-scaled c =
    let more : c.args.right_scale ≤ c.args.left_scale = omega arith in
    right_over c.args.left c.args.left_scale c.args.right c.args.right_scale more c.requires.left (c.in-None-scaled.ensures {u = tt})
