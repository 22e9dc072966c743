use Rattle.std.proofs.Common.{◌≡◌, ℤ, sym, subst, ap, ◌∙◌, to_z, of_z, to_z-of_z}
use Rattle.std.specs.Int.{w128}
use Rattle.sj_decimal.specs.Normal.{normal, IsExact}
use Rattle.sj_decimal.proofs.NormalForm.{normal_decimal, IsExact-decimal}
use Rattle.sj_step.proofs.Wholes.{whole_is_decimal}
use Rattle.sj_step.proofs.whole.whole_number.Goals as goal

pub unreachable-requires : goal.unreachable-requires
unreachable-requires c =
    let n : ℤ = c.args.number in
    let same : to_z w128 (of_z w128 n) ≡ n = to_z-of_z c.ranges.number in
    c.in-None.ensures.value (subst (λ (z : ℤ). IsExact (z, 0)) (sym same) (IsExact-decimal (n, 0) (whole_is_decimal n c.requires)))

pub returns : goal.returns
returns c =
    let n : ℤ = c.args.number in
    let same : to_z w128 (of_z w128 n) ≡ n = to_z-of_z c.ranges.number in
    c.new.ensures ∙ c.in-Some.ensures.value.1 ∙ ap (λ (z : ℤ). normal (z, 0)) same ∙ normal_decimal (n, 0) (whole_is_decimal n c.requires)
