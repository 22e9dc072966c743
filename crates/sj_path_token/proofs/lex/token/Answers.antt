use Rattle.std.proofs.Common.{ap, ◌∙◌, arith, length, option_map}
use Rattle.sj_path_token.proofs.StringInsides.{inside_sound}
use Rattle.sj_path_token.proofs.Boundaries.{first_boundary}
use Rattle.sj_path_token.proofs.lex.token.Goals as goal

pub range_from-requires : goal.range_from-requires
range_from-requires c = λ _. first_boundary c.args.text.now c.args.after.now c.args.first c.utf8.text c.requires (omega (arith, c.if-first-eq34.true))

pub overflow_add-result : goal.overflow_add-result
overflow_add-result c =
    let stands = c.in_ok-string.ensures ∙ ap (option_map (λ x. (x.0, x.1))) c.in-Some.is in
    let p = (inside_sound (length c.range_from.result.now) c.range_from.result.now).holds c.in-Some.string c.in-Some.len stands in
    let n = c.range_from.ensures.len in
    omega (arith, p.within, n)

pub range_from-requires-then-first-eq36 : goal.range_from-requires-then-first-eq36
range_from-requires-then-first-eq36 c = λ _. first_boundary c.args.text.now c.args.after.now c.args.first c.utf8.text c.requires (omega (arith, c.if-first-eq36.true))
