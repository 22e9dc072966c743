use Rattle.std.proofs.Common.{◌≡◌, ◌∙◌, List, map, take, ap, arith}
use Rattle.std.proofs.lemmas.List.{take_all}
use Rattle.sj_bound.specs.View.{bound_of}
use Rattle.sj_bound.specs.declared.bound.Bound.{Bound}
use Rattle.sj_host.specs.Host.{width_of}
use Rattle.sj_host.proofs.Files.{held_widths}
use Rattle.sj_host.proofs.file.widths_of.Goals as goal

pub returns : goal.returns
returns c =
    let whole : take c.loop-statement.statement-index c.args.statements.now ≡ c.args.statements.now = take_all c.loop-statement.statement-index c.args.statements.now (omega (arith, c.loop-statement-test.false)) in
    c.loop-statement.invariant ∙ ap (λ (l : List Bound). map (λ (s : Bound). width_of (bound_of s)) l) whole ∙ held_widths c.args.statements.now
