use Rattle.std.proofs.Common.{◌≤◌, ℕ, ap, subst, map, arith}
use Rattle.sj_base.specs.Count.{raised}
use Rattle.sj_rows.specs.Lines.{whole_lines, seen}
use Rattle.sj_rows.specs.HeldLines.{HeldLines}
use Rattle.sj_page.proofs.Printing.{prints_same}
use Rattle.sj_stream.proofs.Feeding.{fed_print, fed_cost, fed_keeps, fed_lines, on_both}
use Rattle.sj_stream.proofs.lines_of.LinesOfTakesPieces.take_piece.Goals as goal

pub feed-requires-clause-goes_on : goal.feed-requires-clause-goes_on
feed-requires-clause-goes_on g c = ap (λ (v : HeldLines). v.ended) c.requires.took.2.1

pub feed-requires-clause-limit : goal.feed-requires-clause-limit
feed-requires-clause-limit g c = omega (arith, ap (λ (v : HeldLines). v.fed) c.requires.took.2.1, c.requires.took.3)

pub print_lines-requires : goal.print_lines-requires
print_lines-requires g c = (c.requires.took.0, map seen (whole_lines c.requires.took.1), c.requires.took.2.0)

pub returns-clause-prints : goal.returns-clause-prints
returns-clause-prints g c = λ K h x. prints_same _ _ _ _ _ (fed_print K _ _ h c.args.piece.now x.1 c.in-Ok.ensures.ok) (c.print_lines.ensures.prints K _ x.0)

pub returns-clause-costs : goal.returns-clause-costs
returns-clause-costs g c = λ K h x. subst (λ (n : ℕ). c.print_lines.new.out.steps.now ≤ raised c.args.out.now.steps.now n) (fed_cost K _ _ h c.args.piece.now x.1 c.in-Ok.ensures.ok) (c.print_lines.ensures.costs K _ x.0)

pub returns-clause-took : goal.returns-clause-took
returns-clause-took g c = λ K h x.
    on_both c.print_lines.result _ _ _ (c.print_lines.ensures.saw K _ x.0) c.print_lines.ensures.drained
    (λ these kept. (subst (g.P.PrintsLines.saw c.print_lines.new.self K) (fed_lines _ _ h c.args.piece.now x.1 c.in-Ok.ensures.ok) these, fed_keeps _ _ _ h c.args.piece.now x.1 c.in-Ok.ensures.ok kept))
