use Rattle.std.proofs.Common.{◌≤◌, ℕ, ap, subst, map}
use Rattle.sj_base.specs.Count.{raised}
use Rattle.sj_rows.specs.Lines.{whole_lines, seen}
use Rattle.sj_rows.specs.HeldLines.{HeldLines}
use Rattle.sj_page.proofs.Printing.{prints_same}
use Rattle.sj_stream.proofs.Feeding.{end_print, end_cost, end_lines, on_ok}
use Rattle.sj_stream.proofs.lines_of.LinesOfTakesPieces.finish.Goals as goal

pub finish-requires : goal.finish-requires
finish-requires g c = ap (λ (v : HeldLines). v.ended) c.requires.2.1

pub print_lines-requires : goal.print_lines-requires
print_lines-requires g c = (c.requires.0, map seen (whole_lines c.requires.1), c.requires.2.0)

pub returns-clause-prints : goal.returns-clause-prints
returns-clause-prints g c = λ K h x. prints_same _ _ _ _ _ (end_print K _ _ h x.1 c.finish.ensures.ended) (c.print_lines.ensures.prints K _ x.0)

pub returns-clause-costs : goal.returns-clause-costs
returns-clause-costs g c = λ K h x. subst (λ (n : ℕ). c.print_lines.new.out.steps.now ≤ raised c.args.out.now.steps.now n) (end_cost K _ _ h x.1 c.finish.ensures.ended) (c.print_lines.ensures.costs K _ x.0)

pub returns-clause-ended : goal.returns-clause-ended
returns-clause-ended g c = λ K h x.
    on_ok c.print_lines.result _ _ (c.print_lines.ensures.saw K _ x.0) (subst (g.P.PrintsLines.saw c.print_lines.new.self K) (end_lines _ _ h x.1 c.finish.ensures.ended))
