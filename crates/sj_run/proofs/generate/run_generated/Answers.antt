use Rattle.std.proofs.Common.{map}
use Rattle.sj_bound.specs.View.{bound_of}
use Rattle.sj_run.proofs.Ending.{streamed_not_before}
use Rattle.sj_run.proofs.Telling.{over_lines, lines_stopped}
use Rattle.sj_run.proofs.generate.run_generated.Goals as goal

pub returns-in_default : goal.returns-in_default
returns-in_default g c = record {
  ran = λ left faults.
      lines_stopped c.args.number c.args.name.now _ _ left faults _ _ c.stream.new.out _ (map bound_of c.in-Ok.statements.items) c.stream.new.input c.stream.new.page c.stream.result c.requires c.in-Ok.ensures.file
      (over_lines c.args.number (map bound_of c.in-Ok.statements.items) c.new-lines.result c.stream.new.input _ _ c.new-bytes.result c.stream.new.out c.stream.new.page c.stream.result c.new-lines.ensures c.new-bytes.ensures c.stream.ensures)
      c.in_default.not-Done;
  untouched = λ before. absurd (streamed_not_before _ _ _ _ _ c.stream.result c.stream.ensures before);
}
