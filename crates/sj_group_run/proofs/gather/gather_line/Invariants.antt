use Rattle.std.proofs.Common.{◌≡◌, ◌≤◌}
use Rattle.sj_base.specs.Count.{raised}
use Rattle.sj_bound.specs.View.{bound_of}
use Rattle.sj_table.specs.Series.{size}
use Rattle.sj_batch.specs.Batch.{line_read}
use Rattle.sj_batch.specs.Given.{rows_given, cost_given}
use Rattle.sj_group_run.proofs.Fits.{EachRow, FitsGroup}
use Rattle.sj_group_run.proofs.KeptRows.{SoFar}
use Rattle.sj_group_run.proofs.gather.gather_line.Given as goal

-- nothing is printed before the end; the rows that were gathered so far stand before those that are left, and so with what they may take
abbrev pub invariant-loop-turn : goal.invariant-loop-turn
invariant-loop-turn g l =
    let a = l.fn.gatherer.groups.aggregate in
    let s = bound_of l.fn.rows.bound in
    record {
      so_far : SoFar a (rows_given s (line_read l.line.reading)) l.rows.left l.fn.gatherer.groups l.gatherer.groups;
      aggregate : l.gatherer.groups.aggregate ≡ a;
      fits : EachRow (FitsGroup a) l.rows.left;
      costs : raised l.steps l.rows.due ≤ raised l.fn.steps (cost_given s (line_read l.line.reading));
      bound : l.rows.bound ≡ l.fn.rows.bound;
      out : l.out ≡ l.fn.out;
      page : l.page ≡ l.fn.page;
    }

abbrev pub decreases-loop-turn : goal.decreases-loop-turn
decreases-loop-turn g l = size l.rows.left
