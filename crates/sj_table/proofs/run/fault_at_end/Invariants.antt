use Rattle.std.proofs.Common.{◌≡◌}
use Rattle.sj_step.specs.Trace.{count}
use Rattle.sj_table.proofs.Entries.{Running}
use Rattle.sj_table.proofs.run.fault_at_end.Given as goal

abbrev pub invariant-items : goal.invariant-items
invariant-items l = record {
  path : l.cursor.path ≡ l.fn.cursor.path;
  vars : l.cursor.vars ≡ l.fn.cursor.vars;
  running : Running l.fn.cursor.left l.fn.steps l.cursor.left l.steps;
}

abbrev pub decreases-items : goal.decreases-items
decreases-items l = count l.cursor.left
