use Rattle.std.proofs.Common.{◌≡◌}
use Rattle.sj_step.specs.Trace.{count}
use Rattle.sj_plain_path.specs.Looks.{found_value}
use Rattle.sj_cursor.proofs.Looks.{Looking}
use Rattle.sj_cursor.proofs.cursor.Cursor.look_on.Given as goal

abbrev pub invariant-looking : goal.invariant-looking
invariant-looking l = record {
  path : l.self.path ≡ l.fn.self.path;
  vars : l.self.vars ≡ l.fn.self.vars;
  root : l.self.root ≡ l.fn.self.root;
  looking : Looking l.limit l.fn.self.left (found_value l.found) l.self.left l.fn.steps l.steps;
}

abbrev pub decreases-looking : goal.decreases-looking
decreases-looking l = count l.self.left
