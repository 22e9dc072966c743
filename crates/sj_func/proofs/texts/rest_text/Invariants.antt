use Rattle.std.proofs.Common.{◌≡◌}
use Rattle.sj_step.specs.Trace.{count}
use Rattle.sj_rows.specs.RowText.{Extends}
use Rattle.sj_func.proofs.Wrapping.{Passing}
use Rattle.sj_func.proofs.texts.rest_text.Given as goal

abbrev pub invariant-texts : goal.invariant-texts
invariant-texts l = record {
  path : l.cursor.path ≡ l.fn.cursor.path;
  vars : l.cursor.vars ≡ l.fn.cursor.vars;
  extends : Extends l.fn.text l.text;
  passing : Passing l.fn.cursor.left l.fn.text l.fn.steps l.some l.cursor.left l.text l.steps;
}

abbrev pub decreases-texts : goal.decreases-texts
decreases-texts l = count l.cursor.left
