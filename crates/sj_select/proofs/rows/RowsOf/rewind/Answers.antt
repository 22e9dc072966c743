use Rattle.std.proofs.Common.{◌∙◌, ap}
use Rattle.sj_bound.specs.View.{bound_of}
use Rattle.sj_select_list.specs.Line.{line_of}
use Rattle.sj_select.specs.Rows.{statement_rows, statement_cost}
use Rattle.sj_select.specs.Seen.{Seen}
use Rattle.sj_select.proofs.rows.RowsOf.rewind.Goals as goal

pub invariant_of-self : goal.invariant_of-self
invariant_of-self c = (c.rewind.ensures.ready, c.rewind.ensures.is_for _ c.self.invariant.1)

pub returns-clause-left : goal.returns-clause-left
returns-clause-left c = c.rewind.ensures.left _ c.self.invariant.1 ∙ ap (λ (s : Seen). statement_rows (bound_of s.bound) (line_of c.args.line)) c.self.view_is

pub returns-clause-due : goal.returns-clause-due
returns-clause-due c = c.rewind.ensures.due _ c.self.invariant.1 ∙ ap (λ (s : Seen). statement_cost (bound_of s.bound) (line_of c.args.line)) c.self.view_is
