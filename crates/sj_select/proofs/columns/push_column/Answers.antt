use Rattle.std.proofs.Common.{rules, sym, ap}
use Rattle.sj_bound.specs.View as bound
use Rattle.sj_bound.specs.declared.bound.BoundColumn.{BoundColumn}
use Rattle.sj_select.specs.Columns.{with_variables}
use Rattle.sj_select.proofs.MadeColumns.{pushed_is}
use Rattle.sj_select.proofs.columns.push_column.Goals as goal

pub returns-in-Ordinality : goal.returns-in-Ordinality
returns-in-Ordinality c = pushed_is _ _ _ _ _ c.push.ensures.ok (ap (λ (x : BoundColumn). with_variables c.args.vars.now (bound.column_of x)) (sym c.in-Ordinality.is))

pub returns-in_ok-inquiry-in-Regular : goal.returns-in_ok-inquiry-in-Regular
returns-in_ok-inquiry-in-Regular c = pushed_is _ _ _ _ _ c.push-in-Regular.ensures.ok (search rules)

pub returns-in_ok-cursor-in-Formatted : goal.returns-in_ok-cursor-in-Formatted
returns-in_ok-cursor-in-Formatted c = pushed_is _ _ _ _ _ c.push-in-Formatted.ensures.ok (search rules)

pub returns-in_ok-inquiry-in-Exists : goal.returns-in_ok-inquiry-in-Exists
returns-in_ok-inquiry-in-Exists c = pushed_is _ _ _ _ _ c.push-in-Exists.ensures.ok (search rules)
