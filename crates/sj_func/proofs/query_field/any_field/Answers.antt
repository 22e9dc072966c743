use Rattle.std.proofs.Common.{[], sym, append-nil}
use Rattle.sj_func.proofs.QueryFields.{appends_err, extends_by}
use Rattle.sj_func.proofs.query_field.any_field.Goals as goal

pub returns-in_err-outcome-clause-appends : goal.returns-in_err-outcome-clause-appends
returns-in_err-outcome-clause-appends c = appends_err _ c.from_residual.result c.args.out.now c.args.out.now c.from_residual.ensures.0 (extends_by c.args.out.now c.args.out.now [] (sym (append-nil c.args.out.now)))
