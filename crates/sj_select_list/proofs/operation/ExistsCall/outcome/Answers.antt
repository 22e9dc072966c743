use Rattle.sj_func.specs.Functions.{IsPrinted}
use Rattle.std.proofs.Common.{sym, subst}
use Rattle.sj_select_list.proofs.Printed.{exists_printed}
use Rattle.sj_select_list.proofs.operation.ExistsCall.outcome.Goals as goal

pub returns-clause-printed : goal.returns-clause-printed
returns-clause-printed c = subst IsPrinted (sym c.json_exists.ensures.outcome) (exists_printed _ _ _ _)
