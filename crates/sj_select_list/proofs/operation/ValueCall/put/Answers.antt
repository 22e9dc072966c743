use Rattle.std.proofs.Common.{◌≡◌, IfOk, subst}
use Rattle.sj_func.specs.Functions.{ContextValue, value_outcome}
use Rattle.sj_select_list.specs.Operations.{asked_path}
use Rattle.sj_select_list.specs.Values.{trace_of}
use Rattle.sj_select_list.proofs.operation.ValueCall.put.Goals as goal

pub returns-clause-does : goal.returns-clause-does
returns-clause-does c =
    let x = asked_path c.args.self.now.inquiry in
    c.put.ensures.does _
    (subst (λ (root : ContextValue). IfOk c.outcome-outcome.result (λ o. o ≡ value_outcome c.args.self.now.clauses.now x.path.mode root (trace_of x))) c.context.ensures c.outcome-outcome.ensures.outcome)
