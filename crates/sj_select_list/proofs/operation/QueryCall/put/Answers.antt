use Rattle.std.proofs.Common.{◌≡◌, IfOk, subst}
use Rattle.sj_func.specs.Functions.{ContextValue, query_outcome}
use Rattle.sj_select_list.specs.Operations.{path_with}
use Rattle.sj_select_list.specs.Values.{trace_of}
use Rattle.sj_select_list.proofs.operation.QueryCall.put.Goals as goal

pub returns-clause-does : goal.returns-clause-does
returns-clause-does c =
    let x = path_with c.args.self.now.cursor.value in
    c.put.ensures.does _
    (subst (λ (root : ContextValue). IfOk c.outcome-outcome.result (λ o. o ≡ query_outcome c.args.self.now.clauses x.path.mode root (trace_of x))) c.context.ensures c.outcome-outcome.ensures.outcome)
