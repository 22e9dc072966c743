use Rattle.std.proofs.Common.{ap, ◌∙◌}
use Rattle.sj_func.specs.Functions.{exists_outcome}
use Rattle.sj_select_list.specs.Operations.{asked_path}
use Rattle.sj_select_list.specs.Values.{trace_of}
use Rattle.sj_select_list.proofs.operation.ExistsCall.put.Goals as goal

pub returns-clause-does : goal.returns-clause-does
returns-clause-does c =
    let x = asked_path c.args.self.now.inquiry in
    c.put.ensures.does _ (c.outcome-outcome.ensures.outcome ∙ ap (λ root. exists_outcome c.args.self.now.on_error x.path.mode root (trace_of x)) c.context.ensures)
