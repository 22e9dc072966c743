use Rattle.std.proofs.Common.{◌∙◌, sym, ap}
use Rattle.std.proofs.lemmas.Result.{err_from_is_err_and}
use Rattle.sj_func.specs.declared.context.Outcome.TheVariants.{Value}
use Rattle.sj_select_list.specs.Line.{line_of}
use Rattle.sj_select_list.proofs.Aggregating.{array_taken, array_raises}
use Rattle.sj_select_list.proofs.aggregate.ArrayCall.take.Goals as goal

pub returns-in_err-value-clause-takes : goal.returns-in_err-value-clause-takes
returns-in_err-value-clause-takes c rows h =
    let p = err_from_is_err_and c.from_residual.result c.from_residual.ensures.1 in
    rw (p.1, p.2) (array_raises (line_of c.args.line) rows c.args.columns.now c.args.self.now _ c.in_err-value.ensures.outcome h)

pub returns-clause-takes : goal.returns-clause-takes
returns-clause-takes c rows =
    array_taken (line_of c.args.line) rows c.args.columns.now _ c.args.self.now _ c.lend.ensures.value (c.in_ok-value.ensures.outcome ∙ ap Value (sym c.value.ensures)) c.in_ok-add.ensures.stands
