use Rattle.std.proofs.Common.{◌∙◌, sym, ap}
use Rattle.std.proofs.lemmas.Result.{err_from_is_err_and}
use Rattle.sj_func.specs.declared.context.Outcome.TheVariants.{Value}
use Rattle.sj_select_list.specs.Line.{line_of}
use Rattle.sj_select_list.proofs.Aggregating.{key_raises, value_raises, member_taken}
use Rattle.sj_select_list.proofs.aggregate.ObjectCall.take.Goals as goal

pub returns-in_err-key-clause-takes : goal.returns-in_err-key-clause-takes
returns-in_err-key-clause-takes c rows h =
    let p = err_from_is_err_and c.from_residual.result c.from_residual.ensures.1 in
    rw (p.1, p.2) (key_raises (line_of c.args.line) rows c.args.columns.now c.args.self.now _ c.in_err-key.ensures.outcome h)

pub returns-in_err-value-clause-takes : goal.returns-in_err-value-clause-takes
returns-in_err-value-clause-takes c rows h =
    let p = err_from_is_err_and c.from_residual-in_err-value.result c.from_residual-in_err-value.ensures.1 in
    rw (p.1, p.2) (value_raises (line_of c.args.line) rows c.args.columns.now c.args.self.now _ _ c.in_ok-key.ensures.outcome c.in_err-value.ensures.outcome h)

pub returns-clause-takes : goal.returns-clause-takes
returns-clause-takes c rows =
    member_taken (line_of c.args.line) rows c.args.columns.now _ _ c.args.self.now _ c.add.result c.requires.ready c.lend.ensures.value c.lend-2.ensures.value
    (c.in_ok-key.ensures.outcome ∙ ap Value (sym c.value.ensures)) (c.in_ok-value.ensures.outcome ∙ ap Value (sym c.value-2.ensures)) c.add.ensures.stands c.add.ensures.refusal
