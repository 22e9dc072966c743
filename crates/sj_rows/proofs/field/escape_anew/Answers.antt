use Rattle.std.proofs.Common.{drop, sym, take-append-drop}
use Rattle.sj_text.proofs.Appends.{at_error}
use Rattle.sj_rows.proofs.field.escape_anew.Goals as goal

pub returns-in_err-push-clause-err : goal.returns-in_err-push-clause-err
returns-in_err-push-clause-err c =
    at_error c.from_residual.result (record { behind = drop c.args.from c.args.out.now; grown = sym (take-append-drop c.args.from c.args.out.now) })
