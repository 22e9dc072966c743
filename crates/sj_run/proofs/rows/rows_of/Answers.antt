use Rattle.std.proofs.Common.{rules, ◌<◌, arith, length}
use Rattle.sj_run.proofs.Batches.{more_rows}
use Rattle.sj_run.proofs.rows.rows_of.Goals as goal

pub loop-statement-preserved : goal.loop-statement-preserved
loop-statement-preserved c =
    let within : c.loop-statement.statement-index < length c.args.statements.now = omega arith in
    more_rows _ _ c.statement-item.result _ _ c.in_ok-rows.rows within c.loop-statement.invariant (search rules) c.in_ok-push.ensures.ok
