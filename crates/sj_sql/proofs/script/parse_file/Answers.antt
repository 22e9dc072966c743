use Rattle.std.proofs.Common.{suc, length, Some, ap, ◌∙◌}
use Rattle.sj_sql.proofs.Scripts.{nothing_read, statement_read, all_read, refused_read, file_so}
use Rattle.sj_sql.proofs.script.parse_file.Goals as goal

pub loop-statement-init : goal.loop-statement-init
loop-statement-init c = rw c.new-statements.ensures (nothing_read c.args.bytes.now)

pub loop-statement-preserved : goal.loop-statement-preserved
loop-statement-preserved c =
    let n = c.in-Ok-Statement in
    rw c.in_ok-push-in-Ok-Statement.ensures (statement_read c.args.bytes.now c.loop-statement.rest.now c.loop-statement.statements n.field-0 n.statement n.behind n.field-0-is n.ensures c.loop-statement.invariant)

pub returns-in-Ok-End : goal.returns-in-Ok-End
returns-in-Ok-End c =
    let n = c.in-Ok-End in
    all_read c.args.bytes.now c.loop-statement.rest.now c.loop-statement.statements n.field-0 n.field-0-is n.ensures c.loop-statement.invariant

pub returns-in-Err-For : goal.returns-in-Err-For
returns-in-Err-For c =
    let n = c.in-Err-For in
    file_so c.args.bytes.now _ _ _ _ c.refused.ensures.statements (c.refused.ensures.fault ∙ ap (λ k. Some (suc (length c.loop-statement.statements), k)) n.kind-is)
    (refused_read c.args.bytes.now c.loop-statement.rest.now c.loop-statement.statements n.field-0 n.kind n.field-0-is n.ensures c.loop-statement.invariant)
