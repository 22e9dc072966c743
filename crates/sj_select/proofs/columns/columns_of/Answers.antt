use Rattle.sj_select.proofs.MadeColumns.{made_more}
use Rattle.sj_select.proofs.columns.columns_of.Goals as goal

pub loop-column-preserved : goal.loop-column-preserved
loop-column-preserved c =
    made_more c.args.table.now.vars c.loop-column.columns.items c.push_column.new.columns.items c.column-item.result c.as_slice-column-items.result.now c.loop-column.column-index _
    c.loop-column-test.true c.column-item.is c.in_ok-push_column.ensures c.loop-column.invariant
