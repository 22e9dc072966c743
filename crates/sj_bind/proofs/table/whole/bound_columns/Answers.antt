use Rattle.std.specs.Vec.Iter.{into_iter_items}
use Rattle.sj_bind.proofs.Listed.{table_step}
use Rattle.sj_bind.proofs.table.whole.bound_columns.Goals as goal

pub loop-column-preserved : goal.loop-column-preserved
loop-column-preserved c =
    let s = table_step c.loop-column.bound c.push.new.self _ c.in-Some.column (into_iter_items c.loop-column.column-iterator) (into_iter_items c.next.new.self) _ _
    c.in-Some.ensures.steps.0 c.in_ok-push.ensures.ok c.in_ok-bound_column.ensures c.loop-column.invariant.fit c.loop-column.invariant.few c.loop-column.invariant.all in
    record { can_next = tt; is_finite = tt; fit = s.0; few = s.1; all = s.2 }
