use Rattle.std.specs.Vec.Iter.{into_iter_items}
use Rattle.sj_bind.specs.Names.{names_of}
use Rattle.sj_bind.proofs.Listed.{item_step}
use Rattle.sj_bind.proofs.binding.bind_items.Goals as goal

pub loop-item-preserved : goal.loop-item-preserved
loop-item-preserved c =
    let s = item_step (names_of c.args.columns.now) c.loop-item.bound c.push.new.self _ c.in-Some.item (into_iter_items c.loop-item.item-iterator) (into_iter_items c.next.new.self) _ _
    c.in-Some.ensures.steps.0 c.in_ok-push.ensures.ok c.in_ok-bind_item.ensures c.loop-item.invariant.fit c.loop-item.invariant.few c.loop-item.invariant.all in
    record { can_next = tt; is_finite = tt; fit = s.0; few = s.1; all = s.2 }
