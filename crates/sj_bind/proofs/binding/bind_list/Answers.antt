use Rattle.std.proofs.Common.{ℕ, List, ap, ◌∙◌}
use Rattle.std.specs.Vec.Iter.{into_iter_items}
use Rattle.sj_sql_tree.specs.View.{value_of}
use Rattle.sj_bind.specs.Meaning.{bound_value}
use Rattle.sj_bound.specs.Bound as b
use Rattle.sj_bind.proofs.Listed.{value_step}
use Rattle.sj_bind.proofs.binding.bind_list.Goals as goal

pub loop-value-preserved : goal.loop-value-preserved
loop-value-preserved c =
    let s = value_step c.loop-value.items c.push.new.self _ c.in-Some.value (into_iter_items c.loop-value.value-iterator) (into_iter_items c.next.new.self) _ _
    c.in-Some.ensures.steps.0 c.in_ok-push.ensures.ok (ap b.Single (c.in_ok-bind_value.ensures ∙ ap (λ (names : List (List ℕ)). bound_value names (value_of c.in-Some.value)) c.new-no_columns.ensures)) c.loop-value.invariant.fit c.loop-value.invariant.few c.loop-value.invariant.all in
    record { can_next = tt; is_finite = tt; fit = s.0; few = s.1; all = s.2 }
