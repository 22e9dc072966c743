use Rattle.std.proofs.Common.{◌≡◌, ◌∷◌, [], Vec, Global, map, refl, sym, ap, subst, ◌∙◌}
use Rattle.std.specs.List.{All}
use Rattle.std.proofs.lemmas.List.{append-nil}
use Rattle.sj_bound.specs.View.{item_of, items_of, value_of}
use Rattle.sj_bound.specs.declared.bound.BoundValue.{BoundValue}
use Rattle.sj_bound.specs.declared.bound.BoundItem.{BoundItem}
use Rattle.sj_select_list.specs.Aggregates.{aggregates_in, array_of, object_of}
use Rattle.sj_select_list.specs.Operations.{steps_to}
use Rattle.sj_select_list.specs.Performing.{CanBeGiven}
use Rattle.sj_select_list.specs.Taking.{CanTake, IsReady, aggregate_of}
use Rattle.sj_select_list.specs.declared.aggregate.Aggregate.{Aggregate as AggregateHeld}
use Rattle.sj_select_list.proofs.Aggregating.{can_take_at, collect_step}
use Rattle.sj_select_list.proofs.aggregate.aggregates_of.Goals.{in-Value, in-ArrayAgg+in_ok-push_array-in-ArrayAgg, in-ObjectAgg+in_ok-push_object-in-ObjectAgg}
use Rattle.sj_select_list.proofs.aggregate.aggregates_of.Goals as goal

-- a value whose operations can be carried out
abbrev CanBeFound : BoundValue → Type 0
CanBeFound v = All CanBeGiven (steps_to (value_of v))

pub push_array-requires : goal.push_array-requires
push_array-requires c =
    let can = subst (λ (x : BoundItem). CanTake (item_of x)) (sym c.item-item.is ∙ c.in-ArrayAgg.is) (can_take_at c.args.items.now c.loop-item.item-index c.item-item.result c.requires c.loop-item-test.true) in
    subst CanBeFound (sym c.deref.ensures) can

pub push_object-requires : goal.push_object-requires
push_object-requires c =
    let can = subst (λ (x : BoundItem). CanTake (item_of x)) (sym c.item-item.is ∙ c.in-ObjectAgg.is) (can_take_at c.args.items.now c.loop-item.item-index c.item-item.result c.requires c.loop-item-test.true) in
    record { key = subst CanBeFound (sym c.deref-in-ObjectAgg.ensures) can.0; value = subst CanBeFound (sym c.deref-in-ObjectAgg-2.ensures) can.1 }

pub loop-item-preserved : goal.loop-item-preserved
loop-item-preserved c =
    let inv = c.loop-item.invariant in
    let xs = c.args.items.now in
    let i = c.loop-item.item-index in
    let d = c.item-item.result in
    let old = c.loop-item.all.items in
    let new = c.match-item.all.items in
    let whole = aggregates_in (items_of xs) in
    elim c.match-item.branch [
      | in-Value w ↦
          let same : new ≡ old = ap (λ (v : Vec AggregateHeld Global). v.items) w.all-is in
          record {
            aggregates = collect_step xs i d _ old new [] whole c.loop-item-test.true (sym c.item-item.is ∙ w.in-Value.is) (ap (map aggregate_of) same ∙ sym (append-nil (map aggregate_of old))) refl inv.aggregates;
            ready = subst (All IsReady) (sym same) inv.ready;
          }
      | in-ArrayAgg+in_ok-push_array-in-ArrayAgg w ↦
          let same = ap (λ (v : Vec AggregateHeld Global). v.items) w.all-is in
          record {
            aggregates = collect_step xs i d _ old new (array_of (value_of w.deref.result.now) w.in-ArrayAgg.nulls ∷ []) whole c.loop-item-test.true (sym c.item-item.is ∙ w.in-ArrayAgg.is)
                (ap (map aggregate_of) same ∙ w.in_ok-push_array-in-ArrayAgg.ensures.aggregates) (ap (λ (v : BoundValue). array_of (value_of v) w.in-ArrayAgg.nulls ∷ []) w.deref.ensures) inv.aggregates;
            ready = subst (All IsReady) (sym same) (w.in_ok-push_array-in-ArrayAgg.ensures.ready inv.ready);
          }
      | in-ObjectAgg+in_ok-push_object-in-ObjectAgg w ↦
          let same = ap (λ (v : Vec AggregateHeld Global). v.items) w.all-is in
          let nulls = w.in-ObjectAgg.nulls in
          let unique = w.in-ObjectAgg.unique in
          record {
            aggregates = collect_step xs i d _ old new (object_of (value_of w.deref-in-ObjectAgg.result.now) (value_of w.deref-in-ObjectAgg-2.result.now) nulls unique ∷ []) whole c.loop-item-test.true (sym c.item-item.is ∙ w.in-ObjectAgg.is)
                (ap (map aggregate_of) same ∙ w.in_ok-push_object-in-ObjectAgg.ensures.aggregates)
                (ap (λ (v : BoundValue). object_of (value_of v) (value_of w.deref-in-ObjectAgg-2.result.now) nulls unique ∷ []) w.deref-in-ObjectAgg.ensures
                ∙ ap (λ (v : BoundValue). object_of (value_of w.in-ObjectAgg.key.value) (value_of v) nulls unique ∷ []) w.deref-in-ObjectAgg-2.ensures) inv.aggregates;
            ready = subst (All IsReady) (sym same) (w.in_ok-push_object-in-ObjectAgg.ensures.ready inv.ready);
          }
    ]
