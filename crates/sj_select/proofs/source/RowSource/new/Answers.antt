use Rattle.std.proofs.Common.{List, sym, subst}
use Rattle.std.specs.List.{All}
use Rattle.std.proofs.lemmas.List.Elements.{All-nil}
use Rattle.sj_value.specs.Values.{IsPrintable}
use Rattle.sj_bound.specs.View.{bound_of, items_of}
use Rattle.sj_bound.specs.declared.bound.BoundItem.{BoundItem}
use Rattle.sj_select_list.specs.Performing.{CanBeGiven}
use Rattle.sj_select_list.specs.Taking.{CanTake}
use Rattle.sj_select_list.proofs.SoundOperations.{sound_steps, sound_items}
use Rattle.sj_select.proofs.source.RowSource.new.Goals as goal

pub aggregates_of-requires : goal.aggregates_of-requires
aggregates_of-requires c = subst (λ (l : List BoundItem). All CanTake (items_of l)) (sym c.as_slice.ensures) (sound_items (bound_of c.args.bound.now) c.requires)

pub returns-clause-ready : goal.returns-clause-ready
returns-clause-ready c = record {
  given = subst (All CanBeGiven) (sym c.in_ok-operations.ensures) (sound_steps (bound_of c.args.bound.now) c.requires);
  aggregates = c.in_ok-aggregates.ensures.ready;
  table = c.in_ok-table.ensures.placed;
  printable = subst (All IsPrintable) (sym c.new.ensures.values) (All-nil IsPrintable);
}
