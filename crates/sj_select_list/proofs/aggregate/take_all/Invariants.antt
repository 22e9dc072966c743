use Rattle.std.proofs.Common.{◌≡◌, ◌≤◌, ◌++◌, ◌∷◌, [], List, Err, map, drop}
use Rattle.std.specs.List.{All, AllWithin}
use Rattle.sj_base.specs.Count.{raised}
use Rattle.sj_base.specs.declared.state.State.{State}
use Rattle.sj_value.specs.Values.{IsPrintable}
use Rattle.sj_value.specs.declared.value.SqlValue.{SqlValue}
use Rattle.sj_select_list.specs.Aggregates.{aggregate, aggregates, input_cost, inputs_cost}
use Rattle.sj_select_list.specs.Line.{line_of}
use Rattle.sj_select_list.specs.Taking.{aggregate_of, IsReady, HasTaken}
use Rattle.sj_select_list.specs.Values.{each_value, each_cost}
use Rattle.sj_select_list.proofs.aggregate.take_all.Given as goal

-- those that were gone over have taken the row, and the state and the steps of all are those of the ones that are left
abbrev pub invariant-loop-aggregate : goal.invariant-loop-aggregate
invariant-loop-aggregate l = record {
  calls : map aggregate_of l.all ≡ map aggregate_of l.fn.all;
  ready : All IsReady l.all;
  left : drop l.aggregate-index l.all ≡ drop l.aggregate-index l.fn.all;
  printable : All IsPrintable l.stack.values.items;
  taken : (rows : List (List SqlValue)) → All (HasTaken (line_of l.line) rows) l.fn.all → AllWithin (HasTaken (line_of l.line) (rows ++ l.columns ∷ [])) l.all 0 l.aggregate-index;
  raises : (rows : List (List SqlValue)) → All (HasTaken (line_of l.line) rows) l.fn.all → (s : State)
      → each_value (aggregate (line_of l.line) (rows ++ l.columns ∷ [])) (drop l.aggregate-index (map aggregate_of l.fn.all)) ≡ Err s
      → aggregates (line_of l.line) (map aggregate_of l.fn.all) (rows ++ l.columns ∷ []) ≡ Err s;
  costs : (rows : List (List SqlValue)) → All (HasTaken (line_of l.line) rows) l.fn.all
      → raised l.steps (each_cost (aggregate (line_of l.line) (rows ++ l.columns ∷ [])) (input_cost (line_of l.line) l.columns) (drop l.aggregate-index (map aggregate_of l.fn.all)))
      ≤ raised l.fn.steps (inputs_cost (line_of l.line) (map aggregate_of l.fn.all) (rows ++ l.columns ∷ []) l.columns);
}
