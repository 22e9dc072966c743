use Rattle.std.proofs.Common.{◌≡◌, List, map, drop}
use Rattle.std.specs.List.{All}
use Rattle.sj_value.specs.Values.{IsPrintable}
use Rattle.sj_value.specs.declared.value.SqlValue.{SqlValue}
use Rattle.sj_select_list.specs.Aggregates.{aggregate, aggregates}
use Rattle.sj_select_list.specs.Line.{Line}
use Rattle.sj_select_list.specs.Taking.{aggregate_of, IsReady, HasTaken}
use Rattle.sj_select_list.specs.Values.{each_value}
use Rattle.sj_select_list.proofs.GatheredOutcomes.{behind}
use Rattle.sj_select_list.proofs.aggregate.finish_all.Given as goal

-- the values so far and those of the aggregates that are left are all
abbrev pub invariant-loop-aggregate : goal.invariant-loop-aggregate
invariant-loop-aggregate l = record {
  calls : map aggregate_of l.all ≡ map aggregate_of l.fn.all;
  ready : All IsReady l.all;
  left : drop l.aggregate-index l.all ≡ drop l.aggregate-index l.fn.all;
  printable : All IsPrintable l.values.items;
  values : (line : Line) (rows : List (List SqlValue)) → All (HasTaken line rows) l.fn.all
      → behind l.values.items (each_value (aggregate line rows) (drop l.aggregate-index (map aggregate_of l.fn.all))) ≡ aggregates line (map aggregate_of l.fn.all) rows;
}
