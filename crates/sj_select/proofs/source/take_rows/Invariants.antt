use Rattle.std.proofs.Common.{◌≡◌, ◌+◌, [], map}
use Rattle.std.specs.List.{All}
use Rattle.sj_base.specs.Count.{raised}
use Rattle.sj_value.specs.Values.{IsPrintable}
use Rattle.sj_table.specs.Series.{size}
use Rattle.sj_bound.specs.View.{table_of}
use Rattle.sj_select_list.specs.Line.{line_of}
use Rattle.sj_select_list.specs.Taking.{IsReady, aggregate_of}
use Rattle.sj_select.specs.Rows.{aggregated, aggregated_cost}
use Rattle.sj_select.specs.Tables.{IsPlaced, plan_left, plan_due}
use Rattle.sj_select.proofs.TakingRows.{HasCome}
use Rattle.sj_select.proofs.source.take_rows.Given as goal

-- the aggregates over the rows so far and those that are left are all
abbrev pub invariant-rows : goal.invariant-rows
invariant-rows l = record {
  calls : map aggregate_of l.aggregates ≡ map aggregate_of l.fn.aggregates;
  ready : All IsReady l.aggregates;
  printable : All IsPrintable l.stack.values.items;
  table : l.table.table ≡ l.fn.table.table;
  placed : IsPlaced l.table;
  come : HasCome (line_of l.line) (table_of l.fn.table.table.now) (map aggregate_of l.fn.aggregates) (aggregated (line_of l.line) (table_of l.fn.table.table.now) (map aggregate_of l.fn.aggregates) [] (plan_left l.fn.table))
      (raised l.fn.steps (plan_due l.fn.table + aggregated_cost (line_of l.line) (table_of l.fn.table.table.now) (map aggregate_of l.fn.aggregates) [] (plan_left l.fn.table)))
      l.aggregates (plan_left l.table) (plan_due l.table) l.steps;
}

abbrev pub decreases-rows : goal.decreases-rows
decreases-rows l = size (plan_left l.table)
