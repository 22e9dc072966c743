use Rattle.std.proofs.Common.{[], map, sym, ap, ◌∙◌}
use Rattle.sj_bound.specs.View.{table_of}
use Rattle.sj_select_list.specs.Line.{line_of}
use Rattle.sj_select_list.specs.Taking.{aggregate_of}
use Rattle.sj_select.specs.Rows.{one_row, aggregated}
use Rattle.sj_select.specs.Sources.{HasTakenRows}
use Rattle.sj_select.specs.Tables.{plan_left}
use Rattle.sj_select.proofs.source.gather_aggregates.Goals as goal

pub returns-clause-finds : goal.returns-clause-finds
returns-clause-finds c =
    let line = line_of c.args.line in
    let table = table_of c.args.table.now.table.now in
    let left = plan_left c.args.table.now in
    let took : HasTakenRows (aggregated line table (map aggregate_of c.begin_all.new.all) [] left) line c.take_rows.new.aggregates = rw c.in_default.is at c.in_ok-state.ensures.takes in
    ap (λ l. aggregated line table l [] left) (sym c.begin_all.ensures.calls) ∙ took.left ∙ ap one_row (c.in_ok-finish_all.ensures.values line took.rows took.taken)
