use Rattle.std.proofs.Common.{◌≡◌, ◌≤◌, ◌+◌, ◌++◌, ◌∷◌, [], ◌∙◌, Ok, map, sym, ap, arith}
use Rattle.sj_base.specs.Count.{raised}
use Rattle.sj_bound.specs.View.{table_of}
use Rattle.sj_select_list.specs.Aggregates.{inputs_cost}
use Rattle.sj_select_list.specs.Line.{line_of}
use Rattle.sj_select_list.specs.Taking.{aggregate_of}
use Rattle.sj_select.specs.Columns.{columns_of, columns_given, columns_cost}
use Rattle.sj_select.proofs.CountedSteps.{spent_then}
use Rattle.sj_select.proofs.TakingRows.{takes_row, taken_cost_is}
use Rattle.sj_select.proofs.source.take_row.Goals as goal

pub returns-clause-takes : goal.returns-clause-takes
returns-clause-takes c before h =
    let table = table_of c.args.table.now.table.now in
    let row = c.args.table.now.cursor.given in
    let cs = c.values.result.now in
    let is : columns_given (columns_of table) row ≡ Ok cs = rw c.in_default.is at c.in_ok-state.ensures.fills ∙ ap Ok (sym c.values.ensures.is) in
    takes_row (line_of c.args.line) table row before c.args.aggregates.now _ cs c.take_all.result is (c.take_all.ensures.takes before h)

pub returns-clause-costs : goal.returns-clause-costs
returns-clause-costs c before h =
    let line = line_of c.args.line in
    let table = table_of c.args.table.now.table.now in
    let row = c.args.table.now.cursor.given in
    let cs = c.values.result.now in
    let list = map aggregate_of c.args.aggregates.now in
    let is : columns_given (columns_of table) row ≡ Ok cs = rw c.in_default.is at c.in_ok-state.ensures.fills ∙ ap Ok (sym c.values.ensures.is) in
    let both : c.take_all.new.steps ≤ raised c.args.steps.now (columns_cost (columns_of table) row + inputs_cost line list (before ++ cs ∷ []) cs) =
    spent_then c.args.steps.now (columns_cost (columns_of table) row) c.fill.new.steps (inputs_cost line list (before ++ cs ∷ []) cs) c.take_all.new.steps c.fill.ensures.costs (c.take_all.ensures.costs before h) in
    omega (arith, both, taken_cost_is line table list before row cs is)
