use Rattle.std.proofs.Common.{◌≡◌, ◌≤◌, ◌+◌, ◌∙◌, List, Result, Ok, length, sym, ap, subst, arith}
use Rattle.std.proofs.lemmas.List.{length-map}
use Rattle.sj_base.specs.Count.{raised}
use Rattle.sj_base.specs.declared.state.State.{State}
use Rattle.sj_value.specs.declared.value.SqlValue.{SqlValue}
use Rattle.sj_bound.specs.View.{table_of}
use Rattle.sj_rows.proofs.Extending.{extends_none}
use Rattle.sj_select_list.specs.Line.{line_of}
use Rattle.sj_select_list.specs.Operations.{step_of, steps_to_all}
use Rattle.sj_select_list.specs.Printing.{AppendsList}
use Rattle.sj_select_list.specs.Values.{list_cost}
use Rattle.sj_select.specs.Columns.{columns_of, columns_given, columns_cost}
use Rattle.sj_select.specs.Filling.{column_of}
use Rattle.sj_select.specs.Listing.{FindsEach}
use Rattle.sj_select.proofs.CountedSteps.{spent_then}
use Rattle.sj_select.proofs.EachColumn.{row_is_columns}
use Rattle.sj_select.proofs.Listing.{row_is, row_stops, row_cost_is}
use Rattle.sj_select.proofs.source.print_row.Goals as goal

pub returns-then-each_finds_its_column-clause-prints : goal.returns-then-each_finds_its_column-clause-prints
returns-then-each_finds_its_column-clause-prints c list finds =
    let line = line_of c.args.line in
    let table = table_of c.args.table.now.table.now in
    let row = c.args.table.now.cursor.given in
    let each = c.each_finds_its_column.ensures c.if-each_finds_its_column.true in
    let all : length (steps_to_all list) ≡ length (columns_of table) =
    omega (arith, ap length finds, length-map c.args.operations.now step_of, each.0, c.len.ensures, length-map c.args.table.now.columns.items column_of, ap length c.requires.placed.columns) in
    subst (λ (end : Result (List SqlValue) State). AppendsList end c.print.result c.args.out.now c.print.new.out) (sym (row_is_columns line table list row (subst (FindsEach 0) finds each.1) all)) c.print.ensures.prints

pub returns-in-Some-clause-prints : goal.returns-in-Some-clause-prints
returns-in-Some-clause-prints c list finds =
    let line = line_of c.args.line in
    let table = table_of c.args.table.now.table.now in
    let row = c.args.table.now.cursor.given in
    (row_stops line table list row c.in-Some.state (rw c.in-Some.is at c.in_ok-state.ensures.fills), extends_none _)

pub returns-clause-prints : goal.returns-clause-prints
returns-clause-prints c list finds =
    let line = line_of c.args.line in
    let table = table_of c.args.table.now.table.now in
    let row = c.args.table.now.cursor.given in
    let cs = c.values.result.now in
    let is : columns_given (columns_of table) row ≡ Ok cs = rw c.in_default.is at c.in_ok-state.ensures.fills ∙ ap Ok (sym c.values.ensures.is) in
    subst (λ (end : Result (List SqlValue) State). AppendsList end c.print_list.result c.args.out.now c.print_list.new.out) (sym (row_is line table list row cs is)) (c.print_list.ensures.prints list finds)

pub returns-clause-costs : goal.returns-clause-costs
returns-clause-costs c list finds =
    let line = line_of c.args.line in
    let table = table_of c.args.table.now.table.now in
    let row = c.args.table.now.cursor.given in
    let cs = c.values.result.now in
    let is : columns_given (columns_of table) row ≡ Ok cs = rw c.in_default.is at c.in_ok-state.ensures.fills ∙ ap Ok (sym c.values.ensures.is) in
    let both : c.print_list.new.steps ≤ raised c.args.steps.now (columns_cost (columns_of table) row + list_cost line cs list) =
    spent_then c.args.steps.now (columns_cost (columns_of table) row) c.fill.new.steps (list_cost line cs list) c.print_list.new.steps c.fill.ensures.costs (c.print_list.ensures.costs list finds) in
    omega (arith, both, row_cost_is line table list row cs is)
