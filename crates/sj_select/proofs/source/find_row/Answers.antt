use Rattle.std.proofs.Common.{◌≡◌, ◌≤◌, ◌+◌, ◌∙◌, List, Option, Result, Ok, IfOk, sym, ap, subst, arith}
use Rattle.sj_base.specs.Count.{raised}
use Rattle.sj_base.specs.declared.state.State.{State}
use Rattle.sj_value.specs.declared.value.SqlValue.{SqlValue}
use Rattle.sj_bound.specs.View.{table_of}
use Rattle.sj_select_list.specs.Gathers.{Gathers}
use Rattle.sj_select_list.specs.Line.{line_of}
use Rattle.sj_select_list.specs.Values.{list_cost}
use Rattle.sj_select.specs.Columns.{columns_of, columns_given, columns_cost}
use Rattle.sj_select.proofs.CountedSteps.{spent_then}
use Rattle.sj_select.proofs.Listing.{row_is, row_stops, row_cost_is}
use Rattle.sj_select.proofs.source.find_row.Goals as goal

pub returns-in-Some-clause-finds : goal.returns-in-Some-clause-finds
returns-in-Some-clause-finds c list finds =
    let line = line_of c.args.line in
    let table = table_of c.args.table.now.table.now in
    let row = c.args.table.now.cursor.given in
    row_stops line table list row c.in-Some.state (rw c.in-Some.is at c.in_ok-state.ensures.fills)

pub returns-clause-finds : goal.returns-clause-finds
returns-clause-finds c list finds =
    let line = line_of c.args.line in
    let table = table_of c.args.table.now.table.now in
    let row = c.args.table.now.cursor.given in
    let cs = c.values.result.now in
    let is : columns_given (columns_of table) row ≡ Ok cs = rw c.in_default.is at c.in_ok-state.ensures.fills ∙ ap Ok (sym c.values.ensures.is) in
    subst (λ (end : Result (List SqlValue) State). IfOk c.find_list.result (λ (raised : Option State). Gathers end raised c.find_list.new.stack.values.items)) (sym (row_is line table list row cs is)) (c.find_list.ensures.finds list finds)

pub returns-clause-costs : goal.returns-clause-costs
returns-clause-costs c list finds =
    let line = line_of c.args.line in
    let table = table_of c.args.table.now.table.now in
    let row = c.args.table.now.cursor.given in
    let cs = c.values.result.now in
    let is : columns_given (columns_of table) row ≡ Ok cs = rw c.in_default.is at c.in_ok-state.ensures.fills ∙ ap Ok (sym c.values.ensures.is) in
    let both : c.find_list.new.steps ≤ raised c.args.steps.now (columns_cost (columns_of table) row + list_cost line cs list) =
    spent_then c.args.steps.now (columns_cost (columns_of table) row) c.fill.new.steps (list_cost line cs list) c.find_list.new.steps c.fill.ensures.costs (c.find_list.ensures.costs list finds) in
    omega (arith, both, row_cost_is line table list row cs is)
