use Rattle.std.proofs.Common.{◌≡◌, ℕ, ◌+◌, ◌∙◌, [], IfOk, Option, Box, Global, nat_eq, map, sym, ap, subst}
use Rattle.sj_table.specs.Takes.{Spends}
use Rattle.sj_bound.specs.View.{table_of}
use Rattle.sj_select_list.specs.Aggregates.{aggregates_in}
use Rattle.sj_select_list.specs.Line.{line_of}
use Rattle.sj_select_list.specs.Operations.{steps_of}
use Rattle.sj_select_list.specs.Taking.{aggregate_of}
use Rattle.sj_select_list.specs.Values.{values_in}
use Rattle.sj_select.specs.Rows.{StatementRows, aggregated, aggregated_cost, over_rows, over_cost}
use Rattle.sj_select.specs.Sources.{FindsNext, left_beside, due_beside, due_behind}
use Rattle.sj_select.specs.Tables.{plan_left, plan_due}
use Rattle.sj_select.specs.declared.table.TableRows.{TableRows}
use Rattle.sj_select.proofs.Sourced.{over_aggregates, over_aggregates_cost}
use Rattle.sj_select.proofs.source.RowSource.find.Goals as goal

pub returns-in_default-clause-finds : goal.returns-in_default-clause-finds
returns-in_default-clause-finds c s is =
    let line = line_of c.args.line in
    let left = left_beside c.args.self.now.table s.items line in
    let finds = ap steps_of c.as_mut_slice-operations.ensures.value ∙ is.finds in
    subst (λ (t : Option (Box TableRows Global)). IfOk c.find_alone.result (λ found. FindsNext (left_beside t s.items line) found c.find_alone.new.stack.values.items left)) (sym c.in_default.is)
    (c.find_alone.ensures.finds (values_in s.items) left finds)

pub returns-in_default-clause-costs : goal.returns-in_default-clause-costs
returns-in_default-clause-costs c s is =
    let line = line_of c.args.line in
    let due = due_beside c.args.self.now.table s.items line in
    let finds = ap steps_of c.as_mut_slice-operations.ensures.value ∙ is.finds in
    subst (λ (t : Option (Box TableRows Global)). Spends (due_beside t s.items line) (due_behind c.find_alone.result due) c.args.steps.now c.find_alone.new.steps) (sym c.in_default.is)
    (c.find_alone.ensures.costs (values_in s.items) due finds)

pub returns-else-is_empty-clause-finds : goal.returns-else-is_empty-clause-finds
returns-else-is_empty-clause-finds c s is =
    let line = line_of c.args.line in
    let rows = c.deref_mut-else-is_empty.result.now in
    let table = table_of rows.table.now in
    let all = aggregates_in s.items in
    let left = plan_left rows in
    let later = over_rows line (table_of c.find_aggregated.new.table.table.now) (values_in s.items) all (plan_left c.find_aggregated.new.table) in
    let held : map aggregate_of c.as_mut_slice-aggregates.result.now ≡ all = ap (map aggregate_of) c.as_mut_slice-aggregates.ensures.value ∙ is.takes in
    let whole : aggregated line table (map aggregate_of c.as_mut_slice-aggregates.result.now) [] left ≡ left_beside c.args.self.now.table s.items line =
    ap (λ l. aggregated line table l [] left) held ∙ sym (over_aggregates line table (values_in s.items) left c.as_mut_slice-aggregates.result.now all held (ap (λ (n : ℕ). nat_eq n 0) c.as_mut_slice-aggregates.ensures.len ∙ sym c.is_empty.ensures ∙ c.if-is_empty.false))
    ∙ ap (λ (t : TableRows). over_rows line (table_of t.table.now) (values_in s.items) all (plan_left t)) c.deref_mut-else-is_empty.ensures.value
    ∙ ap (λ (t : Option (Box TableRows Global)). left_beside t s.items line) (sym c.in-Some.is) in
    subst (λ (l : StatementRows). IfOk c.find_aggregated.result (λ found. FindsNext l found c.find_aggregated.new.stack.values.items later)) whole (c.find_aggregated.ensures.finds later)

pub returns-else-is_empty-clause-costs : goal.returns-else-is_empty-clause-costs
returns-else-is_empty-clause-costs c s is =
    let line = line_of c.args.line in
    let rows = c.deref_mut-else-is_empty.result.now in
    let table = table_of rows.table.now in
    let all = aggregates_in s.items in
    let left = plan_left rows in
    let later = plan_due c.find_aggregated.new.table + over_cost line (table_of c.find_aggregated.new.table.table.now) (values_in s.items) all (plan_left c.find_aggregated.new.table) in
    let held : map aggregate_of c.as_mut_slice-aggregates.result.now ≡ all = ap (map aggregate_of) c.as_mut_slice-aggregates.ensures.value ∙ is.takes in
    let whole : plan_due rows + aggregated_cost line table (map aggregate_of c.as_mut_slice-aggregates.result.now) [] left ≡ due_beside c.args.self.now.table s.items line =
    ap (λ l. plan_due rows + aggregated_cost line table l [] left) held
    ∙ ap (λ (n : ℕ). plan_due rows + n) (sym (over_aggregates_cost line table (values_in s.items) left c.as_mut_slice-aggregates.result.now all held (ap (λ (n : ℕ). nat_eq n 0) c.as_mut_slice-aggregates.ensures.len ∙ sym c.is_empty.ensures ∙ c.if-is_empty.false)))
    ∙ ap (λ (t : TableRows). plan_due t + over_cost line (table_of t.table.now) (values_in s.items) all (plan_left t)) c.deref_mut-else-is_empty.ensures.value
    ∙ ap (λ (t : Option (Box TableRows Global)). due_beside t s.items line) (sym c.in-Some.is) in
    subst (λ (n : ℕ). Spends n (due_behind c.find_aggregated.result later) c.args.steps.now c.find_aggregated.new.steps) whole (c.find_aggregated.ensures.costs later)
