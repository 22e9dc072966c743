use Rattle.std.proofs.Common.{◌≡◌, ℕ, ◌+◌, ◌∙◌, [], IfOk, Option, Box, Global, nat_eq, map, sym, ap, subst}
use Rattle.sj_table.specs.Takes.{Spends}
use Rattle.sj_bound.specs.View.{table_of}
use Rattle.sj_select_list.specs.Aggregates.{aggregates_in}
use Rattle.sj_select_list.specs.Line.{line_of}
use Rattle.sj_select_list.specs.Operations.{steps_of}
use Rattle.sj_select_list.specs.Taking.{aggregate_of}
use Rattle.sj_select_list.specs.Values.{values_in}
use Rattle.sj_select.specs.Rows.{StatementRows, aggregated, aggregated_cost, over_rows, over_cost}
use Rattle.sj_select.specs.Sources.{Prints, left_beside, due_beside, due_behind}
use Rattle.sj_select.specs.Tables.{plan_left, plan_due}
use Rattle.sj_select.specs.declared.table.TableRows.{TableRows}
use Rattle.sj_select.proofs.Sourced.{over_aggregates, over_aggregates_cost}
use Rattle.sj_select.proofs.source.RowSource.print.Goals as goal

pub returns-in_default-clause-prints : goal.returns-in_default-clause-prints
returns-in_default-clause-prints c s is =
    let line = line_of c.args.line in
    let left = left_beside c.args.self.now.table s.items line in
    let finds = ap steps_of c.as_mut_slice-operations.ensures.value ∙ is.finds in
    subst (λ (t : Option (Box TableRows Global)). IfOk c.print_alone.result (λ found. Prints (left_beside t s.items line) found c.args.out.now c.print_alone.new.out left)) (sym c.in_default.is)
    (c.print_alone.ensures.prints (values_in s.items) left finds)

pub returns-in_default-clause-costs : goal.returns-in_default-clause-costs
returns-in_default-clause-costs c s is =
    let line = line_of c.args.line in
    let due = due_beside c.args.self.now.table s.items line in
    let finds = ap steps_of c.as_mut_slice-operations.ensures.value ∙ is.finds in
    subst (λ (t : Option (Box TableRows Global)). Spends (due_beside t s.items line) (due_behind c.print_alone.result due) c.args.steps.now c.print_alone.new.steps) (sym c.in_default.is)
    (c.print_alone.ensures.costs (values_in s.items) due finds)

pub returns-else-is_empty-clause-prints : goal.returns-else-is_empty-clause-prints
returns-else-is_empty-clause-prints c s is =
    let line = line_of c.args.line in
    let rows = c.deref_mut-else-is_empty.result.now in
    let table = table_of rows.table.now in
    let all = aggregates_in s.items in
    let left = plan_left rows in
    let later = over_rows line (table_of c.print_aggregated.new.table.table.now) (values_in s.items) all (plan_left c.print_aggregated.new.table) in
    let held : map aggregate_of c.as_mut_slice-aggregates.result.now ≡ all = ap (map aggregate_of) c.as_mut_slice-aggregates.ensures.value ∙ is.takes in
    let whole : aggregated line table (map aggregate_of c.as_mut_slice-aggregates.result.now) [] left ≡ left_beside c.args.self.now.table s.items line =
    ap (λ l. aggregated line table l [] left) held ∙ sym (over_aggregates line table (values_in s.items) left c.as_mut_slice-aggregates.result.now all held (ap (λ (n : ℕ). nat_eq n 0) c.as_mut_slice-aggregates.ensures.len ∙ sym c.is_empty.ensures ∙ c.if-is_empty.false))
    ∙ ap (λ (t : TableRows). over_rows line (table_of t.table.now) (values_in s.items) all (plan_left t)) c.deref_mut-else-is_empty.ensures.value
    ∙ ap (λ (t : Option (Box TableRows Global)). left_beside t s.items line) (sym c.in-Some.is) in
    subst (λ (l : StatementRows). IfOk c.print_aggregated.result (λ found. Prints l found c.args.out.now c.print_aggregated.new.out later)) whole (c.print_aggregated.ensures.prints later)

pub returns-else-is_empty-clause-costs : goal.returns-else-is_empty-clause-costs
returns-else-is_empty-clause-costs c s is =
    let line = line_of c.args.line in
    let rows = c.deref_mut-else-is_empty.result.now in
    let table = table_of rows.table.now in
    let all = aggregates_in s.items in
    let left = plan_left rows in
    let later = plan_due c.print_aggregated.new.table + over_cost line (table_of c.print_aggregated.new.table.table.now) (values_in s.items) all (plan_left c.print_aggregated.new.table) in
    let held : map aggregate_of c.as_mut_slice-aggregates.result.now ≡ all = ap (map aggregate_of) c.as_mut_slice-aggregates.ensures.value ∙ is.takes in
    let whole : plan_due rows + aggregated_cost line table (map aggregate_of c.as_mut_slice-aggregates.result.now) [] left ≡ due_beside c.args.self.now.table s.items line =
    ap (λ l. plan_due rows + aggregated_cost line table l [] left) held
    ∙ ap (λ (n : ℕ). plan_due rows + n) (sym (over_aggregates_cost line table (values_in s.items) left c.as_mut_slice-aggregates.result.now all held (ap (λ (n : ℕ). nat_eq n 0) c.as_mut_slice-aggregates.ensures.len ∙ sym c.is_empty.ensures ∙ c.if-is_empty.false)))
    ∙ ap (λ (t : TableRows). plan_due t + over_cost line (table_of t.table.now) (values_in s.items) all (plan_left t)) c.deref_mut-else-is_empty.ensures.value
    ∙ ap (λ (t : Option (Box TableRows Global)). due_beside t s.items line) (sym c.in-Some.is) in
    subst (λ (n : ℕ). Spends n (due_behind c.print_aggregated.result later) c.args.steps.now c.print_aggregated.new.steps) whole (c.print_aggregated.ensures.costs later)

pub returns-in_default-clause-err : goal.returns-in_default-clause-err
returns-in_default-clause-err c s is = c.print_alone.ensures.err (values_in s.items) (ap steps_of c.as_mut_slice-operations.ensures.value ∙ is.finds)

pub returns-then-is_empty-clause-err : goal.returns-then-is_empty-clause-err
returns-then-is_empty-clause-err c s is = c.print_listed.ensures.err (values_in s.items) (ap steps_of c.as_mut_slice-operations.ensures.value ∙ is.finds)
