use Rattle.std.proofs.Common.{◌≡◌, ◌≤◌, ℕ, ◌+◌, ◌∙◌, List, Bor, sym, ap, subst}
use Rattle.sj_base.specs.Count.{raised}
use Rattle.sj_table.specs.Series.{more}
use Rattle.sj_table.specs.Takes.{Spends}
use Rattle.sj_bound.specs.Bound as b
use Rattle.sj_bound.specs.View.{table_of}
use Rattle.sj_bound.specs.declared.bound.BoundTable.{BoundTable}
use Rattle.sj_select_list.specs.Line.{line_of}
use Rattle.sj_select_list.specs.Operations.{steps_of, steps_to_all}
use Rattle.sj_select.specs.Rows.{row_of, row_cost, listed, listed_cost}
use Rattle.sj_select.specs.Sources.{listed_due}
use Rattle.sj_select.specs.Tables.{plan_left, plan_due}
use Rattle.sj_select.proofs.Listing.{out_of_memory, end_spends, listed_row, listed_stop, stop_spends, row_spends}
use Rattle.sj_select.proofs.source.find_listed.Goals as goal
use Rattle.sj_select.proofs.source.find_listed.Goals.{After-find_row}

-- the row at hand is the next of those that were left, and the others are left now
comes : (c : After-find_row) → plan_left c.args.table.now ≡ more c.next_row.new.self.cursor.given (plan_left c.find_row.new.table)
comes c = c.in-Row.ensures.takes.answers ∙ ap (more c.next_row.new.self.cursor.given) (sym c.find_row.ensures.left)

-- it is a row of the table, which is the same as before
same_row : (c : After-find_row) (list : List b.Value) → row_of (line_of c.args.line) (table_of c.args.table.now.table.now) list c.next_row.new.self.cursor.given ≡ row_of (line_of c.args.line) (table_of c.next_row.new.self.table.now) list c.next_row.new.self.cursor.given
same_row c list = ap (λ (t : Bor BoundTable). row_of (line_of c.args.line) (table_of t.now) list c.next_row.new.self.cursor.given) (sym c.next_row.ensures.table)

-- what it takes
spent : (c : After-find_row) (list : List b.Value) → steps_of c.args.operations.now ≡ steps_to_all list
    → c.find_row.new.steps ≤ raised c.next_row.new.steps (row_cost (line_of c.args.line) (table_of c.args.table.now.table.now) list c.next_row.new.self.cursor.given)
spent c list finds =
    subst (λ (t : Bor BoundTable). c.find_row.new.steps ≤ raised c.next_row.new.steps (row_cost (line_of c.args.line) (table_of t.now) list c.next_row.new.self.cursor.given)) c.next_row.ensures.table (c.find_row.ensures.costs list finds)

-- what is due behind it
due : (c : After-find_row) (list : List b.Value) → plan_due c.next_row.new.self + listed_cost (line_of c.args.line) (table_of c.args.table.now.table.now) list (plan_left c.find_row.new.table) ≡ listed_due (line_of c.args.line) list c.find_row.new.table
due c list =
    let others = plan_left c.find_row.new.table in
    ap (λ (d : ℕ). d + listed_cost (line_of c.args.line) (table_of c.args.table.now.table.now) list others) (sym c.find_row.ensures.due)
    ∙ ap (λ (t : Bor BoundTable). plan_due c.find_row.new.table + listed_cost (line_of c.args.line) (table_of t.now) list others) (sym (c.find_row.ensures.table ∙ c.next_row.ensures.table))

-- where it is the last
stops : (c : After-find_row) (list : List b.Value) → steps_of c.args.operations.now ≡ steps_to_all list → Spends (listed_due (line_of c.args.line) list c.args.table.now) 0 c.args.steps.now c.find_row.new.steps
stops c list finds =
    stop_spends (line_of c.args.line) (table_of c.args.table.now.table.now) list _ _ _ _ _ _ _ _ (comes c) c.in-Row.ensures.takes.spends (spent c list finds)

pub returns-in-End-clause-finds : goal.returns-in-End-clause-finds
returns-in-End-clause-finds c list finds = ap (listed (line_of c.args.line) (table_of c.args.table.now.table.now) list) c.in-End.ensures.takes.answers

pub returns-in-End-clause-costs : goal.returns-in-End-clause-costs
returns-in-End-clause-costs c list finds = end_spends _ _ _ _ c.in-End.ensures.takes.spends

pub returns-in-Raised-clause-finds : goal.returns-in-Raised-clause-finds
returns-in-Raised-clause-finds c list finds = ap (listed (line_of c.args.line) (table_of c.args.table.now.table.now) list) c.in-Raised.ensures.takes.answers

pub returns-in-Raised-clause-costs : goal.returns-in-Raised-clause-costs
returns-in-Raised-clause-costs c list finds = end_spends _ _ _ _ c.in-Raised.ensures.takes.spends

pub returns-in_err-find_row-clause-costs : goal.returns-in_err-find_row-clause-costs
returns-in_err-find_row-clause-costs c list finds =
    subst (λ (n : ℕ). Spends (listed_due (line_of c.args.line) list c.args.table.now) n c.args.steps.now c.find_row.new.steps) (sym (out_of_memory c.from_residual.result (listed_due (line_of c.args.line) list c.find_row.new.table) c.from_residual.ensures.0))
    (stops (goal.at.returns-in_err-find_row-clause-costs c).After-find_row list finds)

pub returns-in-None-clause-finds : goal.returns-in-None-clause-finds
returns-in-None-clause-finds c list finds =
    let after = (goal.at.returns-in-None-clause-finds c).After-find_row in
    let found = rw c.in-None.is at (c.in_ok-find_row.ensures.finds list finds) in
    listed_row _ (table_of c.args.table.now.table.now) list _ _ _ _ (comes after) (same_row after list ∙ found)

pub returns-in-None-clause-costs : goal.returns-in-None-clause-costs
returns-in-None-clause-costs c list finds =
    let after = (goal.at.returns-in-None-clause-costs c).After-find_row in
    let found = rw c.in-None.is at (c.in_ok-find_row.ensures.finds list finds) in
    subst (λ (n : ℕ). Spends (listed_due (line_of c.args.line) list c.args.table.now) n c.args.steps.now c.find_row.new.steps) (due after list)
    (row_spends _ (table_of c.args.table.now.table.now) list _ _ _ _ _ _ _ _ _ (comes after) (same_row after list ∙ found) c.in-Row.ensures.takes.spends (spent after list finds))

pub returns-in-Some-clause-finds : goal.returns-in-Some-clause-finds
returns-in-Some-clause-finds c list finds =
    let after = (goal.at.returns-in-Some-clause-finds c).After-find_row in
    let found = rw c.in-Some.is at (c.in_ok-find_row.ensures.finds list finds) in
    listed_stop _ (table_of c.args.table.now.table.now) list _ _ _ _ (comes after) (same_row after list ∙ found)

pub returns-in-Some-clause-costs : goal.returns-in-Some-clause-costs
returns-in-Some-clause-costs c list finds = stops (goal.at.returns-in-Some-clause-costs c).After-find_row list finds
