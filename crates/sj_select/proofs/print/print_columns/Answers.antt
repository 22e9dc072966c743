use Rattle.std.proofs.Common.{◌≡◌, ◌≤◌, ◌<◌, ◌+◌, ◌∙◌, ◌∷◌, arith, length, map, drop, set, get_or, refl}
use Rattle.std.proofs.Math.Seq.{map-set_same}
use Rattle.sj_base.specs.Count.{raised}
use Rattle.sj_select_list.proofs.GatheredOutcomes.{place, held_at}
use Rattle.sj_select.specs.Columns.{columns_cost}
use Rattle.sj_select.specs.Filling.{column_of, CanFill}
use Rattle.sj_select_list.proofs.PrintedFields.{list_stopped}
use Rattle.sj_select.proofs.PrintedColumns.{come_none, come_more, come_raised, come_within, come_extends}
use Rattle.sj_select.proofs.print.print_columns.Goals as goal
use Rattle.sj_select.proofs.print.print_columns.Goals.{After-print}

-- the column is the first of those that are left
first : (c : After-print) → drop c.loop-column.column-index (map column_of c.args.columns.now) ≡ column_of (get_or c.loop-column.columns c.loop-column.column-index c.column-item.result) ∷ drop (c.loop-column.column-index + 1) (map column_of c.args.columns.now)
first c =
    let within : c.loop-column.column-index < length c.loop-column.columns = omega arith in
    place column_of c.loop-column.columns _ _ _ within c.loop-column.invariant.columns

-- it stays as it is seen
kept : (c : After-print) → map column_of (set c.loop-column.columns c.loop-column.column-index c.print.new.self) ≡ map column_of c.args.columns.now
kept c = map-set_same column_of c.loop-column.columns c.loop-column.column-index c.print.new.self c.column-item.result c.print.ensures.column ∙ c.loop-column.invariant.columns

-- with it no more is spent than all may take
spent : (c : After-print) → c.print.new.steps ≤ raised c.args.steps.now (columns_cost (map column_of c.args.columns.now) c.args.row.now.given)
spent c = come_within _ _ _ _ _ _ _ _ c.loop-column.invariant.come (first c) _ c.print.ensures.costs

pub loop-column-init : goal.loop-column-init
loop-column-init c = record { columns = refl; come = come_none _ _ _ _ }

pub print-requires : goal.print-requires
print-requires c =
    let within : c.loop-column.column-index < length c.loop-column.columns = omega arith in
    held_at column_of CanFill _ _ _ _ within c.loop-column.invariant.columns c.requires

pub returns-in_err-state-clause-prints : goal.returns-in_err-state-clause-prints
returns-in_err-state-clause-prints c = list_stopped _ _ _ _ c.from_residual.ensures.0 (come_extends _ _ _ _ _ _ _ c.loop-column.invariant.come _ c.in_err-state.ensures.appends)

pub returns-in_err-state-clause-costs : goal.returns-in_err-state-clause-costs
returns-in_err-state-clause-costs c = spent (goal.at.returns-in_err-state-clause-costs c).After-print

pub returns-in_err-state-clause-columns : goal.returns-in_err-state-clause-columns
returns-in_err-state-clause-columns c = kept (goal.at.returns-in_err-state-clause-columns c).After-print

pub returns-in-Some-clause-prints : goal.returns-in-Some-clause-prints
returns-in-Some-clause-prints c =
    let printed = rw c.in-Some.is at c.in_ok-state.ensures.appends in
    come_raised _ _ _ _ _ _ _ _ c.loop-column.invariant.come (first (goal.at.returns-in-Some-clause-prints c).After-print) _ _ printed.0 printed.1

pub returns-in-Some-clause-costs : goal.returns-in-Some-clause-costs
returns-in-Some-clause-costs c = spent (goal.at.returns-in-Some-clause-costs c).After-print

pub returns-in-Some-clause-columns : goal.returns-in-Some-clause-columns
returns-in-Some-clause-columns c = kept (goal.at.returns-in-Some-clause-columns c).After-print

pub loop-column-preserved : goal.loop-column-preserved
loop-column-preserved c =
    let after = (goal.at.loop-column-preserved c).After-print in
    let printed = rw c.in_default.is at c.in_ok-state.ensures.appends in
    record { columns = kept after; come = come_more _ _ _ _ _ _ _ _ c.loop-column.invariant.come (first after) _ _ printed c.print.ensures.costs }
