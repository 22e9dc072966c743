use Rattle.std.proofs.Common.{◌<◌, ◌∙◌, length, map, drop, get_or, sym, ap, ◌+◌, arith}
use Rattle.std.proofs.Math.Seq.{map-set_same}
use Rattle.sj_select_list.specs.Values.{each_value}
use Rattle.sj_select_list.proofs.GatheredOutcomes.{behind, place, held_at, gather_step, gather_stop, cost_step, cost_stop, one_more}
use Rattle.sj_select.specs.Columns.{column_outcome, column_cost}
use Rattle.sj_select.specs.Filling.{column_of, CanFill}
use Rattle.sj_select.proofs.columns.fill.Goals as goal

pub outcome-requires : goal.outcome-requires
outcome-requires c =
    let within : c.loop-column.column-index < length c.loop-column.columns = omega arith in
    held_at column_of CanFill c.loop-column.columns (map column_of c.args.columns.now) c.loop-column.column-index c.column-item.result within c.loop-column.invariant.columns c.requires

pub returns-in_err-value-clause-costs : goal.returns-in_err-value-clause-costs
returns-in_err-value-clause-costs c =
    let within : c.loop-column.column-index < length c.loop-column.columns = omega arith in
    let first = place column_of c.loop-column.columns (map column_of c.args.columns.now) c.loop-column.column-index c.column-item.result within c.loop-column.invariant.columns in
    cost_stop (column_outcome c.args.row.now.given) (column_cost c.args.row.now.given) (map column_of c.args.columns.now) c.loop-column.column-index (column_of (get_or c.loop-column.columns c.loop-column.column-index c.column-item.result)) c.loop-column.steps c.outcome.new.steps _ first c.outcome.ensures.costs c.loop-column.invariant.costs

pub returns-in_err-value-clause-columns : goal.returns-in_err-value-clause-columns
returns-in_err-value-clause-columns c =
    map-set_same column_of c.loop-column.columns c.loop-column.column-index c.outcome.new.self c.column-item.result c.outcome.ensures.column ∙ c.loop-column.invariant.columns

pub returns-in_err-push-in-Value-clause-costs : goal.returns-in_err-push-in-Value-clause-costs
returns-in_err-push-in-Value-clause-costs c =
    let within : c.loop-column.column-index < length c.loop-column.columns = omega arith in
    let first = place column_of c.loop-column.columns (map column_of c.args.columns.now) c.loop-column.column-index c.column-item.result within c.loop-column.invariant.columns in
    cost_stop (column_outcome c.args.row.now.given) (column_cost c.args.row.now.given) (map column_of c.args.columns.now) c.loop-column.column-index (column_of (get_or c.loop-column.columns c.loop-column.column-index c.column-item.result)) c.loop-column.steps c.outcome.new.steps _ first c.outcome.ensures.costs c.loop-column.invariant.costs

pub returns-in_err-push-in-Value-clause-columns : goal.returns-in_err-push-in-Value-clause-columns
returns-in_err-push-in-Value-clause-columns c =
    map-set_same column_of c.loop-column.columns c.loop-column.column-index c.outcome.new.self c.column-item.result c.outcome.ensures.column ∙ c.loop-column.invariant.columns

pub returns-in-Raised-clause-fills : goal.returns-in-Raised-clause-fills
returns-in-Raised-clause-fills c =
    let within : c.loop-column.column-index < length c.loop-column.columns = omega arith in
    let first = place column_of c.loop-column.columns (map column_of c.args.columns.now) c.loop-column.column-index c.column-item.result within c.loop-column.invariant.columns in
    gather_stop (column_outcome c.args.row.now.given) (map column_of c.args.columns.now) c.loop-column.column-index (column_of (get_or c.loop-column.columns c.loop-column.column-index c.column-item.result)) c.loop-column.values.items c.in-Raised.state _ first (sym c.in_ok-value.ensures.outcome ∙ c.in-Raised.is) c.loop-column.invariant.ends

pub returns-in-Raised-clause-costs : goal.returns-in-Raised-clause-costs
returns-in-Raised-clause-costs c =
    let within : c.loop-column.column-index < length c.loop-column.columns = omega arith in
    let first = place column_of c.loop-column.columns (map column_of c.args.columns.now) c.loop-column.column-index c.column-item.result within c.loop-column.invariant.columns in
    cost_stop (column_outcome c.args.row.now.given) (column_cost c.args.row.now.given) (map column_of c.args.columns.now) c.loop-column.column-index (column_of (get_or c.loop-column.columns c.loop-column.column-index c.column-item.result)) c.loop-column.steps c.outcome.new.steps _ first c.outcome.ensures.costs c.loop-column.invariant.costs

pub returns-in-Raised-clause-columns : goal.returns-in-Raised-clause-columns
returns-in-Raised-clause-columns c =
    map-set_same column_of c.loop-column.columns c.loop-column.column-index c.outcome.new.self c.column-item.result c.outcome.ensures.column ∙ c.loop-column.invariant.columns

pub loop-column-preserved : goal.loop-column-preserved
loop-column-preserved c =
    let within : c.loop-column.column-index < length c.loop-column.columns = omega arith in
    let inv = c.loop-column.invariant in
    let all = map column_of c.args.columns.now in
    let i = c.loop-column.column-index in
    let x = column_of (get_or c.loop-column.columns i c.column-item.result) in
    let v = c.in-Value.value in
    let is = sym c.in_ok-value.ensures.outcome ∙ c.in-Value.is in
    let first = place column_of c.loop-column.columns all i c.column-item.result within inv.columns in
    let outcome = column_outcome c.args.row.now.given in
    let ends = gather_step outcome all i x c.loop-column.values.items v _ first is inv.ends in
    record {
      columns = map-set_same column_of c.loop-column.columns i c.outcome.new.self c.column-item.result c.outcome.ensures.column ∙ inv.columns;
      printable = one_more c.loop-column.values.items _ c.in_ok-value.field-0 v inv.printable c.in_ok-value.ensures.printed c.in-Value.is c.in_ok-push-in-Value.ensures.items;
      ends = ap (λ l. behind l (each_value outcome (drop (i + 1) all))) c.in_ok-push-in-Value.ensures.items ∙ ends;
      costs = cost_step outcome (column_cost c.args.row.now.given) all i x v c.loop-column.steps c.outcome.new.steps _ first is c.outcome.ensures.costs inv.costs;
    }
