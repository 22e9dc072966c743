use Rattle.std.proofs.Common.{◌-◌, take, sym, ap, ◌∙◌, arith}
use Rattle.sj_bound.specs.View.{value_of}
use Rattle.sj_func.specs.declared.context.Outcome.TheVariants as outcome
use Rattle.sj_select_list.specs.Line.{line_of}
use Rattle.sj_select_list.specs.Operations.{steps_of}
use Rattle.sj_select_list.specs.Performing.{held}
use Rattle.sj_select_list.proofs.FoundValues.{empty_held, value_price, value_found, value_raised, only_last, not_none}
use Rattle.sj_select_list.proofs.finder.Finder.find.Goals as goal

pub returns-in_err-state-clause-costs : goal.returns-in_err-state-clause-costs
returns-in_err-state-clause-costs c =
    let finds = ap steps_of c.as_mut_slice-operations.ensures.value ∙ c.requires.ready.finds in
    let empty = empty_held c.clear.new.self c.clear.ensures.values c.clear.ensures.members in
    omega (arith, value_price (line_of c.args.line) c.args.columns.now (steps_of c.as_mut_slice-operations.result.now) (held c.clear.new.self) empty (value_of c.args.self.now.value.now) finds, c.find.ensures.costs)

pub returns-in-Some-clause-outcome : goal.returns-in-Some-clause-outcome
returns-in-Some-clause-outcome c =
    let finds = ap steps_of c.as_mut_slice-operations.ensures.value ∙ c.requires.ready.finds in
    let empty = empty_held c.clear.new.self c.clear.ensures.values c.clear.ensures.members in
    value_raised (line_of c.args.line) c.args.columns.now (steps_of c.as_mut_slice-operations.result.now) (held c.clear.new.self) empty (value_of c.args.self.now.value.now) finds c.in-Some.state (rw c.in-Some.is at c.in_ok-state.ensures.finds)

pub returns-in-Some-clause-costs : goal.returns-in-Some-clause-costs
returns-in-Some-clause-costs c =
    let finds = ap steps_of c.as_mut_slice-operations.ensures.value ∙ c.requires.ready.finds in
    let empty = empty_held c.clear.new.self c.clear.ensures.values c.clear.ensures.members in
    omega (arith, value_price (line_of c.args.line) c.args.columns.now (steps_of c.as_mut_slice-operations.result.now) (held c.clear.new.self) empty (value_of c.args.self.now.value.now) finds, c.find.ensures.costs)

pub unreachable-requires : goal.unreachable-requires
unreachable-requires c =
    let finds = ap steps_of c.as_mut_slice-operations.ensures.value ∙ c.requires.ready.finds in
    let empty = empty_held c.clear.new.self c.clear.ensures.values c.clear.ensures.members in
    let found = value_found (line_of c.args.line) c.args.columns.now (steps_of c.as_mut_slice-operations.result.now) (held c.clear.new.self) empty (value_of c.args.self.now.value.now) finds (held c.find.new.stack) (rw c.in_default.is at c.in_ok-state.ensures.finds) in
    not_none c.find.new.stack.values.items found.0 found.2 c.pop.new.self.items c.in-None.ensures.items (c.in-None.ensures.rest ∙ ap (λ n. take (n - 1) c.find.new.stack.values.items) c.in-None.ensures.cases.0)

pub returns-clause-outcome : goal.returns-clause-outcome
returns-clause-outcome c =
    let finds = ap steps_of c.as_mut_slice-operations.ensures.value ∙ c.requires.ready.finds in
    let empty = empty_held c.clear.new.self c.clear.ensures.values c.clear.ensures.members in
    let found = value_found (line_of c.args.line) c.args.columns.now (steps_of c.as_mut_slice-operations.result.now) (held c.clear.new.self) empty (value_of c.args.self.now.value.now) finds (held c.find.new.stack) (rw c.in_default.is at c.in_ok-state.ensures.finds) in
    found.1 ∙ sym (ap outcome.Value (only_last c.find.new.stack.values.items found.0 c.in-Some-pop.value c.pop.new.self.items found.2 c.in-Some-pop.ensures.items))

pub returns-clause-costs : goal.returns-clause-costs
returns-clause-costs c =
    let finds = ap steps_of c.as_mut_slice-operations.ensures.value ∙ c.requires.ready.finds in
    let empty = empty_held c.clear.new.self c.clear.ensures.values c.clear.ensures.members in
    omega (arith, value_price (line_of c.args.line) c.args.columns.now (steps_of c.as_mut_slice-operations.result.now) (held c.clear.new.self) empty (value_of c.args.self.now.value.now) finds, c.find.ensures.costs)
