use Rattle.std.proofs.Common.{arith}
use Rattle.sj_select_list.specs.Line.{line_of}
use Rattle.sj_select_list.specs.Operations.{steps_of}
use Rattle.sj_select_list.specs.Performing.{held}
use Rattle.sj_select_list.proofs.FoundValues.{empty_held, list_price, gathers_ok}
use Rattle.sj_select_list.proofs.find.find_list.Goals as goal

pub returns-clause-finds : goal.returns-clause-finds
returns-clause-finds c list finds =
    let empty = empty_held c.clear.new.self c.clear.ensures.values c.clear.ensures.members in
    gathers_ok (line_of c.args.line) c.args.columns.now (steps_of c.args.operations.now) (held c.clear.new.self) empty list finds c.find.result c.find.new.stack c.find.ensures.finds

pub returns-clause-costs : goal.returns-clause-costs
returns-clause-costs c list finds =
    let empty = empty_held c.clear.new.self c.clear.ensures.values c.clear.ensures.members in
    omega (arith, list_price (line_of c.args.line) c.args.columns.now (steps_of c.args.operations.now) (held c.clear.new.self) empty list finds, c.find.ensures.costs)
