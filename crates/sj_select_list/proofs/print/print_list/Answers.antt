use Rattle.std.proofs.Common.{[], refl, arith}
use Rattle.sj_select_list.specs.Line.{line_of}
use Rattle.sj_select_list.specs.Operations.{steps_of}
use Rattle.sj_select_list.specs.Printing.{only}
use Rattle.sj_select_list.proofs.FoundValues.{list_price}
use Rattle.sj_select_list.proofs.PrintedFields.{list_appends}
use Rattle.sj_select_list.proofs.print.print_list.Goals as goal

pub returns-then-each_finds_a_value-clause-prints : goal.returns-then-each_finds_a_value-clause-prints
returns-then-each_finds_a_value-clause-prints c list finds = list_appends _ _ _ list finds _ _ _ c.print_each.ensures.prints

pub returns-then-each_finds_a_value-clause-costs : goal.returns-then-each_finds_a_value-clause-costs
returns-then-each_finds_a_value-clause-costs c list finds =
    omega (arith, list_price (line_of c.args.line) c.args.columns.now (steps_of c.args.operations.now) (only []) refl list finds, c.print_each.ensures.costs)
