use Rattle.std.proofs.Common.{◌≡◌, ◌-◌, List, length, drop}
use Rattle.sj_page.specs.Pages.{print_state}
use Rattle.sj_page.proofs.Printing.{Printing}
use Rattle.sj_group.specs.Grouping.{Row, grouped}
use Rattle.sj_group.specs.Held.{StandsForRows}
use Rattle.sj_group_run.specs.Gathering.{groups_print}
use Rattle.sj_group_run.proofs.write.print_groups.Given as goal

-- the texts so far and those that are left are all
abbrev pub invariant-loop-i : goal.invariant-loop-i
invariant-loop-i g l =
    let state = print_state g.O.Sink.taken g.O.Sink.size g.O.Sink.faults in
    let a = l.groups.aggregate in
    record {
      printing : (rows : List Row) → StandsForRows rows l.groups → Printing (groups_print (grouped a rows)) (groups_print (drop l.i (grouped a rows))) (state l.fn.out l.fn.page) (state l.out l.page);
    }

abbrev pub decreases-loop-i : goal.decreases-loop-i
decreases-loop-i g l = length l.groups.groups - l.i
