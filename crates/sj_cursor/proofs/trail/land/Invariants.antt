use Rattle.std.proofs.Common.{length, drop, ◌-◌, ◌≤◌}
use Rattle.sj_item.specs.Items.{item_value}
use Rattle.sj_cursor.specs.Moves.{walked}
use Rattle.sj_cursor.specs.Trails.{Leads}
use Rattle.sj_cursor.proofs.trail.land.Given as goal

abbrev pub invariant-moves : goal.invariant-moves
invariant-moves l = record {
  leads : Leads (walked l.moves (item_value l.root)) l.fn.steps (walked (drop l.at l.moves) (item_value l.item)) l.steps;
  high : l.at ≤ length l.moves;
}

abbrev pub decreases-moves : goal.decreases-moves
decreases-moves l = length l.moves - l.at
