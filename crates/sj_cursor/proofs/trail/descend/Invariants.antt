use Rattle.std.proofs.Common.{length, drop, ◌-◌, ◌≤◌}
use Rattle.sj_plain_path.specs.Chains.{node_value}
use Rattle.sj_cursor.specs.Moves.{walked}
use Rattle.sj_cursor.specs.Trails.{Leads}
use Rattle.sj_cursor.proofs.trail.descend.Given as goal

abbrev pub invariant-moves : goal.invariant-moves
invariant-moves l = record {
  leads : Leads (walked (drop l.from l.moves) (node_value l.node)) l.fn.steps (walked (drop l.at l.moves) (node_value l.node)) l.steps;
  low : l.from ≤ l.at;
  high : l.at ≤ length l.moves;
}

abbrev pub decreases-moves : goal.decreases-moves
decreases-moves l = length l.moves - l.at
