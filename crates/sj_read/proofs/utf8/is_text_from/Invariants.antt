use Rattle.std.proofs.Common.{◌-◌, ◌≤◌, length, take, IsUtf8}
use Rattle.sj_read.proofs.utf8.is_text_from.Given as goal

abbrev pub invariant-loop-at : goal.invariant-loop-at
invariant-loop-at l = record { within : l.at ≤ length l.line; text : IsUtf8 (take l.at l.line); few : l.others ≤ l.at }

abbrev pub decreases-loop-at : goal.decreases-loop-at
decreases-loop-at l = length l.line - l.at
