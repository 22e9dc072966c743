use Rattle.std.proofs.Common.{◌+◌, ◌≤◌, length}
use Rattle.sj_file.proofs.Texts.{HasText}
use Rattle.sj_file.proofs.verdict.text_of.Given as goal

-- the text of the statements that were taken, how many they are, and what is left
abbrev pub invariant-loop-bound : goal.invariant-loop-bound
invariant-loop-bound l = record {
  taken : HasText l.file l.text l.count l.rest;
  room : l.count + length l.rest ≤ length l.file;
}

abbrev pub decreases-loop-bound : goal.decreases-loop-bound
decreases-loop-bound l = length l.rest
