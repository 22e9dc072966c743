use Rattle.std.proofs.Common.{◌≡◌, ◌≤◌, drop, length}
use Rattle.sj_file.proofs.Digits.{Counting}
use Rattle.sj_file.proofs.file.number_of.Given as goal

-- the number of the digits so far
abbrev pub invariant-loop-digit : goal.invariant-loop-digit
invariant-loop-digit l = record {
  same : l.digits ≡ l.word;
  few : length l.digits ≤ 6;
  counting : Counting l.digits (drop l.digit-index l.digits) l.digit-index l.number;
}
