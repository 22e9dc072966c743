use Rattle.std.proofs.Common.{◌≡◌, ◌-◌, ◌<◌, true, get_or, length}
use Rattle.std.specs.Char.{is_ascii_digit}
use Rattle.sj_read.specs.Numerals.{HasDigits}
use Rattle.sj_read.proofs.numeral.digits_end.Given as goal

abbrev pub invariant-loop-at : goal.invariant-loop-at
invariant-loop-at l = record {
  digits : HasDigits l.bytes l.from l.at;
  first : l.from < l.at → is_ascii_digit (get_or l.bytes l.from 0) ≡ true;
}

abbrev pub decreases-loop-at : goal.decreases-loop-at
decreases-loop-at l = length l.bytes - l.at
