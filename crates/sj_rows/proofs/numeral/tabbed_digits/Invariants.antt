use Rattle.sj_rows.proofs.Numerals.{Copying}
use Rattle.sj_rows.proofs.numeral.tabbed_digits.Given as goal

abbrev pub invariant-loop-at : goal.invariant-loop-at
invariant-loop-at l = Copying l.point l.at l.bytes l.window
