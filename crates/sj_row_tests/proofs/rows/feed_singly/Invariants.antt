use Rattle.std.proofs.Common.{◌≡◌, ◌≤◌, false}
use Rattle.sj_row_tests.proofs.rows.feed_singly.Given as goal

abbrev pub invariant-bytes : goal.invariant-bytes
invariant-bytes g l = record { goes_on : l.lines.ended ≡ false; limit : l.lines.fed ≤ l.i }
