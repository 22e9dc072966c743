use Rattle.std.proofs.Common.{◌≡◌}
use Rattle.sj_row_tests.proofs.rows.show_lines.Given as goal

abbrev pub invariant-lines : goal.invariant-lines
invariant-lines l = record { goes_on : l.lines.ended ≡ l.fn.lines.ended; same_fed : l.lines.fed ≡ l.fn.lines.fed }
