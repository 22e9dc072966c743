use Rattle.std.proofs.Common.{length}
use Rattle.sj_sql.proofs.Scripts.{IsRead}
use Rattle.sj_sql.proofs.script.parse_file.Given as goal

-- the statements so far are those at the front of the file
abbrev pub invariant-loop-statement : goal.invariant-loop-statement
invariant-loop-statement l = IsRead l.bytes l.statements l.rest

abbrev pub decreases-loop-statement : goal.decreases-loop-statement
decreases-loop-statement l = length l.rest
