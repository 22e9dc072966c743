use Rattle.std.proofs.Common.{length}
use Rattle.sj_sql.proofs.Files.{IsTaken}
use Rattle.sj_sql.proofs.file.gather.Given as goal

-- the tokens so far are those at the front of the file
abbrev pub invariant-loop-token : goal.invariant-loop-token
invariant-loop-token l = IsTaken l.file l.tokens.items l.rest

abbrev pub decreases-loop-token : goal.decreases-loop-token
decreases-loop-token l = length l.rest
