use Rattle.std.proofs.Common.{length}
use Rattle.sj_text.proofs.Appends.{Appending}
use Rattle.sj_sql_text.specs.Pieces as spec
use Rattle.sj_sql_text.specs.Marks.{mark_of}
use Rattle.sj_sql_text.proofs.quoted.doubled.Given as goal

-- the text has come up to what is left
abbrev pub invariant-loop-front : goal.invariant-loop-front
invariant-loop-front l = Appending l.initial.out (spec.doubled (mark_of l.mark) l.text) l.out (spec.doubled (mark_of l.mark) l.rest)

abbrev pub decreases-loop-front : goal.decreases-loop-front
decreases-loop-front l = length l.rest
