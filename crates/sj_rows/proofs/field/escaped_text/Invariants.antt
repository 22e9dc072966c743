use Rattle.std.proofs.Common.{length}
use Rattle.std.specs.List.{flat_map}
use Rattle.sj_rows.specs.RowText.{escaped_byte}
use Rattle.sj_text.proofs.Appends.{Appending}
use Rattle.sj_rows.proofs.field.escaped_text.Given as goal

abbrev pub invariant-loop-rest : goal.invariant-loop-rest
invariant-loop-rest l = Appending l.initial.out (flat_map escaped_byte l.bytes) l.out (flat_map escaped_byte l.rest)

abbrev pub decreases-loop-rest : goal.decreases-loop-rest
decreases-loop-rest l = length l.rest
