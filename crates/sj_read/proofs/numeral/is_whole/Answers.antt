use Rattle.std.proofs.Common.{◌≡◌, ◌-◌, ◌<◌, get_or, arith}
use Rattle.std.proofs.lemmas.Bool.Decides.{nat_tests}
use Rattle.sj_decimal.proofs.OnePass.{whole_reads}
use Rattle.sj_read.proofs.numeral.is_whole.Goals as goal
use Rattle.sj_read.proofs.numeral.is_whole.Goals.{then-bytes-from-eq48, else-bytes-from-eq48}

pub returns-clause-whole : goal.returns-clause-whole
returns-clause-whole c =
    let b = c.args.bytes.now in
    let end = c.args.end in
    let read = c.requires in
    let no_zero : 1 < end - c.args.from → get_or b c.args.from 0 ≡ 48 → ⊥ = elim c.if-bytes-from-eq48.branch [
      | then-bytes-from-eq48 w ↦ λ more zero. grind (arith, nat_tests, w.value-is, c.if-end-from-gt1.false)
      | else-bytes-from-eq48 w ↦ λ more zero. w.if-bytes-from-eq48.false zero
    ] in
    λ yes. (read.0, whole_reads b c.args.from end read.0 read.1 c.if-end-from.false no_zero)
