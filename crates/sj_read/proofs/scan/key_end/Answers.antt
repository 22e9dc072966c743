use Rattle.std.proofs.Common.{◌∙◌, sym, arith}
use Rattle.sj_read.proofs.Scanned.{one_plain}
use Rattle.sj_read.proofs.scan.key_end.Goals as goal

pub returns-then-is_plain : goal.returns-then-is_plain
returns-then-is_plain c =
    one_plain c.args.bytes.now c.args.from (omega (arith, c.requires.within)) (sym c.is_plain.ensures ∙ c.if-is_plain.true) c.if-bytes-from-eq34.true
