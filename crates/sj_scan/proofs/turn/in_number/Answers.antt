use Rattle.std.proofs.Common.{sym}
use Rattle.sj_scan.proofs.turn.in_number.Goals as goal

pub returns-then-is_number_byte : goal.returns-then-is_number_byte
returns-then-is_number_byte c = rw (sym c.if-is_number_byte.ensures) (c.number.ensures c.args.containers.now.items)
