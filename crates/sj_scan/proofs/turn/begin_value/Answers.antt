use Rattle.std.proofs.Common.{sym}
use Rattle.sj_scan.proofs.turn.begin_value.Goals as goal

pub returns-then-begins_number : goal.returns-then-begins_number
returns-then-begins_number c = rw (sym c.if-begins_number.ensures) (c.number.ensures c.args.containers.now.items)
