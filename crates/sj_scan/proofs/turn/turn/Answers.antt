use Rattle.std.proofs.Common.{reverse}
use Rattle.sj_scan.proofs.turn.turn.Goals as goal

pub returns-in-Escaped : goal.returns-in-Escaped
returns-in-Escaped c = rw c.in-Escaped.is (c.escaped.ensures (reverse c.args.containers.now.items))
