use Rattle.std.proofs.Common.{◌≡◌, arith, rules, true}
use Rattle.sj_rows.proofs.Splits.{last_left, none_left}
use Rattle.sj_rows.proofs.scan.last_len.Goals as goal

pub returns-then-not-ended : goal.returns-then-not-ended
returns-then-not-ended c = (none_left c.args.ended c.args.bytes.now c.requires (search rules), c.requires)

pub returns : goal.returns
returns c =
    let ended : c.args.ended ≡ true = search rules in
    rw ended (last_left c.args.bytes.now _ (omega arith) (omega arith) (omega arith) c.requires)
