use Rattle.std.proofs.Common.{[], arith}
use Rattle.sj_plain_path.proofs.Chains.{first_only, sought_first, member_other}
use Rattle.sj_plain_path.proofs.chain.seek_short.Goals as goal

pub returns-in_default-kind : goal.returns-in_default-kind
returns-in_default-kind c =
    sought_first _ _ _ _ _ _ _ _ _ _ _ c.take_members.ensures (first_only _ _ _ (omega (arith, c.in-Member.len_at_least, c.in-Member.len_below)) c.in-Member.is-1)
    (member_other c.args.search.now.how c.in-Member.key [] _ _ (rw c.kind.ensures at c.in_default-kind.not-Array))
