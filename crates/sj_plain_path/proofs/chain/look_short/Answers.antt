use Rattle.std.proofs.Common.{arith}
use Rattle.sj_plain_path.proofs.Chains.{two_members, sought_same}
use Rattle.sj_plain_path.proofs.chain.look_short.Goals as goal

pub returns-in-AsItIs-Member : goal.returns-in-AsItIs-Member
returns-in-AsItIs-Member c =
    let here = c.in-AsItIs-Member in
    sought_same _ _ _ _ _ _ _ c.look_members.ensures
    (two_members _ _ _ _ here.outer here.inner _ here.is-0 (omega (arith, here.len_at_least, here.len_below)) here.is-1 here.is-1')
