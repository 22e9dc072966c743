use Rattle.sj_host.proofs.Feeds.{ends_behind}
use Rattle.sj_host.proofs.ends.last_end.Goals as goal

pub returns-in-Some-clause-ends : goal.returns-in-Some-clause-ends
returns-in-Some-clause-ends c = ends_behind c.args.bytes.now c.in-Some.at c.in-Some.ensures.0.high c.in-Some.ensures.1
