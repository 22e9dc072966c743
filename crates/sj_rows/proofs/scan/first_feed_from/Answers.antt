use Rattle.std.proofs.Common.{subst}
use Rattle.sj_rows.specs.HeldLines.{HasNoFeed}
use Rattle.sj_rows.proofs.Splits.{no_feed_from}
use Rattle.sj_rows.proofs.scan.first_feed_from.Goals as goal

pub returns-clause-before : goal.returns-clause-before
returns-clause-before c =
    no_feed_from c.args.bytes.now c.args.searched c.first_feed.result c.requires.known (subst (λ l. HasNoFeed l c.first_feed.result) c.behind.ensures c.first_feed.ensures.before)
