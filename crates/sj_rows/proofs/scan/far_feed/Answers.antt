use Rattle.std.proofs.Common.{subst}
use Rattle.sj_rows.specs.HeldLines.{HasNoFeed}
use Rattle.sj_rows.proofs.Splits.{no_feed_from}
use Rattle.sj_rows.proofs.scan.far_feed.Goals as goal

pub returns-clause-before : goal.returns-clause-before
returns-clause-before c =
    no_feed_from c.args.bytes.now c.args.from c.feed_in.result c.requires.known (subst (λ l. HasNoFeed l c.feed_in.result) c.behind.ensures c.feed_in.ensures.before)
