use Rattle.std.proofs.Common.{sym, ◌∙◌}
use Rattle.sj_bound.proofs.ViewLists.{length-items_of}
use Rattle.sj_bound.proofs.bound.Bound.width.Goals as goal

pub returns : goal.returns
returns c = c.len.ensures ∙ sym (length-items_of c.args.self.now.items)
