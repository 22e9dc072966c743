use Rattle.std.proofs.Common.{length, ◌∙◌, ap}
use Rattle.sj_json.specs.Building.{State}
use Rattle.sj_doc.proofs.Builders.{state_seen, state_is}
use Rattle.sj_doc.proofs.builder.DocBuilder.depth.Goals as goal

pub returns : goal.returns
returns c =
    let f = c.self.inside in
    c.from.ensures ∙ c.self.invariant.0.depth_is ∙ ap (λ (s : State). length s.1) (state_is f.arena.items f.tree.nodes.items f.tree.key f.tree.inner f.tree.count f.tree.depth c.self.invariant.0 c.args.self.now.0 (state_seen c.self.view_is))
