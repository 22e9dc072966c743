use Rattle.sj_doc.proofs.Builders.{state_seen, finishes}
use Rattle.sj_doc.proofs.builder.DocBuilder.finish.Goals as goal

pub invariant_of-result : goal.invariant_of-result
invariant_of-result c =
    let f = c.self.inside in
    (finishes f.arena.items f.tree.nodes.items f.tree.key f.tree.inner f.tree.count f.tree.depth c.self.invariant.0 c.args.self.0 (state_seen c.self.view_is) c.requires).0

pub returns : goal.returns
returns c =
    let f = c.self.inside in
    (finishes f.arena.items f.tree.nodes.items f.tree.key f.tree.inner f.tree.count f.tree.depth c.self.invariant.0 c.args.self.0 (state_seen c.self.view_is) c.requires).1
