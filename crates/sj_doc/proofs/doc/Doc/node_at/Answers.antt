use Rattle.std.proofs.Common.{arith}
use Rattle.sj_doc.proofs.Docs.{count}
use Rattle.sj_doc.proofs.doc.Doc.node_at.Goals as goal

pub invariant_of-result-clause-small : goal.invariant_of-result-clause-small
invariant_of-result-clause-small c =
    let d = c.self.inside in
    omega (arith, count d.arena.items d.nodes.items c.args.self.now c.self.invariant c.self.view_is, c.self.invariant.small, c.requires)
