use Rattle.sj_doc.proofs.Docs.{whole}
use Rattle.sj_doc.proofs.NumbersOfNodes.{doc_made}
use Rattle.sj_doc.proofs.doc.Doc.root.Goals as goal

pub returns-clause-tree : goal.returns-clause-tree
returns-clause-tree c = whole c.args.self.now

pub returns-clause-made : goal.returns-clause-made
returns-clause-made c =
    let d = c.self.inside in
    doc_made d.arena.items d.nodes.items c.args.self.now c.self.invariant c.self.view_is
