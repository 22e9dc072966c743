use Rattle.std.proofs.Common.{arith}
use Rattle.sj_doc.proofs.Docs.{count}
use Rattle.sj_doc.proofs.doc.Doc.count.Goals as goal

pub returns : goal.returns
returns c =
    let d = c.self.inside in
    omega (arith, count d.arena.items d.nodes.items c.args.self.now c.self.invariant c.self.view_is, c.len.ensures, d.nodes.ok.0)
