use Rattle.std.proofs.Common.{arith, ◌∙◌}
use Rattle.sj_json.specs.Tree.{subtree}
use Rattle.sj_doc.proofs.Docs.{count, cell_at, count-head}
use Rattle.sj_doc.proofs.doc.NodeRef.len.Goals as goal

pub index-requires : goal.index-requires
index-requires c =
    let d = c.doc.inside in
    omega (arith, count d.arena.items d.nodes.items c.args.self.doc.now c.doc.invariant c.doc.view_is, d.nodes.ok.0, c.args.self.in_range)

pub returns : goal.returns
returns c =
    let d = c.doc.inside in
    let n = c.index.result.now in
    let t = c.args.self.doc.now in
    c.from.ensures ∙ c.count.ensures ∙ count-head d.arena.items n.below n.body (subtree t c.args.self.at) (cell_at d.arena.items d.nodes.items t c.doc.invariant c.doc.view_is c.args.self.at n c.args.self.in_range c.index.ensures)
