use Rattle.std.proofs.Common.{arith, get_or, subst}
use Rattle.sj_json.specs.Tree.{subtree}
use Rattle.sj_json.specs.Links.{ups}
use Rattle.sj_doc.specs.declared.node.Body.{Body}
use Rattle.sj_doc.specs.Nodes.{IsLink}
use Rattle.sj_doc.proofs.Docs.{count, link_at, cell_at, is_closed}
use Rattle.sj_doc.proofs.doc.Doc.up_at.Goals as goal

pub index-requires : goal.index-requires
index-requires c =
    let d = c.self.inside in
    omega (arith, count d.arena.items d.nodes.items c.args.self.now c.self.invariant c.self.view_is, d.nodes.ok.0, c.requires.within)

pub returns : goal.returns
returns c =
    let d = c.self.inside in
    let t = c.args.self.now in
    subst (λ (b : Body). IsLink (get_or (ups 0 t) c.args.at 0) b) c.in-Closed.is (link_at d.arena.items d.nodes.items t c.self.invariant c.self.view_is c.args.at c.index.result.now c.requires.within c.index.ensures)

pub unreachable-requires : goal.unreachable-requires
unreachable-requires c =
    let d = c.self.inside in
    let n = c.index.result.now in
    let t = c.args.self.now in
    let e = is_closed d.arena.items n.below n.body (subtree t c.args.at) (cell_at d.arena.items d.nodes.items t c.self.invariant c.self.view_is c.args.at n c.requires.within c.index.ensures) c.requires.container in
    c.in_default.not-Closed e.0 e.1 e.2 e.3
