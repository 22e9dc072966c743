use Rattle.std.proofs.Common.{◌≡◌, length, arith, ◌∙◌}
use Rattle.sj_json.specs.Tree.{subtree, children}
use Rattle.sj_doc.proofs.Docs.{count, cell_at, count-head}
use Rattle.sj_doc.proofs.Listing.{begins}
use Rattle.sj_doc.proofs.doc.NodeRef.children.Goals as goal
use Rattle.sj_doc.proofs.doc.NodeRef.children.Goals.{After-count-left}

pub overflow_add-result : goal.overflow_add-result
overflow_add-result c =
    let d = c.doc.inside in
    omega (arith, count d.arena.items d.nodes.items c.args.self.doc.now c.doc.invariant c.doc.view_is, c.doc.invariant.small, c.args.self.in_range)

pub index-requires : goal.index-requires
index-requires c =
    let d = c.doc.inside in
    omega (arith, count d.arena.items d.nodes.items c.args.self.doc.now c.doc.invariant c.doc.view_is, d.nodes.ok.0, c.args.self.in_range)

counted : (c : After-count-left) → c.count-left.result ≡ length (children (subtree c.args.self.doc.now c.args.self.at))
counted c =
    let d = c.doc.inside in
    let n = c.index.result.now in
    let t = c.args.self.doc.now in
    c.count-left.ensures ∙ count-head d.arena.items n.below n.body (subtree t c.args.self.at) (cell_at d.arena.items d.nodes.items t c.doc.invariant c.doc.view_is c.args.self.at n c.args.self.in_range c.index.ensures)

pub invariant_of-result : goal.invariant_of-result
invariant_of-result c = (begins c.args.self.doc.now c.args.self.at c.args.self.in_range c.count-left.result (counted (goal.at.invariant_of-result c).After-count-left)).0

pub returns : goal.returns
returns c = (begins c.args.self.doc.now c.args.self.at c.args.self.in_range c.count-left.result (counted (goal.at.returns c).After-count-left)).1
