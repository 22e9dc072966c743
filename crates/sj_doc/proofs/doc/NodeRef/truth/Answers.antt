use Rattle.std.proofs.Common.{◌≡◌, arith, ◌∙◌, sym, ap}
use Rattle.sj_json.specs.Tree.{subtree}
use Rattle.sj_doc.specs.Nodes.{cell_of}
use Rattle.sj_doc.proofs.Docs.{count, cell_at, head_cell, kind-head, truth-head, is_truth}
use Rattle.sj_doc.proofs.doc.NodeRef.truth.Goals as goal
use Rattle.sj_doc.proofs.doc.NodeRef.truth.Goals.{After-index}

pub index-requires : goal.index-requires
index-requires c =
    let d = c.doc.inside in
    omega (arith, count d.arena.items d.nodes.items c.args.self.doc.now c.doc.invariant c.doc.view_is, d.nodes.ok.0, c.args.self.in_range)

here : (c : After-index) → cell_of c.doc.inside.arena.items c.index.result.now.below c.index.result.now.body ≡ head_cell (subtree c.args.self.doc.now c.args.self.at)
here c =
    let d = c.doc.inside in
    cell_at d.arena.items d.nodes.items c.args.self.doc.now c.doc.invariant c.doc.view_is c.args.self.at c.index.result.now c.args.self.in_range c.index.ensures

pub returns : goal.returns
returns c =
    truth-head c.in-Truth.b _ (ap (cell_of c.doc.inside.arena.items c.index.result.now.below) (sym c.in-Truth.is) ∙ here (goal.at.returns c).After-index)

pub unreachable-requires : goal.unreachable-requires
unreachable-requires c =
    let e = is_truth c.index.result.now.body (kind-head c.doc.inside.arena.items _ _ _ (here (goal.at.unreachable-requires c).After-index) ∙ c.requires) in
    c.in_default.not-Truth e.0 e.1
