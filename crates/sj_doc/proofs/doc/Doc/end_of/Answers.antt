use Rattle.std.proofs.Common.{◌≡◌, arith}
use Rattle.sj_json.specs.Tree.{subtree, below}
use Rattle.sj_doc.proofs.Docs.{count, below_at}
use Rattle.sj_doc.proofs.Touring.{reach}
use Rattle.sj_doc.proofs.doc.Doc.end_of.Goals as goal
use Rattle.sj_doc.proofs.doc.Doc.end_of.Goals.{After-index}

pub overflow_add-result : goal.overflow_add-result
overflow_add-result c =
    let d = c.self.inside in
    omega (arith, count d.arena.items d.nodes.items c.args.self.now c.self.invariant c.self.view_is, c.self.invariant.small, c.requires)

pub index-requires : goal.index-requires
index-requires c =
    let d = c.self.inside in
    omega (arith, count d.arena.items d.nodes.items c.args.self.now c.self.invariant c.self.view_is, d.nodes.ok.0, c.requires)

below_is : (c : After-index) → c.index.result.now.below ≡ below (subtree c.args.self.now c.args.at)
below_is c =
    let d = c.self.inside in
    below_at d.arena.items d.nodes.items c.args.self.now c.self.invariant c.self.view_is c.args.at c.index.result.now c.requires c.index.ensures

pub overflow_add-result-2 : goal.overflow_add-result-2
overflow_add-result-2 c =
    let d = c.self.inside in
    omega (arith, below_is (goal.at.overflow_add-result-2 c).After-index, reach c.args.self.now c.args.at c.requires, count d.arena.items d.nodes.items c.args.self.now c.self.invariant c.self.view_is, c.self.invariant.small)

pub returns : goal.returns
returns c = omega (arith, below_is (goal.at.returns c).After-index)
