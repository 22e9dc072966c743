use Rattle.std.proofs.Common.{◌≡◌, ℕ, ◌<◌, length, List, arith, ◌∙◌, sym, ap, subst}
use Rattle.sj_json.specs.Tree.{subtree}
use Rattle.sj_json.specs.Cells.{number_cell}
use Rattle.sj_doc.specs.declared.node.Span.{Span}
use Rattle.sj_doc.specs.declared.node.Body.TheVariants.{Numeral}
use Rattle.sj_doc.specs.Nodes.{cell_of, spelled, IsNumeral, IsNode, IsBody, IsSpan, text_in}
use Rattle.sj_doc.proofs.Docs.{count, cell_at, head_cell, kind-head, number-head, is_numeral, all_at}
use Rattle.sj_doc.proofs.doc.NodeRef.stored_numeral.Goals as goal
use Rattle.sj_doc.proofs.doc.NodeRef.stored_numeral.Goals.{After-doc, After-index}

within : (c : After-doc) → c.args.self.at < length c.doc.inside.nodes.items
within c =
    let d = c.doc.inside in
    omega (arith, count d.arena.items d.nodes.items c.args.self.doc.now c.doc.invariant c.doc.view_is, c.args.self.in_range)

pub index-requires : goal.index-requires
index-requires c = omega (arith, within (goal.at.index-requires c).After-doc, c.doc.inside.nodes.ok.0)

here : (c : After-index) → cell_of c.doc.inside.arena.items c.index.result.now.below c.index.result.now.body ≡ head_cell (subtree c.args.self.doc.now c.args.self.at)
here c =
    let d = c.doc.inside in
    cell_at d.arena.items d.nodes.items c.args.self.doc.now c.doc.invariant c.doc.view_is c.args.self.at c.index.result.now c.args.self.in_range c.index.ensures

fits : (c : After-index) → IsBody c.doc.inside.arena.items c.index.result.now.body
fits c =
    let d = c.doc.inside in
    (all_at (IsNode d.arena.items) d.nodes.items c.args.self.at c.index.result.now c.doc.invariant.fits (within (goal.at-After-index c).After-doc) c.index.ensures).1

span_fits : (c : After-index) (span : Span) → c.index.result.now.body ≡ Numeral span → IsBody c.doc.inside.arena.items (Numeral span)
span_fits c span is = subst (IsBody c.doc.inside.arena.items) is (fits c)

pub stored_at-requires : goal.stored_at-requires
stored_at-requires c =
    subst (λ (a : List ℕ). IsSpan a c.in-Numeral.span) (sym c.deref.ensures.value) (span_fits (goal.at.stored_at-requires c).After-index c.in-Numeral.span c.in-Numeral.is).0

pub returns-clause-tree : goal.returns-clause-tree
returns-clause-tree c =
    let text : c.stored_at.result.text.now ≡ text_in c.doc.inside.arena.items c.in-Numeral.span = c.stored_at.ensures ∙ ap (λ (a : List ℕ). text_in a c.in-Numeral.span) c.deref.ensures.value in
    number-head (spelled c.stored_at.result.text.now) _ (ap number_cell (ap spelled text) ∙ ap (cell_of c.doc.inside.arena.items c.index.result.now.below) (sym c.in-Numeral.is) ∙ here (goal.at.returns-clause-tree c).After-index)

pub returns-clause-kept : goal.returns-clause-kept
returns-clause-kept c =
    subst IsNumeral (ap (λ (a : List ℕ). text_in a c.in-Numeral.span) (sym c.deref.ensures.value) ∙ sym c.stored_at.ensures) (span_fits (goal.at.returns-clause-kept c).After-index c.in-Numeral.span c.in-Numeral.is).1

pub unreachable-requires : goal.unreachable-requires
unreachable-requires c =
    let e = is_numeral c.index.result.now.body (kind-head c.doc.inside.arena.items _ _ _ (here (goal.at.unreachable-requires c).After-index) ∙ c.requires) in
    c.in_default.not-Numeral e.0 e.1
