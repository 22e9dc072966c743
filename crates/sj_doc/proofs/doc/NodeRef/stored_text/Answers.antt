use Rattle.std.proofs.Common.{◌≡◌, ℕ, ◌<◌, length, List, arith, ◌∙◌, sym, ap, subst}
use Rattle.sj_json.specs.Tree.{subtree}
use Rattle.sj_doc.specs.Nodes.{cell_of, IsNode, IsBody, IsSpan, text_in}
use Rattle.sj_doc.proofs.Docs.{count, cell_at, head_cell, kind-head, string-head, is_text, all_at}
use Rattle.sj_doc.proofs.doc.NodeRef.stored_text.Goals as goal
use Rattle.sj_doc.proofs.doc.NodeRef.stored_text.Goals.{After-doc, After-index}

within : (c : After-doc) → c.args.self.at < length c.doc.inside.nodes.items
within c =
    let d = c.doc.inside in
    omega (arith, count d.arena.items d.nodes.items c.args.self.doc.now c.doc.invariant c.doc.view_is, c.args.self.in_range)

pub index-requires : goal.index-requires
index-requires c = omega (arith, within (goal.at.index-requires c).After-doc, c.doc.inside.nodes.ok.0)

here : (c : After-index) → cell_of c.doc.inside.arena.items c.index.result.now.below c.index.result.now.body ≡ head_cell (subtree c.args.self.doc.now c.args.self.at)
here c =
    let d = c.doc.inside in
    cell_at d.arena.items d.nodes.items c.args.self.doc.now c.doc.invariant c.doc.view_is c.args.self.at c.index.result.now c.args.self.in_range c.index.ensures

pub stored_at-requires : goal.stored_at-requires
stored_at-requires c =
    let d = c.doc.inside in
    let fits = all_at (IsNode d.arena.items) d.nodes.items c.args.self.at c.index.result.now c.doc.invariant.fits (within (goal.at.stored_at-requires c).After-doc) c.index.ensures in
    let span : IsSpan d.arena.items c.in-Text.span = subst (IsBody d.arena.items) c.in-Text.is fits.1 in
    subst (λ (a : List ℕ). IsSpan a c.in-Text.span) (sym c.deref.ensures.value) span

pub returns : goal.returns
returns c =
    string-head c.stored_at.result.text.now _ (ap (λ s. Rattle.sj_json.specs.Cells.string_cell s) (c.stored_at.ensures ∙ ap (λ (a : List ℕ). text_in a c.in-Text.span) c.deref.ensures.value) ∙ ap (cell_of c.doc.inside.arena.items c.index.result.now.below) (sym c.in-Text.is) ∙ here (goal.at.returns c).After-index)

pub unreachable-requires : goal.unreachable-requires
unreachable-requires c =
    let e = is_text c.index.result.now.body (kind-head c.doc.inside.arena.items _ _ _ (here (goal.at.unreachable-requires c).After-index) ∙ c.requires) in
    c.in_default.not-Text e.0 e.1
