use Rattle.std.proofs.Common.{◌≡◌, ◌<◌, ℕ, List, drop, length, Option, Some, option_map, IfSome, arith, sym, ap, ◌∙◌, subst}
use Rattle.sj_doc.specs.declared.node.Span.{Span}
use Rattle.sj_doc.specs.Nodes.{text_in, IsSpan, IsNode}
use Rattle.sj_doc.specs.Stops.{key_in}
use Rattle.sj_doc.proofs.Docs.{count, all_at, node_key_at, lies_here, laid_as}
use Rattle.sj_doc.proofs.Touring.{key_read}
use Rattle.sj_doc.proofs.doc.Doc.stored_key_at.Goals as goal
use Rattle.sj_doc.proofs.doc.Doc.stored_key_at.Goals.{After-index}

pub index-requires : goal.index-requires
index-requires c =
    let d = c.self.inside in
    omega (arith, count d.arena.items d.nodes.items c.args.self.now c.self.invariant c.self.view_is, d.nodes.ok.0, c.requires)

pub stored_at-requires : goal.stored_at-requires
stored_at-requires c =
    let d = c.self.inside in
    let within : c.args.at < length d.nodes.items = omega (arith, count d.arena.items d.nodes.items c.args.self.now c.self.invariant c.self.view_is, c.requires) in
    let fits = all_at (IsNode d.arena.items) d.nodes.items c.args.at c.index.result.now c.self.invariant.fits within c.index.ensures in
    let span : IsSpan d.arena.items c.in-Some.span = subst (λ (k : Option Span). IfSome k (IsSpan d.arena.items)) c.in-Some.is fits.0 in
    subst (λ (x : List ℕ). IsSpan x c.in-Some.span) (sym c.deref.ensures.value) span

key_is : (c : After-index) → option_map (text_in c.self.inside.arena.items) c.index.result.now.key ≡ key_in c.args.self.now c.args.at
key_is c =
    let d = c.self.inside in
    let t = c.args.self.now in
    let at = lies_here d.arena.items d.nodes.items t c.self.invariant c.self.view_is c.args.at c.requires in
    node_key_at d.arena.items d.nodes.items t c.self.invariant c.self.view_is c.args.at c.index.result.now c.requires c.index.ensures
    ∙ sym (key_read t c.args.at c.requires at.0 at.1 (ap (drop c.args.at) (sym (laid_as d.arena.items d.nodes.items t c.self.invariant c.self.view_is)) ∙ at.2))

pub returns-in-Some : goal.returns-in-Some
returns-in-Some c =
    ap Some (c.stored_at.ensures ∙ ap (λ (x : List ℕ). text_in x c.in-Some.span) c.deref.ensures.value) ∙ ap (option_map (text_in c.self.inside.arena.items)) (sym c.in-Some.is) ∙ key_is (goal.at.returns-in-Some c).After-index

pub returns-in-None : goal.returns-in-None
returns-in-None c = ap (option_map (text_in c.self.inside.arena.items)) (sym c.in-None.is) ∙ key_is (goal.at.returns-in-None c).After-index
