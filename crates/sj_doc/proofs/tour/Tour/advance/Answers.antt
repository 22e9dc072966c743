use Rattle.std.proofs.Common.{◌≡◌, ◌+◌, ◌-◌, ◌==◌, ℕ, List, ◌∷◌, Option, None, option_map, cond, arith, refl, sym, ap, ◌∙◌, subst}
use borrow.Author.Tests.{lt-ltb}
use Rattle.sj_json.specs.Tree.{Tree, subtree, NumberedChild}
use Rattle.sj_doc.specs.Kinds.{kind_of}
use Rattle.sj_doc.specs.Tours.{Visited, enter, leave, leaf}
use Rattle.sj_doc.specs.Listed.{node_key}
use Rattle.sj_doc.specs.Stops.{TourPosition, IsTour, arrival, visits_from, stops_of, key_in}
use Rattle.sj_doc.proofs.ParentLinks.{link_le}
use Rattle.sj_doc.proofs.Touring.{Leaving, Arriving, shown_key, shows_its_key, over, is_open, leaves, arrives, container_arrival, scalar_arrival, container_beyond, scalar_beyond}
use Rattle.sj_doc.proofs.tour.Tour.advance.Goals as goal
use Rattle.sj_doc.proofs.tour.Tour.advance.Goals.{then-self-eq0+else-self, else-self-eq0+else-self-end_of, After-end_of, After-up_at, After-shown_key-key, After-kind}

pub returns-then-self-clause-visit : goal.returns-then-self-clause-visit
returns-then-self-clause-visit c =
    let f = c.self.inside in
    (ap (λ x. x.1) (sym c.self.view_is) ∙ over f.doc.now f.first f.at f.inner f.depth c.self.invariant (omega (arith, c.if-self-eq0.true)) c.if-self.true, refl)

pub end_of-requires : goal.end_of-requires
end_of-requires c =
    let f = c.self.inside in
    (is_open f.doc.now f.first f.at f.inner f.depth c.self.invariant (omega (arith, c.if-self-eq0.false))).within

pub node_at-requires : goal.node_at-requires
node_at-requires c =
    let f = c.self.inside in
    (is_open f.doc.now f.first f.at f.inner f.depth c.self.invariant (omega (arith, c.if-self-eq0.false))).within

pub up_at-requires-clause-within : goal.up_at-requires-clause-within
up_at-requires-clause-within c =
    let f = c.self.inside in
    (is_open f.doc.now f.first f.at f.inner f.depth c.self.invariant (omega (arith, c.if-self-eq0.false))).within

pub up_at-requires-clause-container : goal.up_at-requires-clause-container
up_at-requires-clause-container c =
    let f = c.self.inside in
    (is_open f.doc.now f.first f.at f.inner f.depth c.self.invariant (omega (arith, c.if-self-eq0.false))).container

pub overflow_sub-self : goal.overflow_sub-self
overflow_sub-self c = omega (arith, c.up_at.ensures, link_le c.self.inside.doc.now c.self.inside.inner)

leaving : (c : After-up_at) → Leaving c.self.inside.doc.now c.self.inside.first c.self.inside.at c.self.inside.inner c.self.inside.depth
leaving c =
    let f = c.self.inside in
    leaves f.doc.now f.first f.at f.inner f.depth c.self.invariant (omega (arith, c.if-self-eq0.false)) (c.if-self-end_of.true ∙ c.end_of.ensures)

pub invariant_of-self : goal.invariant_of-self
invariant_of-self c =
    let f = c.self.inside in
    subst (λ (u : ℕ). IsTour f.doc.now f.first f.at (f.inner - u) (f.depth - 1)) (sym c.up_at.ensures) (leaving (goal.at.invariant_of-self c).After-up_at).after

pub returns-then-self-end_of-clause-visit : goal.returns-then-self-end_of-clause-visit
returns-then-self-end_of-clause-visit c =
    let f = c.self.inside in
    let l = leaving (goal.at.returns-then-self-end_of-clause-visit c).After-up_at in
    let kind_is : kind_of (subtree f.doc.now f.inner) ≡ c.kind-kind.result =
    sym (c.kind-kind.ensures ∙ ap (λ (t : Tree). kind_of (subtree t c.node_at.result.at)) c.node_at.ensures.doc ∙ ap (λ (i : ℕ). kind_of (subtree f.doc.now i)) c.node_at.ensures.number) in (
      ap (λ x. x.1) (sym c.self.view_is) ∙ l.left ∙ ap (λ k. leave k ∷ visits_from f.at (f.depth - 1) (stops_of f.doc.now f.first)) kind_is,
      lt-ltb f.first f.at l.begun,
    )

pub shown_key-key-requires : goal.shown_key-key-requires
shown_key-key-requires c =
    let f = c.self.inside in
    elim c.if-self-eq0.branch [
      | then-self-eq0+else-self w ↦ (arrives f.doc.now f.first f.at f.inner f.depth c.self.invariant (λ _. w.if-self.false) (λ h. absurd (omega (arith, w.if-self-eq0.true)))).within
      | else-self-eq0+else-self-end_of w ↦ (arrives f.doc.now f.first f.at f.inner f.depth c.self.invariant (λ e. absurd (w.if-self-eq0.false e)) (λ _ e. w.if-self-end_of.false (e ∙ sym w.end_of.ensures))).within
    ]

arriving : (c : After-shown_key-key) → Arriving c.self.inside.doc.now c.self.inside.first c.self.inside.at c.self.inside.inner c.self.inside.depth (shown_key c.self.inside.doc.now c.self.inside.at c.self.inside.depth)
arriving c =
    let f = c.self.inside in
    elim c.if-self-eq0.branch [
      | then-self-eq0+else-self w ↦ arrives f.doc.now f.first f.at f.inner f.depth c.self.invariant (λ _. w.if-self.false) (λ h. absurd (omega (arith, w.if-self-eq0.true)))
      | else-self-eq0+else-self-end_of w ↦ arrives f.doc.now f.first f.at f.inner f.depth c.self.invariant (λ e. absurd (w.if-self-eq0.false e)) (λ _ e. w.if-self-end_of.false (e ∙ sym w.end_of.ensures))
    ]

pub node_at-node-requires : goal.node_at-node-requires
node_at-node-requires c = (arriving (goal.at.node_at-node-requires c).After-shown_key-key).within

pub overflow_add-self-in-Array : goal.overflow_add-self-in-Array
overflow_add-self-in-Array c = let a = arriving (goal.at.overflow_add-self-in-Array c).After-shown_key-key in omega (arith, a.small, c.node_at-node.result.small, c.node_at-node.ensures.number)

kind_is : (c : After-kind) → c.kind.result ≡ kind_of (subtree c.self.inside.doc.now c.self.inside.at)
kind_is c = c.kind.ensures ∙ ap (λ (t : Tree). kind_of (subtree t c.node_at-node.result.at)) c.node_at-node.ensures.doc ∙ ap (λ (i : ℕ). kind_of (subtree c.self.inside.doc.now i)) c.node_at-node.ensures.number

pub invariant_of-self-in-Array : goal.invariant_of-self-in-Array
invariant_of-self-in-Array c =
    let f = c.self.inside in
    let k = kind_is (goal.at.invariant_of-self-in-Array c).After-kind in
    let e = container_beyond f.at f.depth f.inner (subtree f.doc.now f.at) c.kind.result k c.in-Array.is in
    subst (λ (p : TourPosition). IsTour f.doc.now f.first p.0 p.2 p.1) e (arriving (goal.at.invariant_of-self-in-Array c).After-shown_key-key).after

pub invariant_of-self-in_default : goal.invariant_of-self-in_default
invariant_of-self-in_default c =
    let f = c.self.inside in
    let k = kind_is (goal.at.invariant_of-self-in_default c).After-kind in
    let e = scalar_beyond f.at f.depth f.inner (subtree f.doc.now f.at) c.kind.result k c.in_default.not-Array c.in_default.not-Object in
    subst (λ (p : TourPosition). IsTour f.doc.now f.first p.0 p.2 p.1) e (arriving (goal.at.invariant_of-self-in_default c).After-shown_key-key).after

-- the node that is handed out
named : (c : After-kind) → ◌≡◌ {A = NumberedChild} (shown_key c.self.inside.doc.now c.self.inside.at c.self.inside.depth, c.self.inside.at, subtree c.self.inside.doc.now c.self.inside.at)
    (option_map (λ s. s.now) c.shown_key-key.result, c.node_at-node.result.at, subtree c.node_at-node.result.doc.now c.node_at-node.result.at)
named c =
    let f = c.self.inside in
    ap (λ (k : Option (List ℕ)). (k, f.at, subtree f.doc.now f.at)) (sym c.shown_key-key.ensures)
    ∙ ap (λ (i : ℕ). (option_map (λ s. s.now) c.shown_key-key.result, i, subtree f.doc.now i)) (sym c.node_at-node.ensures.number)
    ∙ ap (λ (t : Tree). (option_map (λ s. s.now) c.shown_key-key.result, c.node_at-node.result.at, subtree t c.node_at-node.result.at)) (sym c.node_at-node.ensures.doc)

pub returns-in-Array-clause-visit : goal.returns-in-Array-clause-visit
returns-in-Array-clause-visit c =
    let f = c.self.inside in
    let k = kind_is (goal.at.returns-in-Array-clause-visit c).After-kind in
    let a = arriving (goal.at.returns-in-Array-clause-visit c).After-shown_key-key in
    let e = container_beyond f.at f.depth f.inner (subtree f.doc.now f.at) c.kind.result k c.in-Array.is in (
      ap (λ x. x.1) (sym c.self.view_is) ∙ a.left
          ∙ ap (λ (p : TourPosition). arrival (shown_key f.doc.now f.at f.depth) f.at (subtree f.doc.now f.at) ∷ visits_from p.0 p.1 (stops_of f.doc.now f.first)) e
          ∙ ap (λ (v : Visited). v ∷ visits_from (f.at + 1) (f.depth + 1) (stops_of f.doc.now f.first)) (container_arrival (shown_key f.doc.now f.at f.depth) f.at (subtree f.doc.now f.at) c.kind.result k c.in-Array.is)
          ∙ ap (λ (n : NumberedChild). enter n ∷ visits_from (f.at + 1) (f.depth + 1) (stops_of f.doc.now f.first)) (named (goal.at.returns-in-Array-clause-visit c).After-kind),
      lt-ltb f.first (f.at + 1) (omega (arith, a.begun)),
    )

pub returns-in_default-clause-visit : goal.returns-in_default-clause-visit
returns-in_default-clause-visit c =
    let f = c.self.inside in
    let k = kind_is (goal.at.returns-in_default-clause-visit c).After-kind in
    let a = arriving (goal.at.returns-in_default-clause-visit c).After-shown_key-key in
    let e = scalar_beyond f.at f.depth f.inner (subtree f.doc.now f.at) c.kind.result k c.in_default.not-Array c.in_default.not-Object in (
      ap (λ x. x.1) (sym c.self.view_is) ∙ a.left
          ∙ ap (λ (p : TourPosition). arrival (shown_key f.doc.now f.at f.depth) f.at (subtree f.doc.now f.at) ∷ visits_from p.0 p.1 (stops_of f.doc.now f.first)) e
          ∙ ap (λ (v : Visited). v ∷ visits_from (f.at + 1) f.depth (stops_of f.doc.now f.first)) (scalar_arrival (shown_key f.doc.now f.at f.depth) f.at (subtree f.doc.now f.at) c.kind.result k c.in_default.not-Array c.in_default.not-Object)
          ∙ ap (λ (n : NumberedChild). leaf n ∷ visits_from (f.at + 1) f.depth (stops_of f.doc.now f.first)) (named (goal.at.returns-in_default-clause-visit c).After-kind),
      lt-ltb f.first (f.at + 1) (omega (arith, a.begun)),
    )

-- the key of the node that is handed out
keyed : (c : After-kind) → key_in c.self.inside.doc.now c.self.inside.at ≡ key_in c.node_at-node.result.doc.now c.node_at-node.result.at
keyed c = sym (ap (λ (t : Tree). key_in t c.node_at-node.result.at) c.node_at-node.ensures.doc ∙ ap (λ (i : ℕ). key_in c.self.inside.doc.now i) c.node_at-node.ensures.number)

pub returns-in-Array-clause-key : goal.returns-in-Array-clause-key
unfolding node_key
returns-in-Array-clause-key c =
    let f = c.self.inside in
    shows_its_key (λ s. s.now) (f.depth == 0) _ c.shown_key-key.result (c.shown_key-key.ensures ∙ ap (cond (f.depth == 0) None) (keyed (goal.at.returns-in-Array-clause-key c).After-kind))

pub returns-in_default-clause-key : goal.returns-in_default-clause-key
unfolding node_key
returns-in_default-clause-key c =
    let f = c.self.inside in
    shows_its_key (λ s. s.now) (f.depth == 0) _ c.shown_key-key.result (c.shown_key-key.ensures ∙ ap (cond (f.depth == 0) None) (keyed (goal.at.returns-in_default-clause-key c).After-kind))
