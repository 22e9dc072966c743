use Rattle.std.proofs.Common.{◌≡◌, ◌+◌, ◌-◌, ◌≤◌, ℕ, List, ◌∷◌, ◌++◌, get_or, Option, Some, option_map, IfSome, arith, sym, ap, ◌∙◌, subst}
use Rattle.sj_json.specs.Tree.{Tree, below, subtree, NumberedChild}
use Rattle.sj_json.specs.Cells.{layout}
use Rattle.sj_doc.specs.Limits.{most_nodes}
use Rattle.sj_doc.specs.declared.node.Node.{Node}
use Rattle.sj_doc.specs.declared.node.Span.{Span}
use Rattle.sj_doc.specs.Nodes.{IsSpan, text_in}
use Rattle.sj_doc.specs.Children.{children_left, IsChildren}
use Rattle.sj_doc.specs.Listed.{node_key}
use Rattle.sj_doc.proofs.Docs.{count}
use Rattle.sj_doc.proofs.Listing.{NextChild, next_kid, node_key as node_key_laid, node_below, node_fits}
use Rattle.sj_doc.proofs.Touring.{key_read}
use Rattle.sj_doc.proofs.children.Children.advance.Goals as goal
use Rattle.sj_doc.proofs.children.Children.advance.Goals.{After-doc, in-Some, in-None}

first : (c : After-doc) → NextChild c.self.inside.doc.now c.self.inside.at c.self.inside.left
first c = next_kid c.self.inside.doc.now c.self.inside.at c.self.inside.left c.self.invariant (omega arith)

pub index-node-requires : goal.index-node-requires
index-node-requires c =
    let d = c.doc.inside in
    omega (arith, count d.arena.items d.nodes.items c.self.inside.doc.now c.doc.invariant c.doc.view_is, (first (goal.at.index-node-requires c).After-doc).within, d.nodes.ok.0)

pub text_at-requires : goal.text_at-requires
text_at-requires c =
    let d = c.doc.inside in
    let a = c.self.inside in
    let fits = node_fits d.arena.items d.nodes.items a.doc.now c.doc.invariant c.doc.view_is a.at a.left (first (goal.at.text_at-requires c).After-doc) c.index-node.result.now c.index-node.ensures in
    let span : IsSpan d.arena.items c.in-Some.span = subst (λ (k : Option Span). IfSome k (IsSpan d.arena.items)) c.in-Some.is fits.0 in
    subst (λ (x : List ℕ). IsSpan x c.in-Some.span) (sym c.deref.ensures.value) span

-- of the node that was read
module _ (c : After-doc) (node : Node) (read : node ≡ get_or c.doc.inside.nodes.items c.self.inside.at node) where
  below_is : node.below ≡ below (first c).kid.1
  below_is =
      let d = c.doc.inside in
      let a = c.self.inside in
      node_below d.arena.items d.nodes.items a.doc.now c.doc.invariant c.doc.view_is a.at a.left (first c) node read

  small : c.self.inside.at + 1 + node.below ≤ most_nodes
  small =
      let d = c.doc.inside in
      let a = c.self.inside in
      omega (arith, below_is, (first c).small, count d.arena.items d.nodes.items a.doc.now c.doc.invariant c.doc.view_is, c.doc.invariant.small)

  later : c.self.inside.at + 1 + below (first c).kid.1 ≡ c.self.inside.at + (1 + node.below)
  later = omega (arith, below_is)

  child_is : (k : Option (List ℕ)) → k ≡ option_map (text_in c.doc.inside.arena.items) node.key
      → children_left c.self.inside.doc.now c.self.inside.at c.self.inside.left ≡ (k, c.self.inside.at, subtree c.self.inside.doc.now c.self.inside.at) ∷ children_left c.self.inside.doc.now (c.self.inside.at + (1 + node.below)) (c.self.inside.left - 1)
  child_is k named =
      let d = c.doc.inside in
      let a = c.self.inside in
      let f = first c in
      let key : k ≡ f.kid.0 = named ∙ node_key_laid d.arena.items d.nodes.items a.doc.now c.doc.invariant c.doc.view_is a.at a.left f node read in
      f.splits
      ∙ ap (λ (x : Option (List ℕ)). (x, a.at, f.kid.1) ∷ children_left a.doc.now (a.at + 1 + below f.kid.1) (a.left - 1)) (sym key)
      ∙ ap (λ (x : Tree). (k, a.at, x) ∷ children_left a.doc.now (a.at + 1 + below f.kid.1) (a.left - 1)) (sym f.tree)
      ∙ ap (λ (i : ℕ). (k, a.at, subtree a.doc.now a.at) ∷ children_left a.doc.now i (a.left - 1)) later

pub overflow_add-self : goal.overflow_add-self
overflow_add-self c = omega (arith, small (goal.at.overflow_add-self c).After-doc c.index-node.result.now c.index-node.ensures)

pub overflow_add-self-2 : goal.overflow_add-self-2
overflow_add-self-2 c = omega (arith, small (goal.at.overflow_add-self-2 c).After-doc c.index-node.result.now c.index-node.ensures)

pub invariant_of-child : goal.invariant_of-child
invariant_of-child c =
    let d = c.doc.inside in
    let f = first (goal.at.invariant_of-child c).After-doc in
    record { in_range = f.within; small = omega (arith, f.within, count d.arena.items d.nodes.items c.self.inside.doc.now c.doc.invariant c.doc.view_is, c.doc.invariant.small) }

pub invariant_of-self : goal.invariant_of-self
invariant_of-self c =
    let a = c.self.inside in
    subst (λ (i : ℕ). IsChildren a.doc.now i (a.left - 1)) (later (goal.at.invariant_of-self c).After-doc c.index-node.result.now c.index-node.ensures) (first (goal.at.invariant_of-self c).After-doc).after

-- the key of the first of them
first_key : {k l : NumberedChild} {ks ls : List NumberedChild} → k ∷ ks ≡ l ∷ ls → k.0 ≡ l.0
first_key e = cc

pub returns-clause-child : goal.returns-clause-child
returns-clause-child c =
    let text = text_in c.doc.inside.arena.items in
    let key : option_map (λ s. s.now) c.match-node.key ≡ option_map text c.index-node.result.now.key =
    elim c.match-node.branch [
      | in-Some w ↦ ap (option_map (λ s. s.now)) w.key-is ∙ ap Some (w.text_at.ensures ∙ ap (λ (x : List ℕ). text_in x w.in-Some.span) w.deref.ensures.value) ∙ ap (option_map text) (sym w.in-Some.is)
      | in-None w ↦ ap (option_map (λ s. s.now)) w.key-is ∙ ap (option_map text) (sym w.in-None.is)
    ] in
    sym c.self.view_is ∙ child_is (goal.at.returns-clause-child c).After-doc c.index-node.result.now c.index-node.ensures (option_map (λ s. s.now) c.match-node.key) key

pub returns-clause-key : goal.returns-clause-key
unfolding node_key
returns-clause-key c =
    let a = c.self.inside in
    let f = first (goal.at.returns-clause-key c).After-doc in
    key_read a.doc.now a.at f.within f.kid.0 f.rest (f.lie ∙ ap (λ (u : Tree). layout f.kid.0 u ++ f.rest) (sym f.tree))
    ∙ first_key (sym f.splits ∙ c.self.view_is ∙ returns-clause-child c)
