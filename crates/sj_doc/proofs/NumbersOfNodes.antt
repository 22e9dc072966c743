-- The numbers of a document are well made.
use Rattle.std.proofs.Common.{◌≡◌, ℕ, suc, ◌<◌, List, [], ◌∷◌, length, get_or, None, subst, arith}
use Rattle.std.specs.List.{AllByRecursion}
use Rattle.std.proofs.lemmas.List.{get_or_default}
use Rattle.sj_json.specs.Tree.{Number, Tree, null, truth, string, number, array, object, subtrees, subtree}
use Rattle.sj_json.specs.Cells.{number_cell, tree_of}
use Rattle.sj_json.specs.Printing as printing
use Rattle.sj_json.specs.Printing.{IsWellMade, IsTree}
use Rattle.sj_json.proofs.Places.{length-subtrees}
use Rattle.sj_doc.specs.declared.node.Body.{Body}
use Rattle.sj_doc.specs.declared.node.Body.TheVariants.{Null, Truth, Text, Numeral, Closed, Opened}
use Rattle.sj_doc.specs.declared.node.Node.{Node}
use Rattle.sj_doc.specs.Nodes.{text_in, cell_of, entries, IsBody, IsNode, IsDoc}
use Rattle.sj_doc.proofs.Numerals.{spelled_made}
use Rattle.sj_doc.proofs.Docs.{count, cell_at, head_cell, all_at}

same_number : {v w : Number} → number_cell v ≡ number_cell w → v ≡ w
same_number e = cc

number_made : (arena : List ℕ) (l : ℕ) (b : Body) (v : Number) → IsBody arena b → cell_of arena l b ≡ number_cell v → IsWellMade v
number_made arena l Null v h e = cc
number_made arena l (Truth x) v h e = cc
number_made arena l (Text s) v h e = cc
number_made arena l (Numeral s) v h e = subst IsWellMade (same_number e) (spelled_made (text_in arena s) h.1.number)
number_made arena l (Closed k n m) v h e = cc
number_made arena l (Opened k n m) v h e = cc

node_made : (arena : List ℕ) (l : ℕ) (b : Body) (t : Tree) → IsBody arena b → cell_of arena l b ≡ head_cell t → printing.IsNode t
node_made arena l b null h e = tt
node_made arena l b (truth x) h e = tt
node_made arena l b (string s) h e = tt
node_made arena l b (number v) h e = number_made arena l b v h e
node_made arena l b (array ts) h e = tt
node_made arena l b (object ms) h e = tt

all_from : {X : Type 0} (P : X → Type 0) (d : X) (xs : List X) → ((i : ℕ) → i < length xs → P (get_or xs i d)) → AllByRecursion P xs
all_from P d [] h = tt
all_from P d (x ∷ xs) h = (h 0 (omega arith), all_from P d xs (λ i l. h (suc i) (omega (arith, l))))

nothing : Node
nothing = record { key = None; below = 0; body = Null }

module _ (arena : List ℕ) (nodes : List Node) (t : Tree) (doc : IsDoc arena nodes) (view : tree_of (entries arena nodes) ≡ t) where
  made_at : (i : ℕ) → i < length (subtrees t) → printing.IsNode (get_or (subtrees t) i null)
  made_at i l =
      let n = get_or nodes i nothing in
      let within : i < length nodes = omega (arith, count arena nodes t doc view, length-subtrees t, l) in
      let here : n ≡ get_or nodes i n = get_or_default nodes i nothing n within in
      node_made arena n.below n.body (subtree t i) (all_at (IsNode arena) nodes i n doc.fits within here).1 (cell_at arena nodes t doc view i n (omega (arith, length-subtrees t, l)) here)

  pub doc_made : IsTree t
  doc_made = all_from printing.IsNode null (subtrees t) made_at
