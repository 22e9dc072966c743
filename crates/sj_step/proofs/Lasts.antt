-- The number of children of an array.
use Rattle.std.proofs.Common.{◌≡◌, ℕ, ◌∙◌, pos, ◌-ℤ◌, Some, suc, ◌+◌, List, [], ◌∷◌, length, ap, refl, sym}
use Rattle.std.proofs.lemmas.List.{length-map}
use Rattle.sj_json.specs.Tree.{Tree, null, truth, string, number, array, object, Child, children, numbered, below}
use Rattle.sj_doc.specs.Kinds.{kind_of}
use Rattle.sj_doc.specs.declared.node.Kind.TheVariants.{Array}
use Rattle.sj_path_tree.specs.declared.parts.Mode.{Mode}
use Rattle.sj_item.specs.Items.{ItemValue, node, made_number, made_text, made_truth, made_null, made_pair, item_tree, size_of}
use Rattle.sj_step.specs.Reach.{children_of, last, last_on}

pub length-numbered : (i : ℕ) (ks : List Child) → length (numbered i ks) ≡ length ks
length-numbered i [] = refl
length-numbered i (k ∷ ks) = ap suc (length-numbered (i + 1 + below k.1) ks)

size_of_array : (t : Tree) → kind_of t ≡ Array → size_of t ≡ length (children t)
size_of_array null e = cc
size_of_array (truth b) e = cc
size_of_array (string s) e = cc
size_of_array (number v) e = cc
size_of_array (array ts) e = refl
size_of_array (object ms) e = cc

-- an array has as many children as its size tells
pub size_of_children : (x : ItemValue) → kind_of (item_tree x) ≡ Array → length (children_of x) ≡ size_of (item_tree x)
size_of_children (node i t) e = simp (length-map, length-numbered) (sym (size_of_array t e))
size_of_children (made_number d) e = cc
size_of_children (made_text s) e = cc
size_of_children (made_truth b) e = cc
size_of_children made_null e = cc
size_of_children (made_pair name value id) e = cc

pub last_array : (mode : Mode) (x : ItemValue) (n : ℕ) → kind_of (item_tree x) ≡ Array → n ≡ size_of (item_tree x) → last mode x ≡ Some (pos n -ℤ pos 1)
unfolding last
last_array mode x n e s = ap (λ k. last_on k mode x) e ∙ ap (λ m. Some (pos m -ℤ pos 1)) (size_of_children x e ∙ sym s)
