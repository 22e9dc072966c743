-- What is known of a document's nodes.
use Rattle.std.proofs.Common.{◌≡◌, ℕ, suc, zero, ◌<◌, List, [], ◌∷◌, ◌++◌, length, get_or, Bool, true, false, Option, None, option_map, refl, sym, ap, ◌∙◌, subst, arith, add-zero}
use Rattle.std.proofs.lemmas.List.{length-map, get_or-drop}
use Rattle.std.proofs.Math.ListN.{get_or-map}
use Rattle.std.specs.List.{AllByRecursion}
use Rattle.sj_json.specs.Tree.{Number, Tree, null, truth, string, number, array, object, item_list, member_list, below, subtree, node_count, children}
use Rattle.sj_json.specs.Cells.{Cell, null_cell, truth_cell, string_cell, number_cell, closed, opened, Entry, layout, layout_items, layout_members, tree_of}
use Rattle.sj_json.proofs.Places.{length-layout, length-subtrees, LiesAt, lies_at}
use Rattle.sj_doc.specs.declared.node.Kind.{Kind}
use Rattle.sj_doc.specs.declared.node.Body.{Body}
use Rattle.sj_doc.specs.declared.node.Body.TheVariants.{Null, Truth, Text, Numeral, Closed, Opened}
use Rattle.sj_doc.specs.declared.node.Node.{Node}
use Rattle.sj_doc.specs.declared.node.Span.{Span}
use Rattle.sj_json.specs.Links.{ups}
use Rattle.sj_doc.specs.Nodes.{text_in, cell_of, entry_of, entries, IsLink, AreLinks, IsBelow, IsNode, IsDoc}
use Rattle.sj_doc.specs.declared.node.Kind.TheVariants as kinds
use Rattle.sj_doc.specs.Kinds.{kind_of, IsContainer, body_kind, body_count}

abbrev pub head_cell : Tree → Cell
head_cell null = null_cell
head_cell (truth b) = truth_cell b
head_cell (string s) = string_cell s
head_cell (number v) = number_cell v
head_cell (array ts) = closed false (length (item_list ts)) (below (array ts))
head_cell (object ms) = closed true (length (member_list ms)) (below (object ms))

abbrev pub layout_below : Tree → List Entry
layout_below null = []
layout_below (truth b) = []
layout_below (string s) = []
layout_below (number v) = []
layout_below (array ts) = layout_items ts
layout_below (object ms) = layout_members ms

pub layout-cons : (k : Option (List ℕ)) (t : Tree) → layout k t ≡ (k, head_cell t) ∷ layout_below t
layout-cons k null = refl
layout-cons k (truth b) = refl
layout-cons k (string s) = refl
layout-cons k (number v) = refl
layout-cons k (array ts) = refl
layout-cons k (object ms) = refl

pub all_at : {X : Type 0} (P : X → Type 0) (xs : List X) (i : ℕ) (x : X) → AllByRecursion P xs → i < length xs → x ≡ get_or xs i x → P x
all_at P [] i x h l e = absurd (omega arith)
all_at P (y ∷ ys) zero x h l e = subst P (sym e) h.0
all_at P (y ∷ ys) (suc i) x h l e = all_at P ys i x h.1 (omega arith) e

abbrev cell_below : Cell → ℕ
cell_below null_cell = 0
cell_below (truth_cell b) = 0
cell_below (string_cell s) = 0
cell_below (number_cell v) = 0
cell_below (closed k n m) = m
cell_below (opened k n m) = 0

body-cell_below : (arena : List ℕ) (l : ℕ) (b : Body) → IsBelow l b → l ≡ cell_below (cell_of arena l b)
body-cell_below arena l Null h = h
body-cell_below arena l (Truth b) h = h
body-cell_below arena l (Text s) h = h
body-cell_below arena l (Numeral s) h = h
body-cell_below arena l (Closed k n m) h = refl
body-cell_below arena l (Opened k n m) h = h

head-cell_below : (t : Tree) → cell_below (head_cell t) ≡ below t
head-cell_below null = refl
head-cell_below (truth b) = refl
head-cell_below (string s) = refl
head-cell_below (number v) = refl
head-cell_below (array ts) = refl
head-cell_below (object ms) = refl

below-head : (arena : List ℕ) (l : ℕ) (b : Body) (t : Tree) → IsBelow l b → cell_of arena l b ≡ head_cell t → l ≡ below t
below-head arena l b t h e = body-cell_below arena l b h ∙ ap cell_below e ∙ head-cell_below t

links_at : (us : List ℕ) (ns : List Node) (i : ℕ) (n : Node) → AreLinks us ns → i < length ns → n ≡ get_or ns i n → IsLink (get_or us i 0) n.body
links_at [] [] i n h l e = absurd (omega arith)
links_at [] (m ∷ ns) i n h l e = absurd h
links_at (u ∷ us) [] i n h l e = absurd h
links_at (u ∷ us) (m ∷ ns) zero n h l e = subst (λ (x : Node). IsLink u x.body) (sym e) h.0
links_at (u ∷ us) (m ∷ ns) (suc i) n h l e = links_at us ns i n h.1 (omega arith) e

-- the tree t, the nodes that lay it out
module _ (arena : List ℕ) (nodes : List Node) (t : Tree) (doc : IsDoc arena nodes) (view : tree_of (entries arena nodes) ≡ t) where
  pub laid_as : entries arena nodes ≡ layout None t
  laid_as = doc.laid ∙ ap (layout None) view

  pub count : length nodes ≡ node_count t
  count = sym (length-map nodes (entry_of arena)) ∙ ap length laid_as ∙ length-layout None t

  pub lies_here : (i : ℕ) → i < node_count t → LiesAt (entries arena nodes) i (subtree t i)
  lies_here i h = subst (λ cs. LiesAt cs i (subtree t i)) (sym laid_as) (lies_at None t i (omega (arith, length-subtrees t)))

  pub entry_at : (i : ℕ) (n : Node) (h : i < node_count t) → n ≡ get_or nodes i n → entry_of arena n ≡ ((lies_here i h).0, head_cell (subtree t i))
  entry_at i n h e =
      let at = lies_here i h in
      let d = entry_of arena n in
      ap (entry_of arena) e ∙ sym (get_or-map (entry_of arena) nodes i n)
      ∙ ap (λ j. get_or (entries arena nodes) j d) (sym (add-zero i)) ∙ sym (get_or-drop i (entries arena nodes) 0 d)
      ∙ ap (λ cs. get_or cs 0 d) (at.2 ∙ ap (λ cs. cs ++ at.1) (layout-cons at.0 (subtree t i)))

  pub cell_at : (i : ℕ) (n : Node) → i < node_count t → n ≡ get_or nodes i n → cell_of arena n.below n.body ≡ head_cell (subtree t i)
  cell_at i n h e = ap (λ x. x.1) (entry_at i n h e)

  pub node_key_at : (i : ℕ) (n : Node) → (h : i < node_count t) → n ≡ get_or nodes i n → option_map (text_in arena) n.key ≡ (lies_here i h).0
  node_key_at i n h e = ap (λ x. x.0) (entry_at i n h e)

  within : (i : ℕ) → i < node_count t → i < length nodes
  within i h = omega (arith, count)

  pub link_at : (i : ℕ) (n : Node) → i < node_count t → n ≡ get_or nodes i n → IsLink (get_or (ups 0 t) i 0) n.body
  link_at i n h e = links_at (ups 0 t) nodes i n (subst (λ (u : Tree). AreLinks (ups 0 u) nodes) view doc.linked) (within i h) e

  pub below_at : (i : ℕ) (n : Node) → i < node_count t → n ≡ get_or nodes i n → n.below ≡ below (subtree t i)
  below_at i n h e = below-head arena n.below n.body (subtree t i) (all_at (IsNode arena) nodes i n doc.fits (within i h) e).2 (cell_at i n h e)

abbrev cell_kind : Cell → Kind
cell_kind null_cell = kinds.Null
cell_kind (truth_cell b) = kinds.Truth
cell_kind (string_cell s) = kinds.String
cell_kind (number_cell v) = kinds.Number
cell_kind (closed false n m) = kinds.Array
cell_kind (closed true n m) = kinds.Object
cell_kind (opened k n m) = kinds.Null

body-cell_kind : (arena : List ℕ) (l : ℕ) (b : Body) → body_kind b ≡ cell_kind (cell_of arena l b)
body-cell_kind arena l Null = refl
body-cell_kind arena l (Truth b) = refl
body-cell_kind arena l (Text s) = refl
body-cell_kind arena l (Numeral s) = refl
body-cell_kind arena l (Closed false n m) = refl
body-cell_kind arena l (Closed true n m) = refl
body-cell_kind arena l (Opened k n m) = refl

head-cell_kind : (t : Tree) → cell_kind (head_cell t) ≡ kind_of t
head-cell_kind null = refl
head-cell_kind (truth b) = refl
head-cell_kind (string s) = refl
head-cell_kind (number v) = refl
head-cell_kind (array ts) = refl
head-cell_kind (object ms) = refl

pub kind-head : (arena : List ℕ) (l : ℕ) (b : Body) (t : Tree) → cell_of arena l b ≡ head_cell t → body_kind b ≡ kind_of t
kind-head arena l b t e = body-cell_kind arena l b ∙ ap cell_kind e ∙ head-cell_kind t

abbrev cell_count : Cell → ℕ
cell_count null_cell = 0
cell_count (truth_cell b) = 0
cell_count (string_cell s) = 0
cell_count (number_cell v) = 0
cell_count (closed k n m) = n
cell_count (opened k n m) = 0

body-cell_count : (arena : List ℕ) (l : ℕ) (b : Body) → body_count b ≡ cell_count (cell_of arena l b)
body-cell_count arena l Null = refl
body-cell_count arena l (Truth b) = refl
body-cell_count arena l (Text s) = refl
body-cell_count arena l (Numeral s) = refl
body-cell_count arena l (Closed k n m) = refl
body-cell_count arena l (Opened k n m) = refl

head-cell_count : (t : Tree) → cell_count (head_cell t) ≡ length (children t)
head-cell_count null = refl
head-cell_count (truth b) = refl
head-cell_count (string s) = refl
head-cell_count (number v) = refl
head-cell_count (array ts) = refl
head-cell_count (object ms) = refl

pub count-head : (arena : List ℕ) (l : ℕ) (b : Body) (t : Tree) → cell_of arena l b ≡ head_cell t → body_count b ≡ length (children t)
count-head arena l b t e = body-cell_count arena l b ∙ ap cell_count e ∙ head-cell_count t

pub string-head : (s : List ℕ) (t : Tree) → string_cell s ≡ head_cell t → t ≡ string s
string-head s null e = cc
string-head s (truth b) e = cc
string-head s (string x) e = cc
string-head s (number v) e = cc
string-head s (array ts) e = cc
string-head s (object ms) e = cc

pub truth-head : (b : Bool) (t : Tree) → truth_cell b ≡ head_cell t → t ≡ truth b
truth-head b null e = cc
truth-head b (truth x) e = cc
truth-head b (string x) e = cc
truth-head b (number v) e = cc
truth-head b (array ts) e = cc
truth-head b (object ms) e = cc

pub number-head : (v : Number) (t : Tree) → number_cell v ≡ head_cell t → t ≡ number v
number-head v null e = cc
number-head v (truth x) e = cc
number-head v (string x) e = cc
number-head v (number w) e = cc
number-head v (array ts) e = cc
number-head v (object ms) e = cc

pub is_text : (b : Body) → body_kind b ≡ kinds.String → (s : Span) × (b ≡ Text s)
is_text Null e = cc
is_text (Truth b) e = cc
is_text (Text s) e = (s, refl)
is_text (Numeral s) e = cc
is_text (Closed false n m) e = cc
is_text (Closed true n m) e = cc
is_text (Opened k n m) e = cc

pub is_numeral : (b : Body) → body_kind b ≡ kinds.Number → (s : Span) × (b ≡ Numeral s)
is_numeral Null e = cc
is_numeral (Truth b) e = cc
is_numeral (Text s) e = cc
is_numeral (Numeral s) e = (s, refl)
is_numeral (Closed false n m) e = cc
is_numeral (Closed true n m) e = cc
is_numeral (Opened k n m) e = cc

pub is_truth : (b : Body) → body_kind b ≡ kinds.Truth → (x : Bool) × (b ≡ Truth x)
is_truth Null e = cc
is_truth (Truth b) e = (b, refl)
is_truth (Text s) e = cc
is_truth (Numeral s) e = cc
is_truth (Closed false n m) e = cc
is_truth (Closed true n m) e = cc
is_truth (Opened k n m) e = cc

closed_body : (arena : List ℕ) (l : ℕ) (b : Body) (kind : Bool) (m size : ℕ) → cell_of arena l b ≡ closed kind m size → (k : Bool) × (n : ℕ) × (up : ℕ) × (b ≡ Closed k n up)
closed_body arena l Null kind m size e = cc
closed_body arena l (Truth x) kind m size e = cc
closed_body arena l (Text s) kind m size e = cc
closed_body arena l (Numeral s) kind m size e = cc
closed_body arena l (Closed k n up) kind m size e = (k, n, up, refl)
closed_body arena l (Opened k n up) kind m size e = cc

pub is_closed : (arena : List ℕ) (l : ℕ) (b : Body) (t : Tree) → cell_of arena l b ≡ head_cell t → IsContainer t → (k : Bool) × (n : ℕ) × (up : ℕ) × (b ≡ Closed k n up)
is_closed arena l b null e h = absurd h
is_closed arena l b (truth x) e h = absurd h
is_closed arena l b (string s) e h = absurd h
is_closed arena l b (number v) e h = absurd h
is_closed arena l b (array ts) e h = closed_body arena l b false (length (item_list ts)) (below (array ts)) e
is_closed arena l b (object ms) e h = closed_body arena l b true (length (member_list ms)) (below (object ms)) e

-- the tree of the number 0 is the whole
pub whole : (t : Tree) → subtree t 0 ≡ t
whole null = refl
whole (truth b) = refl
whole (string s) = refl
whole (number v) = refl
whole (array ts) = refl
whole (object ms) = refl
