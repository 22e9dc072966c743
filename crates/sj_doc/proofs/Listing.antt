-- The children of a node, as they lie in the layout.
use Rattle.std.proofs.Common.{◌≡◌, ℕ, ◌+◌, ◌-◌, ◌<◌, ◌≤◌, List, [], ◌∷◌, ◌++◌, length, take, drop, get_or, Option, Some, None, option_map, refl, sym, ap, ◌∙◌, append_assoc, length-append, arith}
use Rattle.std.proofs.lemmas.List.{length-drop, drop-drop, drop_at, take_at}
use Rattle.sj_json.specs.Tree.{Tree, null, truth, string, number, array, object, Items, no_items, item, Members, no_members, member, Child, item_list, member_list, children, below, subtree, node_count, numbered, NumberedChild}
use Rattle.sj_json.specs.Cells.{Entry, layout, layout_items, layout_members, Spine, last, into, prepend, spine}
use Rattle.sj_json.specs.Layouts.{spine-append, spine-layout, prepend-prepend, prepend-nil}
use Rattle.sj_json.proofs.Places.{length-layout, length-subtrees, LiesAt, lies_at}
use Rattle.sj_doc.specs.Children.{first_kids, kids_at, children_left, layout_kids, IsChildren}
use Rattle.sj_json.specs.Cells.{tree_of}
use Rattle.sj_doc.specs.declared.node.Node.{Node}
use Rattle.sj_doc.specs.Nodes.{text_in, entries, IsDoc, IsNode}
use Rattle.sj_doc.proofs.Docs.{layout_below, layout-cons, laid_as, count, lies_here, entry_at, below_at, all_at}

items-kids : (ts : Items) → layout_items ts ≡ layout_kids (item_list ts)
items-kids no_items = refl
items-kids (item t ts) = ap (λ (x : List Entry). layout None t ++ x) (items-kids ts)

members-kids : (ms : Members) → layout_members ms ≡ layout_kids (member_list ms)
members-kids no_members = refl
members-kids (member k t ms) = ap (λ (x : List Entry). layout (Some k) t ++ x) (members-kids ms)

below-kids : (t : Tree) → layout_below t ≡ layout_kids (children t)
below-kids null = refl
below-kids (truth b) = refl
below-kids (string s) = refl
below-kids (number v) = refl
below-kids (array ts) = items-kids ts
below-kids (object ms) = members-kids ms

spine-kids : (ks : List Child) (s : Spine) → spine (layout_kids ks) s ≡ prepend ks s
spine-kids [] s = sym (prepend-nil s)
spine-kids (k ∷ ks) s =
    spine-append (layout k.0 k.1) (layout_kids ks) s ∙ ap (spine (layout k.0 k.1)) (spine-kids ks s) ∙ spine-layout k.0 k.1 (prepend ks s) ∙ prepend-prepend (k ∷ []) ks s

first-prepend : (ks : List Child) (s : Spine) → first_kids (prepend ks s) ≡ ks ++ first_kids s
first-prepend ks (last ls) = refl
first-prepend ks (into ls k kind s) = refl

-- the view of a list of children
pub left_is : (t : Tree) (i n : ℕ) (ks : List Child) (rest : List Entry) → drop i (layout None t) ≡ layout_kids ks ++ rest → n ≡ length ks → children_left t i n ≡ numbered i ks
left_is t i n ks rest e c =
    let more = first_kids (spine rest (last [])) in
    let found : kids_at t i ≡ ks ++ more =
    ap (λ (x : List Entry). first_kids (spine x (last []))) e ∙ ap first_kids (spine-append (layout_kids ks) rest (last []) ∙ spine-kids ks (spine rest (last []))) ∙ first-prepend ks (spine rest (last [])) in
    ap (λ (x : List Child). numbered i (take n x)) found ∙ ap (numbered i) (take_at ks more n (sym c))

first_kid : List Child → Child
first_kid [] = (None, null)
first_kid (k ∷ ks) = k

first_laid : (k : Option (List ℕ)) (u : Tree) (rest : List Entry) → first_kids (spine (layout k u ++ rest) (last [])) ≡ (k, u) ∷ first_kids (spine rest (last []))
first_laid k u rest = ap first_kids (spine-append (layout k u) rest (last []) ∙ spine-layout k u (spine rest (last []))) ∙ first-prepend ((k, u) ∷ []) (spine rest (last []))

same_head : {k l : Child} {ks ls : List Child} → k ∷ ks ≡ l ∷ ls → k ≡ l
same_head e = cc

pub same_laid : (k l : Option (List ℕ)) (u v : Tree) (r q : List Entry) → layout k u ++ r ≡ layout l v ++ q → ◌≡◌ {A = Child} (k, u) (l, v)
same_laid k l u v r q e = same_head (sym (first_laid k u r) ∙ ap (λ (x : List Entry). first_kids (spine x (last []))) e ∙ first_laid l v q)

module _ (t : Tree) (i : ℕ) (k : Child) (ks : List Child) (rest : List Entry) (e : drop i (layout None t) ≡ layout_kids (k ∷ ks) ++ rest) where
  here : drop i (layout None t) ≡ layout k.0 k.1 ++ (layout_kids ks ++ rest)
  here = e ∙ append_assoc (layout k.0 k.1) (layout_kids ks) rest

  pub kid_within : i < node_count t
  kid_within = omega (arith, ap length here, length-append (layout k.0 k.1) (layout_kids ks ++ rest), length-layout k.0 k.1, length-drop i (layout None t), length-layout None t)

  pub kid_is : subtree t i ≡ k.1
  kid_is =
      let at = lies_at None t i (omega (arith, length-subtrees t, kid_within)) in
      ap (λ (x : Child). x.1) (same_laid at.0 k.0 (subtree t i) k.1 at.1 (layout_kids ks ++ rest) (sym at.2 ∙ here))

  pub kid_key : (at : LiesAt (layout None t) i (subtree t i)) → at.0 ≡ k.0
  kid_key at = ap (λ (x : Child). x.0) (same_laid at.0 k.0 (subtree t i) k.1 at.1 (layout_kids ks ++ rest) (sym at.2 ∙ here))

  pub after_kid : drop (i + 1 + below k.1) (layout None t) ≡ layout_kids ks ++ rest
  after_kid =
      let n = below k.1 + 1 in
      let same : i + n ≡ i + 1 + below k.1 = omega arith in
      ap (λ (j : ℕ). drop j (layout None t)) (sym same) ∙ sym (drop-drop n i (layout None t)) ∙ ap (drop n) here ∙ drop_at (layout k.0 k.1) (layout_kids ks ++ rest) n (length-layout k.0 k.1)

  pub after_small : i + 1 + below k.1 ≤ node_count t
  after_small = omega (arith, ap length here, length-append (layout k.0 k.1) (layout_kids ks ++ rest), length-layout k.0 k.1, length-drop i (layout None t), length-layout None t)

-- the first of the children that are left
pub record NextChild (t : Tree) (i : ℕ) (n : ℕ) : Type 0 where
  pub kid : Child
  pub rest : List Entry
  pub within : i < node_count t
  pub tree : subtree t i ≡ kid.1
  pub lie : drop i (layout None t) ≡ layout kid.0 kid.1 ++ rest
  pub splits : children_left t i n ≡ (kid.0, i, kid.1) ∷ children_left t (i + 1 + below kid.1) (n - 1)
  pub after : IsChildren t (i + 1 + below kid.1) (n - 1)
  pub small : i + 1 + below kid.1 ≤ node_count t

next_of : (t : Tree) (i n : ℕ) (ks : List Child) (rest : List Entry) → drop i (layout None t) ≡ layout_kids ks ++ rest → n ≡ length ks → 0 < n → NextChild t i n
next_of t i n [] rest e c h = absurd (omega arith)
next_of t i n (k ∷ ks) rest e c h =
    let fewer : n - 1 ≡ length ks = omega arith in
    let next = after_kid t i k ks rest e in
    record {
      kid = k;
      rest = layout_kids ks ++ rest;
      within = kid_within t i k ks rest e;
      tree = kid_is t i k ks rest e;
      lie = e ∙ append_assoc (layout k.0 k.1) (layout_kids ks) rest;
      splits = left_is t i n (k ∷ ks) rest e c ∙ ap (λ (x : List NumberedChild). (k.0, i, k.1) ∷ x) (sym (left_is t (i + 1 + below k.1) (n - 1) ks rest next fewer));
      after = record { kids = ks; rest = rest; lie = next; count = fewer };
      small = after_small t i k ks rest e;
    }

pub next_kid : (t : Tree) (i n : ℕ) → IsChildren t i n → 0 < n → NextChild t i n
next_kid t i n h some = next_of t i n h.kids h.rest h.lie h.count some

module _ (arena : List ℕ) (nodes : List Node) (t : Tree) (doc : IsDoc arena nodes) (view : tree_of (entries arena nodes) ≡ t) (i n : ℕ) (next : NextChild t i n) (node : Node) (read : node ≡ get_or nodes i node) where
  pub node_key : option_map (text_in arena) node.key ≡ next.kid.0
  node_key =
      let at = lies_here arena nodes t doc view i next.within in
      ap (λ (x : Entry). x.0) (entry_at arena nodes t doc view i node next.within read)
      ∙ ap (λ (x : Child). x.0) (same_laid at.0 next.kid.0 (subtree t i) next.kid.1 at.1 next.rest (sym at.2 ∙ ap (drop i) (laid_as arena nodes t doc view) ∙ next.lie))

  pub node_below : node.below ≡ below next.kid.1
  node_below = below_at arena nodes t doc view i node next.within read ∙ ap below next.tree

  pub node_in : i < length nodes
  node_in = omega (arith, count arena nodes t doc view, next.within)

  pub node_fits : IsNode arena node
  node_fits = all_at (IsNode arena) nodes i node doc.fits node_in read

pub no_children : (t : Tree) (i n : ℕ) → n ≡ 0 → children_left t i n ≡ []
no_children t i n e = ap (λ (m : ℕ). numbered i (take m (kids_at t i))) e

-- where the children of a node begin
pub begins : (t : Tree) (i : ℕ) (h : i < node_count t) (n : ℕ) → n ≡ length (children (subtree t i)) → IsChildren t (i + 1) n × (children_left t (i + 1) n ≡ numbered (i + 1) (children (subtree t i)))
begins t i h n e =
    let at = lies_at None t i (omega (arith, length-subtrees t)) in
    let u = subtree t i in
    let lie : drop (i + 1) (layout None t) ≡ layout_kids (children u) ++ at.1 =
    sym (drop-drop 1 i (layout None t)) ∙ ap (drop 1) (at.2 ∙ ap (λ (x : List Entry). x ++ at.1) (layout-cons at.0 u)) ∙ ap (λ (x : List Entry). x ++ at.1) (below-kids u) in
    (record { kids = children u; rest = at.1; lie = lie; count = e }, left_is t (i + 1) n (children u) at.1 lie e)
