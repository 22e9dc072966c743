-- A layout is read back as its tree.
use Rattle.std.proofs.Common.{◌≡◌, ℕ, List, [], ◌∷◌, ◌++◌, length, drop, Bool, true, false, Option, Some, None, refl, sym, ap, ◌∙◌, append_assoc}
use Rattle.std.proofs.lemmas.List.{take_at, drop_at}
use Rattle.sj_json.specs.Tree.{Tree, null, truth, string, number, array, object, Items, no_items, item, Members, no_members, member, Child, item_list, member_list}
use Rattle.sj_json.specs.Cells.{Entry, layout, layout_items, layout_members, items_of, members_of, container, Spine, last, into, prepend, gather, add_cell, spine, root_of, tree_of}

pub items_of-item_list : (ts : Items) → items_of (item_list ts) ≡ ts
items_of-item_list no_items = refl
items_of-item_list (item t ts) = ap (item t) (items_of-item_list ts)

pub members_of-member_list : (ms : Members) → members_of (member_list ms) ≡ ms
members_of-member_list no_members = refl
members_of-member_list (member k t ms) = ap (member k t) (members_of-member_list ms)

pub spine-append : (xs ys : List Entry) (s : Spine) → spine (xs ++ ys) s ≡ spine xs (spine ys s)
spine-append [] ys s = refl
spine-append (x ∷ xs) ys s = ap (add_cell x) (spine-append xs ys s)

pub prepend-prepend : (xs ys : List Child) (s : Spine) → prepend xs (prepend ys s) ≡ prepend (xs ++ ys) s
prepend-prepend xs ys (last ls) = ap last (sym (append_assoc xs ys ls))
prepend-prepend xs ys (into ls k kind s) = ap (λ l. into l k kind s) (sym (append_assoc xs ys ls))

pub prepend-nil : (s : Spine) → prepend [] s ≡ s
prepend-nil (last ls) = refl
prepend-nil (into ls k kind s) = refl

pub gather-prepend : (k : Option (List ℕ)) (kind : Bool) (ks : List Child) (s : Spine) → gather k kind (length ks) (prepend ks s) ≡ prepend ((k, container kind ks) ∷ []) s
gather-prepend k kind ks (last ls) =
    ap (λ a. last ((k, container kind a) ∷ drop (length ks) (ks ++ ls))) (take_at ks ls (length ks) refl)
    ∙ ap (λ b. last ((k, container kind ks) ∷ b)) (drop_at ks ls (length ks) refl)
gather-prepend k kind ks (into ls l o s) =
    ap (λ a. into ((k, container kind a) ∷ drop (length ks) (ks ++ ls)) l o s) (take_at ks ls (length ks) refl)
    ∙ ap (λ b. into ((k, container kind ks) ∷ b) l o s) (drop_at ks ls (length ks) refl)

mutual
  pub spine-layout : (k : Option (List ℕ)) (t : Tree) (s : Spine) → spine (layout k t) s ≡ prepend ((k, t) ∷ []) s
  spine-layout k null s = refl
  spine-layout k (truth b) s = refl
  spine-layout k (string x) s = refl
  spine-layout k (number v) s = refl
  spine-layout k (array ts) s =
      ap (gather k false (length (item_list ts))) (spine-items ts s)
      ∙ gather-prepend k false (item_list ts) s
      ∙ ap (λ x. prepend ((k, array x) ∷ []) s) (items_of-item_list ts)
  spine-layout k (object ms) s =
      ap (gather k true (length (member_list ms))) (spine-members ms s)
      ∙ gather-prepend k true (member_list ms) s
      ∙ ap (λ x. prepend ((k, object x) ∷ []) s) (members_of-member_list ms)

  pub spine-items : (ts : Items) (s : Spine) → spine (layout_items ts) s ≡ prepend (item_list ts) s
  spine-items no_items s = sym (prepend-nil s)
  spine-items (item t ts) s =
      spine-append (layout None t) (layout_items ts) s
      ∙ ap (spine (layout None t)) (spine-items ts s)
      ∙ spine-layout None t (prepend (item_list ts) s)
      ∙ prepend-prepend ((None, t) ∷ []) (item_list ts) s

  pub spine-members : (ms : Members) (s : Spine) → spine (layout_members ms) s ≡ prepend (member_list ms) s
  spine-members no_members s = sym (prepend-nil s)
  spine-members (member k t ms) s =
      spine-append (layout (Some k) t) (layout_members ms) s
      ∙ ap (spine (layout (Some k) t)) (spine-members ms s)
      ∙ spine-layout (Some k) t (prepend (member_list ms) s)
      ∙ prepend-prepend ((Some k, t) ∷ []) (member_list ms) s

pub tree_of-layout : (k : Option (List ℕ)) (t : Tree) → tree_of (layout k t) ≡ t
tree_of-layout k t = ap root_of (spine-layout k t (last []))
