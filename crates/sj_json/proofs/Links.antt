-- The links of a document that is being built, call by call.
use Rattle.std.proofs.Common.{◌≡◌, ℕ, ◌+◌, ◌-◌, List, [], ◌∷◌, ◌++◌, length, Bool, true, false, Some, None, refl, sym, ap, ◌∙◌, append_assoc, length-append, arith, add-zero}
use Rattle.std.proofs.lemmas.List.{append-nil}
use Rattle.sj_json.specs.Tree.{Tree, array, object, Items, no_items, item, Members, no_members, member, below, items_size, members_size}
use Rattle.sj_json.specs.Building.{Part, top, elements, pairs, items_push, members_push, TakesValue, TakesClose, put, put_key, empty, tree_of_part, part_entries, part_key, part_kids, is_object, laid, place, IsState}
use Rattle.sj_json.specs.Cells.{opened, key_or_empty}
use Rattle.sj_json.specs.Links.{ups, item_ups, member_ups, part_ups, laid_ups}
use Rattle.sj_json.proofs.Places.{length-layout_items, length-layout_members}

item_ups-push : (n : ℕ) (ts : Items) (t : Tree) → item_ups n (items_push ts t) ≡ item_ups n ts ++ ups (n + items_size ts) t
item_ups-push n no_items t = append-nil (ups n t) ∙ ap (λ m. ups m t) (sym (add-zero n))
item_ups-push n (item u ts) t =
    let m = n + 1 + below u in
    let same : m + items_size ts ≡ n + (below u + 1 + items_size ts) = omega arith in
    ap (λ x. ups n u ++ x) (item_ups-push m ts t) ∙ sym (append_assoc (ups n u) (item_ups m ts) (ups (m + items_size ts) t)) ∙ ap (λ l. (ups n u ++ item_ups m ts) ++ ups l t) same

member_ups-push : (n : ℕ) (ms : Members) (k : List ℕ) (t : Tree) → member_ups n (members_push ms k t) ≡ member_ups n ms ++ ups (n + members_size ms) t
member_ups-push n no_members k t = append-nil (ups n t) ∙ ap (λ m. ups m t) (sym (add-zero n))
member_ups-push n (member l u ms) k t =
    let m = n + 1 + below u in
    let same : m + members_size ms ≡ n + (below u + 1 + members_size ms) = omega arith in
    ap (λ x. ups n u ++ x) (member_ups-push m ms k t) ∙ sym (append_assoc (ups n u) (member_ups m ms) (ups (m + members_size ms) t)) ∙ ap (λ l. (ups n u ++ member_ups m ms) ++ ups l t) same

-- how far the next node lies behind the innermost open container
behind : (p q : Part) (qs : List Part) → length (laid p (q ∷ qs)) - place p (q ∷ qs) ≡ 1 + length (part_entries p)
behind p q qs = omega (arith, length-append (laid q qs) ((part_key q, opened (is_object p) (place q qs) (length (part_kids q))) ∷ part_entries p))

part_ups-put : (t : Tree) (p q : Part) (qs : List Part) → IsState p (q ∷ qs) → part_ups (put t p) ≡ part_ups p ++ ups (1 + length (part_entries p)) t
part_ups-put t (top o) q qs h = absurd h
part_ups-put t (elements ts) q qs h = item_ups-push 1 ts t ∙ ap (λ n. item_ups 1 ts ++ ups (1 + n) t) (sym (length-layout_items ts))
part_ups-put t (pairs ms k) q qs h = member_ups-push 1 ms (key_or_empty k) t ∙ ap (λ n. member_ups 1 ms ++ ups (1 + n) t) (sym (length-layout_members ms))

-- a value comes
pub ups-put : (t : Tree) (p : Part) (qs : List Part) → TakesValue p → IsState p qs → laid_ups (put t p) qs ≡ laid_ups p qs ++ ups (length (laid p qs) - place p qs) t
ups-put t (top None) [] w h = refl
ups-put t (top (Some u)) [] w h = absurd w
ups-put t (elements ts) [] w h = absurd h
ups-put t (pairs ms k) [] w h = absurd h
ups-put t p (q ∷ qs) w h =
    let n = length (laid q qs) - place q qs in
    ap (λ x. laid_ups q qs ++ n ∷ x) (part_ups-put t p q qs h ∙ ap (λ m. part_ups p ++ ups m t) (sym (behind p q qs)))
    ∙ sym (append_assoc (laid_ups q qs) (n ∷ part_ups p) (ups (length (laid p (q ∷ qs)) - place p (q ∷ qs)) t))

-- a container opens
pub ups-empty : (object : Bool) (p : Part) (qs : List Part) → laid_ups (empty object) (p ∷ qs) ≡ laid_ups p qs ++ (length (laid p qs) - place p qs) ∷ []
ups-empty false p qs = refl
ups-empty true p qs = refl

-- a key comes
pub ups-put_key : (k : List ℕ) (p : Part) (qs : List Part) → laid_ups p qs ≡ laid_ups (put_key k p) qs
ups-put_key k (top o) qs = refl
ups-put_key k (elements ts) qs = refl
ups-put_key k (pairs ms l) [] = refl
ups-put_key k (pairs ms l) (q ∷ qs) = refl

closed_ups : (p : Part) (t : Tree) (n : ℕ) → TakesClose p → tree_of_part p ≡ Some t → n ∷ part_ups p ≡ ups n t
closed_ups (top o) t n h e = absurd h
closed_ups (elements ts) t n h e = let same : array ts ≡ t = cc in ap (ups n) same
closed_ups (pairs ms k) t n h e = let same : object ms ≡ t = cc in ap (ups n) same

-- a container closes: its own link stays
pub ups-close : (t : Tree) (p q : Part) (qs : List Part) → TakesClose p → tree_of_part p ≡ Some t → TakesValue q → IsState q qs → laid_ups p (q ∷ qs) ≡ laid_ups (put t q) qs
ups-close t p q qs h e w s = ap (λ x. laid_ups q qs ++ x) (closed_ups p t (length (laid q qs) - place q qs) h e) ∙ sym (ups-put t q qs w s)
