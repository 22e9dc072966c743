-- A document that is being built, as nodes.
use Rattle.std.proofs.Common.{◌≡◌, ℕ, ◌+◌, ◌≤◌, List, [], ◌∷◌, ◌++◌, length, Bool, true, false, Option, Some, None, refl, sym, ap, ◌∙◌, append_assoc, length-append, arith}
use Rattle.std.proofs.lemmas.List.{append-nil}
use Rattle.sj_json.specs.Tree.{Tree, array, object, Items, no_items, item, Members, no_members, member, item_list, member_list, below, items_size, members_size}
use Rattle.sj_json.specs.Cells.{closed, opened, Entry, layout, layout_items, layout_members, items_of, members_of, Spine, last, into, prepend, spine}
use Rattle.sj_json.specs.Layouts.{items_of-item_list, members_of-member_list, spine-append, prepend-nil, spine-layout, spine-items, spine-members}
use Rattle.sj_json.proofs.Places.{length-layout, length-layout_items, length-layout_members}
use Rattle.sj_json.specs.Building.{Part, top, elements, pairs, items_push, members_push, TakesValue, TakesKey, TakesClose, put, put_key, empty, tree_of_part, part_entries, part_kids, part_key, is_object, laid, place, IsState, part_of, unzip, state_of}

-- ---- what the nodes show

abbrev context : Part → Option Bool
context (top o) = None
context (elements ts) = Some false
context (pairs ms k) = Some true

spine-part : (p : Part) (s : Spine) → spine (part_entries p) s ≡ prepend (part_kids p) s
spine-part (top None) s = sym (prepend-nil s)
spine-part (top (Some t)) s = spine-layout None t s
spine-part (elements ts) s = spine-items ts s
spine-part (pairs ms k) s = spine-members ms s

part_of-kids : (p : Part) → part_of (context p) (part_kids p ++ []) (part_key p) ≡ p
part_of-kids (top None) = refl
part_of-kids (top (Some t)) = refl
part_of-kids (elements ts) = ap (λ ks. elements (items_of ks)) (append-nil (item_list ts)) ∙ ap elements (items_of-item_list ts)
part_of-kids (pairs ms k) = ap (λ ks. pairs (members_of ks) k) (append-nil (member_list ms)) ∙ ap (λ x. pairs x k) (members_of-member_list ms)

-- a part inside another is no root
kind_known : (p q : Part) (qs : List Part) → IsState p (q ∷ qs) → Some (is_object p) ≡ context p
kind_known (top o) q qs h = absurd h
kind_known (elements ts) q qs h = refl
kind_known (pairs ms k) q qs h = refl

pub outer_state : (p q : Part) (qs : List Part) → IsState p (q ∷ qs) → TakesValue q × IsState q qs
outer_state (top o) q qs h = absurd h
outer_state (elements ts) q qs h = h
outer_state (pairs ms k) q qs h = h

unzip-into : (q : Part) (qs : List Part) (key k : Option (List ℕ)) (o : Bool) (s : Spine) → part_key q ≡ k
    → unzip (context q) qs key (prepend (part_kids q) (into [] k o s)) ≡ unzip (Some o) (q ∷ qs) key s
unzip-into q qs key k o s e =
    ap (λ l. unzip (Some o) (part_of (context q) (part_kids q ++ []) l ∷ qs) key s) (sym e)
    ∙ ap (λ r. unzip (Some o) (r ∷ qs) key s) (part_of-kids q)

pub unzip-laid : (p : Part) (qs : List Part) (key : Option (List ℕ)) (s : Spine) → IsState p qs
    → unzip None [] key (spine (laid p qs) s) ≡ unzip (context p) qs key (prepend (part_kids p) s)
unzip-laid (top o) [] key s h = ap (unzip None [] key) (spine-part (top o) s)
unzip-laid (elements ts) [] key s h = absurd h
unzip-laid (pairs ms k) [] key s h = absurd h
unzip-laid p (q ∷ qs) key s h =
    let cell : Entry = (part_key q, opened (is_object p) (place q qs) (length (part_kids q))) in
    let inside = prepend (part_kids p) s in
    ap (unzip None [] key) (spine-append (laid q qs) (cell ∷ part_entries p) s)
    ∙ ap (λ x. unzip None [] key (spine (laid q qs) (into [] (part_key q) (is_object p) x))) (spine-part p s)
    ∙ unzip-laid q qs key (into [] (part_key q) (is_object p) inside) (outer_state p q qs h).1
    ∙ unzip-into q qs key (part_key q) (is_object p) inside refl
    ∙ ap (λ c. unzip c (q ∷ qs) key inside) (kind_known p q qs h)

pub seen : (p : Part) (qs : List Part) → IsState p qs → state_of (part_key p) (laid p qs) ≡ (p, qs)
seen p qs h = unzip-laid p qs (part_key p) (last []) h ∙ ap (λ r. (r, qs)) (part_of-kids p)

-- ---- a value comes

layout_items-push : (ts : Items) (t : Tree) → layout_items (items_push ts t) ≡ layout_items ts ++ layout None t
layout_items-push no_items t = append-nil (layout None t)
layout_items-push (item u ts) t = ap (λ x. layout None u ++ x) (layout_items-push ts t) ∙ sym (append_assoc (layout None u) (layout_items ts) (layout None t))

layout_members-push : (ms : Members) (k : List ℕ) (t : Tree) → layout_members (members_push ms k t) ≡ layout_members ms ++ layout (Some k) t
layout_members-push no_members k t = append-nil (layout (Some k) t)
layout_members-push (member l u ms) k t = ap (λ x. layout (Some l) u ++ x) (layout_members-push ms k t) ∙ sym (append_assoc (layout (Some l) u) (layout_members ms) (layout (Some k) t))

part_entries-put : (t : Tree) (p : Part) → TakesValue p → part_entries (put t p) ≡ part_entries p ++ layout (part_key p) t
part_entries-put t (top None) h = refl
part_entries-put t (top (Some u)) h = absurd h
part_entries-put t (elements ts) h = layout_items-push ts t
part_entries-put t (pairs ms None) h = absurd h
part_entries-put t (pairs ms (Some k)) h = layout_members-push ms k t

length-items_push : (ts : Items) (t : Tree) → length (item_list (items_push ts t)) ≡ length (item_list ts) + 1
length-items_push no_items t = refl
length-items_push (item u ts) t = omega (arith, length-items_push ts t)

length-members_push : (ms : Members) (k : List ℕ) (t : Tree) → length (member_list (members_push ms k t)) ≡ length (member_list ms) + 1
length-members_push no_members k t = refl
length-members_push (member l u ms) k t = omega (arith, length-members_push ms k t)

pub kids-put : (t : Tree) (p : Part) → TakesValue p → length (part_kids (put t p)) ≡ length (part_kids p) + 1
kids-put t (top None) h = refl
kids-put t (top (Some u)) h = absurd h
kids-put t (elements ts) h = length-items_push ts t
kids-put t (pairs ms None) h = absurd h
kids-put t (pairs ms (Some k)) h = length-members_push ms k t

pub key-put : (t : Tree) (p : Part) → part_key (put t p) ≡ None
key-put t (top o) = refl
key-put t (elements ts) = refl
key-put t (pairs ms k) = refl

object-put : (t : Tree) (p : Part) → TakesValue p → is_object (put t p) ≡ is_object p
object-put t (top o) h = refl
object-put t (elements ts) h = refl
object-put t (pairs ms k) h = refl

pub laid-put : (t : Tree) (p : Part) (qs : List Part) → TakesValue p → laid (put t p) qs ≡ laid p qs ++ layout (part_key p) t
laid-put t p [] h = part_entries-put t p h
laid-put t p (q ∷ qs) h =
    let cell : Bool → Entry = λ o. (part_key q, opened o (place q qs) (length (part_kids q))) in
    ap (λ o. laid q qs ++ cell o ∷ part_entries (put t p)) (object-put t p h)
    ∙ ap (λ x. laid q qs ++ cell (is_object p) ∷ x) (part_entries-put t p h)
    ∙ sym (append_assoc (laid q qs) (cell (is_object p) ∷ part_entries p) (layout (part_key p) t))

pub place-put : (t : Tree) (p : Part) (qs : List Part) → place (put t p) qs ≡ place p qs
place-put t p [] = refl
place-put t p (q ∷ qs) = refl

pub state-put : (t : Tree) (p : Part) (qs : List Part) → IsState p qs → IsState (put t p) qs
state-put t (top o) [] h = tt
state-put t (elements ts) [] h = absurd h
state-put t (pairs ms k) [] h = absurd h
state-put t (top o) (q ∷ qs) h = absurd h
state-put t (elements ts) (q ∷ qs) h = h
state-put t (pairs ms k) (q ∷ qs) h = h

-- ---- a container closes

-- the tree of the innermost container, and its nodes once it is closed
abbrev pub Closes : Part → Type 0
Closes p = (t : Tree) × (tree_of_part p ≡ Some t) × ((k : Option (List ℕ)) → (k, closed (is_object p) (length (part_kids p)) (length (part_entries p))) ∷ part_entries p ≡ layout k t)

pub closes : (p : Part) → TakesClose p → Closes p
closes (top o) h = absurd h
closes (elements ts) h = (array ts, refl, λ k. ap (λ n. (k, closed false (length (item_list ts)) n) ∷ layout_items ts) (length-layout_items ts))
closes (pairs ms None) h = (object ms, refl, λ k. ap (λ n. (k, closed true (length (member_list ms)) n) ∷ layout_members ms) (length-layout_members ms))
closes (pairs ms (Some k)) h = absurd h

-- ---- sizes

items_le : (ts : Items) → length (item_list ts) ≤ items_size ts
items_le no_items = omega arith
items_le (item t ts) = omega (arith, items_le ts)

members_le : (ms : Members) → length (member_list ms) ≤ members_size ms
members_le no_members = omega arith
members_le (member k t ms) = omega (arith, members_le ms)

kids_le_entries : (p : Part) → length (part_kids p) ≤ length (part_entries p)
kids_le_entries (top None) = omega arith
kids_le_entries (top (Some t)) = omega (arith, length-layout None t)
kids_le_entries (elements ts) = omega (arith, items_le ts, length-layout_items ts)
kids_le_entries (pairs ms k) = omega (arith, members_le ms, length-layout_members ms)

pub kids_le : (p : Part) (qs : List Part) → length (part_kids p) ≤ length (laid p qs)
kids_le p [] = kids_le_entries p
kids_le p (q ∷ qs) = omega (arith, kids_le_entries p, length-append (laid q qs) ((part_key q, opened (is_object p) (place q qs) (length (part_kids q))) ∷ part_entries p))

pub outer_le : (p : Part) (qs : List Part) → length qs ≤ length (laid p qs)
outer_le p [] = omega arith
outer_le p (q ∷ qs) = omega (arith, outer_le q qs, length-append (laid q qs) ((part_key q, opened (is_object p) (place q qs) (length (part_kids q))) ∷ part_entries p))

-- ---- a key comes

pub state-put_key : (k : List ℕ) (p : Part) (qs : List Part) → IsState p qs → IsState (put_key k p) qs
state-put_key k (top o) [] h = h
state-put_key k (elements ts) [] h = h
state-put_key k (pairs ms l) [] h = h
state-put_key k (top o) (q ∷ qs) h = h
state-put_key k (elements ts) (q ∷ qs) h = h
state-put_key k (pairs ms l) (q ∷ qs) h = h

pub laid-put_key : (k : List ℕ) (p : Part) (qs : List Part) → laid p qs ≡ laid (put_key k p) qs
laid-put_key k (top o) qs = refl
laid-put_key k (elements ts) qs = refl
laid-put_key k (pairs ms l) [] = refl
laid-put_key k (pairs ms l) (q ∷ qs) = refl

pub place-put_key : (k : List ℕ) (p : Part) (qs : List Part) → place p qs ≡ place (put_key k p) qs
place-put_key k p [] = refl
place-put_key k p (q ∷ qs) = refl

pub key-put_key : (k : List ℕ) (p : Part) → TakesKey p → part_key (put_key k p) ≡ Some k
key-put_key k (top o) h = absurd h
key-put_key k (elements ts) h = absurd h
key-put_key k (pairs ms l) h = refl

pub kids-put_key : (k : List ℕ) (p : Part) → part_kids p ≡ part_kids (put_key k p)
kids-put_key k (top o) = refl
kids-put_key k (elements ts) = refl
kids-put_key k (pairs ms l) = refl

-- ---- a container opens

pub laid-empty : (object : Bool) (p : Part) (qs : List Part) → laid (empty object) (p ∷ qs) ≡ laid p qs ++ (part_key p, opened object (place p qs) (length (part_kids p))) ∷ []
laid-empty false p qs = refl
laid-empty true p qs = refl

pub state-empty : (object : Bool) (p : Part) (qs : List Part) → TakesValue p → IsState p qs → IsState (empty object) (p ∷ qs)
state-empty false p qs h g = (h, g)
state-empty true p qs h g = (h, g)

pub key-empty : (object : Bool) → None ≡ part_key (empty object)
key-empty false = refl
key-empty true = refl

pub kids-empty : (object : Bool) → 0 ≡ length (part_kids (empty object))
kids-empty false = refl
kids-empty true = refl

-- ---- the number of nodes

pub total-put : (t : Tree) (p : Part) (qs : List Part) → TakesValue p → length (laid (put t p) qs) ≡ length (laid p qs) + (below t + 1)
total-put t p qs h = omega (arith, ap length (laid-put t p qs h), length-append (laid p qs) (layout (part_key p) t), length-layout (part_key p) t)

pub total-open : (kind : Bool) (p : Part) (qs : List Part) → length (laid (empty kind) (p ∷ qs)) ≡ length (laid p qs) + 1
total-open kind p qs = omega (arith, ap length (laid-empty kind p qs), length-append (laid p qs) ((part_key p, opened kind (place p qs) (length (part_kids p))) ∷ []))

pub total-key : (k : List ℕ) (p : Part) (qs : List Part) → length (laid (put_key k p) qs) ≡ length (laid p qs)
total-key k p qs = ap length (sym (laid-put_key k p qs))
