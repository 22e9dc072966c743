-- The items of a forward path are nodes of the tree, by their numbers.
use Rattle.std.specs.Prelude.{if◌then◌else◌, int_lt, int_le, ⊤}
use Rattle.std.specs.Int.{int_min, int_max}
use Rattle.std.proofs.Common.{◌≡◌, ℕ, zero, suc, ◌+◌, ◌-◌, ℤ, pos, ◌-ℤ◌, unsigned_abs, List, [], ◌∷◌, ◌++◌, map, flat_map, take, drop, get_or, length, Bool, true, false, ◌&&◌, None, All, Some, refl, ap, sym, subst, ◌∙◌, append_assoc, length-append, arith}
use Rattle.std.proofs.lemmas.List.{append-nil, drop-drop, drop_at, get_or-drop, length-drop}
use Rattle.std.proofs.lemmas.List.Elements.{All-cons, All-nil}
use Rattle.sj_json.specs.Tree.{Tree, null, truth, string, number, array, object, Items, no_items, item, Members, no_members, member, Child as JsonChild, item_list, member_list, below, subtree, subtrees, items_subtrees, members_subtrees, numbered}
use Rattle.sj_json.proofs.Places.{length-subtrees}
use Rattle.sj_doc.specs.Keyed.{is_key}
use Rattle.sj_doc.specs.Kinds.{kind_of}
use Rattle.sj_path_tree.specs.Tree.{Path}
use Rattle.sj_path_tree.specs.Vars.{Variables}
use Rattle.sj_path_tree.specs.declared.parts.Mode.TheVariants.{Lax}
use Rattle.sj_item.specs.Items.{ItemValue, node, made_number, made_text, made_truth, made_null, made_pair, item_tree}
use Rattle.sj_step.specs.Trace.{Trace, stop, fail, visit, give, only, after_visits, each, items, fault_of}
use Rattle.sj_step.specs.Reach.{ReachValue, by_key, all_members, all_elements, by_range, unwrapped, Child, child_item, children_of, every, under_key, lax_range, on_scalar, on_array, on_object, on_kind, reach, unwrap}
use Rattle.sj_step.proofs.Traces.{items-after_visits, items-join_stop}
use Rattle.sj_cursor.specs.Meaning.{path_trace}
use Rattle.sj_forward.specs.Forward.{Accessor, Key, EachMember, EachElement, Span, accessors_of}
use Rattle.sj_forward_laws.specs.Apart.{IsNodeOf}
use Rattle.sj_forward_laws.proofs.Meanings.{found, found_gives, opened, keyed, valued, all_found, all_found_gives, forward_trace}

-- A node whose subtrees stand in the list `all` of the subtrees of a tree; i is the number of that tree's root.
abbrev Placed : List Tree → ℕ → ItemValue → Type 0
Placed all i (node j u) = (n : ℕ) × (rest : List Tree) × (j ≡ i + n) × (drop n all ≡ subtrees u ++ rest)
Placed all i x = ⊥

abbrev AllPlaced : List Tree → ℕ → List ItemValue → Type 0
AllPlaced all i [] = ⊤
AllPlaced all i (x ∷ xs) = Placed all i x × AllPlaced all i xs

append_placed : (all : List Tree) (i : ℕ) (xs ys : List ItemValue) → AllPlaced all i xs → AllPlaced all i ys → AllPlaced all i (xs ++ ys)
append_placed all i [] ys p q = q
append_placed all i (x ∷ xs) ys p q = (p.0, append_placed all i xs ys p.1 q)

visits_placed : (all : List Tree) (i n : ℕ) (t : Trace) → AllPlaced all i (items t) → AllPlaced all i (items (after_visits n t))
visits_placed all i n t p = subst (AllPlaced all i) (sym (items-after_visits n t)) p

either_placed : (all : List Tree) (i : ℕ) (b : Bool) (t u : Trace) → AllPlaced all i (items t) → AllPlaced all i (items u) → AllPlaced all i (items (if b then t else u))
either_placed all i true t u p q = p
either_placed all i false t u p q = q

abbrev Keeps : List Tree → ℕ → (ItemValue → Trace) → Type 0
Keeps all i g = (x : ItemValue) → Placed all i x → AllPlaced all i (items (g x))

each_placed : (all : List Tree) (i : ℕ) (t : Trace) (g : ItemValue → Trace) → fault_of t ≡ None → ((x : ItemValue) → fault_of (g x) ≡ None) → AllPlaced all i (items t) → Keeps all i g → AllPlaced all i (items (each t g))
each_placed all i stop g e f p keeps = tt
each_placed all i (fail s) g e f p keeps = tt
each_placed all i (visit t) g e f p keeps = each_placed all i t g e f p keeps
each_placed all i (give x t) g e f p keeps =
    subst (AllPlaced all i) (sym (items-join_stop (g x) (each t g) (f x)))
    (append_placed all i (items (g x)) (items (each t g)) (keeps x p.0) (each_placed all i t g e f p.1 keeps))

-- ---- the children of a node

items_split : (ts : Items) → items_subtrees ts ≡ flat_map (λ k. subtrees k.1) (item_list ts)
items_split no_items = refl
items_split (item t ts) = ap (λ (us : List Tree). subtrees t ++ us) (items_split ts)

members_split : (ms : Members) → members_subtrees ms ≡ flat_map (λ k. subtrees k.1) (member_list ms)
members_split no_members = refl
members_split (member k t ms) = ap (λ (us : List Tree). subtrees t ++ us) (members_split ms)

abbrev ChildrenPlaced : List Tree → ℕ → List Child → Type 0
ChildrenPlaced all i cs = AllPlaced all i (map (λ c. c.1) cs)

numbered_placed : (all : List Tree) (i n m : ℕ) (ks : List JsonChild) (rest : List Tree) → m ≡ i + n → drop n all ≡ flat_map (λ k. subtrees k.1) ks ++ rest
    → ChildrenPlaced all i (map child_item (numbered m ks))
numbered_placed all i n m [] rest e d = tt
numbered_placed all i n m (k ∷ ks) rest e d =
    let others : List Tree = flat_map (λ k. subtrees k.1) ks ++ rest in
    let here : drop n all ≡ subtrees k.1 ++ others = d ∙ append_assoc (subtrees k.1) (flat_map (λ k. subtrees k.1) ks) rest in
    let next : drop (n + (below k.1 + 1)) all ≡ others =
    sym (drop-drop (below k.1 + 1) n all) ∙ ap (drop (below k.1 + 1)) here ∙ drop_at (subtrees k.1) others (below k.1 + 1) (length-subtrees k.1) in
    ((n, others, e, here), numbered_placed all i (n + (below k.1 + 1)) (m + 1 + below k.1) ks rest (omega (arith, e)) next)

every_placed : (all : List Tree) (i v : ℕ) (cs : List Child) → ChildrenPlaced all i cs → AllPlaced all i (items (every v cs))
every_placed all i v [] p = tt
every_placed all i v (c ∷ cs) p = visits_placed all i v (give c.1 (every v cs)) (p.0, every_placed all i v cs p.1)

under_placed : (all : List Tree) (i v : ℕ) (key : List ℕ) (was : Bool) (cs : List Child) → ChildrenPlaced all i cs → AllPlaced all i (items (under_key v Lax key was cs))
under_placed all i v key was [] p = tt
under_placed all i v key was (c ∷ cs) p =
    visits_placed all i v (if is_key key c.0 then give c.1 (under_key v Lax key true cs) else under_key v Lax key was cs)
    (either_placed all i (is_key key c.0) (give c.1 (under_key v Lax key true cs)) (under_key v Lax key was cs)
    (p.0, under_placed all i v key true cs p.1) (under_placed all i v key was cs p.1))

taken_placed : (all : List Tree) (i n : ℕ) (cs : List Child) → ChildrenPlaced all i cs → ChildrenPlaced all i (take n cs)
taken_placed all i zero cs p = tt
taken_placed all i (suc n) [] p = tt
taken_placed all i (suc n) (c ∷ cs) p = (p.0, taken_placed all i n cs p.1)

dropped_placed : (all : List Tree) (i n : ℕ) (cs : List Child) → ChildrenPlaced all i cs → ChildrenPlaced all i (drop n cs)
dropped_placed all i zero cs p = p
dropped_placed all i (suc n) [] p = tt
dropped_placed all i (suc n) (c ∷ cs) p = dropped_placed all i n cs p.1

range_placed : (all : List Tree) (i : ℕ) (a b : ℤ) (cs : List Child) → ChildrenPlaced all i cs → AllPlaced all i (items (lax_range a b cs))
range_placed all i a b cs p =
    let start : ℤ = int_max a (pos 0) in
    let end : ℤ = int_min b (pos (length cs) -ℤ pos 1) in
    let m : ℕ = unsigned_abs start in
    let n : ℕ = (unsigned_abs end + 1) - m in
    either_placed all i (int_lt end start) stop (after_visits m (every 1 (take n (drop m cs)))) tt
    (visits_placed all i m (every 1 (take n (drop m cs))) (every_placed all i 1 (take n (drop m cs)) (taken_placed all i n (drop m cs) (dropped_placed all i m cs p))))

-- the node itself stands before what is below it
behind_first : (all : List Tree) (n : ℕ) (t : Tree) (us : List Tree) → drop n all ≡ t ∷ us → drop (n + 1) all ≡ us
behind_first all n t us d = sym (drop-drop 1 n all) ∙ ap (λ (vs : List Tree). drop 1 vs) d

array_children : (all : List Tree) (i j : ℕ) (ts : Items) → Placed all i (node j (array ts)) → ChildrenPlaced all i (children_of (node j (array ts)))
array_children all i j ts p =
    numbered_placed all i (p.0 + 1) (j + 1) (item_list ts) p.1 (omega (arith, p.2))
    (behind_first all p.0 (array ts) (items_subtrees ts ++ p.1) p.3 ∙ ap (λ (us : List Tree). us ++ p.1) (items_split ts))

object_children : (all : List Tree) (i j : ℕ) (ms : Members) → Placed all i (node j (object ms)) → ChildrenPlaced all i (children_of (node j (object ms)))
object_children all i j ms p =
    numbered_placed all i (p.0 + 1) (j + 1) (member_list ms) p.1 (omega (arith, p.2))
    (behind_first all p.0 (object ms) (members_subtrees ms ++ p.1) p.3 ∙ ap (λ (us : List Tree). us ++ p.1) (members_split ms))

-- ---- an accessor on a node

alone_placed : (all : List Tree) (i : ℕ) (x : ItemValue) (b : Bool) → Placed all i x → AllPlaced all i (items (if b then only x else stop))
alone_placed all i x b p = either_placed all i b (only x) stop (p, tt) tt

scalar_placed : (r : ReachValue) (all : List Tree) (i : ℕ) (x : ItemValue) → Placed all i x → AllPlaced all i (items (on_scalar r Lax x))
scalar_placed (by_key key) all i x p = tt
scalar_placed all_members all i x p = tt
scalar_placed all_elements all i x p = (p, tt)
scalar_placed (by_range a b) all i x p = alone_placed all i x (int_le a (pos 0) && int_le (pos 0) b) p
scalar_placed unwrapped all i x p = (p, tt)

array_placed : (r : ReachValue) (all : List Tree) (i j : ℕ) (ts : Items) → Placed all i (node j (array ts)) → AllPlaced all i (items (on_array r Lax (node j (array ts))))
array_placed (by_key key) all i j ts p = tt
array_placed all_members all i j ts p = tt
array_placed all_elements all i j ts p = every_placed all i 1 (children_of (node j (array ts))) (array_children all i j ts p)
array_placed (by_range a b) all i j ts p = range_placed all i a b (children_of (node j (array ts))) (array_children all i j ts p)
array_placed unwrapped all i j ts p = every_placed all i 1 (children_of (node j (array ts))) (array_children all i j ts p)

object_placed : (r : ReachValue) (all : List Tree) (i j : ℕ) (ms : Members) → Placed all i (node j (object ms)) → AllPlaced all i (items (on_object r Lax (node j (object ms))))
object_placed (by_key key) all i j ms p = under_placed all i 1 key false (children_of (node j (object ms))) (object_children all i j ms p)
object_placed all_members all i j ms p = every_placed all i 1 (children_of (node j (object ms))) (object_children all i j ms p)
object_placed all_elements all i j ms p = (p, tt)
object_placed (by_range a b) all i j ms p = alone_placed all i (node j (object ms)) (int_le a (pos 0) && int_le (pos 0) b) p
object_placed unwrapped all i j ms p = (p, tt)

kind_placed : (r : ReachValue) (all : List Tree) (i j : ℕ) (u : Tree) → Placed all i (node j u) → AllPlaced all i (items (on_kind (kind_of u) r Lax (node j u)))
kind_placed r all i j null p = scalar_placed r all i (node j null) p
kind_placed r all i j (truth b) p = scalar_placed r all i (node j (truth b)) p
kind_placed r all i j (string s) p = scalar_placed r all i (node j (string s)) p
kind_placed r all i j (number v) p = scalar_placed r all i (node j (number v)) p
kind_placed r all i j (array ts) p = array_placed r all i j ts p
kind_placed r all i j (object ms) p = object_placed r all i j ms p

reach_placed : (r : ReachValue) (all : List Tree) (i : ℕ) → Keeps all i (reach r Lax)
unfolding reach
reach_placed r all i (node j u) p = kind_placed r all i j u p
reach_placed r all i (made_number d) p = absurd p
reach_placed r all i (made_text s) p = absurd p
reach_placed r all i (made_truth b) p = absurd p
reach_placed r all i made_null p = absurd p
reach_placed r all i (made_pair name value id) p = absurd p

found_placed : (a : Accessor) (all : List Tree) (i : ℕ) → Keeps all i (found a)
unfolding reach
found_placed (Key key) all i x p =
    each_placed all i (unwrap Lax x) (reach (by_key key) Lax) (opened (item_tree x) x refl).0 (λ y. (keyed key (item_tree y) y refl).0)
    (reach_placed unwrapped all i x p) (reach_placed (by_key key) all i)
found_placed EachMember all i x p =
    each_placed all i (unwrap Lax x) (reach all_members Lax) (opened (item_tree x) x refl).0 (λ y. (valued (item_tree y) y refl).0)
    (reach_placed unwrapped all i x p) (reach_placed all_members all i)
found_placed EachElement all i x p = reach_placed all_elements all i x p
found_placed (Span from to) all i x p = reach_placed (by_range (pos from) (pos to)) all i x p

all_found_placed : (left : List Accessor) (all : List Tree) (i : ℕ) → Keeps all i (all_found left)
all_found_placed [] all i x p = (p, tt)
all_found_placed (a ∷ left) all i x p =
    each_placed all i (found a x) (all_found left) (found_gives a x).0 (λ y. (all_found_gives left y).0) (found_placed a all i x p) (all_found_placed left all i)

-- ---- the law

first_subtree : (u : Tree) (rest : List Tree) → get_or (subtrees u ++ rest) 0 null ≡ u
first_subtree null rest = refl
first_subtree (truth b) rest = refl
first_subtree (string s) rest = refl
first_subtree (number v) rest = refl
first_subtree (array ts) rest = refl
first_subtree (object ms) rest = refl

node_of : (i : ℕ) (t : Tree) (x : ItemValue) → Placed (subtrees t) i x → IsNodeOf i t x
node_of i t (node j u) p =
    let n : ℕ = p.0 in
    let long : length (subtrees t) - n ≡ below u + 1 + length p.1 =
    sym (length-drop p.0 (subtrees t)) ∙ ap (λ (us : List Tree). length us) p.3 ∙ length-append (subtrees u) p.1 ∙ ap (λ (m : ℕ). m + length p.1) (length-subtrees u) in
    let at : j - i ≡ n + 0 = omega (arith, p.2) in
    let is : subtree t (j - i) ≡ u =
    ap (λ (m : ℕ). get_or (subtrees t) m null) at
    ∙ sym (get_or-drop p.0 (subtrees t) 0 null)
    ∙ ap (λ (us : List Tree). get_or us 0 null) p.3
    ∙ first_subtree u p.1 in
    (omega (arith, p.2), omega (arith, p.2, long, length-subtrees t), is)
node_of i t (made_number d) p = absurd p
node_of i t (made_text s) p = absurd p
node_of i t (made_truth b) p = absurd p
node_of i t made_null p = absurd p
node_of i t (made_pair name value id) p = absurd p

all_nodes : (i : ℕ) (t : Tree) (xs : List ItemValue) → AllPlaced (subtrees t) i xs → All (IsNodeOf i t) xs
all_nodes i t [] p = All-nil (IsNodeOf i t)
all_nodes i t (x ∷ xs) p = All-cons (IsNodeOf i t) x xs (node_of i t x p.0) (all_nodes i t xs p.1)

root_placed : (i : ℕ) (t : Tree) → Placed (subtrees t) i (node i t)
root_placed i t = (0, [], omega arith, sym (append-nil (subtrees t)))

pub items_nodes : (path : Path) (left : List Accessor) (vars : Variables) (i : ℕ) (t : Tree) → accessors_of path ≡ Some left → All (IsNodeOf i t) (items (path_trace path vars (node i t)))
items_nodes path left vars i t h =
    subst (λ (u : Trace). All (IsNodeOf i t) (items u)) (sym (forward_trace path vars (node i t) left h))
    (all_nodes i t (items (all_found left (node i t))) (all_found_placed left (subtrees t) i (node i t) (root_placed i t)))
