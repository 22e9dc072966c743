-- The items of a forward path lie apart, in the order of the text.
use Rattle.std.specs.Prelude.{if◌then◌else◌, int_lt, int_le, ⊤}
use Rattle.std.specs.Int.{int_min, int_max}
use Rattle.std.proofs.Common.{◌≡◌, ℕ, zero, suc, ◌+◌, ◌-◌, ◌<◌, ◌≤◌, ℤ, pos, ◌-ℤ◌, unsigned_abs, List, [], ◌∷◌, ◌++◌, map, take, drop, length, Bool, true, false, ◌&&◌, None, All, AllPairs, Some, refl, ap, sym, subst, arith}
use Rattle.std.proofs.lemmas.List.Kept.{AllPairs-cons}
use Rattle.std.proofs.lemmas.List.Elements.{All-cons, All-nil}
use Rattle.sj_json.specs.Tree.{Tree, null, truth, string, number, array, object, Items, no_items, item, Members, no_members, member, Child as JsonChild, item_list, member_list, below, items_size, members_size, numbered}
use Rattle.sj_doc.specs.Keyed.{is_key}
use Rattle.sj_doc.specs.Kinds.{kind_of}
use Rattle.sj_path_tree.specs.Tree.{Path}
use Rattle.sj_path_tree.specs.Vars.{Variables}
use Rattle.sj_path_tree.specs.declared.parts.Mode.TheVariants.{Lax}
use Rattle.sj_item.specs.Items.{ItemValue, node, made_number, made_text, made_truth, made_null, made_pair, item_tree}
use Rattle.sj_step.specs.Trace.{Trace, stop, fail, visit, give, only, after_visits, each, items, fault_of}
use Rattle.sj_step.specs.Reach.{ReachValue, by_key, all_members, all_elements, by_range, unwrapped, Child, child_item, every, under_key, lax_range, on_scalar, on_array, on_object, on_kind, reach, unwrap}
use Rattle.sj_step.proofs.Traces.{items-after_visits, items-join_stop}
use Rattle.sj_cursor.specs.Meaning.{path_trace}
use Rattle.sj_forward.specs.Forward.{Accessor, Key, EachMember, EachElement, Span, accessors_of}
use Rattle.sj_forward_laws.specs.Apart.{IsBefore}
use Rattle.sj_forward_laws.proofs.Meanings.{found, found_gives, opened, keyed, valued, all_found, all_found_gives, forward_trace}

-- nodes from the number `low` on and below the number `high`, each behind all of the one before it
abbrev Within : ℕ → ℕ → List ItemValue → Type 0
Within low high [] = ⊤
Within low high (node i t ∷ xs) = (low ≤ i) × (i + below t < high) × Within (i + below t + 1) high xs
Within low high (x ∷ xs) = ⊥

wider : (low high lower higher : ℕ) (xs : List ItemValue) → lower ≤ low → high ≤ higher → Within low high xs → Within lower higher xs
wider low high lower higher [] l h w = tt
wider low high lower higher (node i t ∷ xs) l h w =
    (omega (arith, l, w.0), omega (arith, h, w.1), wider (i + below t + 1) high (i + below t + 1) higher xs (omega arith) h w.2)
wider low high lower higher (made_number d ∷ xs) l h w = absurd w
wider low high lower higher (made_text s ∷ xs) l h w = absurd w
wider low high lower higher (made_truth b ∷ xs) l h w = absurd w
wider low high lower higher (made_null ∷ xs) l h w = absurd w
wider low high lower higher (made_pair name value id ∷ xs) l h w = absurd w

after : (low middle high : ℕ) (xs ys : List ItemValue) → low ≤ middle → middle ≤ high → Within low middle xs → Within middle high ys → Within low high (xs ++ ys)
after low middle high [] ys l h w v = wider middle high low high ys l (omega arith) v
after low middle high (node i t ∷ xs) ys l h w v =
    let next : i + below t + 1 ≤ middle = omega (arith, w.1) in
    (w.0, omega (arith, h, w.1), after (i + below t + 1) middle high xs ys next h w.2 v)
after low middle high (made_number d ∷ xs) ys l h w v = absurd w
after low middle high (made_text s ∷ xs) ys l h w v = absurd w
after low middle high (made_truth b ∷ xs) ys l h w v = absurd w
after low middle high (made_null ∷ xs) ys l h w v = absurd w
after low middle high (made_pair name value id ∷ xs) ys l h w v = absurd w

-- a node alone
alone : (i : ℕ) (t : Tree) → Within i (i + below t + 1) (node i t ∷ [])
alone i t = (omega arith, omega arith, tt)

-- ---- what is made of each node stays within it

abbrev Inside : (ItemValue → Trace) → Type 0
Inside g = (i : ℕ) (t : Tree) → Within i (i + below t + 1) (items (g (node i t)))

each_within : (t : Trace) (g : ItemValue → Trace) (low high : ℕ) → fault_of t ≡ None → ((x : ItemValue) → fault_of (g x) ≡ None) → Within low high (items t) → Inside g → Within low high (items (each t g))
each_within stop g low high e f w inside = tt
each_within (fail s) g low high e f w inside = tt
each_within (visit t) g low high e f w inside = each_within t g low high e f w inside
each_within (give (node i u) t) g low high e f w inside =
    let here : Within low (i + below u + 1) (items (g (node i u))) =
    wider i (i + below u + 1) low (i + below u + 1) (items (g (node i u))) w.0 (omega arith) (inside i u) in
    let rest : Within (i + below u + 1) high (items (each t g)) = each_within t g (i + below u + 1) high e f w.2 inside in
    let front : low ≤ i + below u + 1 = omega (arith, w.0) in
    let back : i + below u + 1 ≤ high = omega (arith, w.1) in
    subst (Within low high) (sym (items-join_stop (g (node i u)) (each t g) (f (node i u))))
    (after low (i + below u + 1) high (items (g (node i u))) (items (each t g)) front back here rest)
each_within (give (made_number d) t) g low high e f w inside = absurd w
each_within (give (made_text s) t) g low high e f w inside = absurd w
each_within (give (made_truth b) t) g low high e f w inside = absurd w
each_within (give made_null t) g low high e f w inside = absurd w
each_within (give (made_pair name value id) t) g low high e f w inside = absurd w

visits_within : (n : ℕ) (t : Trace) (low high : ℕ) → Within low high (items t) → Within low high (items (after_visits n t))
visits_within n t low high w = subst (Within low high) (sym (items-after_visits n t)) w

-- ---- children

size : List JsonChild → ℕ
size [] = 0
size (k ∷ ks) = below k.1 + 1 + size ks

items_sizes : (ts : Items) → size (item_list ts) ≡ items_size ts
unfolding size
items_sizes no_items = refl
items_sizes (item t ts) = ap (λ (n : ℕ). below t + 1 + n) (items_sizes ts)

members_sizes : (ms : Members) → size (member_list ms) ≡ members_size ms
unfolding size
members_sizes no_members = refl
members_sizes (member k t ms) = ap (λ (n : ℕ). below t + 1 + n) (members_sizes ms)

size_more : (k : JsonChild) (ks : List JsonChild) → size (k ∷ ks) ≡ below k.1 + 1 + size ks
unfolding size
size_more k ks = refl

abbrev children_from : ℕ → List JsonChild → List Child
children_from i ks = map child_item (numbered i ks)

-- a child, and what comes behind it
first_within : (i : ℕ) (k : JsonChild) (high : ℕ) (t : Trace) → i + below k.1 < high → Within (i + 1 + below k.1) high (items t) → Within i high (items (give (node i k.1) t))
first_within i k high t h w = (omega arith, h, wider (i + 1 + below k.1) high (i + below k.1 + 1) high (items t) (omega arith) (omega arith) w)

taken : (n v i : ℕ) (ks : List JsonChild) (high : ℕ) → i + size ks ≤ high → Within i high (items (every v (take n (children_from i ks))))
taken zero v i ks high h = tt
taken (suc n) v i [] high h = tt
taken (suc n) v i (k ∷ ks) high h =
    let fits : i + below k.1 < high = omega (arith, h, size_more k ks) in
    let rest : i + 1 + below k.1 + size ks ≤ high = omega (arith, h, size_more k ks) in
    visits_within v (give (node i k.1) (every v (take n (children_from (i + 1 + below k.1) ks)))) i high
    (first_within i k high (every v (take n (children_from (i + 1 + below k.1) ks))) fits (taken n v (i + 1 + below k.1) ks high rest))

dropped : (m n v i : ℕ) (ks : List JsonChild) (high : ℕ) → i + size ks ≤ high → Within i high (items (every v (take n (drop m (children_from i ks)))))
dropped zero n v i ks high h = taken n v i ks high h
dropped (suc m) zero v i [] high h = tt
dropped (suc m) (suc n) v i [] high h = tt
dropped (suc m) n v i (k ∷ ks) high h =
    let rest : i + 1 + below k.1 + size ks ≤ high = omega (arith, h, size_more k ks) in
    wider (i + 1 + below k.1) high i high (items (every v (take n (drop m (children_from (i + 1 + below k.1) ks))))) (omega arith) (omega arith)
    (dropped m n v (i + 1 + below k.1) ks high rest)

every_within : (v i : ℕ) (ks : List JsonChild) (high : ℕ) → i + size ks ≤ high → Within i high (items (every v (children_from i ks)))
every_within v i [] high h = tt
every_within v i (k ∷ ks) high h =
    let fits : i + below k.1 < high = omega (arith, h, size_more k ks) in
    let rest : i + 1 + below k.1 + size ks ≤ high = omega (arith, h, size_more k ks) in
    visits_within v (give (node i k.1) (every v (children_from (i + 1 + below k.1) ks))) i high
    (first_within i k high (every v (children_from (i + 1 + below k.1) ks)) fits (every_within v (i + 1 + below k.1) ks high rest))

either : (b : Bool) (t u : Trace) (low high : ℕ) → Within low high (items t) → Within low high (items u) → Within low high (items (if b then t else u))
either true t u low high w v = w
either false t u low high w v = v

under_within : (v : ℕ) (key : List ℕ) (was : Bool) (i : ℕ) (ks : List JsonChild) (high : ℕ) → i + size ks ≤ high → Within i high (items (under_key v Lax key was (children_from i ks)))
under_within v key was i [] high h = tt
under_within v key was i (k ∷ ks) high h =
    let fits : i + below k.1 < high = omega (arith, h, size_more k ks) in
    let rest : i + 1 + below k.1 + size ks ≤ high = omega (arith, h, size_more k ks) in
    let cs : List Child = children_from (i + 1 + below k.1) ks in
    visits_within v (if is_key key k.0 then give (node i k.1) (under_key v Lax key true cs) else under_key v Lax key was cs) i high
    (either (is_key key k.0) (give (node i k.1) (under_key v Lax key true cs)) (under_key v Lax key was cs) i high
    (first_within i k high (under_key v Lax key true cs) fits (under_within v key true (i + 1 + below k.1) ks high rest))
    (wider (i + 1 + below k.1) high i high (items (under_key v Lax key was cs)) (omega arith) (omega arith) (under_within v key was (i + 1 + below k.1) ks high rest)))

range_within : (a b : ℤ) (i : ℕ) (ks : List JsonChild) (high : ℕ) → i + size ks ≤ high → Within i high (items (lax_range a b (children_from i ks)))
range_within a b i ks high h =
    let cs : List Child = children_from i ks in
    let start : ℤ = int_max a (pos 0) in
    let end : ℤ = int_min b (pos (length cs) -ℤ pos 1) in
    let m : ℕ = unsigned_abs start in
    let n : ℕ = (unsigned_abs end + 1) - m in
    either (int_lt end start) stop (after_visits m (every 1 (take n (drop m cs)))) i high tt
    (visits_within m (every 1 (take n (drop m cs))) i high (dropped m n 1 i ks high h))

one_within : (p : Bool) (i : ℕ) (t : Tree) → Within i (i + below t + 1) (items (if p then only (node i t) else stop))
one_within p i t = either p (only (node i t)) stop i (i + below t + 1) (alone i t) tt

-- ---- an accessor on a node

scalar_within : (r : ReachValue) (i : ℕ) (t : Tree) → Within i (i + below t + 1) (items (on_scalar r Lax (node i t)))
scalar_within (by_key key) i t = tt
scalar_within all_members i t = tt
scalar_within all_elements i t = alone i t
scalar_within (by_range a b) i t = one_within (int_le a (pos 0) && int_le (pos 0) b) i t
scalar_within unwrapped i t = alone i t

-- what is within the children is within their parent
below_within : (i n : ℕ) (xs : List ItemValue) → Within (i + 1) (i + n + 1) xs → Within i (i + n + 1) xs
below_within i n xs w = wider (i + 1) (i + n + 1) i (i + n + 1) xs (omega arith) (omega arith) w

array_within : (r : ReachValue) (i : ℕ) (ts : Items) → Within i (i + items_size ts + 1) (items (on_array r Lax (node i (array ts))))
array_within (by_key key) i ts = tt
array_within all_members i ts = tt
array_within all_elements i ts =
    below_within i (items_size ts) (items (every 1 (children_from (i + 1) (item_list ts))))
    (every_within 1 (i + 1) (item_list ts) (i + items_size ts + 1) (omega (arith, items_sizes ts)))
array_within (by_range a b) i ts =
    below_within i (items_size ts) (items (lax_range a b (children_from (i + 1) (item_list ts))))
    (range_within a b (i + 1) (item_list ts) (i + items_size ts + 1) (omega (arith, items_sizes ts)))
array_within unwrapped i ts =
    below_within i (items_size ts) (items (every 1 (children_from (i + 1) (item_list ts))))
    (every_within 1 (i + 1) (item_list ts) (i + items_size ts + 1) (omega (arith, items_sizes ts)))

object_within : (r : ReachValue) (i : ℕ) (ms : Members) → Within i (i + members_size ms + 1) (items (on_object r Lax (node i (object ms))))
object_within (by_key key) i ms =
    below_within i (members_size ms) (items (under_key 1 Lax key false (children_from (i + 1) (member_list ms))))
    (under_within 1 key false (i + 1) (member_list ms) (i + members_size ms + 1) (omega (arith, members_sizes ms)))
object_within all_members i ms =
    below_within i (members_size ms) (items (every 1 (children_from (i + 1) (member_list ms))))
    (every_within 1 (i + 1) (member_list ms) (i + members_size ms + 1) (omega (arith, members_sizes ms)))
object_within all_elements i ms = alone i (object ms)
object_within (by_range a b) i ms = one_within (int_le a (pos 0) && int_le (pos 0) b) i (object ms)
object_within unwrapped i ms = alone i (object ms)

kind_within : (r : ReachValue) (i : ℕ) (t : Tree) → Within i (i + below t + 1) (items (on_kind (kind_of t) r Lax (node i t)))
kind_within r i null = scalar_within r i null
kind_within r i (truth b) = scalar_within r i (truth b)
kind_within r i (string s) = scalar_within r i (string s)
kind_within r i (number v) = scalar_within r i (number v)
kind_within r i (array ts) = array_within r i ts
kind_within r i (object ms) = object_within r i ms

reach_within : (r : ReachValue) → Inside (reach r Lax)
unfolding reach
reach_within r i t = kind_within r i t

found_within : (a : Accessor) → Inside (found a)
unfolding reach
found_within (Key key) i t =
    each_within (unwrap Lax (node i t)) (reach (by_key key) Lax) i (i + below t + 1) (opened t (node i t) refl).0 (λ x. (keyed key (item_tree x) x refl).0)
    (reach_within unwrapped i t) (reach_within (by_key key))
found_within EachMember i t =
    each_within (unwrap Lax (node i t)) (reach all_members Lax) i (i + below t + 1) (opened t (node i t) refl).0 (λ x. (valued (item_tree x) x refl).0)
    (reach_within unwrapped i t) (reach_within all_members)
found_within EachElement i t = reach_within all_elements i t
found_within (Span from to) i t = reach_within (by_range (pos from) (pos to)) i t

all_found_within : (left : List Accessor) → Inside (all_found left)
all_found_within [] i t = alone i t
all_found_within (a ∷ left) i t =
    each_within (found a (node i t)) (all_found left) i (i + below t + 1) (found_gives a (node i t)).0 (λ x. (all_found_gives left x).0)
    (found_within a i t) (all_found_within left)

-- ---- the law

all_behind : (i : ℕ) (t : Tree) (low high : ℕ) (xs : List ItemValue) → i + below t < low → Within low high xs → All (IsBefore (node i t)) xs
all_behind i t low high [] h w = All-nil (IsBefore (node i t))
all_behind i t low high (node j u ∷ xs) h w =
    let next : i + below t < j + below u + 1 = omega (arith, h, w.0) in
    All-cons (IsBefore (node i t)) (node j u) xs (omega (arith, h, w.0)) (all_behind i t (j + below u + 1) high xs next w.2)
all_behind i t low high (made_number d ∷ xs) h w = absurd w
all_behind i t low high (made_text s ∷ xs) h w = absurd w
all_behind i t low high (made_truth b ∷ xs) h w = absurd w
all_behind i t low high (made_null ∷ xs) h w = absurd w
all_behind i t low high (made_pair name value id ∷ xs) h w = absurd w

pairs_apart : (low high : ℕ) (xs : List ItemValue) → Within low high xs → AllPairs IsBefore xs
pairs_apart low high [] w = λ i j d h k. absurd (omega (arith, k))
pairs_apart low high (node i t ∷ xs) w =
    AllPairs-cons IsBefore (node i t) xs (all_behind i t (i + below t + 1) high xs (omega arith) w.2) (pairs_apart (i + below t + 1) high xs w.2)
pairs_apart low high (made_number d ∷ xs) w = absurd w
pairs_apart low high (made_text s ∷ xs) w = absurd w
pairs_apart low high (made_truth b ∷ xs) w = absurd w
pairs_apart low high (made_null ∷ xs) w = absurd w
pairs_apart low high (made_pair name value id ∷ xs) w = absurd w

pub items_apart : (path : Path) (left : List Accessor) (vars : Variables) (i : ℕ) (t : Tree) → accessors_of path ≡ Some left → AllPairs IsBefore (items (path_trace path vars (node i t)))
items_apart path left vars i t h =
    subst (λ (u : Trace). AllPairs IsBefore (items u)) (sym (forward_trace path vars (node i t) left h))
    (pairs_apart i (i + below t + 1) (items (all_found left (node i t))) (all_found_within left i t))
