-- A forward path means what its accessors reach.
use Rattle.std.proofs.Common.{◌≡◌, ℕ, ◌+◌, zero, suc, ℤ, pos, negsuc, List, [], ◌∷◌, ◌++◌, map, false, Option, Some, None, refl, ap, ap₂, sym, ◌∙◌, arith}
use Rattle.std.proofs.lemmas.Int.{ints}
use Rattle.std.proofs.lemmas.Simd.{map-map}
use Rattle.sj_decimal.specs.Rounding.{whole_of}
use Rattle.sj_json.specs.Tree.{Tree, null, truth, string, number, array, object, children, numbered}
use Rattle.sj_json.specs.Printing.{printed}
use Rattle.sj_doc.specs.Kinds.{kind_of}
use Rattle.sj_doc.specs.declared.node.Kind.{Kind}
use Rattle.sj_doc.specs.declared.node.Kind.TheVariants as kinds
use Rattle.sj_path_tree.specs.Tree.{Path, Expr, Root, Var, Context, Last, Lit, Access, Plus, Minus, Binary, Step, Member, AllMembers, AllElements, Elements, Filter, Call, Sub, One, Range, NoSubs, More}
use Rattle.sj_path_tree.specs.Vars.{Variables}
use Rattle.sj_path_tree.specs.declared.parts.Literal.TheVariants as literals
use Rattle.sj_path_tree.specs.declared.parts.Mode.{Mode}
use Rattle.sj_path_tree.specs.declared.parts.Mode.TheVariants.{Lax, Strict}
use Rattle.sj_item.specs.Items.{ItemValue, node, made_number, made_text, made_truth, made_null, made_pair, item_tree}
use Rattle.sj_step.specs.Trace.{Trace, only, join, each, stop, items, fault_of}
use Rattle.sj_step.specs.Reach.{child_visits, children_of, child_item, every, under_key, lax_range, by_key, all_members, all_elements, by_range, unwrapped, on_kind, reach, unwrap, last, last_on}
use Rattle.sj_step.proofs.Traces.{join-stop, each-only, each_assoc, each_cong}
use Rattle.sj_method.specs.Numbers.{operand_of, subscript_of}
use Rattle.sj_cursor.specs.Meaning.{Env, at_last, where_array, meaning, step_on, parts, part, start_env, path_trace}
use Rattle.sj_cursor.specs.Numbers.{element_part, range_part}
use Rattle.sj_forward.specs.Forward.{Accessor, Key, EachMember, EachElement, Span, index, span, span_of, accessor_of, then, on_root, in_mode, accessors_of}
use Rattle.sj_forward.specs.Walk.{at, walk}
use Rattle.sj_forward_laws.specs.Reached.{values, values_under, spanned, members_of, elements_of, reached, all_reached}
use Rattle.sj_forward_laws.proofs.Given.{trees, Gives, gives_same, gives_each, gives_every, gives_under, named, named_children}
use Rattle.sj_forward_laws.proofs.Spans.{gives_range, gives_one}
use Rattle.sj_forward_laws.proofs.Walked.{walked}

-- ---- on one item, by its tree

every_child : (x : ItemValue) (t : Tree) → item_tree x ≡ t → Gives (every (child_visits x) (children_of x)) (values (children t))
every_child x t e =
    gives_same (every (child_visits x) (children_of x)) (values (map named (children_of x))) (values (children t)) (gives_every (child_visits x) (children_of x))
    (ap values (named_children x) ∙ ap (λ (u : Tree). values (children u)) e)

itself : (x : ItemValue) (t : Tree) → item_tree x ≡ t → Gives (only x) (t ∷ [])
itself x t e = (refl, ap (λ (u : Tree). u ∷ []) e)

elements_given : (t : Tree) (x : ItemValue) → item_tree x ≡ t → Gives (on_kind (kind_of t) all_elements Lax x) (elements_of t)
elements_given null x e = itself x null e
elements_given (truth b) x e = itself x (truth b) e
elements_given (string s) x e = itself x (string s) e
elements_given (number v) x e = itself x (number v) e
elements_given (array ts) x e = every_child x (array ts) e
elements_given (object ms) x e = itself x (object ms) e

pub opened : (t : Tree) (x : ItemValue) → item_tree x ≡ t → Gives (on_kind (kind_of t) unwrapped Lax x) (elements_of t)
opened null x e = itself x null e
opened (truth b) x e = itself x (truth b) e
opened (string s) x e = itself x (string s) e
opened (number v) x e = itself x (number v) e
opened (array ts) x e = every_child x (array ts) e
opened (object ms) x e = itself x (object ms) e

pub keyed : (key : List ℕ) (t : Tree) (x : ItemValue) → item_tree x ≡ t → Gives (on_kind (kind_of t) (by_key key) Lax x) (values_under key (members_of t))
keyed key null x e = (refl, refl)
keyed key (truth b) x e = (refl, refl)
keyed key (string s) x e = (refl, refl)
keyed key (number v) x e = (refl, refl)
keyed key (array ts) x e = (refl, refl)
keyed key (object ms) x e =
    gives_same (under_key (child_visits x) Lax key false (children_of x)) (values_under key (map named (children_of x))) (values_under key (children (object ms)))
    (gives_under (child_visits x) key false (children_of x))
    (ap (values_under key) (named_children x) ∙ ap (λ (u : Tree). values_under key (children u)) e)

pub valued : (t : Tree) (x : ItemValue) → item_tree x ≡ t → Gives (on_kind (kind_of t) all_members Lax x) (values (members_of t))
valued null x e = (refl, refl)
valued (truth b) x e = (refl, refl)
valued (string s) x e = (refl, refl)
valued (number v) x e = (refl, refl)
valued (array ts) x e = (refl, refl)
valued (object ms) x e = every_child x (object ms) e

-- the items that a path makes are no arrays
in_range : (a b : ℕ) (t : Tree) (x : ItemValue) → item_tree x ≡ t → Gives (on_kind (kind_of t) (by_range (pos a) (pos b)) Lax x) (spanned a b 0 (elements_of t))
in_range a b null x e = gives_one a b x null e
in_range a b (truth c) x e = gives_one a b x (truth c) e
in_range a b (string s) x e = gives_one a b x (string s) e
in_range a b (number v) x e = gives_one a b x (number v) e
in_range a b (object ms) x e = gives_one a b x (object ms) e
in_range a b (array ts) (node i t) e =
    gives_same (lax_range (pos a) (pos b) (map child_item (numbered (i + 1) (children t)))) (spanned a b 0 (values (children t))) (spanned a b 0 (values (children (array ts))))
    (gives_range a b (i + 1) (children t)) (ap (λ (u : Tree). spanned a b 0 (values (children u))) e)
in_range a b (array ts) (made_number d) e = absurd (cc)
in_range a b (array ts) (made_text s) e = absurd (cc)
in_range a b (array ts) (made_truth c) e = absurd (cc)
in_range a b (array ts) made_null e = absurd (cc)
in_range a b (array ts) (made_pair name value id) e = absurd (cc)

-- ---- an accessor on one item

abbrev pub found : Accessor → ItemValue → Trace
found (Key key) x = each (unwrap Lax x) (reach (by_key key) Lax)
found EachMember x = each (unwrap Lax x) (reach all_members Lax)
found EachElement x = reach all_elements Lax x
found (Span from to) x = reach (by_range (pos from) (pos to)) Lax x

pub found_gives : (a : Accessor) (x : ItemValue) → Gives (found a x) (reached a (item_tree x))
unfolding reach
found_gives (Key key) x =
    gives_each (unwrap Lax x) (elements_of (item_tree x)) (reach (by_key key) Lax) (λ u. values_under key (members_of u))
    (opened (item_tree x) x refl) (λ y. keyed key (item_tree y) y refl)
found_gives EachMember x =
    gives_each (unwrap Lax x) (elements_of (item_tree x)) (reach all_members Lax) (λ u. values (members_of u))
    (opened (item_tree x) x refl) (λ y. valued (item_tree y) y refl)
found_gives EachElement x = elements_given (item_tree x) x refl
found_gives (Span from to) x = in_range from to (item_tree x) x refl

-- accessors on one item
abbrev pub all_found : List Accessor → ItemValue → Trace
all_found [] x = only x
all_found (a ∷ left) x = each (found a x) (all_found left)

pub all_found_gives : (left : List Accessor) (x : ItemValue) → Gives (all_found left x) (all_reached left (item_tree x))
all_found_gives [] x = (refl, refl)
all_found_gives (a ∷ left) x = gives_each (found a x) (reached a (item_tree x)) (all_found left) (all_reached left) (found_gives a x) (all_found_gives left)

-- ---- an accessor of a path

index_is : (e : Expr) (n : ℕ) → index e ≡ Some n → e ≡ Lit (literals.Num (pos n, 0))
index_is (Lit (literals.Num (pos m, zero))) n h = let same : m ≡ n = cc in ap (λ (k : ℕ). Lit (literals.Num (pos k, 0))) same
index_is (Lit (literals.Num (pos m, suc k))) n h = cc
index_is (Lit (literals.Num (negsuc m, k))) n h = cc
index_is (Lit (literals.Text s)) n h = cc
index_is (Lit (literals.Bool b)) n h = cc
index_is (Lit literals.Null) n h = cc
index_is Root n h = cc
index_is (Var name) n h = cc
index_is Context n h = cc
index_is Last n h = cc
index_is (Access e s) n h = cc
index_is (Plus e) n h = cc
index_is (Minus e) n h = cc
index_is (Binary op a b) n h = cc

whole_index : (n : ℕ) → whole_of (pos n, 0) ≡ pos n
whole_index n = grind (arith, ints)

-- whole numbers as subscripts, which are asked at no price
at_index : (n : ℕ) (mode : Mode) (x : ItemValue) → mode ≡ Lax → element_part mode (only (made_number (pos n, 0))) x ≡ found (Span n n) x
unfolding element_part subscript_of operand_of
at_index n Lax x lax = ap (λ (z : ℤ). reach (by_range z z) Lax x) (whole_index n)
at_index n Strict x lax = cc

between_indices : (m n : ℕ) (mode : Mode) (x : ItemValue) → mode ≡ Lax
    → range_part mode (only (made_number (pos m, 0))) (only (made_number (pos n, 0))) x ≡ found (Span m n) x
unfolding range_part subscript_of operand_of
between_indices m n Lax x lax = ap₂ (λ (y z : ℤ). reach (by_range y z) Lax x) (whole_index m) (whole_index n)
between_indices m n Strict x lax = cc

one_is : (e : Expr) (o : Option ℕ) (a : Accessor) (env : Env) (x : ItemValue) → index e ≡ o → span o o ≡ Some a → env.mode ≡ Lax → part (One e) env x ≡ found a x
one_is e None a env x i h lax = cc
one_is e (Some n) a env x i h lax =
    let same : Span n n ≡ a = cc in
    ap (λ (d : Expr). part (One d) env x) (index_is e n i) ∙ at_index n env.mode x lax ∙ ap (λ (b : Accessor). found b x) same

range_is : (e f : Expr) (o p : Option ℕ) (a : Accessor) (env : Env) (x : ItemValue) → index e ≡ o → index f ≡ p → span o p ≡ Some a → env.mode ≡ Lax
    → part (Range e f) env x ≡ found a x
range_is e f None p a env x i j h lax = cc
range_is e f (Some m) None a env x i j h lax = cc
range_is e f (Some m) (Some n) a env x i j h lax =
    let same : Span m n ≡ a = cc in
    ap₂ (λ (c d : Expr). part (Range c d) env x) (index_is e m i) (index_is f n j) ∙ between_indices m n env.mode x lax ∙ ap (λ (b : Accessor). found b x) same

part_is : (s : Sub) (a : Accessor) (env : Env) (x : ItemValue) → span_of s ≡ Some a → env.mode ≡ Lax → part s env x ≡ found a x
part_is (One e) a env x h lax = one_is e (index e) a env x refl h lax
part_is (Range e f) a env x h lax = range_is e f (index e) (index f) a env x refl refl h lax

-- in lax mode each item has a last index, and these parts do not ask for it
any_last : (k : Kind) (x : ItemValue) (t : Trace) (go : ℤ → Trace) → ((n : ℤ) → go n ≡ t) → where_array (last_on k Lax x) go ≡ t
any_last kinds.Null x t go e = e _
any_last kinds.Truth x t go e = e _
any_last kinds.Number x t go e = e _
any_last kinds.String x t go e = e _
any_last kinds.Array x t go e = e _
any_last kinds.Object x t go e = e _

span_on : (s : Sub) (a : Accessor) (env : Env) (x : ItemValue) → span_of s ≡ Some a → env.mode ≡ Lax
    → where_array (last env.mode x) (λ n. parts (More s NoSubs) (at_last env n) x) ≡ found a x
unfolding last
span_on s a env x h lax =
    ap (λ (m : Mode). where_array (last_on (kind_of (item_tree x)) m x) (λ n. join (part s (at_last env n) x) stop)) lax
    ∙ any_last (kind_of (item_tree x)) x (found a x) _ (λ n. join-stop _ ∙ part_is s a (at_last env n) x h lax)

step_is : (s : Step) (a : Accessor) (t : Trace) (env : Env) → accessor_of s ≡ Some a → env.mode ≡ Lax → step_on s t env ≡ each t (found a)
step_is (Member key) a t env h lax =
    let same : Key key ≡ a = cc in
    ap (λ (m : Mode). each (each t (unwrap m)) (reach (by_key key) m)) lax
    ∙ each_assoc t (unwrap Lax) (reach (by_key key) Lax)
    ∙ ap (λ (b : Accessor). each t (found b)) same
step_is AllMembers a t env h lax =
    let same : EachMember ≡ a = cc in
    ap (λ (m : Mode). each (each t (unwrap m)) (reach all_members m)) lax
    ∙ each_assoc t (unwrap Lax) (reach all_members Lax)
    ∙ ap (λ (b : Accessor). each t (found b)) same
step_is AllElements a t env h lax =
    let same : EachElement ≡ a = cc in
    ap (λ (m : Mode). each t (reach all_elements m)) lax ∙ ap (λ (b : Accessor). each t (found b)) same
step_is (Elements NoSubs) a t env h lax = cc
step_is (Elements (More s NoSubs)) a t env h lax = each_cong t _ (found a) (λ x. span_on s a env x h lax)
step_is (Elements (More s (More r others))) a t env h lax = cc
step_is (Filter p) a t env h lax = cc
step_is (Call m) a t env h lax = cc

-- ---- a path

one_more : (left : List Accessor) (a : Accessor) (x : ItemValue) → each (all_found left x) (found a) ≡ all_found (left ++ a ∷ []) x
one_more [] a x = join-stop (found a x) ∙ sym (each-only (found a x))
one_more (b ∷ left) a x =
    each_assoc (found b x) (all_found left) (found a)
    ∙ each_cong (found b x) (λ y. each (all_found left y) (found a)) (all_found (left ++ a ∷ [])) (λ y. one_more left a y)

abbrev Means : Expr → Env → Type 0
Means e env = (left : List Accessor) → on_root e ≡ Some left → meaning e env ≡ all_found left env.root

access_is : (e : Expr) (s : Step) (env : Env) (p : Option (List Accessor)) (q : Option Accessor) (all : List Accessor)
    → on_root e ≡ p → accessor_of s ≡ q → then p q ≡ Some all → env.mode ≡ Lax → Means e env → meaning (Access e s) env ≡ all_found all env.root
access_is e s env None q all i j h lax is = cc
access_is e s env (Some left) None all i j h lax is = cc
access_is e s env (Some left) (Some a) all i j h lax is =
    let same : (left ++ a ∷ []) ≡ all = cc in
    step_is s a (meaning e env) env j lax
    ∙ ap (λ (t : Trace). each t (found a)) (is left i)
    ∙ one_more left a env.root
    ∙ ap (λ (l : List Accessor). all_found l env.root) same

means : (e : Expr) (env : Env) → env.mode ≡ Lax → Means e env
means Root env lax left h = let same : [] ≡ left = cc in ap (λ (l : List Accessor). all_found l env.root) same
means (Access e s) env lax left h = access_is e s env (on_root e) (accessor_of s) left refl refl h lax (means e env lax)
means (Var name) env lax left h = cc
means Context env lax left h = cc
means Last env lax left h = cc
means (Lit l) env lax left h = cc
means (Plus e) env lax left h = cc
means (Minus e) env lax left h = cc
means (Binary op a b) env lax left h = cc

means_in : (mode : Mode) (e : Expr) (env : Env) (left : List Accessor) → in_mode mode e ≡ Some left → env.mode ≡ mode → meaning e env ≡ all_found left env.root
means_in Lax e env left h lax = means e env lax left h
means_in Strict e env left h strict = cc

pub forward_trace : (path : Path) (vars : Variables) (root : ItemValue) (left : List Accessor) → accessors_of path ≡ Some left → path_trace path vars root ≡ all_found left root
unfolding path_trace
forward_trace path vars root left h = means_in path.mode path.expr (start_env path vars root) left h refl

-- ---- the laws

pub items_are : (path : Path) (left : List Accessor) (vars : Variables) (root : ItemValue) → accessors_of path ≡ Some left
    → map item_tree (items (path_trace path vars root)) ≡ walk (at left) (item_tree root)
items_are path left vars root h =
    ap trees (forward_trace path vars root left h) ∙ (all_found_gives left root).1 ∙ sym (walked left (item_tree root))

pub texts_are : (path : Path) (left : List Accessor) (vars : Variables) (root : ItemValue) → accessors_of path ≡ Some left
    → map (λ x. printed (item_tree x)) (items (path_trace path vars root)) ≡ map printed (walk (at left) (item_tree root))
texts_are path left vars root h =
    sym (map-map printed item_tree (items (path_trace path vars root))) ∙ ap (map printed) (items_are path left vars root h)

pub ends_well : (path : Path) (left : List Accessor) (vars : Variables) (root : ItemValue) → accessors_of path ≡ Some left → fault_of (path_trace path vars root) ≡ None
ends_well path left vars root h = ap fault_of (forward_trace path vars root left h) ∙ (all_found_gives left root).0
