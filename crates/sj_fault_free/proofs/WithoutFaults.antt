-- A path whose form rules out a fault ends well on every item.
use Rattle.std.specs.Prelude.{if◌then◌else◌, slice_range, pos, ◌-ℤ◌, unsigned_abs, int_lt, int_le}
use Rattle.std.specs.Int.{int_min, int_max}
use Rattle.std.proofs.Common.{◌≡◌, ℕ, ◌+◌, List, [], ◌∷◌, length, Bool, true, false, ◌&&◌, None, ℤ, ◌∙◌, refl}
use Rattle.sj_doc.specs.Keyed.{is_key}
use Rattle.sj_doc.specs.Kinds.{kind_of}
use Rattle.sj_doc.specs.declared.node.Kind.{Kind}
use Rattle.sj_doc.specs.declared.node.Kind.TheVariants as kinds
use Rattle.sj_path_tree.specs.declared.parts.Mode.{Mode}
use Rattle.sj_path_tree.specs.declared.parts.Mode.TheVariants.{Lax, Strict}
use Rattle.sj_path_tree.specs.declared.parts.Literal.TheVariants as literals
use Rattle.sj_path_tree.specs.Tree.{Path, Expr, Root, Var, Context, Last, Lit, Access, Plus, Minus, Binary, Step, Member, AllMembers, AllElements, Elements, Filter, Call, Sub, One, Range, Subs, NoSubs, More}
use Rattle.sj_item.specs.Items.{ItemValue, made_number, item_tree}
use Rattle.sj_item.specs.declared.truth.Truth.{Truth}
use Rattle.sj_item.specs.declared.truth.Truth.TheVariants.{True, False, Unknown}
use Rattle.sj_step.specs.Trace.{Trace, stop, fail, visit, give, only, after_visits, join, each, fault_of}
use Rattle.sj_step.specs.Reach.{ReachValue, by_key, all_members, all_elements, by_range, unwrapped, Child, child_visits, children_of, every, under_key, between, lax_range, range_of_one, on_array, on_object, on_scalar, on_kind, reach, unwrap, spread, last_on, last}
use Rattle.sj_step.proofs.Traces.{fault-after_visits}
use Rattle.sj_method.specs.Numbers.{operand_of, subscript_of}
use Rattle.sj_cursor.specs.Verdicts.{Verdict, kept, filtered}
use Rattle.sj_cursor.specs.Numbers.{with_subscript, element_part, range_part}
use Rattle.sj_path_tree.specs.Vars.{Variables}
use Rattle.sj_cursor.specs.Meaning.{Env, at_item, at_last, where_array, meaning, step_on, parts, part, verdict, start_env, path_trace}
use Rattle.sj_fault_free.specs.FaultFree.{is_fixed, sub_fault_free, subs_fault_free, step_fault_free, expr_fault_free, fault_free_in, fault_free}

-- ---- traces that are put together of such as end well

join_well : (t u : Trace) → fault_of t ≡ None → fault_of u ≡ None → fault_of (join t u) ≡ None
join_well stop u e f = f
join_well (fail s) u e f = cc
join_well (visit t) u e f = join_well t u e f
join_well (give x t) u e f = join_well t u e f

each_well : (t : Trace) (g : ItemValue → Trace) → fault_of t ≡ None → ((x : ItemValue) → fault_of (g x) ≡ None) → fault_of (each t g) ≡ None
each_well stop g e f = refl
each_well (fail s) g e f = cc
each_well (visit t) g e f = each_well t g e f
each_well (give x t) g e f = join_well (g x) (each t g) (f x) (each_well t g e f)

after_visits_well : (n : ℕ) (t : Trace) → fault_of t ≡ None → fault_of (after_visits n t) ≡ None
after_visits_well n t e = fault-after_visits n t ∙ e

if_well : (b : Bool) (t u : Trace) → fault_of t ≡ None → fault_of u ≡ None → fault_of (if b then t else u) ≡ None
if_well true t u e f = e
if_well false t u e f = f

-- ---- what is reached of an item in lax mode

every_well : (n : ℕ) (cs : List Child) → fault_of (every n cs) ≡ None
every_well n [] = refl
every_well n (c ∷ cs) = after_visits_well n (give c.1 (every n cs)) (every_well n cs)

under_key_well : (n : ℕ) (key : List ℕ) (found : Bool) (cs : List Child) → fault_of (under_key n Lax key found cs) ≡ None
under_key_well n key found [] = refl
under_key_well n key found (c ∷ cs) =
    after_visits_well n (if is_key key c.0 then give c.1 (under_key n Lax key true cs) else under_key n Lax key found cs)
    (if_well (is_key key c.0) (give c.1 (under_key n Lax key true cs)) (under_key n Lax key found cs) (under_key_well n key true cs) (under_key_well n key found cs))

between_well : (i j : ℕ) (cs : List Child) → fault_of (between i j cs) ≡ None
between_well i j cs = after_visits_well i (every 1 (slice_range cs i j)) (every_well 1 (slice_range cs i j))

range_well : (a b : ℤ) (cs : List Child) → fault_of (lax_range a b cs) ≡ None
range_well a b cs =
    let start = int_max a (pos 0) in
    let end = int_min b (pos (length cs) -ℤ pos 1) in
    if_well (int_lt end start) stop (between (unsigned_abs start) (unsigned_abs end + 1) cs) refl (between_well (unsigned_abs start) (unsigned_abs end + 1) cs)

range_of_one_well : (a b : ℤ) (x : ItemValue) → fault_of (range_of_one Lax a b x) ≡ None
range_of_one_well a b x = if_well (int_le a (pos 0) && int_le (pos 0) b) (only x) stop refl refl

on_array_well : (r : ReachValue) (x : ItemValue) → fault_of (on_array r Lax x) ≡ None
on_array_well (by_key key) x = refl
on_array_well all_members x = refl
on_array_well all_elements x = every_well (child_visits x) (children_of x)
on_array_well (by_range a b) x = range_well a b (children_of x)
on_array_well unwrapped x = every_well (child_visits x) (children_of x)

on_object_well : (r : ReachValue) (x : ItemValue) → fault_of (on_object r Lax x) ≡ None
on_object_well (by_key key) x = under_key_well (child_visits x) key false (children_of x)
on_object_well all_members x = every_well (child_visits x) (children_of x)
on_object_well all_elements x = refl
on_object_well (by_range a b) x = range_of_one_well a b x
on_object_well unwrapped x = refl

on_scalar_well : (r : ReachValue) (x : ItemValue) → fault_of (on_scalar r Lax x) ≡ None
on_scalar_well (by_key key) x = refl
on_scalar_well all_members x = refl
on_scalar_well all_elements x = refl
on_scalar_well (by_range a b) x = range_of_one_well a b x
on_scalar_well unwrapped x = refl

on_kind_well : (k : Kind) (r : ReachValue) (x : ItemValue) → fault_of (on_kind k r Lax x) ≡ None
on_kind_well kinds.Null r x = on_scalar_well r x
on_kind_well kinds.Truth r x = on_scalar_well r x
on_kind_well kinds.Number r x = on_scalar_well r x
on_kind_well kinds.String r x = on_scalar_well r x
on_kind_well kinds.Array r x = on_array_well r x
on_kind_well kinds.Object r x = on_object_well r x

reach_well : (r : ReachValue) (mode : Mode) (x : ItemValue) → mode ≡ Lax → fault_of (reach r mode x) ≡ None
unfolding reach
reach_well r Lax x m = on_kind_well (kind_of (item_tree x)) r x
reach_well r Strict x m = cc

spread_well : (mode : Mode) (t : Trace) → mode ≡ Lax → fault_of t ≡ None → fault_of (spread mode t) ≡ None
spread_well mode t m e = each_well t (unwrap mode) e (λ x. reach_well unwrapped mode x m)

-- ---- subscripts

last_on_well : (k : Kind) (x : ItemValue) (go : ℤ → Trace) → ((n : ℤ) → fault_of (go n) ≡ None) → fault_of (where_array (last_on k Lax x) go) ≡ None
last_on_well kinds.Null x go w = w _
last_on_well kinds.Truth x go w = w _
last_on_well kinds.Number x go w = w _
last_on_well kinds.String x go w = w _
last_on_well kinds.Array x go w = w _
last_on_well kinds.Object x go w = w _

last_well : (mode : Mode) (x : ItemValue) (go : ℤ → Trace) → mode ≡ Lax → ((n : ℤ) → fault_of (go n) ≡ None) → fault_of (where_array (last mode x) go) ≡ None
unfolding last
last_well Lax x go m w = last_on_well (kind_of (item_tree x)) x go w
last_well Strict x go m w = cc

number_well : (mode : Mode) (d : ℤ × ℕ) (go : ℤ → Trace) → ((i : ℤ) → fault_of (go i) ≡ None) → fault_of (with_subscript mode (only (made_number d)) go) ≡ None
unfolding subscript_of operand_of
number_well Lax d go w = w _
number_well Strict d go w = w _

fixed_well : (e : Expr) (env : Env) (go : ℤ → Trace) → is_fixed e ≡ true → ((i : ℤ) → fault_of (go i) ≡ None) → fault_of (with_subscript env.mode (meaning e env) go) ≡ None
fixed_well Last env go h w = number_well env.mode (env.last, 0) go w
fixed_well (Lit (literals.Num d)) env go h w = number_well env.mode d go w
fixed_well (Lit (literals.Text s)) env go h w = cc
fixed_well (Lit (literals.Bool b)) env go h w = cc
fixed_well (Lit literals.Null) env go h w = cc
fixed_well Root env go h w = cc
fixed_well (Var name) env go h w = cc
fixed_well Context env go h w = cc
fixed_well (Access e s) env go h w = cc
fixed_well (Plus e) env go h w = cc
fixed_well (Minus e) env go h w = cc
fixed_well (Binary op a b) env go h w = cc

-- ---- accessors

both : (a b : Bool) → (a && b) ≡ true → (a ≡ true) × (b ≡ true)
both true b h = (refl, h)
both false b h = cc

part_well : (s : Sub) (env : Env) (x : ItemValue) → env.mode ≡ Lax → sub_fault_free s ≡ true → fault_of (part s env x) ≡ None
unfolding element_part range_part
part_well (One e) env x m h = fixed_well e env (λ i. reach (by_range i i) env.mode x) h (λ i. reach_well (by_range i i) env.mode x m)
part_well (Range e f) env x m h =
    let hs = both (is_fixed e) (is_fixed f) h in
    fixed_well e env (λ i. with_subscript env.mode (meaning f env) (λ j. reach (by_range i j) env.mode x)) hs.0
    (λ i. fixed_well f env (λ j. reach (by_range i j) env.mode x) hs.1 (λ j. reach_well (by_range i j) env.mode x m))

parts_well : (subs : Subs) (env : Env) (x : ItemValue) → env.mode ≡ Lax → subs_fault_free subs ≡ true → fault_of (parts subs env x) ≡ None
parts_well NoSubs env x m h = refl
parts_well (More s others) env x m h =
    let hs = both (sub_fault_free s) (subs_fault_free others) h in
    join_well (part s env x) (parts others env x) (part_well s env x m hs.0) (parts_well others env x m hs.1)

kept_well : (truth : Truth) (x : ItemValue) → fault_of (kept truth x) ≡ None
kept_well True x = refl
kept_well False x = refl
kept_well Unknown x = refl

filtered_well : (v : Verdict) (x : ItemValue) → fault_of (filtered v x) ≡ None
unfolding filtered
filtered_well v x = after_visits_well v.allow (kept v.truth x) (kept_well v.truth x)

step_well : (s : Step) (t : Trace) (env : Env) → env.mode ≡ Lax → step_fault_free s ≡ true → fault_of t ≡ None → fault_of (step_on s t env) ≡ None
step_well (Member key) t env m h e = each_well (spread env.mode t) (reach (by_key key) env.mode) (spread_well env.mode t m e) (λ x. reach_well (by_key key) env.mode x m)
step_well AllMembers t env m h e = each_well (spread env.mode t) (reach all_members env.mode) (spread_well env.mode t m e) (λ x. reach_well all_members env.mode x m)
step_well AllElements t env m h e = each_well t (reach all_elements env.mode) e (λ x. reach_well all_elements env.mode x m)
step_well (Elements subs) t env m h e =
    each_well t (λ x. where_array (last env.mode x) (λ n. parts subs (at_last env n) x)) e
    (λ x. last_well env.mode x (λ n. parts subs (at_last env n) x) m (λ n. parts_well subs (at_last env n) x m h))
step_well (Filter p) t env m h e =
    each_well (spread env.mode t) (λ x. filtered (verdict p (at_item env x)) x) (spread_well env.mode t m e) (λ x. filtered_well (verdict p (at_item env x)) x)
step_well (Call method) t env m h e = cc

-- ---- paths

expr_well : (e : Expr) (env : Env) → env.mode ≡ Lax → expr_fault_free e ≡ true → fault_of (meaning e env) ≡ None
expr_well Root env m h = refl
expr_well (Var name) env m h = refl
expr_well Context env m h = refl
expr_well Last env m h = refl
expr_well (Lit l) env m h = refl
expr_well (Access e s) env m h =
    let hs = both (expr_fault_free e) (step_fault_free s) h in
    step_well s (meaning e env) env m hs.1 (expr_well e env m hs.0)
expr_well (Plus e) env m h = cc
expr_well (Minus e) env m h = cc
expr_well (Binary op a b) env m h = cc

in_mode_well : (mode : Mode) (e : Expr) (env : Env) → env.mode ≡ mode → fault_free_in mode e ≡ true → fault_of (meaning e env) ≡ None
in_mode_well Lax e env m h = expr_well e env m h
in_mode_well Strict e env m h = cc

pub path_well : (path : Path) (vars : Variables) (root : ItemValue) → fault_free path ≡ true → fault_of (path_trace path vars root) ≡ None
unfolding path_trace
path_well path vars root h = in_mode_well path.mode path.expr (start_env path vars root) refl h
