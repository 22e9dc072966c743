-- An accessor on one item (ISO/IEC 9075-2, path accessors), and the unwrapping of one item.
use Rattle.std.specs.Prelude.{ℕ, ◌+◌, List, [], ◌∷◌, map, length, codes, slice_range, Bool, true, false, ◌||◌, ◌&&◌, if◌then◌else◌, Option, Some, None, ℤ, pos, ◌-ℤ◌, unsigned_abs, int_lt, int_le}
use Rattle.std.specs.Int.{int_min, int_max}
use Rattle.sj_base.specs.declared.state.State.{State}
use Rattle.sj_base.specs.declared.state.State.TheVariants.{S22033, S22039, S2203A, S2203C}
use Rattle.sj_json.specs.Tree.{Tree, children, numbered, NumberedChild}
use Rattle.sj_doc.specs.Keyed.{is_key}
use Rattle.sj_doc.specs.Kinds.{kind_of}
use Rattle.sj_doc.specs.declared.node.Kind.{Kind}
use Rattle.sj_doc.specs.declared.node.Kind.TheVariants as kinds
use Rattle.sj_item.specs.Items.{ItemValue, node, made_number, made_text, made_truth, made_null, made_pair, item_tree}
use Rattle.sj_path_tree.specs.declared.parts.Mode.{Mode}
use Rattle.sj_path_tree.specs.declared.parts.Mode.TheVariants.{Lax, Strict}
use Rattle.sj_step.specs.declared.reach.Reach.{Reach}
use Rattle.sj_step.specs.declared.reach.Reach.TheVariants as reaches
use Rattle.sj_step.specs.Trace.{Trace, stop, fail, give, only, after_visits, each}

-- what is reached of an item, without pointers
pub data ReachValue : Type 0 where
  -- the members under a key
  by_key : List ℕ → ReachValue
  all_members : ReachValue
  all_elements : ReachValue
  -- the elements from one index to another
  by_range : ℤ → ℤ → ReachValue
  -- the elements of an array in lax mode, else the item itself
  unwrapped : ReachValue

abbrev pub reach_value : Reach → ReachValue
reach_value (reaches.Member key) = by_key key.now
reach_value reaches.AllMembers = all_members
reach_value reaches.AllElements = all_elements
reach_value (reaches.Range a b) = by_range a b
reach_value reaches.Unwrap = unwrapped

-- ---- the children of an item

-- an element, which has no key, or a member under its key
abbrev pub Child : Type 0
Child = Option (List ℕ) × ItemValue

abbrev pub child_item : NumberedChild → Child
child_item c = (c.0, node c.1 c.2)

-- the id of a made pair, a number
abbrev pub id_item : ℤ → ItemValue
id_item id = made_number (id, 0)

-- the elements or members of an item in order, none of a scalar
abbrev pub children_of : ItemValue → List Child
children_of (node i t) = map child_item (numbered (i + 1) (children t))
children_of (made_pair name value id) = (Some (codes "name"), made_text name) ∷ (Some (codes "value"), value) ∷ (Some (codes "id"), id_item id) ∷ []
children_of (made_number d) = []
children_of (made_text s) = []
children_of (made_truth b) = []
children_of made_null = []

-- the visits for each child: a child of a node is handed out, and what is made is at hand
abbrev pub child_visits : ItemValue → ℕ
child_visits (node i t) = 1
child_visits (made_number d) = 0
child_visits (made_text s) = 0
child_visits (made_truth b) = 0
child_visits made_null = 0
child_visits (made_pair name value id) = 0

-- ---- the walks over children, each of which takes n visits

-- each child is given
abbrev pub every : ℕ → List Child → Trace
every n [] = stop
every n (c ∷ cs) = after_visits n (give c.1 (every n cs))

-- the end of a walk over members: in strict mode one under the key is to be found
abbrev pub members_end : Mode → Bool → Trace
members_end Lax found = stop
members_end Strict true = stop
members_end Strict false = fail S2203A

-- each child under the key is given; `found` says whether there was one before these
abbrev pub under_key : ℕ → Mode → List ℕ → Bool → List Child → Trace
under_key n mode key found [] = members_end mode found
under_key n mode key found (c ∷ cs) = after_visits n (if is_key key c.0 then give c.1 (under_key n mode key true cs) else under_key n mode key found cs)

-- the children from the index i on and before the index j are given, behind visits for all that stand before
abbrev pub between : ℕ → ℕ → List Child → Trace
between i j cs = after_visits i (every 1 (slice_range cs i j))

-- all children of an item, and those of its members that are under a key
abbrev pub every_of : ItemValue → Trace
every_of x = every (child_visits x) (children_of x)

abbrev pub members_under : Mode → List ℕ → ItemValue → Trace
members_under mode key x = under_key (child_visits x) mode key false (children_of x)

-- ---- a range

-- the indices a to b, cut to those that there are
abbrev pub lax_range : ℤ → ℤ → List Child → Trace
lax_range a b cs =
    let start = int_max a (pos 0) in
    let end = int_min b (pos (length cs) -ℤ pos 1) in
    if int_lt end start then stop else between (unsigned_abs start) (unsigned_abs end + 1) cs

-- the indices a to b, all of which are to be there
abbrev pub strict_range : ℤ → ℤ → List Child → Trace
strict_range a b cs =
    if int_lt a (pos 0) || int_lt (pos (length cs) -ℤ pos 1) b || int_lt b a then fail S22033 else between (unsigned_abs a) (unsigned_abs b + 1) cs

abbrev pub range : Mode → ℤ → ℤ → List Child → Trace
range Lax a b cs = lax_range a b cs
range Strict a b cs = strict_range a b cs

-- ---- where an accessor does not fit

-- a structural error: no item in lax mode, and a fault in strict mode
abbrev pub structural_error : Mode → State → Trace
structural_error Lax s = stop
structural_error Strict s = fail s

-- in lax mode an item that is no array counts as an array of that one item
abbrev pub range_of_one : Mode → ℤ → ℤ → ItemValue → Trace
range_of_one Lax a b x = if int_le a (pos 0) && int_le (pos 0) b then only x else stop
range_of_one Strict a b x = fail S22039

abbrev pub elements_of_one : Mode → ItemValue → Trace
elements_of_one Lax x = only x
elements_of_one Strict x = fail S22039

-- ---- on each kind of item

abbrev pub unwrap_array : Mode → ItemValue → Trace
unwrap_array Lax x = every_of x
unwrap_array Strict x = only x

abbrev pub on_array : ReachValue → Mode → ItemValue → Trace
on_array (by_key key) mode x = structural_error mode S2203C
on_array all_members mode x = structural_error mode S2203C
on_array all_elements mode x = every_of x
on_array (by_range a b) mode x = range mode a b (children_of x)
on_array unwrapped mode x = unwrap_array mode x

abbrev pub on_object : ReachValue → Mode → ItemValue → Trace
on_object (by_key key) mode x = members_under mode key x
on_object all_members mode x = every_of x
on_object all_elements mode x = elements_of_one mode x
on_object (by_range a b) mode x = range_of_one mode a b x
on_object unwrapped mode x = only x

abbrev pub on_scalar : ReachValue → Mode → ItemValue → Trace
on_scalar (by_key key) mode x = structural_error mode S2203C
on_scalar all_members mode x = structural_error mode S2203C
on_scalar all_elements mode x = elements_of_one mode x
on_scalar (by_range a b) mode x = range_of_one mode a b x
on_scalar unwrapped mode x = only x

abbrev pub on_kind : Kind → ReachValue → Mode → ItemValue → Trace
on_kind kinds.Null r mode x = on_scalar r mode x
on_kind kinds.Truth r mode x = on_scalar r mode x
on_kind kinds.Number r mode x = on_scalar r mode x
on_kind kinds.String r mode x = on_scalar r mode x
on_kind kinds.Array r mode x = on_array r mode x
on_kind kinds.Object r mode x = on_object r mode x

-- the trace of what is reached of one item
unfoldable pub reach : ReachValue → Mode → ItemValue → Trace
reach r mode x = on_kind (kind_of (item_tree x)) r mode x

-- ---- unwrapping, and the last index

-- lax mode's unwrapping of one item
abbrev pub unwrap : Mode → ItemValue → Trace
unwrap mode x = reach unwrapped mode x

-- each item of a trace unwrapped
abbrev pub spread : Mode → Trace → Trace
spread mode t = each t (unwrap mode)

abbrev pub last_off : Mode → Option ℤ
last_off Lax = Some (pos 0)
last_off Strict = None

abbrev pub last_on : Kind → Mode → ItemValue → Option ℤ
last_on kinds.Null mode x = last_off mode
last_on kinds.Truth mode x = last_off mode
last_on kinds.Number mode x = last_off mode
last_on kinds.String mode x = last_off mode
last_on kinds.Array mode x = Some (pos (length (children_of x)) -ℤ pos 1)
last_on kinds.Object mode x = last_off mode

-- the last index of an array; in lax mode 0 of any other item, and in strict mode none
unfoldable pub last : Mode → ItemValue → Option ℤ
last mode x = last_on (kind_of (item_tree x)) mode x
