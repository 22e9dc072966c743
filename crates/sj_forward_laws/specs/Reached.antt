-- What accessors reach in a tree, by whole lists: each is applied to all that those before it reach, in lax mode (ISO/IEC 9075-2,
-- SQL/JSON path language: path accessors).
use Rattle.std.specs.Prelude.{ℕ, suc, List, [], ◌∷◌, map, if◌then◌else◌}
use Rattle.std.specs.List.{flat_map}
use Rattle.sj_json.specs.Tree.{Tree, null, truth, string, number, array, object, Child, item_list, member_list}
use Rattle.sj_doc.specs.Keyed.{is_key}
use Rattle.sj_forward.specs.Forward.{Accessor, Key, EachMember, EachElement, Span}
use Rattle.sj_forward.specs.Walk.{has_index}

-- children without their keys
abbrev pub values : List Child → List Tree
values cs = map (λ c. c.1) cs

-- those under a key
abbrev pub values_under : List ℕ → List Child → List Tree
values_under key [] = []
values_under key (c ∷ cs) = if is_key key c.0 then c.1 ∷ values_under key cs else values_under key cs

-- the trees from one index to another, where the first has the index i
abbrev pub spanned : ℕ → ℕ → ℕ → List Tree → List Tree
spanned from to i [] = []
spanned from to i (t ∷ ts) = if has_index from to i then t ∷ spanned from to (suc i) ts else spanned from to (suc i) ts

-- the members of an object; nothing else has any
abbrev pub members_of : Tree → List Child
members_of null = []
members_of (truth b) = []
members_of (string s) = []
members_of (number v) = []
members_of (array ts) = []
members_of (object ms) = member_list ms

-- the elements of an array; any other tree counts as an array of itself alone
abbrev pub elements_of : Tree → List Tree
elements_of null = null ∷ []
elements_of (truth b) = truth b ∷ []
elements_of (string s) = string s ∷ []
elements_of (number v) = number v ∷ []
elements_of (array ts) = values (item_list ts)
elements_of (object ms) = object ms ∷ []

-- what an accessor reaches of one tree: an array is unwrapped before an accessor of members
abbrev pub reached : Accessor → Tree → List Tree
reached (Key key) t = flat_map (λ u. values_under key (members_of u)) (elements_of t)
reached EachMember t = flat_map (λ u. values (members_of u)) (elements_of t)
reached EachElement t = elements_of t
reached (Span from to) t = spanned from to 0 (elements_of t)

-- what accessors reach, the first of the list applied first
abbrev pub all_reached : List Accessor → Tree → List Tree
all_reached [] t = t ∷ []
all_reached (a ∷ left) t = flat_map (all_reached left) (reached a t)
