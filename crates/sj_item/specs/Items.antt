-- Items: what a path gives, without the pointers by which the code holds them.
use Rattle.std.specs.Prelude.{ℕ, List, [], length, Bool, codes, unwrap_or, ℤ, pos, negsuc}
use Rattle.sj_json.specs.Tree.{exact, Tree, null, truth, string, number, array, object, no_members, member, item_list, below}
use Rattle.sj_decimal.specs.Text.{decimal_text}
use Rattle.sj_doc.specs.Listed.{node_id, node_tree, node_key}
use Rattle.sj_item.specs.MadeValues.{exact_value}
use Rattle.sj_item.specs.declared.item.Item.{Item}
use Rattle.sj_item.specs.declared.item.Item.TheVariants as items
use Rattle.sj_item.specs.declared.pair.Pair.{Pair}
use Rattle.sj_item.specs.declared.pair.Name.{Name}
use Rattle.sj_item.specs.declared.pair.Name.TheVariants as names
use Rattle.sj_item.specs.declared.pair.Value.{Value}
use Rattle.sj_item.specs.declared.pair.Value.TheVariants as held_values
use Rattle.sj_item.specs.declared.pair.PairValue.{PairValue}
use Rattle.sj_item.specs.declared.pair.PairValue.TheVariants as pair_values
use Rattle.sj_item.specs.declared.item.Pull.{Pull}
use Rattle.sj_item.specs.declared.item.Pull.TheVariants as pulls
use Rattle.sj_base.specs.declared.state.State.{State}

-- Two items are the same where these are equal: they are the same node, or equal made values.
pub data ItemValue : Type 0 where
  -- a node of the line's document: its number in preorder, and the tree that begins there
  node : ℕ → Tree → ItemValue
  made_number : ℤ × ℕ → ItemValue
  made_text : List ℕ → ItemValue
  made_truth : Bool → ItemValue
  made_null : ItemValue
  -- a name, a value and an id
  made_pair : List ℕ → ItemValue → ℤ → ItemValue

-- ---- what the code holds

-- what is said of the member of a pair: a name, and the id of a pair that has it
abbrev pub named_text : Pair → Name → List ℕ
named_text p names.OfMember = unwrap_or (node_key p.member) []
named_text p names.NameWord = codes "name"
named_text p names.ValueWord = codes "value"
named_text p names.IdWord = codes "id"

abbrev pub named_id : Pair → Name → ℤ
named_id p names.OfMember = pos p.object
named_id p names.NameWord = negsuc 0
named_id p names.ValueWord = negsuc 0
named_id p names.IdWord = negsuc 0

abbrev pub value_held : Pair → Value → ItemValue
value_held p held_values.Member = node (node_id p.member) (node_tree p.member)
value_held p (held_values.NameOf name) = made_text (named_text p name)
value_held p (held_values.IdOf name) = made_number (named_id p name, 0)

-- the name, the value and the id of a pair
abbrev pub pair_name : Pair → List ℕ
pair_name p = named_text p p.name

abbrev pub pair_held : Pair → ItemValue
pair_held p = value_held p p.value

abbrev pub pair_id : Pair → ℤ
pair_id p = named_id p p.name

abbrev pub pair_item : Pair → ItemValue
pair_item p = made_pair (pair_name p) (pair_held p) (pair_id p)

-- a value of a pair, as it is read
abbrev pub pair_value : PairValue → ItemValue
pair_value (pair_values.Node n) = node (node_id n) (node_tree n)
pair_value (pair_values.Text s) = made_text s.now
pair_value (pair_values.Num n) = made_number (n, 0)

abbrev pub item_value : Item → ItemValue
item_value (items.Node n) = node (node_id n) (node_tree n)
item_value (items.Num n) = made_number (exact_value n)
item_value (items.Text s) = made_text s.now
item_value (items.NumberText n) = made_text (decimal_text (exact_value n))
item_value (items.Bool b) = made_truth b
item_value items.Null = made_null
item_value (items.Pair p) = pair_item p

-- one answer of a sequence
pub data PullValue : Type 0 where
  gives : ItemValue → PullValue
  ends : PullValue
  faults : State → PullValue

abbrev pub pull_value : Pull → PullValue
pull_value (pulls.Item x) = gives (item_value x)
pull_value pulls.End = ends
pull_value (pulls.Fault s) = faults s

-- ---- what an item is

-- the object that a pair stands for
abbrev pub pair_tree : List ℕ → Tree → ℤ → Tree
pair_tree name value id = object (member (codes "name") (string name) (member (codes "value") value (member (codes "id") (number (exact (id, 0))) no_members)))

-- the tree that an item stands for
abbrev pub item_tree : ItemValue → Tree
item_tree (node i t) = t
item_tree (made_number d) = number (exact d)
item_tree (made_text s) = string s
item_tree (made_truth b) = truth b
item_tree made_null = null
item_tree (made_pair name value id) = pair_tree name (item_tree value) id

-- the nodes of the document below the item's node, or below that of a pair's value
abbrev pub nodes_below : ItemValue → ℕ
nodes_below (node i t) = below t
nodes_below (made_number d) = 0
nodes_below (made_text s) = 0
nodes_below (made_truth b) = 0
nodes_below made_null = 0
nodes_below (made_pair name value id) = nodes_below value

-- the number of elements of an array, and 1 of any other tree
abbrev pub size_of : Tree → ℕ
size_of (array ts) = length (item_list ts)
size_of null = 1
size_of (truth b) = 1
size_of (string s) = 1
size_of (number v) = 1
size_of (object ms) = 1
