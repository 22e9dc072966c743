-- The pairs of an object, which the method `keyvalue` gives (ISO/IEC 9075-2, SQL/JSON path language, item methods).
use Rattle.std.specs.Prelude.{[], map, unwrap_or, Option, Some, None, Result, Ok, Err, ℤ, pos, negsuc}
use Rattle.sj_base.specs.declared.state.State.{State}
use Rattle.sj_base.specs.declared.state.State.TheVariants.{S2203C}
use Rattle.sj_doc.specs.Kinds.{kind_of}
use Rattle.sj_doc.specs.Listed.{node_id}
use Rattle.sj_doc.specs.declared.node.Kind.{Kind}
use Rattle.sj_doc.specs.declared.node.Kind.TheVariants as kinds
use Rattle.sj_item.specs.Items.{ItemValue, node, made_number, made_text, made_truth, made_null, made_pair, item_tree, pair_item, PullValue, gives, ends}
use Rattle.sj_item.specs.declared.pair.Pair.{Pair}
use Rattle.sj_step.specs.Trace.{Trace, fail}
use Rattle.sj_step.specs.Reach.{Child, child_item, children_of, child_visits, every}
use Rattle.sj_step.specs.PairParts.{from_part}
use Rattle.sj_method.specs.declared.keyvalue.PairWalk.{PairWalk}
use Rattle.sj_method.specs.declared.keyvalue.Members.{Members}
use Rattle.sj_method.specs.declared.keyvalue.Made.{Made}
use Rattle.sj_method.specs.declared.keyvalue.Left.{Left}
use Rattle.sj_method.specs.declared.keyvalue.Left.TheVariants as lefts

-- the id in the pairs of an object: its number in preorder, and -1 where it is itself a made pair
abbrev pub object_id : ItemValue → ℤ
object_id (node i t) = pos i
object_id (made_number d) = negsuc 0
object_id (made_text s) = negsuc 0
object_id (made_truth b) = negsuc 0
object_id made_null = negsuc 0
object_id (made_pair name value id) = negsuc 0

-- the pair of a member, which has a key
abbrev pub pair_of : ℤ → Child → Child
pair_of id c = (None, made_pair (unwrap_or c.0 []) c.1 id)

-- the pairs of the members, each at the visits of its member
abbrev pub pairs_on : Kind → ItemValue → Result Trace State
pairs_on kinds.Null x = Err S2203C
pairs_on kinds.Truth x = Err S2203C
pairs_on kinds.Number x = Err S2203C
pairs_on kinds.String x = Err S2203C
pairs_on kinds.Array x = Err S2203C
pairs_on kinds.Object x = Ok (every (child_visits x) (map (pair_of (object_id x)) (children_of x)))

unfoldable pub pairs_of : ItemValue → Result Trace State
pairs_of x = pairs_on (kind_of (item_tree x)) x

abbrev pub or_fault : Result Trace State → Trace
or_fault (Ok t) = t
or_fault (Err s) = fail s

-- the trace of `keyvalue` on one item
unfoldable pub key_values : ItemValue → Trace
key_values x = or_fault (pairs_of x)

-- ---- what a walk has left

-- one answer of a walk
abbrev pub pair_pull : Option Pair → PullValue
pair_pull None = ends
pair_pull (Some p) = gives (pair_item p)

abbrev pub members_left : Members → Trace
members_left m = every 1 (map (pair_of (pos (node_id m.object))) (map child_item m.left))

abbrev pub made_left : Made → Trace
made_left m = every 0 (from_part m.part (map (pair_of (negsuc 0)) (children_of (pair_item m.pair))))

abbrev pub left_of : Left → Trace
left_of (lefts.Members m) = members_left m
left_of (lefts.Made m) = made_left m

unfoldable pub pairs_left : PairWalk → Trace
pairs_left w = left_of w.left

-- the trace of the walk that a call begins, or the state of its refusal
abbrev pub started : Result PairWalk State → Result Trace State
started (Ok w) = Ok (pairs_left w)
started (Err s) = Err s
