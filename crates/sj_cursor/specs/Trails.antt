-- What is left of the items of a path that is gone through by moves.
use Rattle.std.specs.Prelude.{◌≡◌, ◌≤◌, ◌<◌, ◌+◌, ◌*◌, ◌-◌, ℕ, List, [], ◌∷◌, false, map, length, drop, get_or, Option, Some, None, vec_capacity}
use Rattle.sj_base.specs.Count.{raised}
use Rattle.sj_json.specs.Tree.{children, numbered, NumberedChild}
use Rattle.sj_doc.specs.Listed.{node_id, node_tree}
use Rattle.sj_doc.specs.declared.doc.NodeRef.{NodeRef}
use Rattle.sj_path_tree.specs.Nodes.{expr_nodes}
use Rattle.sj_path_tree.specs.Tree as t
use Rattle.sj_path_tree.specs.declared.parts.Mode.TheVariants.{Lax}
use Rattle.sj_item.specs.Items.{ItemValue, PullValue, item_value, gives, ends}
use Rattle.sj_item.specs.declared.item.Item.{Item}
use Rattle.sj_item.specs.declared.item.Item.TheVariants as items
use Rattle.sj_step.specs.Trace.{Trace, stop, only, after_visits, join, each}
use Rattle.sj_step.specs.Reach.{child_item, every, under_key}
use Rattle.sj_plain_path.specs.Chains.{node_value}
use Rattle.sj_cursor.specs.Moves.{AreMovesOf, walked}
use Rattle.sj_cursor.specs.declared.moves.Move.{Move}
use Rattle.sj_cursor.specs.declared.moves.Move.TheVariants as moves
use Rattle.sj_cursor.specs.declared.moves.Way.{Way}
use Rattle.sj_cursor.specs.declared.moves.Way.TheVariants as ways
use Rattle.sj_cursor.specs.declared.trail.Descent.{Descent}
use Rattle.sj_cursor.specs.declared.trail.Descent.TheVariants as descents
use Rattle.sj_cursor.specs.declared.trail.Landing.{Landing}
use Rattle.sj_cursor.specs.declared.trail.Landing.TheVariants as landings
use Rattle.sj_cursor.specs.declared.trail.Frame.{Frame}
use Rattle.sj_cursor.specs.declared.trail.Trail.{Trail}

-- On the way from t to u nothing was given, and no more was spent than there are visits.
pub record Leads (t : Trace) (steps : ℕ) (u : Trace) (later : ℕ) : Type 0 where
  pub spent : ℕ
  pub is : t ≡ after_visits spent u
  pub costs : later ≤ raised steps spent

-- a node that was found, or the end
abbrev pub pulled : Option NodeRef → PullValue
pulled None = ends
pulled (Some n) = gives (node_value n)

-- ---- children

abbrev pub children_within : NodeRef → List NumberedChild
children_within n = numbered (node_id n + 1) (children (node_tree n))

-- what a move goes on with of children that are left: all of them, or those under a key
abbrev pub left_by : Move → (ItemValue → Trace) → List NumberedChild → Trace
left_by moves.Unwrap within cs = each (every 1 (map child_item cs)) within
left_by (moves.Member key) within cs = each (under_key 1 Lax key.now false (map child_item cs)) within
left_by (moves.Filter test) within cs = each (every 1 (map child_item cs)) within

-- the next child that it goes on with, behind those that it passes over
abbrev pub Gives : Move → Option NodeRef → List NumberedChild → List NumberedChild → Type 0
Gives m None cs ds = (within : ItemValue → Trace) → left_by m within cs ≡ after_visits (length cs - length ds) stop
Gives m (Some n) cs ds = (within : ItemValue → Trace) → left_by m within cs ≡ after_visits (length cs - length ds) (join (within (node_value n)) (left_by m within ds))

-- ---- down from one node

abbrev pub way_left : Move → (ItemValue → Trace) → NodeRef → Way → Trace
way_left m within n ways.Straight = within (node_value n)
way_left m within n ways.Nowhere = stop
way_left m within n ways.Down = left_by m within (children_within n)

abbrev pub opened_at : List Move → ℕ → List NumberedChild → Trace
opened_at ms at cs = left_by (get_or ms at moves.Unwrap) (walked (drop (at + 1) ms)) cs

abbrev pub descent_left : List Move → NodeRef → Descent → Trace
descent_left ms n descents.Item = only (node_value n)
descent_left ms n descents.Nothing = stop
descent_left ms n (descents.Children at) = opened_at ms at (children_within n)

-- a node comes to a move that is not before the one it began at
abbrev pub StaysWithin : ℕ → ℕ → Descent → Type 0
StaysWithin from end descents.Item = from ≤ end
StaysWithin from end descents.Nothing = from ≤ end
StaysWithin from end (descents.Children at) = (from ≤ at) × (at < end)

-- ---- down from an item that the path made

-- an item that is no node
abbrev pub IsMade : Item → Type 0
IsMade x = (n : NodeRef) → x ≡ items.Node n → ⊥

-- a trace of one item at most, and no visit
abbrev pub GivesOne : Trace → Option Item → Type 0
GivesOne t None = t ≡ stop
GivesOne t (Some x) = t ≡ only (item_value x)

abbrev pub item_left : (ItemValue → Trace) → Option Item → Trace
item_left within None = stop
item_left within (Some x) = within (item_value x)

abbrev pub landing_left : List Move → Landing → Trace
landing_left ms (landings.Item x) = only (item_value x)
landing_left ms landings.Nothing = stop
landing_left ms (landings.Node n at) = walked (drop at ms) (node_value n)

abbrev pub LandsWithin : ℕ → Landing → Type 0
LandsWithin end (landings.Item x) = Unit {0}
LandsWithin end landings.Nothing = Unit {0}
LandsWithin end (landings.Node n at) = at ≤ end

-- ---- frames

abbrev pub frame_left : List Move → Frame → Trace
frame_left ms f = opened_at ms f.at f.left

-- what frames have left, the last one first, and behind them u
abbrev pub frames_left : List Move → Trace → List Frame → Trace
frames_left ms u [] = u
frames_left ms u (f ∷ fs) = frames_left ms (join (frame_left ms f) u) fs

abbrev pub stack_left : List Move → List Frame → Trace
stack_left ms fs = frames_left ms stop fs

-- frames of a path with n moves, of which i stand before: none comes before the move of its own number
abbrev pub Stacked : ℕ → ℕ → List Frame → Type 0
Stacked n i [] = Unit {0}
Stacked n i (f ∷ fs) = (i ≤ f.at) × ((f.at < n) × Stacked n (i + 1) fs)

-- there is room for one frame more, which lies within all others
pub record IsRoomy (ms : List Move) (places : ℕ) (frames : List Frame) (f : Frame) : Type 0 where
  pub room : length ms ≤ places
  pub stacked : Stacked (length ms) 0 frames
  pub within : length frames ≤ f.at
  pub at : f.at < length ms

pub record IsTrail (trail : Trail) : Type 0 where
  pub room : length trail.moves.items ≤ vec_capacity trail.frames
  pub stacked : Stacked (length trail.moves.items) 0 trail.frames.items

pub record IsTrailOf (path : t.Path) (trail : Trail) : Type 0 where
  pub lax : path.mode ≡ Lax
  pub means : AreMovesOf path.expr trail.moves.items
  pub few : length trail.moves.items + 2 ≤ 2 * expr_nodes path.expr
  pub is_trail : IsTrail trail
