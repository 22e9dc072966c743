-- The trace that a walk has left.
use Rattle.std.specs.Prelude.{map, take, drop, length}
use Rattle.sj_item.specs.Items.{item_value, pair_item}
use Rattle.sj_step.specs.Trace.{Trace, stop, fail, only, after_visits}
use Rattle.sj_step.specs.Reach.{child_item, children_of, every, under_key}
use Rattle.sj_step.specs.PairParts.{from_part}
use Rattle.sj_walk.specs.declared.walk.Walk.{Walk}
use Rattle.sj_walk.specs.declared.walk.Left.{Left}
use Rattle.sj_walk.specs.declared.walk.Left.TheVariants as lefts
use Rattle.sj_walk.specs.declared.members.Members.{Members}
use Rattle.sj_walk.specs.declared.elements.Elements.{Elements}
use Rattle.sj_walk.specs.declared.parts.Parts.{Parts}

abbrev pub members_left : Members → Trace
members_left m = under_key 1 m.mode m.key.now m.found (map child_item m.left)

abbrev pub elements_left : Elements → Trace
elements_left e = after_visits (length (take e.skip e.left)) (every 1 (map child_item (take e.count (drop e.skip e.left))))

abbrev pub parts_left : Parts → Trace
parts_left p = every 0 (from_part p.part (children_of (pair_item p.pair)))

abbrev pub left_of : Left → Trace
left_of lefts.Ended = stop
left_of (lefts.Failed s) = fail s
left_of (lefts.Single x) = only (item_value x)
left_of (lefts.Every cs) = every 1 (map child_item cs)
left_of (lefts.Keyed m) = members_left m
left_of (lefts.Ranged e) = elements_left e
left_of (lefts.Made p) = parts_left p

unfoldable pub walk_left : Walk → Trace
walk_left w = left_of w.left
