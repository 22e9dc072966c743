use Rattle.std.proofs.Common.{◌≡◌, ◌+◌, ◌*◌}
use Rattle.sj_item.specs.Items.{item_value}
use Rattle.sj_table.specs.Series.{size}
use Rattle.sj_table.specs.Cells.{core, nested_core, union_core, cross_core, plan_size, entries_left, rows_left, nested_left, nested_due, cross_left, cross_due}
use Rattle.sj_table.specs.Takes.{Approaches}
use Rattle.sj_table.proofs.cells.+next.Given as goal

-- ---- the plan of what is asked falls, and where it stays, the rank does

abbrev pub decreases-Cell::next : goal.decreases-Cell::next
decreases-Cell::next l = 4 * plan_size (core l.self.now) + 2

abbrev pub decreases-Nested::next : goal.decreases-Nested::next
decreases-Nested::next l = 4 * plan_size (nested_core l.self.now) + 1

abbrev pub decreases-Nested::next_below : goal.decreases-Nested::next_below
decreases-Nested::next_below l = 4 * plan_size (nested_core l.self.now)

abbrev pub decreases-Union::next : goal.decreases-Union::next
decreases-Union::next l = 4 * plan_size (union_core l.self.now)

abbrev pub decreases-Cross::next : goal.decreases-Cross::next
decreases-Cross::next l = 4 * plan_size (cross_core l.self.now) + 1

abbrev pub decreases-Cross::next_right : goal.decreases-Cross::next_right
decreases-Cross::next_right l = 4 * plan_size (cross_core l.self.now)

-- ---- the entries of a path, each with the rows below it

abbrev pub invariant-Nested::next-entries : goal.invariant-Nested::next-entries
invariant-Nested::next-entries l = record {
  same : nested_core l.self ≡ nested_core l.initial.self;
  near : Approaches (nested_left l.on_error l.initial.self (item_value l.parent)) (nested_due l.on_error l.initial.self (item_value l.parent)) l.initial.steps (nested_left l.on_error l.self (item_value l.parent)) (nested_due l.on_error l.self (item_value l.parent)) l.steps;
}

abbrev pub decreases-Nested::next-entries : goal.decreases-Nested::next-entries
decreases-Nested::next-entries l = size (entries_left l.on_error l.self.parent (item_value l.parent))

-- ---- the rows of the left side, each with the rows of the right one

abbrev pub invariant-Cross::next-rows : goal.invariant-Cross::next-rows
invariant-Cross::next-rows l = record {
  same : cross_core l.self ≡ cross_core l.initial.self;
  near : Approaches (cross_left l.on_error l.initial.self (item_value l.parent)) (cross_due l.on_error l.initial.self (item_value l.parent)) l.initial.steps (cross_left l.on_error l.self (item_value l.parent)) (cross_due l.on_error l.self (item_value l.parent)) l.steps;
}

abbrev pub decreases-Cross::next-rows : goal.decreases-Cross::next-rows
decreases-Cross::next-rows l = size (rows_left l.on_error l.self.left.value (item_value l.parent))
