-- The plan that each cell is of, which never changes, the rows that it has left, and the row at hand.
use Rattle.std.specs.Prelude.{ℕ, ◌+◌, ◌*◌, [], ◌∷◌, ◌++◌, Option, Some, None}
use Rattle.sj_item.specs.Items.{ItemValue, item_value}
use Rattle.sj_path_tree.specs.View.{path_of}
use Rattle.sj_step.specs.Trace.{Trace, stop, fail, visit, give, visits}
use Rattle.sj_cursor.specs.Meaning.{path_trace}
use Rattle.sj_value.specs.declared.clauses.TableAction.{TableAction}
use Rattle.sj_table.specs.Series.{Series, done, raises, more, chain, each, sum_over}
use Rattle.sj_table.specs.Rows.{Entry, Row, PlanRows, beside, alone, ordinal_of, Source, SourcePlan, single, nested, union, cross, entries, joined, rows, cost}
use Rattle.sj_table.specs.declared.join.Join.{Join}
use Rattle.sj_table.specs.declared.pull.RowPull.{RowPull}
use Rattle.sj_table.specs.declared.pull.RowPull.TheVariants as pulls
use Rattle.sj_table.specs.declared.cells.Cell.{Cell}
use Rattle.sj_table.specs.declared.cells.Cell.TheVariants as cells
use Rattle.sj_table.specs.declared.cells.PathCell.{PathCell}
use Rattle.sj_table.specs.declared.cells.Stage.{Stage}
use Rattle.sj_table.specs.declared.cells.Stage.TheVariants as stages
use Rattle.sj_table.specs.declared.cells.Nested.{Nested}
use Rattle.sj_table.specs.declared.cells.At.{At}
use Rattle.sj_table.specs.declared.cells.At.TheVariants as ats
use Rattle.sj_table.specs.declared.cells.Union.{Union}
use Rattle.sj_table.specs.declared.cells.Side.{Side}
use Rattle.sj_table.specs.declared.cells.Side.TheVariants as sides
use Rattle.sj_table.specs.declared.cells.Cross.{Cross}
use Rattle.sj_table.specs.declared.cells.Hand.{Hand}
use Rattle.sj_table.specs.declared.cells.Hand.TheVariants as hands

-- ---- the plans

abbrev pub path_source : PathCell → Source
path_source c = record { number = c.number; trace = λ x. path_trace (path_of c.run.cursor.value.path) c.run.cursor.value.vars x }

abbrev pub core : Cell → SourcePlan
core (cells.Single c) = single (path_source c)
core (cells.Nested' join parent p below at) = nested join (path_source parent) (core below)
core (cells.Union' p a q b side) = union (core a) (core b)
core (cells.Cross' p a q b hand) = cross (core a) (core b)

abbrev pub nested_core : Nested → SourcePlan
nested_core c = nested c.join (path_source c.parent) (core c.below.value)

abbrev pub union_core : Union → SourcePlan
union_core c = union (core c.left.value) (core c.right.value)

abbrev pub cross_core : Cross → SourcePlan
cross_core c = cross (core c.left.value) (core c.right.value)

-- how many paths and operators a plan has
abbrev pub plan_size : SourcePlan → ℕ
plan_size (single path) = 1
plan_size (nested join path below) = plan_size below + 1
plan_size (union a b) = plan_size a + plan_size b + 1
plan_size (cross a b) = plan_size a + plan_size b + 1

-- ---- the row at hand

abbrev pub entry_at : PathCell → Entry
entry_at c = record { path = c.number; item = item_value c.item; ordinal = c.ordinal }

abbrev pub row_at : At → Entry → Row → Row
row_at ats.Nothing e below = []
row_at ats.Before e below = []
row_at ats.Among e below = e ∷ below
row_at ats.Alone e below = e ∷ []

abbrev pub side_row : Side → Row → Row → Row
side_row sides.Left left right = left
side_row sides.Right left right = right

abbrev pub hand_row : Hand → Row → Row → Row
hand_row hands.Empty left right = []
hand_row hands.Row left right = left ++ right

abbrev pub row_of : Cell → Row
row_of (cells.Single c) = entry_at c ∷ []
row_of (cells.Nested' join parent p below at) = row_at at (entry_at parent) (row_of below)
row_of (cells.Union' p a q b side) = side_row side (row_of a) (row_of b)
row_of (cells.Cross' p a q b hand) = hand_row hand (row_of a) (row_of b)

abbrev pub nested_row : Nested → Row
nested_row c = row_at c.at (entry_at c.parent) (row_of c.below.value)

abbrev pub union_row : Union → Row
union_row c = side_row c.side (row_of c.left.value) (row_of c.right.value)

abbrev pub cross_row : Cross → Row
cross_row c = hand_row c.hand (row_of c.left.value) (row_of c.right.value)

-- ---- the entries that a path has left

-- the items of a trace numbered from n on, up to the end of the trace
abbrev pub entries_to_end : ℕ → ℕ → Trace → Series Entry
entries_to_end path n stop = done
entries_to_end path n (fail s) = raises s
entries_to_end path n (visit t) = entries_to_end path n t
entries_to_end path n (give x t) = more (record { path = path; item = x; ordinal = ordinal_of n }) (entries_to_end path (n + 1) t)

abbrev pub stage_left : Stage → Series Entry → Series Entry → Series Entry
stage_left stages.Unasked all left = all
stage_left stages.Entered all left = left

abbrev pub entries_left : TableAction → PathCell → ItemValue → Series Entry
entries_left action c x = stage_left c.stage (entries action (path_source c) x) (entries_to_end c.number (c.ordinal + 1) c.run.cursor.value.left)

abbrev pub stage_due : Stage → ℕ → ℕ → ℕ
stage_due stages.Unasked all left = all
stage_due stages.Entered all left = left

abbrev pub entries_due : PathCell → ItemValue → ℕ
entries_due c x = stage_due c.stage (2 * visits ((path_source c).trace x)) (visits c.run.cursor.value.left)

-- ---- the rows that a cell has left

-- of the entry at hand, where the plan below it has these rows left
abbrev pub at_left : At → Join → Entry → PlanRows → PlanRows
at_left ats.Nothing join e below = done
at_left ats.Before join e below = joined join e below
at_left ats.Among join e below = beside (e ∷ []) below
at_left ats.Alone join e below = done

abbrev pub side_left : Side → PlanRows → PlanRows → PlanRows → PlanRows
side_left sides.Left left right all_right = chain left all_right
side_left sides.Right left right all_right = right

-- of the left row at hand, where the right plan has these rows left
abbrev pub hand_left : Hand → Row → PlanRows → PlanRows
hand_left hands.Empty row right = done
hand_left hands.Row row right = beside row right

-- the rows of all entries of a path with a plan below it
abbrev pub below_all : TableAction → Join → SourcePlan → Series Entry → PlanRows
below_all action join below es = each es (λ e. joined join e (rows action below e.item))

-- each of the left rows beside all rows of the right plan
abbrev pub beside_all : TableAction → SourcePlan → ItemValue → PlanRows → PlanRows
beside_all action right x left = each left (λ row. beside row (rows action right x))

abbrev pub rows_left : TableAction → Cell → ItemValue → PlanRows
rows_left action (cells.Single c) x = each (entries_left action c x) alone
rows_left action (cells.Nested' join parent p below at) x =
    chain (at_left at join (entry_at parent) (rows_left action below (item_value parent.item))) (below_all action join (core below) (entries_left action parent x))
rows_left action (cells.Union' p a q b side) x = side_left side (rows_left action a x) (rows_left action b x) (rows action (core b) x)
rows_left action (cells.Cross' p a q b hand) x = chain (hand_left hand (row_of a) (rows_left action b x)) (beside_all action (core b) x (rows_left action a x))

-- of the entry at hand
abbrev pub nested_at_left : TableAction → Nested → PlanRows
nested_at_left action c = at_left c.at c.join (entry_at c.parent) (rows_left action c.below.value (item_value c.parent.item))

abbrev pub nested_left : TableAction → Nested → ItemValue → PlanRows
nested_left action c x = chain (nested_at_left action c) (below_all action c.join (core c.below.value) (entries_left action c.parent x))

abbrev pub union_left : TableAction → Union → ItemValue → PlanRows
union_left action c x = side_left c.side (rows_left action c.left.value x) (rows_left action c.right.value x) (rows action (core c.right.value) x)

-- of the left row at hand
abbrev pub cross_hand_left : TableAction → Cross → ItemValue → PlanRows
cross_hand_left action c x = hand_left c.hand (row_of c.left.value) (rows_left action c.right.value x)

abbrev pub cross_left : TableAction → Cross → ItemValue → PlanRows
cross_left action c x = chain (cross_hand_left action c x) (beside_all action (core c.right.value) x (rows_left action c.left.value x))

-- ---- the visits that they may take

abbrev pub at_due : At → ℕ → ℕ
at_due ats.Nothing below = 0
at_due ats.Before below = below
at_due ats.Among below = below
at_due ats.Alone below = 0

abbrev pub side_due : Side → ℕ → ℕ → ℕ → ℕ
side_due sides.Left left right all_right = left + all_right
side_due sides.Right left right all_right = right

abbrev pub hand_due : Hand → ℕ → ℕ
hand_due hands.Empty right = 0
hand_due hands.Row right = right

abbrev pub below_cost : TableAction → SourcePlan → Series Entry → ℕ
below_cost action below es = sum_over es (λ e. cost action below e.item)

abbrev pub beside_cost : TableAction → SourcePlan → ItemValue → PlanRows → ℕ
beside_cost action right x left = sum_over left (λ row. cost action right x)

abbrev pub rows_due : TableAction → Cell → ItemValue → ℕ
rows_due action (cells.Single c) x = entries_due c x
rows_due action (cells.Nested' join parent p below at) x =
    at_due at (rows_due action below (item_value parent.item)) + (entries_due parent x + below_cost action (core below) (entries_left action parent x))
rows_due action (cells.Union' p a q b side) x = side_due side (rows_due action a x) (rows_due action b x) (cost action (core b) x)
rows_due action (cells.Cross' p a q b hand) x = hand_due hand (rows_due action b x) + (rows_due action a x + beside_cost action (core b) x (rows_left action a x))

abbrev pub nested_at_due : TableAction → Nested → ℕ
nested_at_due action c = at_due c.at (rows_due action c.below.value (item_value c.parent.item))

abbrev pub nested_due : TableAction → Nested → ItemValue → ℕ
nested_due action c x = nested_at_due action c + (entries_due c.parent x + below_cost action (core c.below.value) (entries_left action c.parent x))

abbrev pub union_due : TableAction → Union → ItemValue → ℕ
union_due action c x = side_due c.side (rows_due action c.left.value x) (rows_due action c.right.value x) (cost action (core c.right.value) x)

abbrev pub cross_hand_due : TableAction → Cross → ItemValue → ℕ
cross_hand_due action c x = hand_due c.hand (rows_due action c.right.value x)

abbrev pub cross_due : TableAction → Cross → ItemValue → ℕ
cross_due action c x = cross_hand_due action c x + (rows_due action c.left.value x + beside_cost action (core c.right.value) x (rows_left action c.left.value x))

-- ---- a table cursor, by what it answered last

-- behind the end the end alone is left
abbrev pub answered_left : Option RowPull → PlanRows → PlanRows
answered_left None cell = cell
answered_left (Some pulls.Row) cell = cell
answered_left (Some pulls.End) cell = done
answered_left (Some (pulls.Raised s)) cell = raises s

-- there is a row where one was just given
abbrev pub answered_row : Option RowPull → Row → Row
answered_row None cell = []
answered_row (Some pulls.Row) cell = cell
answered_row (Some pulls.End) cell = []
answered_row (Some (pulls.Raised s)) cell = []

-- behind the end nothing is due
abbrev pub answered_due : Option RowPull → ℕ → ℕ
answered_due None cell = cell
answered_due (Some pulls.Row) cell = cell
answered_due (Some pulls.End) cell = 0
answered_due (Some (pulls.Raised s)) cell = 0
