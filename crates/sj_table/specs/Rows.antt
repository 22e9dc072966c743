-- THE ROWS OF A PLAN, on the item under which it is evaluated, as whole lists (ISO/IEC 9075-2, JSON table), and what giving them may
-- take.
use Rattle.std.specs.Prelude.{ℕ, ◌+◌, ◌-◌, ◌*◌, ◌==◌, List, [], ◌∷◌, ◌++◌, slice_get, Option, Some, None, if◌then◌else◌}
use Rattle.std.specs.Io.Iter.{u64_saturate}
use Rattle.sj_base.specs.declared.state.State.{State}
use Rattle.sj_item.specs.Items.{ItemValue, item_value}
use Rattle.sj_item.specs.declared.item.Item.{Item}
use Rattle.sj_path_tree.specs.Tree as g
use Rattle.sj_step.specs.Trace.{Trace, stop, items, visits, fault_of}
use Rattle.sj_path_tree.specs.Vars.{Variables}
use Rattle.sj_cursor.specs.Meaning.{path_trace}
use Rattle.sj_value.specs.Plans.{PlanTree, path_rows, outer_join, inner_join, union_of, cross_of}
use Rattle.sj_value.specs.declared.clauses.TableAction.{TableAction}
use Rattle.sj_value.specs.declared.clauses.TableAction.TheVariants as actions
use Rattle.sj_table.specs.declared.join.Join.{Join}
use Rattle.sj_table.specs.declared.join.Join.TheVariants.{Outer, Inner}
use Rattle.sj_table.specs.Series.{Series, done, raises, more, chain, each, sum_over}

-- ---- rows

-- what a path has in a row: an item, and its number among the items of the path under one parent
pub record Entry : Type 0 where
  pub path : ℕ
  pub item : ItemValue
  pub ordinal : ℕ

-- a row has an entry for each path that has an item in it
abbrev pub Row : Type 0
Row = List Entry

abbrev pub PlanRows : Type 0
PlanRows = Series Row

-- the item and the ordinal of the path with this number, where it has an entry
abbrev pub entry : ℕ → Row → Option (ItemValue × ℕ)
entry path [] = None
entry path (e ∷ es) = if path == e.path then Some (e.item, e.ordinal) else entry path es

-- an item and an ordinal, without pointers
abbrev pub entry_value : Item × ℕ → ItemValue × ℕ
entry_value x = (item_value x.0, x.1)

-- a row with the entries of another behind its own, for each of the others
abbrev pub beside : Row → PlanRows → PlanRows
beside row done = done
beside row (raises s) = raises s
beside row (more other others) = more (row ++ other) (beside row others)

-- the row of one entry
abbrev pub alone : Entry → PlanRows
alone e = more (e ∷ []) done

-- ---- the entries of a path

-- an ordinal past the last one that there is is given as the last one
abbrev pub ordinal_of : ℕ → ℕ
ordinal_of n = u64_saturate n

-- items numbered from n on
abbrev pub entries_from : ℕ → ℕ → List ItemValue → Series Entry
entries_from path n [] = done
entries_from path n (x ∷ xs) = more (record { path = path; item = x; ordinal = ordinal_of n }) (entries_from path (n + 1) xs)

-- a fault anywhere leaves no entry: the list is empty, or ends at once in its state
abbrev pub unless_fault : TableAction → Option State → Series Entry → Series Entry
unless_fault action None entries = entries
unless_fault actions.Empty (Some s) entries = done
unless_fault actions.Error (Some s) entries = raises s

-- the items of a trace, numbered from 1
abbrev pub entries_of : TableAction → ℕ → Trace → Series Entry
entries_of action path t = unless_fault action (fault_of t) (entries_from path 1 (items t))

-- ---- plans

-- a path of a plan: its number, and its trace on each item
pub record Source : Type 0 where
  pub number : ℕ
  pub trace : ItemValue → Trace

-- a plan with its paths themselves in the place of their numbers
pub data SourcePlan : Type 0 where
  single : Source → SourcePlan
  nested : Join → Source → SourcePlan → SourcePlan
  union : SourcePlan → SourcePlan → SourcePlan
  cross : SourcePlan → SourcePlan → SourcePlan

-- the entries of a path under a parent item
abbrev pub entries : TableAction → Source → ItemValue → Series Entry
entries action path x = entries_of action path.number (path.trace x)

-- OUTER: where there is no row and no state, the one entry alone
abbrev pub alone_where_none : Entry → PlanRows → PlanRows
alone_where_none e done = alone e
alone_where_none e (raises s) = raises s
alone_where_none e (more row rows) = more row rows

-- an entry of a path with each of the rows below it
abbrev pub joined : Join → Entry → PlanRows → PlanRows
joined Outer e rows = alone_where_none e (beside (e ∷ []) rows)
joined Inner e rows = beside (e ∷ []) rows

-- A path has its entries, each alone. Under OUTER and INNER the plan below is evaluated on the item of each entry. Under UNION the rows
-- of the right side follow those of the left; under CROSS each row of the left side stands beside each of the right.
abbrev pub rows : TableAction → SourcePlan → ItemValue → PlanRows
rows action (single path) x = each (entries action path x) alone
rows action (nested join path below) x = each (entries action path x) (λ e. joined join e (rows action below e.item))
rows action (union a b) x = chain (rows action a x) (rows action b x)
rows action (cross a b) x = each (rows action a x) (λ row. beside row (rows action b x))

-- The visits that giving the rows may take. A path is run at most twice under a parent: whether it has a fault is known before its
-- first row is given. The plan below it is run for each of its entries, and the right side of CROSS for each row of the left.
abbrev pub cost : TableAction → SourcePlan → ItemValue → ℕ
cost action (single path) x = 2 * visits (path.trace x)
cost action (nested join path below) x = 2 * visits (path.trace x) + sum_over (entries action path x) (λ e. cost action below e.item)
cost action (union a b) x = cost action a x + cost action b x
cost action (cross a b) x = cost action a x + sum_over (rows action a x) (λ row. cost action b x)

-- ---- the plan of a table

-- the trace of a path where there is one
abbrev pub trace_on : Option g.Path → Variables → ItemValue → Trace
trace_on (Some path) vars x = path_trace path vars x
trace_on None vars x = stop

abbrev pub source_of : ℕ → Option g.Path → Variables → Source
source_of n path vars = record { number = n; trace = λ x. trace_on path vars x }

abbrev pub source : List g.Path → Variables → ℕ → Source
source paths vars n = source_of n (slice_get paths n) vars

abbrev pub sourced : List g.Path → Variables → PlanTree → SourcePlan
sourced paths vars (path_rows n) = single (source paths vars n)
sourced paths vars (outer_join n below) = nested Outer (source paths vars n) (sourced paths vars below)
sourced paths vars (inner_join n below) = nested Inner (source paths vars n) (sourced paths vars below)
sourced paths vars (union_of a b) = union (sourced paths vars a) (sourced paths vars b)
sourced paths vars (cross_of a b) = cross (sourced paths vars a) (sourced paths vars b)

-- the rows of a plan over numbered paths, on an item
unfoldable pub plan_rows : List g.Path → Variables → TableAction → PlanTree → ItemValue → PlanRows
plan_rows paths vars action plan x = rows action (sourced paths vars plan) x

-- the visits that giving them may take
unfoldable pub plan_cost : List g.Path → Variables → TableAction → PlanTree → ItemValue → ℕ
plan_cost paths vars action plan x = cost action (sourced paths vars plan) x
