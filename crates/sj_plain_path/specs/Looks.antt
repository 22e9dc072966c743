-- What is found of a trace that is gone through until enough was found. Private clauses of crates above alone cite this; sj_cursor
-- proves that it is what a single item and whether there is one are.
use Rattle.std.specs.Prelude.{◌≡◌, ◌≤◌, ℕ, suc, Bool, true, false, if◌then◌else◌, Option, Some, None}
use Rattle.sj_base.specs.Count.{raised}
use Rattle.sj_base.specs.declared.state.State.{State}
use Rattle.sj_doc.specs.Listed.{node_id, node_tree}
use Rattle.sj_path_tree.specs.declared.parts.Mode.{Mode}
use Rattle.sj_path_tree.specs.declared.parts.Mode.TheVariants.{Lax, Strict}
use Rattle.sj_item.specs.Items.{ItemValue, item_value, node}
use Rattle.sj_item.specs.Truths.{truth_of}
use Rattle.sj_item.specs.declared.truth.Truth.{Truth}
use Rattle.sj_item.specs.declared.truth.Truth.TheVariants.{Unknown}
use Rattle.sj_step.specs.Trace.{Trace, stop, fail, visit, give}
use Rattle.sj_plain_path.specs.declared.look.Limit.{Limit}
use Rattle.sj_plain_path.specs.declared.look.Limit.TheVariants as limits
use Rattle.sj_plain_path.specs.declared.look.Found.{Found as FoundHeld}
use Rattle.sj_plain_path.specs.declared.look.Found.TheVariants as founds
use Rattle.sj_plain_path.specs.declared.look.FoundNodes.{FoundNodes}
use Rattle.sj_plain_path.specs.declared.look.FoundNodes.TheVariants as nodes
use Rattle.sj_plain_path.specs.declared.look.Look.{Look as LookHeld}

-- no item, one, or several
pub data Found : Type 0 where
  none_found : Found
  one_found : ItemValue → Found
  several_found : Found

-- the items found, and the fault that was met
pub record Look : Type 0 where
  pub found : Found
  pub fault : Option State

abbrev pub found_value : FoundHeld → Found
found_value founds.Nothing = none_found
found_value (founds.One x) = one_found (item_value x)
found_value founds.Several = several_found

abbrev pub nodes_value : FoundNodes → Found
nodes_value nodes.Nothing = none_found
nodes_value (nodes.One n) = one_found (node (node_id n) (node_tree n))
nodes_value nodes.Several = several_found

abbrev pub look_value : LookHeld → Look
look_value l = record { found = found_value l.found; fault = l.fault }

-- nodes alone, without a fault
abbrev pub nodes_look : FoundNodes → Look
nodes_look n = record { found = nodes_value n; fault = None }

-- one more item
abbrev pub more : Found → ItemValue → Found
more none_found x = one_found x
more (one_found y) x = several_found
more several_found x = several_found

-- nothing further is to be found
abbrev pub is_enough : Limit → Found → Bool
is_enough limits.First none_found = false
is_enough limits.First (one_found x) = true
is_enough limits.First several_found = true
is_enough limits.Second none_found = false
is_enough limits.Second (one_found x) = false
is_enough limits.Second several_found = true
is_enough limits.End f = false

-- what is found of a trace, behind what was found before
abbrev pub looked : Limit → Found → Trace → Look
looked limit f stop = record { found = f; fault = None }
looked limit f (fail s) = record { found = f; fault = Some s }
looked limit f (visit t) = looked limit f t
looked limit f (give x t) = if is_enough limit (more f x) then record { found = more f x; fault = None } else looked limit (more f x) t

-- the visits that this takes
abbrev pub look_cost : Limit → Found → Trace → ℕ
look_cost limit f stop = 0
look_cost limit f (fail s) = 0
look_cost limit f (visit t) = suc (look_cost limit f t)
look_cost limit f (give x t) = if is_enough limit (more f x) then 0 else look_cost limit (more f x) t

-- this is found of the whole trace
pub record Finds (limit : Limit) (t : Trace) (look : Look) (steps later : ℕ) : Type 0 where
  pub finds : look ≡ looked limit none_found t
  pub costs : later ≤ raised steps (look_cost limit none_found t)

-- ---- what it is good for

abbrev pub limit_of_exists : Mode → Limit
limit_of_exists Lax = limits.First
limit_of_exists Strict = limits.End

abbrev pub limit_of_single : Mode → Limit
limit_of_single Lax = limits.Second
limit_of_single Strict = limits.End

abbrev pub is_found : Found → Bool
is_found none_found = false
is_found (one_found x) = true
is_found several_found = true

abbrev pub truth_unless : Option State → Bool → Truth
truth_unless None b = truth_of b
truth_unless (Some s) b = Unknown

abbrev pub exists_in : Look → Truth
exists_in l = truth_unless l.fault (is_found l.found)
