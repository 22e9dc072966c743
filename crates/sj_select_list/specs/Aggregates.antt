-- WHAT THE AGGREGATES OF A SELECT LIST GIVE, over a whole list of rows of a table (ISO/IEC 9075-2, JSON aggregate functions).
use Rattle.std.specs.Prelude.{ℕ, ◌+◌, Bool as Logical, List, [], ◌∷◌, Result, Ok, Err}
use Rattle.sj_base.specs.declared.state.State.{State}
use Rattle.sj_value.specs.declared.clauses.Nulls.{Nulls}
use Rattle.sj_value.specs.declared.value.SqlValue.{SqlValue}
use Rattle.sj_func.specs.declared.context.Outcome.{Outcome}
use Rattle.sj_func.specs.declared.context.Outcome.TheVariants.{Value, Raised}
use Rattle.sj_build.specs.Constructors.{array_aggregate, object_aggregate}
use Rattle.sj_build.specs.declared.field.Field.{Field}
use Rattle.sj_bound.specs.Bound as b
use Rattle.sj_select_list.specs.Line.{Line}
use Rattle.sj_select_list.specs.Values.{given, cost, outcome_of, each_value, each_cost, member_before, unless_raised}

pub data Aggregate : Type 0 where
  -- JSON_ARRAYAGG of a value
  array_of : b.Value → Nulls → Aggregate
  -- JSON_OBJECTAGG of a key and a value; the truth value is that of WITH UNIQUE KEYS
  object_of : (key value : b.Value) → Nulls → Logical → Aggregate

-- those of a SELECT list
abbrev pub aggregates_in : List b.Item → List Aggregate
aggregates_in [] = []
aggregates_in (b.Single x ∷ items) = aggregates_in items
aggregates_in (b.ArrayAgg x on_null ∷ items) = array_of x on_null ∷ aggregates_in items
aggregates_in (b.ObjectAgg key x on_null unique ∷ items) = object_of key x on_null unique ∷ aggregates_in items

abbrev pub array_over : Nulls → Result (List SqlValue) State → Outcome
array_over on_null (Ok values) = Value (array_aggregate on_null values)
array_over _ (Err s) = Raised s

abbrev pub object_over : Nulls → Logical → Result (List Field) State → Outcome
object_over on_null unique (Ok fields) = outcome_of (object_aggregate on_null unique fields)
object_over _ unique (Err s) = Raised s

module _ (line : Line) where
  -- a value in each of the rows, by their columns
  abbrev pub values_over : b.Value → List (List SqlValue) → Result (List SqlValue) State
  values_over x rows = each_value (λ columns. given line columns x) rows

  -- a key and a value in each of the rows
  abbrev pub members_over : (key value : b.Value) → List (List SqlValue) → Result (List Field) State
  members_over key x [] = Ok []
  members_over key x (columns ∷ rows) = member_before (given line columns key) (given line columns x) (members_over key x rows)

  -- THE AGGREGATE over these rows
  abbrev pub aggregate : List (List SqlValue) → Aggregate → Outcome
  aggregate rows (array_of x on_null) = array_over on_null (values_over x rows)
  aggregate rows (object_of key x on_null unique) = object_over on_null unique (members_over key x rows)

  -- the steps that what it takes of one row may take
  abbrev pub input_cost : List SqlValue → Aggregate → ℕ
  input_cost columns (array_of x _) = cost line columns x
  input_cost columns (object_of key x _ unique) = cost line columns key + unless_raised (given line columns key) (cost line columns x)

  -- all aggregates of a list, or the first state
  abbrev pub aggregates : List Aggregate → List (List SqlValue) → Result (List SqlValue) State
  aggregates list rows = each_value (aggregate rows) list

  -- of the last of the rows
  abbrev pub inputs_cost : List Aggregate → List (List SqlValue) → List SqlValue → ℕ
  inputs_cost list rows columns = each_cost (aggregate rows) (input_cost columns) list
