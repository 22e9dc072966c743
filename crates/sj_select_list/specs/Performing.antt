-- What operations do, one behind the other.
use Rattle.std.specs.Prelude.{◌≡◌, ℕ, ◌+◌, ◌-◌, List, [], ◌∷◌, ◌++◌, length, take, drop, Option, Some, None, Result, Ok, Err}
use Rattle.sj_base.specs.declared.state.State.{State}
use Rattle.sj_value.specs.declared.value.SqlValue.{SqlValue}
use Rattle.sj_value.specs.Clauses.{IsValueSpec}
use Rattle.sj_func.specs.Functions.{exists_outcome, exists_cost, value_outcome, value_cost, query_outcome, query_cost}
use Rattle.sj_func.specs.declared.context.Outcome.{Outcome}
use Rattle.sj_func.specs.declared.context.Outcome.TheVariants.{Value, Raised}
use Rattle.sj_build.specs.Constructors.{array_value, object_value}
use Rattle.sj_build.specs.declared.field.Field.{Field}
use Rattle.sj_select_list.specs.Line.{Line, context, tree_of}
use Rattle.sj_select_list.specs.Operations.{OperationStep, literal, column, exists, value, query, is_json, member, object, array}
use Rattle.sj_select_list.specs.Values.{literal_outcome, column_outcome, is_json_outcome, trace_of, outcome_of}
use Rattle.sj_select_list.specs.declared.stack.Stack.{Stack}

-- the values and the members that were found and are no part of another value yet, the last one at the end
pub record StackView : Type 0 where
  pub values : List SqlValue
  pub members : List Field

abbrev pub held : Stack → StackView
held p = record { values = p.values.items; members = p.members.items }

-- the last n of a list, and those before them
abbrev pub last_of : {X : Type 0} → ℕ → List X → List X
last_of n xs = drop (length xs - n) xs

abbrev pub before_last : {X : Type 0} → ℕ → List X → List X
before_last n xs = take (length xs - n) xs

-- the value of an outcome at the end, or its state
abbrev pub put : Outcome → StackView → Result StackView State
put (Value v) h = Ok (record { values = h.values ++ v ∷ []; members = h.members })
put (Raised s) h = Err s

-- the member of a key and a value
abbrev pub member_of : List SqlValue → List Field
member_of [] = []
member_of (key ∷ []) = []
member_of (key ∷ v ∷ others) = record { key = key; value = v } ∷ []

-- the last two values become the last member
abbrev pub paired : StackView → StackView
paired h = record { values = before_last 2 h.values; members = h.members ++ member_of (last_of 2 h.values) }

abbrev pub without_values : ℕ → StackView → StackView
without_values n h = record { values = before_last n h.values; members = h.members }

abbrev pub without_members : ℕ → StackView → StackView
without_members n h = record { values = h.values; members = before_last n h.members }

-- how steps end, and the steps of the counter that they may take
pub record Performance : Type 0 where
  pub end : Result StackView State
  pub cost : ℕ

abbrev pub after : ℕ → Performance → Performance
after n p = record { end = p.end; cost = n + p.cost }

abbrev pub stopped : State → Performance
stopped s = record { end = Err s; cost = 0 }

-- what comes behind a step, where it raised no state
abbrev pub going_on : Result StackView State → (StackView → Performance) → Performance
going_on (Ok h) more = more h
going_on (Err s) more = stopped s

module _ (line : Line) (columns : List SqlValue) where
  -- what one step does
  abbrev pub done : OperationStep → StackView → Result StackView State
  done (literal x) h = put (literal_outcome x) h
  done (column n) h = put (column_outcome columns n) h
  done (exists x on_error) h = put (exists_outcome on_error x.path.mode (context line) (trace_of x)) h
  done (value x clauses) h = put (value_outcome clauses x.path.mode (context line) (trace_of x)) h
  done (query x clauses) h = put (query_outcome clauses x.path.mode (context line) (trace_of x)) h
  done (is_json call) h = put (is_json_outcome call (tree_of line)) h
  done member h = Ok (paired h)
  done (object n on_null unique) h = put (outcome_of (object_value on_null unique (last_of n h.members))) (without_members n h)
  done (array n on_null) h = put (Value (array_value on_null (last_of n h.values))) (without_values n h)

  abbrev pub step_cost : OperationStep → ℕ
  step_cost (literal x) = 0
  step_cost (column n) = 0
  step_cost (exists x _) = exists_cost x.path.mode (context line) (trace_of x)
  step_cost (value x clauses) = value_cost x.path.mode (context line) (trace_of x)
  step_cost (query x clauses) = query_cost clauses.wrapper x.path.mode (context line) (trace_of x)
  step_cost (is_json call) = 0
  step_cost member = 0
  step_cost (object n _ unique) = 0
  step_cost (array n _) = 0

  -- steps up to the first that raises a state
  abbrev pub performed : List OperationStep → StackView → Performance
  performed [] h = record { end = Ok h; cost = 0 }
  performed (step ∷ steps) h = after (step_cost step) (going_on (done step h) (performed steps))

-- no state was raised and this is held, or this state was raised
abbrev pub EndsIn : Result StackView State → Option State → StackView → Type 0
EndsIn end None h = end ≡ Ok h
EndsIn end (Some s) h = end ≡ Err s

-- the clauses of a step can be given
abbrev pub CanBeGiven : OperationStep → Type 0
CanBeGiven (literal x) = Unit {0}
CanBeGiven (column n) = Unit {0}
CanBeGiven (exists x _) = Unit {0}
CanBeGiven (value x clauses) = IsValueSpec clauses
CanBeGiven (query x clauses) = Unit {0}
CanBeGiven (is_json call) = Unit {0}
CanBeGiven member = Unit {0}
CanBeGiven (object n _ unique) = Unit {0}
CanBeGiven (array n _) = Unit {0}
