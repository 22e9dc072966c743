-- How the aggregates of a SELECT list are held, and what they have taken.
use Rattle.std.specs.Prelude.{◌≡◌, List, Option, Some, None, Result, Ok, Err, ⊤, All as Each}
use Rattle.sj_base.specs.declared.state.State.{State}
use Rattle.sj_value.specs.declared.value.SqlValue.{SqlValue}
use Rattle.sj_func.specs.declared.context.Outcome.{Outcome}
use Rattle.sj_func.specs.declared.context.Outcome.TheVariants.{Raised}
use Rattle.sj_build.specs.SoFar.{StandsForValues, StandsForFields}
use Rattle.sj_build.specs.declared.field.Field.{Field}
use Rattle.sj_build.specs.declared.refusal.BuildRefusal.{BuildRefusal}
use Rattle.sj_build.specs.declared.refusal.BuildRefusal.TheVariants as refusal
use Rattle.sj_bound.specs.Bound as b
use Rattle.sj_bound.specs.View.{value_of}
use Rattle.sj_select_list.specs.Aggregates.{Aggregate, array_of, object_of, values_over, members_over}
use Rattle.sj_select_list.specs.Line.{Line}
use Rattle.sj_select_list.specs.Operations.{steps_of, steps_to}
use Rattle.sj_select_list.specs.Performing.{CanBeGiven}
use Rattle.sj_select_list.specs.declared.aggregate.Aggregate.{Aggregate as AggregateHeld}
use Rattle.sj_select_list.specs.declared.aggregate.Aggregate.TheVariants as held
use Rattle.sj_select_list.specs.declared.aggregate.ArrayCall.{ArrayCall}
use Rattle.sj_select_list.specs.declared.aggregate.ObjectCall.{ObjectCall}
use Rattle.sj_select_list.specs.declared.finder.Finder.{Finder}
use Rattle.sj_select_list.specs.declared.finder.Lent.{Lent}
use Rattle.sj_select_list.specs.declared.finder.Lent.TheVariants as lent

-- the operations find the value, and their clauses can be given
pub record IsFinder (f : Finder) : Type 0 where
  pub finds : steps_of f.operations.items ≡ steps_to (value_of f.value.now)
  pub given : Each CanBeGiven (steps_of f.operations.items)

-- the value that was found, wherever it stands
abbrev pub lent_value : Lent → SqlValue
lent_value (lent.Column v) = v.now
lent_value (lent.Made v) = v

-- a refusal with a state is for the state that is raised; being out of memory has no cause
abbrev pub Raises : Outcome → BuildRefusal → Type 0
Raises outcome (refusal.State s) = outcome ≡ Raised s
Raises outcome refusal.Memory = ⊤

-- the clauses of what an aggregate takes can be given
abbrev pub CanTake : b.Item → Type 0
CanTake (b.Single x) = Unit {0}
CanTake (b.ArrayAgg x _) = Each CanBeGiven (steps_to x)
CanTake (b.ObjectAgg key x _ unique) = Each CanBeGiven (steps_to key) × Each CanBeGiven (steps_to x)

-- ---- which aggregates they are

abbrev pub array_call : ArrayCall → Aggregate
array_call c = array_of (value_of c.value.value.now) c.nulls

abbrev pub object_call : ObjectCall → Aggregate
object_call c = object_of (value_of c.key.value.now) (value_of c.value.value.now) c.nulls c.unique

abbrev pub aggregate_of : AggregateHeld → Aggregate
aggregate_of (held.Array c) = array_call c
aggregate_of (held.Object c) = object_call c

pub record IsArrayReady (c : ArrayCall) : Type 0 where
  pub value : IsFinder c.value
  pub nulls : c.array.nulls ≡ c.nulls

pub record IsObjectReady (c : ObjectCall) : Type 0 where
  pub key : IsFinder c.key
  pub value : IsFinder c.value
  pub nulls : c.object.nulls ≡ c.nulls
  pub unique : c.object.unique ≡ c.unique

abbrev pub IsReady : AggregateHeld → Type 0
IsReady (held.Array c) = IsArrayReady c
IsReady (held.Object c) = IsObjectReady c

-- ---- what they have taken: the values, or the members, of these rows

pub record HasTakenValues (line : Line) (rows : List (List SqlValue)) (c : ArrayCall) : Type 0 where
  pub values : List SqlValue
  pub given : values_over line (value_of c.value.value.now) rows ≡ Ok values
  pub stands : StandsForValues values c.array

pub record HasTakenMembers (line : Line) (rows : List (List SqlValue)) (c : ObjectCall) : Type 0 where
  pub fields : List Field
  pub given : members_over line (value_of c.key.value.now) (value_of c.value.value.now) rows ≡ Ok fields
  pub stands : StandsForFields fields c.object

abbrev pub HasTaken : Line → List (List SqlValue) → AggregateHeld → Type 0
HasTaken line rows (held.Array c) = HasTakenValues line rows c
HasTaken line rows (held.Object c) = HasTakenMembers line rows c

-- ---- taking one row more

-- all aggregates have taken it, or the list of all over all rows with it raises this state
abbrev pub AllTake : Result (List SqlValue) State → Type 0 → Option State → Type 0
AllTake over taken None = taken
AllTake over taken (Some s) = over ≡ Err s
