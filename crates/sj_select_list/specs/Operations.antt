-- The operations by which the values of a SELECT list are found, one behind the other: those that a value is made of stand before it.
use Rattle.std.specs.Prelude.{ℕ, ◌+◌, Bool as Logical, List, [], ◌∷◌, ◌++◌, map}
use Rattle.sj_path_tree.specs.declared.parts.Literal.{Literal}
use Rattle.sj_path_tree.specs.View.{path_of}
use Rattle.sj_cursor.specs.Sequel.{Sequel, Inquired}
use Rattle.sj_sql_grammar.specs.declared.clauses.IsJsonCall.{IsJsonCall}
use Rattle.sj_value.specs.declared.clauses.ExistsAction.{ExistsAction}
use Rattle.sj_value.specs.declared.clauses.Nulls.{Nulls}
use Rattle.sj_value.specs.declared.clauses.QuerySpec.{QuerySpec}
use Rattle.sj_value.specs.declared.clauses.ValueSpec.{ValueSpec}
use Rattle.sj_bound.specs.Bound as b
use Rattle.sj_bound.specs.Bound.{PathWith}
use Rattle.sj_select_list.specs.declared.operation.ExistsCall.{ExistsCall}
use Rattle.sj_select_list.specs.declared.operation.Operation.{Operation}
use Rattle.sj_select_list.specs.declared.operation.Operation.TheVariants as o
use Rattle.sj_select_list.specs.declared.operation.QueryCall.{QueryCall}
use Rattle.sj_select_list.specs.declared.operation.ValueCall.{ValueCall}

-- an operation, with the path that it asks or goes along
pub data OperationStep : Type 0 where
  literal : Literal → OperationStep
  column : ℕ → OperationStep
  exists : PathWith → ExistsAction → OperationStep
  value : PathWith → ValueSpec → OperationStep
  query : PathWith → QuerySpec → OperationStep
  is_json : IsJsonCall → OperationStep
  -- a key and a value become a member
  member : OperationStep
  -- so many members become an object, and so many values an array
  object : ℕ → Nulls → Logical → OperationStep
  array : ℕ → Nulls → OperationStep

abbrev pub path_with : Sequel → PathWith
path_with c = record { path = path_of c.path; vars = c.vars }

abbrev pub asked_path : Inquired → PathWith
asked_path q = record { path = path_of q.path; vars = q.vars }

abbrev pub exists_step : ExistsCall → OperationStep
exists_step call = exists (asked_path call.inquiry) call.on_error

abbrev pub value_step : ValueCall → OperationStep
value_step call = value (asked_path call.inquiry) call.clauses.now

abbrev pub query_step : QueryCall → OperationStep
query_step call = query (path_with call.cursor.value) call.clauses

abbrev pub step_of : Operation → OperationStep
step_of (o.Literal x) = literal x.now
step_of (o.Column n) = column n
step_of (o.Exists call) = exists_step call
step_of (o.Value call) = value_step call
step_of (o.Query call) = query_step call
step_of (o.IsJson call) = is_json call
step_of o.Member = member
step_of (o.Object count on_null unique) = object count on_null unique
step_of (o.Array count on_null) = array count on_null

abbrev pub steps_of : List Operation → List OperationStep
steps_of operations = map step_of operations

abbrev pub value_count : b.Values → ℕ
value_count b.NoValues = 0
value_count (b.MoreValues x others) = value_count others + 1

abbrev pub member_count : b.Members → ℕ
member_count b.NoMembers = 0
member_count (b.MoreMembers key x others) = member_count others + 1

-- the operations that find a value
abbrev mutual
  pub steps_to : b.Value → List OperationStep
  steps_to (b.Lit x) = literal x ∷ []
  steps_to (b.Column n) = column n ∷ []
  steps_to (b.Exists x on_error) = exists x on_error ∷ []
  steps_to (b.ValueOf x clauses) = value x clauses ∷ []
  steps_to (b.Query x clauses) = query x clauses ∷ []
  steps_to (b.IsJson call) = is_json call ∷ []
  steps_to (b.Object members on_null unique) = steps_to_members members ++ object (member_count members) on_null unique ∷ []
  steps_to (b.Array values on_null) = steps_to_values values ++ array (value_count values) on_null ∷ []

  pub steps_to_values : b.Values → List OperationStep
  steps_to_values b.NoValues = []
  steps_to_values (b.MoreValues x others) = steps_to x ++ steps_to_values others

  pub steps_to_members : b.Members → List OperationStep
  steps_to_members b.NoMembers = []
  steps_to_members (b.MoreMembers key x others) = steps_to key ++ (steps_to x ++ (member ∷ steps_to_members others))

-- those that find the values of a list
abbrev pub steps_to_all : List b.Value → List OperationStep
steps_to_all [] = []
steps_to_all (x ∷ xs) = steps_to x ++ steps_to_all xs
