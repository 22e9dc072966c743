-- WHAT A VALUE OF A SELECT LIST IS for a line, and the steps that finding it may take (ISO/IEC 9075-2, SQL/JSON functions).
use Rattle.std.specs.Prelude.{ℕ, ◌+◌, Bool as Logical, false, not, ◌&&◌, ◌||◌, List, [], ◌∷◌, get_or, Option, Some, None, Result, Ok, Err, if◌then◌else◌}
use Rattle.sj_base.specs.declared.state.State.{State}
use Rattle.sj_path_tree.specs.declared.parts.Literal.{Literal}
use Rattle.sj_path_tree.specs.declared.parts.Literal.TheVariants as literal
use Rattle.sj_json.specs.Tree.{Tree}
use Rattle.sj_doc.specs.Kinds.{kind_of}
use Rattle.sj_item.specs.Items.{ItemValue}
use Rattle.sj_step.specs.Trace.{Trace}
use Rattle.sj_cursor.specs.Meaning.{path_trace}
use Rattle.sj_sql_grammar.specs.declared.clauses.IsJsonCall.{IsJsonCall}
use Rattle.sj_value.specs.declared.clauses.Nulls.{Nulls}
use Rattle.sj_value.specs.declared.value.SqlValue.{SqlValue}
use Rattle.sj_value.specs.declared.value.SqlValue.TheVariants.{Null, Text, Num, Bool}
use Rattle.sj_func.specs.Functions.{exists_outcome, exists_cost, value_outcome, value_cost, query_outcome, query_cost}
use Rattle.sj_func.specs.Json.{is_of}
use Rattle.sj_func.specs.declared.context.Outcome.{Outcome}
use Rattle.sj_func.specs.declared.context.Outcome.TheVariants.{Value, Raised}
use Rattle.sj_build.specs.Constructors.{array_value, object_value}
use Rattle.sj_build.specs.declared.field.Field.{Field}
use Rattle.sj_bound.specs.Bound as b
use Rattle.sj_bound.specs.Bound.{PathWith}
use Rattle.sj_json.specs.UniqueKeys.{has_unique_keys}
use Rattle.sj_select_list.specs.Line.{Line, context, tree_of}

-- a literal as a value; a number prints its plain text
abbrev pub literal_value : Literal → SqlValue
literal_value (literal.Text s) = Text s
literal_value (literal.Num d) = Num d 0
literal_value (literal.Bool x) = Bool x
literal_value literal.Null = Null

-- the trace of a path with its variables on an item
abbrev pub trace_of : PathWith → ItemValue → Trace
trace_of x = path_trace x.path x.vars

-- IS JSON
abbrev pub is_json_as : IsJsonCall → Option Tree → Logical
is_json_as call None = false
is_json_as call (Some t) = is_of call.kind (kind_of t) && (not call.unique || has_unique_keys t)

abbrev pub is_json : IsJsonCall → Option Tree → Logical
is_json call tree = if call.negated then not (is_json_as call tree) else is_json_as call tree

-- ---- values that are not asked of a path

abbrev pub literal_outcome : Literal → Outcome
literal_outcome x = Value (literal_value x)

abbrev pub column_outcome : List SqlValue → ℕ → Outcome
column_outcome columns n = Value (get_or columns n Null)

abbrev pub is_json_outcome : IsJsonCall → Option Tree → Outcome
is_json_outcome call tree = Value (Bool (is_json call tree))

-- ---- values in a row: the first that raises a state ends them

abbrev pub value_before : Outcome → Result (List SqlValue) State → Result (List SqlValue) State
value_before (Raised s) others = Err s
value_before (Value v) (Err s) = Err s
value_before (Value v) (Ok vs) = Ok (v ∷ vs)

abbrev pub member_before : Outcome → Outcome → Result (List Field) State → Result (List Field) State
member_before (Raised s) value others = Err s
member_before (Value key) (Raised s) others = Err s
member_before (Value key) (Value v) (Err s) = Err s
member_before (Value key) (Value v) (Ok fields) = Ok (record { key = key; value = v } ∷ fields)

-- ---- constructors, once all that they are made of is there

abbrev pub outcome_of : Result SqlValue State → Outcome
outcome_of (Ok v) = Value v
outcome_of (Err s) = Raised s

abbrev pub array_outcome : Nulls → Result (List SqlValue) State → Outcome
array_outcome on_null (Ok vs) = Value (array_value on_null vs)
array_outcome _ (Err s) = Raised s

abbrev pub object_outcome : Nulls → Logical → Result (List Field) State → Outcome
object_outcome on_null unique (Ok fields) = outcome_of (object_value on_null unique fields)
object_outcome _ unique (Err s) = Raised s

-- what is asked behind a value: nothing, where it raises a state
abbrev pub unless_raised : Outcome → ℕ → ℕ
unless_raised (Value v) cost = cost
unless_raised (Raised s) cost = 0

-- ---- outcomes in a row

-- the values of a list from left to right, or the first state
abbrev pub each_value : {A : Type 0} → (A → Outcome) → List A → Result (List SqlValue) State
each_value outcome [] = Ok []
each_value outcome (x ∷ xs) = value_before (outcome x) (each_value outcome xs)

-- the steps that finding them may take, up to and with the first that raises
abbrev pub each_cost : {A : Type 0} → (A → Outcome) → (A → ℕ) → List A → ℕ
each_cost outcome cost [] = 0
each_cost outcome cost (x ∷ xs) = cost x + unless_raised (outcome x) (each_cost outcome cost xs)

-- the values among the items of a SELECT list
abbrev pub values_in : List b.Item → List b.Value
values_in [] = []
values_in (b.Single x ∷ items) = x ∷ values_in items
values_in (b.ArrayAgg x _ ∷ items) = values_in items
values_in (b.ObjectAgg key x _ unique ∷ items) = values_in items

module _ (line : Line) (columns : List SqlValue) where
  -- THE VALUE, or the state that is raised in its place. What a constructor is made of is found first, from left to right.
  abbrev mutual
    pub given : b.Value → Outcome
    given (b.Lit x) = literal_outcome x
    given (b.Column n) = column_outcome columns n
    given (b.Exists x on_error) = exists_outcome on_error x.path.mode (context line) (trace_of x)
    given (b.ValueOf x clauses) = value_outcome clauses x.path.mode (context line) (trace_of x)
    given (b.Query x clauses) = query_outcome clauses x.path.mode (context line) (trace_of x)
    given (b.IsJson call) = is_json_outcome call (tree_of line)
    given (b.Object members on_null unique) = object_outcome on_null unique (given_members members)
    given (b.Array values on_null) = array_outcome on_null (given_values values)

    pub given_values : b.Values → Result (List SqlValue) State
    given_values b.NoValues = Ok []
    given_values (b.MoreValues x others) = value_before (given x) (given_values others)

    pub given_members : b.Members → Result (List Field) State
    given_members b.NoMembers = Ok []
    given_members (b.MoreMembers key x others) = member_before (given key) (given x) (given_members others)

  -- THE COST: the steps of each function, up to the first that raises
  abbrev mutual
    pub cost : b.Value → ℕ
    cost (b.Lit x) = 0
    cost (b.Column n) = 0
    cost (b.Exists x _) = exists_cost x.path.mode (context line) (trace_of x)
    cost (b.ValueOf x clauses) = value_cost x.path.mode (context line) (trace_of x)
    cost (b.Query x clauses) = query_cost clauses.wrapper x.path.mode (context line) (trace_of x)
    cost (b.IsJson call) = 0
    cost (b.Object members _ unique) = members_cost members
    cost (b.Array values _) = values_cost values

    pub values_cost : b.Values → ℕ
    values_cost b.NoValues = 0
    values_cost (b.MoreValues x others) = cost x + unless_raised (given x) (values_cost others)

    pub members_cost : b.Members → ℕ
    members_cost b.NoMembers = 0
    members_cost (b.MoreMembers key x others) = cost key + unless_raised (given key) (cost x + unless_raised (given x) (members_cost others))

  -- the values of a SELECT list
  abbrev pub given_list : List b.Value → Result (List SqlValue) State
  given_list xs = each_value given xs

  abbrev pub list_cost : List b.Value → ℕ
  list_cost xs = each_cost given cost xs
