-- What is appended for a SELECT list: the fields of its values.
use Rattle.std.specs.Prelude.{◌≡◌, ℕ, List, [], ◌++◌, Bool, true, false, Option, Some, None, Result, Ok, Err}
use Rattle.std.specs.List.{flat_map}
use Rattle.sj_base.specs.declared.memory.Memory.{Memory}
use Rattle.sj_base.specs.declared.state.State.{State}
use Rattle.sj_value.specs.declared.value.SqlValue.{SqlValue}
use Rattle.sj_value.specs.declared.value.SqlValue.TheVariants.{Null}
use Rattle.sj_rows.specs.RowText.{tabbed, Extends}
use Rattle.sj_func.specs.Functions.{exists_outcome, value_outcome, query_outcome}
use Rattle.sj_func.specs.declared.context.Outcome.{Outcome}
use Rattle.sj_func.specs.declared.context.Outcome.TheVariants.{Value}
use Rattle.sj_select_list.specs.Line.{Line, context, tree_of}
use Rattle.sj_select_list.specs.Operations.{OperationStep, literal, column, exists, value, query, is_json, member, object, array}
use Rattle.sj_select_list.specs.Performing.{StackView}
use Rattle.sj_select_list.specs.Values.{literal_outcome, column_outcome, is_json_outcome, trace_of}

-- these are the values, and a TAB and a field was appended for each
pub record HasFields (end : Result (List SqlValue) State) (old new : List ℕ) : Type 0 where
  pub values : List SqlValue
  pub is : end ≡ Ok values
  pub grown : new ≡ old ++ flat_map tabbed values

-- the fields of all values were appended, or one of them raises a state
abbrev pub AppendsList : Result (List SqlValue) State → Result (Option State) Memory → List ℕ → List ℕ → Type 0
AppendsList end (Ok None) old new = HasFields end old new
AppendsList end (Ok (Some s)) old new = (end ≡ Err s) × Extends old new
AppendsList end (Err m) old new = Extends old new

-- ---- operations that find one value of the list each. Private clauses alone cite the following

abbrev pub finds_value : OperationStep → Bool
finds_value (literal x) = true
finds_value (column n) = true
finds_value (exists x _) = true
finds_value (value x clauses) = true
finds_value (query x clauses) = true
finds_value (is_json call) = true
finds_value member = false
finds_value (object n _ unique) = false
finds_value (array n _) = false

abbrev pub FindsValue : OperationStep → Type 0
FindsValue step = finds_value step ≡ true

-- what such an operation finds
module _ (line : Line) (columns : List SqlValue) where
  abbrev pub found_by : OperationStep → Outcome
  found_by (literal x) = literal_outcome x
  found_by (column n) = column_outcome columns n
  found_by (exists x on_error) = exists_outcome on_error x.path.mode (context line) (trace_of x)
  found_by (value x clauses) = value_outcome clauses x.path.mode (context line) (trace_of x)
  found_by (query x clauses) = query_outcome clauses x.path.mode (context line) (trace_of x)
  found_by (is_json call) = is_json_outcome call (tree_of line)
  found_by member = Value Null
  found_by (object n _ unique) = Value Null
  found_by (array n _) = Value Null

-- these values alone are held
abbrev pub only : List SqlValue → StackView
only values = record { values = values; members = [] }

-- these values were held at the end, and a TAB and a field was appended for each
pub record HoldsFields (end : Result StackView State) (old new : List ℕ) : Type 0 where
  pub values : List SqlValue
  pub is : end ≡ Ok (only values)
  pub grown : new ≡ old ++ flat_map tabbed values

abbrev pub AppendsSteps : Result StackView State → Result (Option State) Memory → List ℕ → List ℕ → Type 0
AppendsSteps end (Ok None) old new = HoldsFields end old new
AppendsSteps end (Ok (Some s)) old new = (end ≡ Err s) × Extends old new
AppendsSteps end (Err m) old new = Extends old new
