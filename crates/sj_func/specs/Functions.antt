-- WHAT THE QUERY FUNCTIONS GIVE, of the trace that a path has on the context item, and the steps that they may take (ISO/IEC 9075-2,
-- SQL/JSON functions).
use Rattle.std.specs.Prelude.{ℕ, ◌+◌, Bool as Logical, true, false, List, [], ◌∷◌, codes, Option, Some, None, Result, Ok, Err, if◌then◌else◌}
use Rattle.sj_base.specs.declared.state.State.{State}
use Rattle.sj_base.specs.declared.state.State.TheVariants.{S22034, S22035}
use Rattle.sj_path_tree.specs.declared.parts.Mode.{Mode}
use Rattle.sj_json.specs.Tree.{Tree, null, truth, string, number, array, object, Items, no_items, item}
use Rattle.sj_json.specs.Printing.{printed}
use Rattle.sj_doc.specs.Kinds.{kind_of}
use Rattle.sj_doc.specs.declared.node.Kind.{Kind}
use Rattle.sj_doc.specs.declared.node.Kind.TheVariants as kinds
use Rattle.sj_item.specs.Items.{ItemValue, item_value, item_tree, nodes_below}
use Rattle.sj_path_tree.specs.View.{path_of}
use Rattle.sj_step.specs.Trace.{Trace, items, visits, fault_of}
use Rattle.sj_cursor.specs.Answers.{exists_answer}
use Rattle.sj_cursor.specs.Meaning.{path_trace}
use Rattle.sj_cursor.specs.Sequel.{Sequel, Inquired}
use Rattle.sj_cursor.specs.Single.{need, Single, bad, zero_items, one_item, single}
use Rattle.sj_value.specs.Casts.{Cast, cast_of}
use Rattle.sj_value.specs.Values.{IsPrintable}
use Rattle.sj_value.specs.declared.clauses.ExistsAction.{ExistsAction}
use Rattle.sj_value.specs.declared.clauses.ExistsAction.TheVariants as exists
use Rattle.sj_value.specs.declared.clauses.ValueAction.{ValueAction}
use Rattle.sj_value.specs.declared.clauses.ValueAction.TheVariants as values
use Rattle.sj_value.specs.declared.clauses.ValueSpec.{ValueSpec}
use Rattle.sj_value.specs.declared.clauses.QueryAction.{QueryAction}
use Rattle.sj_value.specs.declared.clauses.QueryAction.TheVariants as queries
use Rattle.sj_value.specs.declared.clauses.QuerySpec.{QuerySpec}
use Rattle.sj_value.specs.declared.clauses.Wrapper.{Wrapper}
use Rattle.sj_value.specs.declared.clauses.Wrapper.TheVariants as wrappers
use Rattle.sj_value.specs.declared.value.SqlValue.{SqlValue}
use Rattle.sj_value.specs.declared.value.SqlValue.TheVariants.{Null, Text, Bool, Json}
use Rattle.sj_func.specs.declared.context.Context.{Context}
use Rattle.sj_func.specs.declared.context.Context.TheVariants as contexts
use Rattle.sj_func.specs.declared.context.Outcome.{Outcome}
use Rattle.sj_func.specs.declared.context.Outcome.TheVariants.{Value, Raised}

-- ---- on what

-- the context item, or the error that stands in its place
pub data ContextValue : Type 0 where
  on_item : ItemValue → ContextValue
  on_bad : State → ContextValue

abbrev pub context_value : Context → ContextValue
context_value (contexts.Item x) = on_item (item_value x)
context_value (contexts.Bad s) = on_bad s

-- the trace that the path of a cursor has on each item
abbrev pub trace_on : Sequel → ItemValue → Trace
trace_on cursor x = path_trace (path_of cursor.path) cursor.vars x

-- the trace that the path of an inquiry has on each item
abbrev pub trace_asked : Inquired → ItemValue → Trace
trace_asked inquiry x = path_trace (path_of inquiry.path) inquiry.vars x

-- what is answered of the item, and on a bad context its error
abbrev pub answer_on : {A : Type 0} → ContextValue → (ItemValue → Result A State) → Result A State
answer_on (on_item x) answer = answer x
answer_on (on_bad s) answer = Err s

-- the steps of the item, and none on a bad context
abbrev pub cost_on : ContextValue → (ItemValue → ℕ) → ℕ
cost_on (on_item x) cost = cost x
cost_on (on_bad s) cost = 0

-- ---- JSON_EXISTS

-- an error goes to ON ERROR
abbrev pub exists_error : ExistsAction → State → Outcome
exists_error exists.True s = Value (Bool true)
exists_error exists.False s = Value (Bool false)
exists_error exists.Unknown s = Value Null
exists_error exists.Error s = Raised s

abbrev pub exists_given : ExistsAction → Result Logical State → Outcome
exists_given action (Ok b) = Value (Bool b)
exists_given action (Err s) = exists_error action s

-- TRUE or FALSE by `exists_answer`: in lax mode an item decides before a fault, and in strict mode a fault is an error first
unfoldable pub exists_outcome : ExistsAction → Mode → ContextValue → (ItemValue → Trace) → Outcome
exists_outcome action mode context trace = exists_given action (answer_on context (λ x. exists_answer mode (trace x)))

-- the visits before the first item in lax mode, and all in strict mode
unfoldable pub exists_cost : Mode → ContextValue → (ItemValue → Trace) → ℕ
exists_cost mode context trace = cost_on context (λ x. need mode 1 (trace x))

-- ---- JSON_VALUE

-- what an action gives, where ERROR raises the state s
abbrev pub value_error : ValueAction → State → Outcome
value_error values.Error s = Raised s
value_error values.Null s = Value Null
value_error (values.Default v) s = Value v

-- no item goes to ON EMPTY; what ERROR raises there does not go to ON ERROR
abbrev pub value_empty : ValueAction → Outcome
value_empty action = value_error action S22035

-- what the cast refuses is an error
abbrev pub value_cast : ValueAction → Cast → Outcome
value_cast action (Ok v) = Value v
value_cast action (Err s) = value_error action s

abbrev pub value_given : ValueSpec → Single → Outcome
value_given clauses (bad s) = value_error clauses.on_error s
value_given clauses zero_items = value_empty clauses.on_empty
value_given clauses (one_item x) = value_cast clauses.on_error (cast_of x clauses.ty)

-- the only item; where there are several, 22034
abbrev pub single_on : Mode → ContextValue → (ItemValue → Trace) → Single
single_on mode (on_item x) trace = single mode S22034 (trace x)
single_on mode (on_bad s) trace = bad s

unfoldable pub value_outcome : ValueSpec → Mode → ContextValue → (ItemValue → Trace) → Outcome
value_outcome clauses mode context trace = value_given clauses (single_on mode context trace)

-- the visits before the second item in lax mode, and all in strict mode
unfoldable pub value_cost : Mode → ContextValue → (ItemValue → Trace) → ℕ
value_cost mode context trace = cost_on context (λ x. need mode 2 (trace x))

-- an outcome that is a value can be printed
abbrev pub IsPrinted : Outcome → Type 0
IsPrinted (Value v) = IsPrintable v
IsPrinted (Raised s) = Unit {0}

-- ---- JSON_QUERY

-- what an action gives, where ERROR raises the state s
abbrev pub query_error : QueryAction → State → Outcome
query_error queries.Error s = Raised s
query_error queries.Null s = Value Null
query_error queries.EmptyArray s = Value (Json (codes "[]"))
query_error queries.EmptyObject s = Value (Json (codes "{}"))

-- no item goes to ON EMPTY; what ERROR raises there does not go to ON ERROR
abbrev pub query_empty : QueryAction → Outcome
query_empty action = query_error action S22035

abbrev pub string_of : Tree → Option (List ℕ)
string_of null = None
string_of (truth b) = None
string_of (string s) = Some s
string_of (number v) = None
string_of (array ts) = None
string_of (object ms) = None

abbrev pub text_unless : Option (List ℕ) → List ℕ → SqlValue
text_unless (Some s) json = Text s
text_unless None json = Json json

-- a tree as a JSON value; OMIT QUOTES makes a string its text, and leaves all else
abbrev pub query_value : Logical → Tree → SqlValue
query_value true t = text_unless (string_of t) (printed t)
query_value false t = Json (printed t)

-- without a wrapper
abbrev pub query_given : QuerySpec → Single → Outcome
query_given clauses (bad s) = query_error clauses.on_error s
query_given clauses zero_items = query_empty clauses.on_empty
query_given clauses (one_item x) = Value (query_value clauses.omit_quotes (item_tree x))

-- the array of the items
abbrev pub elements : List ItemValue → Items
elements [] = no_items
elements (x ∷ xs) = item (item_tree x) (elements xs)

abbrev pub is_structured : Kind → Logical
is_structured kinds.Null = false
is_structured kinds.Truth = false
is_structured kinds.String = false
is_structured kinds.Number = false
is_structured kinds.Array = true
is_structured kinds.Object = true

-- a conditional wrapper leaves a single array or object as it is
abbrev pub wrapped : Wrapper → List ItemValue → Tree
wrapped wrappers.Conditional (x ∷ []) = if is_structured (kind_of (item_tree x)) then item_tree x else array (elements (x ∷ []))
wrapped wrappers.Conditional (x ∷ y ∷ ys) = array (elements (x ∷ y ∷ ys))
wrapped wrappers.Conditional [] = array no_items
wrapped wrappers.Unconditional xs = array (elements xs)
wrapped wrappers.Without xs = array (elements xs)

-- with a wrapper: a fault decides first
abbrev pub query_items : QuerySpec → Option State → List ItemValue → Outcome
query_items clauses (Some s) xs = query_error clauses.on_error s
query_items clauses None [] = query_empty clauses.on_empty
query_items clauses None (x ∷ xs) = Value (Json (printed (wrapped clauses.wrapper (x ∷ xs))))

abbrev pub query_all : QuerySpec → ContextValue → (ItemValue → Trace) → Outcome
query_all clauses (on_item x) trace = query_items clauses (fault_of (trace x)) (items (trace x))
query_all clauses (on_bad s) trace = query_error clauses.on_error s

abbrev pub query_by : Wrapper → QuerySpec → Mode → ContextValue → (ItemValue → Trace) → Outcome
query_by wrappers.Without clauses mode context trace = query_given clauses (single_on mode context trace)
query_by wrappers.Conditional clauses mode context trace = query_all clauses context trace
query_by wrappers.Unconditional clauses mode context trace = query_all clauses context trace

unfoldable pub query_outcome : QuerySpec → Mode → ContextValue → (ItemValue → Trace) → Outcome
query_outcome clauses mode context trace = query_by clauses.wrapper clauses mode context trace

-- the nodes that are printed
abbrev pub single_below : Single → ℕ
single_below (bad s) = 0
single_below zero_items = 0
single_below (one_item x) = nodes_below x

abbrev pub all_below : List ItemValue → ℕ
all_below [] = 0
all_below (x ∷ xs) = nodes_below x + all_below xs

-- without a wrapper as JSON_VALUE, and the printing of the item
abbrev pub query_one_cost : Mode → ContextValue → (ItemValue → Trace) → ℕ
query_one_cost mode context trace = cost_on context (λ x. need mode 2 (trace x) + single_below (single mode S22034 (trace x)))

-- with one all visits, and the printing of all items
abbrev pub query_all_cost : ContextValue → (ItemValue → Trace) → ℕ
query_all_cost context trace = cost_on context (λ x. visits (trace x) + all_below (items (trace x)))

unfoldable pub query_cost : Wrapper → Mode → ContextValue → (ItemValue → Trace) → ℕ
query_cost wrappers.Without mode context trace = query_one_cost mode context trace
query_cost wrappers.Conditional mode context trace = query_all_cost context trace
query_cost wrappers.Unconditional mode context trace = query_all_cost context trace
