-- What a path means on an item: the whole trace of it (ISO/IEC 9075-2, SQL/JSON path language).
use Rattle.std.specs.Prelude.{ℕ, Bool, true, false, if◌then◌else◌, List, Option, Some, None, option_map, find, ℤ, pos}
use Rattle.std.specs.Str.{bytes_eq}
use Rattle.sj_base.specs.declared.state.State.TheVariants.{S22039}
use Rattle.sj_path_tree.specs.declared.parts.Mode.{Mode}
use Rattle.sj_path_tree.specs.declared.parts.Method.{Method}
use Rattle.sj_path_tree.specs.declared.parts.Method.TheVariants as methods
use Rattle.sj_path_tree.specs.declared.parts.Literal.{Literal}
use Rattle.sj_path_tree.specs.declared.parts.Initial.{Initial}
use Rattle.sj_path_tree.specs.declared.parts.Initial.TheVariants as initials
use Rattle.sj_path_tree.specs.Tree.{Path, Expr, Root, Var, Context, Last, Lit, Access, Plus, Minus, Binary, Step, Member, AllMembers, AllElements, Elements, Filter, Call, Sub, One, Range, Subs, NoSubs, More, Pred, Compares, And, Or, Not, IsUnknown, Exists, StartsWith}
use Rattle.sj_item.specs.Items.{ItemValue, made_number, made_text, made_null}
use Rattle.sj_item.specs.Pairs.{items_compare, item_starts_with}
use Rattle.sj_path_tree.specs.Vars.{Variables}
use Rattle.sj_step.specs.Trace.{Trace, stop, fail, only, join, each}
use Rattle.sj_step.specs.Literals.{literal_item}
use Rattle.sj_step.specs.Reach.{reach, by_key, all_members, all_elements, spread, last}
use Rattle.sj_method.specs.Methods.{method_of, sign_of}
use Rattle.sj_cursor.specs.Numbers.{binary_trace, element_part, range_part}
use Rattle.sj_cursor.specs.Verdicts.{Verdict, and_verdict, or_verdict, not_verdict, unknown_verdict, exists_verdict, filtered}
use Rattle.sj_cursor.specs.Comparisons.{compare_verdict}

-- where an expression is evaluated: `$`, the variables, `@` and `last`
pub record Env : Type 0 where
  pub mode : Mode
  pub vars : Variables
  pub root : ItemValue
  pub context : ItemValue
  pub last : ℤ

-- the same inside a filter that tests x
abbrev pub at_item : Env → ItemValue → Env
at_item env x = record { mode = env.mode; vars = env.vars; root = env.root; context = x; last = env.last }

-- the same inside the subscripts of an array whose last index is n
abbrev pub at_last : Env → ℤ → Env
at_last env n = record { mode = env.mode; vars = env.vars; root = env.root; context = env.context; last = n }

-- a path is evaluated with a value for each of its variables
abbrev pub variable_value : Option Literal → ItemValue
variable_value (Some l) = literal_item l
variable_value None = made_null

abbrev pub variable_of : Variables → List ℕ → ItemValue
variable_of vars name = variable_value (option_map (λ v. v.1) (find (λ v. bytes_eq v.0 name) vars))

abbrev pub variable : Env → List ℕ → ItemValue
variable env name = variable_of env.vars name

abbrev pub initial_value : Env → Initial → ItemValue
initial_value env (initials.Lit s) = made_text s
initial_value env (initials.Var name) = variable env name

-- the methods `type` and `size` take an array as it is
abbrev pub takes_arrays : Method → Bool
takes_arrays methods.TypeOf = true
takes_arrays methods.Size = true
takes_arrays _ = false

abbrev pub method_input : Method → Mode → Trace → Trace
method_input m mode t = if takes_arrays m then t else spread mode t

-- in strict mode an item that is no array is refused before any subscript is evaluated
abbrev pub where_array : Option ℤ → (ℤ → Trace) → Trace
where_array (Some n) parts = parts n
where_array None parts = fail S22039

abbrev mutual
  -- the trace of an expression
  pub meaning : Expr → Env → Trace
  meaning Root env = only env.root
  meaning Context env = only env.context
  meaning (Var name) env = only (variable env name)
  meaning Last env = only (made_number (env.last, 0))
  meaning (Lit l) env = only (literal_item l)
  meaning (Access e s) env = step_on s (meaning e env) env
  meaning (Plus e) env = each (spread env.mode (meaning e env)) (sign_of false)
  meaning (Minus e) env = each (spread env.mode (meaning e env)) (sign_of true)
  meaning (Binary op a b) env = binary_trace op env.mode (spread env.mode (meaning a env)) (spread env.mode (meaning b env))

  -- an accessor on the items of a trace
  pub step_on : Step → Trace → Env → Trace
  step_on (Member key) t env = each (spread env.mode t) (reach (by_key key) env.mode)
  step_on AllMembers t env = each (spread env.mode t) (reach all_members env.mode)
  step_on AllElements t env = each t (reach all_elements env.mode)
  step_on (Elements subs) t env = each t (λ x. where_array (last env.mode x) (λ n. parts subs (at_last env n) x))
  step_on (Filter p) t env = each (spread env.mode t) (λ x. filtered (verdict p (at_item env x)) x)
  step_on (Call m) t env = each (method_input m env.mode t) (method_of m)

  -- the parts of a list of subscripts on one item, in order
  pub parts : Subs → Env → ItemValue → Trace
  parts NoSubs env x = stop
  parts (More s others) env x = join (part s env x) (parts others env x)

  pub part : Sub → Env → ItemValue → Trace
  part (One e) env x = element_part env.mode (meaning e env) x
  part (Range e f) env x = range_part env.mode (meaning e env) (meaning f env) x

  -- the truth of a predicate, and what finding it may take
  pub verdict : Pred → Env → Verdict
  verdict (Compares op a b) env = compare_verdict env.mode (items_compare op) (spread env.mode (meaning a env)) (spread env.mode (meaning b env))
  verdict (And p q) env = and_verdict (verdict p env) (verdict q env)
  verdict (Or p q) env = or_verdict (verdict p env) (verdict q env)
  verdict (Not p) env = not_verdict (verdict p env)
  verdict (IsUnknown p) env = unknown_verdict (verdict p env)
  verdict (Exists e) env = exists_verdict env.mode (meaning e env)
  verdict (StartsWith e initial) env = compare_verdict env.mode item_starts_with (spread env.mode (meaning e env)) (only (initial_value env initial))

-- at the start `@` is the root and `last` is 0; a path that is read from a text never asks for these
abbrev pub start_env : Path → Variables → ItemValue → Env
start_env path vars root = record { mode = path.mode; vars = vars; root = root; context = root; last = pos 0 }

-- the trace of a path on a root
unfoldable pub path_trace : Path → Variables → ItemValue → Trace
path_trace path vars root = meaning path.expr (start_env path vars root)
