-- What cells are of, and what they have left.
use Rattle.std.specs.Prelude.{Bool, true, false, if◌then◌else◌}
use Rattle.sj_path_tree.specs.declared.parts.Mode.{Mode}
use Rattle.sj_path_tree.specs.declared.parts.Mode.TheVariants.{Lax, Strict}
use Rattle.sj_path_tree.specs.declared.parts.Method.{Method}
use Rattle.sj_path_tree.specs.Tree as t
use Rattle.sj_item.specs.Items.{ItemValue, item_value, made_number}
use Rattle.sj_step.specs.Trace.{Trace, stop, only}
use Rattle.sj_step.specs.Reach.{reach, by_key, all_members, all_elements}
use Rattle.sj_walk.specs.Walk.{walk_left}
use Rattle.sj_method.specs.Methods.{method_of, sign_of}
use Rattle.sj_method.specs.Pairs.{pairs_left}
use Rattle.sj_cursor.specs.Meaning.{Env, variable, takes_arrays}
use Rattle.sj_step.specs.Literals.{literal_item}
use Rattle.sj_cursor.specs.declared.env.Env.{Env as EnvHeld}
use Rattle.sj_cursor.specs.declared.cells.Source.{Source}
use Rattle.sj_cursor.specs.declared.cells.Source.TheVariants as sources
use Rattle.sj_cursor.specs.declared.cells.One.{One as OneCell}
use Rattle.sj_plain_path.specs.declared.opening.Opening.{Opening}
use Rattle.sj_plain_path.specs.declared.opening.Opening.TheVariants.{AsItIs, Unwrapped}
use Rattle.sj_cursor.specs.declared.cells.Simple.{Simple}
use Rattle.sj_cursor.specs.declared.cells.Simple.TheVariants as simples
use Rattle.sj_cursor.specs.declared.cells.Results.{Results}
use Rattle.sj_cursor.specs.declared.cells.Results.TheVariants as all_results

-- where an expression is evaluated
abbrev pub env_value : EnvHeld → Env
env_value e = record { mode = e.mode; vars = e.vars.now; root = item_value e.root.now; context = item_value e.context.now; last = e.last }

-- ---- one item

abbrev pub source_value : Source → Env → ItemValue
source_value sources.Root env = env.root
source_value sources.Context env = env.context
source_value sources.Last env = made_number (env.last, 0)
source_value (sources.Lit made) env = literal_item made.literal.now
source_value (sources.Var name) env = variable env name.now

abbrev pub source_expr : Source → t.Expr
source_expr sources.Root = t.Root
source_expr sources.Context = t.Context
source_expr sources.Last = t.Last
source_expr (sources.Lit made) = t.Lit made.literal.now
source_expr (sources.Var name) = t.Var name.now

abbrev pub one_left : OneCell → Env → Trace
one_left o env = if o.given then stop else only (source_value o.source env)

-- ---- pairs

abbrev pub is_lax : Mode → Bool
is_lax Lax = true
is_lax Strict = false

-- ---- acts

abbrev pub results : Simple → Mode → ItemValue → Trace
results (simples.Member key) mode x = reach (by_key key.now) mode x
results simples.AllMembers mode x = reach all_members mode x
results simples.AllElements mode x = reach all_elements mode x
results simples.Plus mode x = sign_of false x
results simples.Minus mode x = sign_of true x
results (simples.Method m) mode x = method_of m x

abbrev pub method_opening : Method → Opening
method_opening m = if takes_arrays m then AsItIs else Unwrapped

abbrev pub simple_opening : Simple → Opening
simple_opening (simples.Member key) = Unwrapped
simple_opening simples.AllMembers = Unwrapped
simple_opening simples.AllElements = AsItIs
simple_opening simples.Plus = Unwrapped
simple_opening simples.Minus = Unwrapped
simple_opening (simples.Method m) = method_opening m

abbrev pub simple_on : Simple → t.Expr → t.Expr
simple_on (simples.Member key) e = t.Access e (t.Member key.now)
simple_on simples.AllMembers e = t.Access e t.AllMembers
simple_on simples.AllElements e = t.Access e t.AllElements
simple_on simples.Plus e = t.Plus e
simple_on simples.Minus e = t.Minus e
simple_on (simples.Method m) e = t.Access e (t.Call m)

abbrev pub results_left : Results → Trace
results_left (all_results.Walk w) = walk_left w
results_left (all_results.Pairs w) = pairs_left w
