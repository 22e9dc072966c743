-- What is done with the opened items of an expression is the meaning of the whole.
use Rattle.std.specs.Prelude.{if◌then◌else◌}
use Rattle.std.proofs.Common.{◌≡◌, Bool, true, false, ◌+◌, ◌≤◌, ap, sym, ◌∙◌, refl, arith}
use Rattle.sj_path_tree.specs.Tree as t
use Rattle.sj_path_tree.specs.declared.parts.Method.{Method}
use Rattle.sj_path_tree.specs.Nodes.{expr_nodes, sub_nodes}
use Rattle.sj_item.specs.Items.{ItemValue}
use Rattle.sj_step.specs.Trace.{stop, only, join, each}
use Rattle.sj_step.specs.Reach.{spread}
use Rattle.sj_step.proofs.Traces.{each-only}
use Rattle.sj_method.specs.Methods.{method_of}
use Rattle.sj_cursor.specs.Meaning.{Env, takes_arrays, meaning}
use Rattle.sj_cursor.specs.Left.{Doing, Acts, Keeps, Picks, doing_on, doing_opening, doing_nodes, done, operand_whole}
use Rattle.sj_cursor.specs.declared.cells.Simple.TheVariants as simples
use Rattle.sj_plain_path.specs.declared.opening.Opening.TheVariants.{AsItIs, Unwrapped}

pub as_it_is : (e : t.Expr) (env : Env) → operand_whole AsItIs e env ≡ meaning e env
as_it_is e env = each-only (meaning e env)

input_is : (as_it_stands : Bool) (e : t.Expr) (env : Env) → operand_whole (if as_it_stands then AsItIs else Unwrapped) e env ≡ (if as_it_stands then meaning e env else spread env.mode (meaning e env))
input_is true e env = as_it_is e env
input_is false e env = refl

method_is : (m : Method) (e : t.Expr) (env : Env) → each (operand_whole (doing_opening (Acts (simples.Method m))) e env) (done (Acts (simples.Method m)) env) ≡ meaning (t.Access e (t.Call m)) env
method_is m e env = ap (λ u. each u (method_of m)) (input_is (takes_arrays m) e env)

pub doing_is : (d : Doing) (e : t.Expr) (env : Env) → each (operand_whole (doing_opening d) e env) (done d env) ≡ meaning (doing_on d e) env
doing_is (Acts (simples.Member key)) e env = refl
doing_is (Acts simples.AllMembers) e env = refl
doing_is (Acts simples.AllElements) e env = ap (λ u. each u (done (Acts simples.AllElements) env)) (as_it_is e env)
doing_is (Acts simples.Plus) e env = refl
doing_is (Acts simples.Minus) e env = refl
doing_is (Acts (simples.Method m)) e env = method_is m e env
doing_is (Keeps p) e env = refl
doing_is (Picks s) e env = ap (λ u. each u (done (Picks s) env)) (as_it_is e env)

-- one item is at hand, and there is no other
pub begun_is : (d : Doing) (e : t.Expr) (env : Env) (x : ItemValue) → operand_whole (doing_opening d) e env ≡ only x → join (done d env x) stop ≡ meaning (doing_on d e) env
begun_is d e env x h = ap (λ u. each u (done d env)) (sym h) ∙ doing_is d e env

-- ---- nodes

pub doing_below : (d : Doing) (e : t.Expr) → expr_nodes e + doing_nodes d + 1 ≤ expr_nodes (doing_on d e)
doing_below (Acts (simples.Member key)) e = omega arith
doing_below (Acts simples.AllMembers) e = omega arith
doing_below (Acts simples.AllElements) e = omega arith
doing_below (Acts simples.Plus) e = omega arith
doing_below (Acts simples.Minus) e = omega arith
doing_below (Acts (simples.Method m)) e = omega arith
doing_below (Keeps p) e = omega arith
doing_below (Picks s) e = omega arith

pub expr_some : (e : t.Expr) → 1 ≤ expr_nodes e
expr_some t.Root = omega arith
expr_some (t.Var name) = omega arith
expr_some t.Context = omega arith
expr_some t.Last = omega arith
expr_some (t.Lit literal) = omega arith
expr_some (t.Access e s) = omega arith
expr_some (t.Plus e) = omega arith
expr_some (t.Minus e) = omega arith
expr_some (t.Binary op a b) = omega arith

pub sub_some : (s : t.Sub) → 1 ≤ sub_nodes s
sub_some (t.One e) = omega arith
sub_some (t.Range e f) = omega arith
