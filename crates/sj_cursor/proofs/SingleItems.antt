-- An operand that is one item, and no array.
use Rattle.std.specs.Prelude.{if◌then◌else◌, IfSome}
use Rattle.std.proofs.Common.{◌≡◌, ◌≤◌, ℕ, Bool, true, false, ◌||◌, ◌&&◌, Option, Some, None, ap, ◌∙◌, refl, arith}
use Rattle.sj_base.specs.Count.{raised}
use Rattle.sj_path_tree.specs.declared.parts.Mode.{Mode}
use Rattle.sj_path_tree.specs.declared.parts.Mode.TheVariants.{Lax}
use Rattle.sj_doc.specs.declared.doc.NodeRef.{NodeRef}
use Rattle.sj_item.specs.Items.{ItemValue}
use Rattle.sj_step.specs.Trace.{Trace, only, each}
use Rattle.sj_step.specs.Reach.{unwrap, reach}
use Rattle.sj_step.specs.Literals.{literal_item}
use Rattle.sj_path_tree.specs.Tree as t
use Rattle.sj_path_tree.specs.declared.parts.Literal.{Literal}
use Rattle.sj_path_tree.specs.declared.parts.Literal.TheVariants as literals
use Rattle.sj_cursor.specs.Cells.{source_value, source_expr}
use Rattle.sj_plain_path.specs.Chains.{node_value}
use Rattle.sj_cursor.specs.LaxNodes.{IsLaxNode}
use Rattle.sj_plain_path.specs.Truths.{is_true, is_unknown}
use Rattle.sj_cursor.specs.Left.{operand_whole}
use Rattle.sj_cursor.specs.Meaning.{Env, meaning}
use Rattle.sj_plain_path.specs.Pairings.{ItemTruth, PairingSeen}
use Rattle.sj_plain_path.specs.declared.opening.Opening.TheVariants.{Unwrapped}
use Rattle.sj_cursor.specs.declared.cells.Source.{Source}
use Rattle.sj_cursor.specs.declared.cells.Source.TheVariants as sources

source_meaning : (s : Source) (env : Env) → meaning (source_expr s) env ≡ only (source_value s env)
source_meaning sources.Root env = refl
source_meaning sources.Context env = refl
source_meaning sources.Last env = refl
source_meaning (sources.Lit made) env = refl
source_meaning (sources.Var name) env = refl

each_only : (x : ItemValue) (g : ItemValue → Trace) → g x ≡ only x → each (only x) g ≡ only x
each_only x g e = rw e refl

or_swap : (b : Bool) → (false || b) ≡ (b || false)
or_swap true = refl
or_swap false = refl

pairing_one : (early : Bool) (test : ItemTruth) (x : ItemValue) (found doubt : Bool) (a : ℕ)
    → found ≡ (false || is_true (test x)) → doubt ≡ (false || is_unknown (test x)) → PairingSeen early test (only x) found doubt a a
pairing_one early test x found doubt a f d = record {
  finds = f ∙ or_swap (is_true (test x));
  doubts = λ _. d ∙ or_swap (is_unknown (test x));
  costs = costs (early && is_true (test x));
}
  where
    costs : (b : Bool) → a ≤ raised a (if b then 0 else 0)
    costs true = omega arith
    costs false = omega arith

pub whole_is_one : (s : Source) (env : Env) (x : ItemValue) → x ≡ source_value s env → ((mode : Mode) → unwrap mode x ≡ only x)
    → operand_whole Unwrapped (source_expr s) env ≡ only x
whole_is_one s env x e flat = ap (λ t. each t (unwrap env.mode)) (source_meaning s env) ∙ rw (← e) (each_only x (unwrap env.mode) (flat env.mode))

pub root_is_one : (e : t.Expr) (env : Env) → e ≡ t.Root → ((mode : Mode) → unwrap mode env.root ≡ only env.root) → operand_whole Unwrapped e env ≡ only env.root
root_is_one e env h flat = rw h (each_only env.root (unwrap env.mode) (flat env.mode))

-- a literal is no array
literal_flat : (literal : Literal) (mode : Mode) → unwrap mode (literal_item literal) ≡ only (literal_item literal)
unfolding reach
literal_flat (literals.Text s) mode = refl
literal_flat (literals.Num d) mode = refl
literal_flat (literals.Bool b) mode = refl
literal_flat literals.Null mode = refl

pub literal_is_one : (literal : Literal) (env : Env) (x : ItemValue) → x ≡ literal_item literal → operand_whole Unwrapped (t.Lit literal) env ≡ only x
literal_is_one literal env x e = rw e (each_only (literal_item literal) (unwrap env.mode) (literal_flat literal env.mode))

pub one_seen : (whole : Trace) (x : ItemValue) (early : Bool) (test : ItemTruth) (found doubt : Bool) (a : ℕ)
    → whole ≡ only x → found ≡ (false || is_true (test x)) → doubt ≡ (false || is_unknown (test x)) → PairingSeen early test whole found doubt a a
one_seen whole x early test found doubt a e f d = rw e (pairing_one early test x found doubt a f d)

-- ---- `$` or `@` that is a node, in lax mode

pub lax_one : (o : Option NodeRef) (s : Source) (env : Env) → env.mode ≡ Lax → IfSome o (λ n. source_value s env ≡ node_value n) → IfSome o (IsLaxNode (source_expr s) env)
lax_one None s env lax h = tt
lax_one (Some n) s env lax h = record { lax = lax; is = source_meaning s env ∙ ap only h }
