-- Paths in lax mode as moves from node to node. Private clauses alone cite this; it is proved that they are the meaning of the path.
use Rattle.std.specs.Prelude.{◌≡◌, List, [], ◌∷◌}
use Rattle.sj_path_tree.specs.Tree as t
use Rattle.sj_path_tree.specs.declared.parts.Mode.TheVariants.{Lax}
use Rattle.sj_item.specs.Items.{ItemValue}
use Rattle.sj_item.specs.Pairs.{items_compare}
use Rattle.sj_step.specs.Trace.{Trace, only, each}
use Rattle.sj_step.specs.Reach.{reach, by_key, unwrap}
use Rattle.sj_step.specs.Literals.{literal_item}
use Rattle.sj_plain_path.specs.Chains.{below, member_under}
use Rattle.sj_plain_path.specs.declared.opening.Opening.TheVariants.{Unwrapped}
use Rattle.sj_cursor.specs.Comparisons.{compare_verdict}
use Rattle.sj_cursor.specs.Meaning.{Env, meaning}
use Rattle.sj_cursor.specs.Verdicts.{Verdict, filtered}
use Rattle.sj_cursor.specs.declared.moves.Move.{Move}
use Rattle.sj_cursor.specs.declared.moves.Move.TheVariants as moves
use Rattle.sj_cursor.specs.declared.moves.MemberTest.{MemberTest}

-- the predicate of such a test, and its verdict on an item
abbrev pub test_pred : MemberTest → t.Pred
test_pred m = t.Compares m.op (t.Access t.Context (t.Member m.key.now)) (t.Lit m.literal.literal.now)

abbrev pub tested : MemberTest → ItemValue → Verdict
tested m x = compare_verdict Lax (items_compare m.op) (below Unwrapped (member_under m.key.now ∷ []) x) (only (literal_item m.literal.literal.now))

-- what a move gives of one item
abbrev pub moved : Move → ItemValue → Trace
moved moves.Unwrap = unwrap Lax
moved (moves.Member key) = reach (by_key key.now) Lax
moved (moves.Filter test) = λ x. filtered (tested test x) x

-- what moves give of one item, one after the other
abbrev pub walked : List Move → ItemValue → Trace
walked [] = only
walked (m ∷ ms) = λ x. each (moved m x) (walked ms)

-- in lax mode an expression gives what the moves give of the root
abbrev pub AreMovesOf : t.Expr → List Move → Type 0
AreMovesOf e ms = (env : Env) → env.mode ≡ Lax → meaning e env ≡ walked ms env.root
