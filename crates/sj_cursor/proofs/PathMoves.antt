-- The moves of a path give what it means, and what each of them gives.
use Rattle.std.proofs.Common.{◌≡◌, List, [], ◌∷◌, ◌++◌, ap, sym, ◌∙◌, refl}
use Rattle.std.specs.Borrow.{Bor}
use Rattle.std.proofs.Common.{ℕ}
use Rattle.sj_doc.specs.Kinds.{kind_of}
use Rattle.sj_doc.specs.declared.node.Kind.{Kind}
use Rattle.sj_doc.specs.declared.node.Kind.TheVariants as kinds
use Rattle.sj_path_tree.specs.Tree as t
use Rattle.sj_path_tree.specs.Vars.{Variables}
use Rattle.sj_path_tree.specs.declared.parts.Mode.TheVariants.{Lax}
use Rattle.sj_item.specs.Items.{ItemValue, item_tree}
use Rattle.sj_item.specs.Pairs.{items_compare}
use Rattle.sj_step.specs.Literals.{literal_item}
use Rattle.sj_step.specs.Reach.{reach, by_key, all_elements, unwrap, unwrapped, on_kind, spread}
use Rattle.sj_step.specs.Trace.{Trace, each}
use Rattle.sj_step.proofs.Traces.{join-stop, each_assoc, each_cong, each-only}
use Rattle.sj_plain_path.specs.Chains.{below, member_under}
use Rattle.sj_plain_path.specs.declared.chain.Link.TheVariants as links
use Rattle.sj_plain_path.specs.declared.opening.Opening.TheVariants.{Unwrapped}
use Rattle.sj_cursor.specs.Comparisons.{compare_verdict}
use Rattle.sj_cursor.specs.Left.{operand_whole}
use Rattle.sj_cursor.specs.Meaning.{Env, at_item, meaning, verdict, start_env, path_trace}
use Rattle.sj_cursor.specs.Moves.{test_pred, tested, moved, walked, AreMovesOf}
use Rattle.sj_cursor.specs.Trails.{IsTrailOf}
use Rattle.sj_cursor.specs.Verdicts.{filtered}
use Rattle.sj_cursor.specs.declared.moves.Move.{Move}
use Rattle.sj_cursor.specs.declared.moves.Move.TheVariants as moves
use Rattle.sj_cursor.specs.declared.moves.MemberTest.{MemberTest}
use Rattle.sj_cursor.specs.declared.trail.Trail.{Trail}
use Rattle.sj_cursor.proofs.PlainPaths.{link_below}
use Rattle.sj_cursor.proofs.SingleItems.{literal_is_one}

abbrev Key : Type 0
Key = Bor (List ℕ)

-- ---- one move behind others

walked_behind : (ms ns : List Move) (x : ItemValue) → walked (ms ++ ns) x ≡ each (walked ms x) (walked ns)
walked_behind [] ns x = sym (join-stop (walked ns x))
walked_behind (m ∷ ms) ns x =
    each_cong (moved m x) (walked (ms ++ ns)) (λ y. each (walked ms y) (walked ns)) (walked_behind ms ns)
    ∙ sym (each_assoc (moved m x) (walked ms) (walked ns))

one_behind : (ms : List Move) (m : Move) (x : ItemValue) → walked (ms ++ m ∷ []) x ≡ each (walked ms x) (moved m)
one_behind ms m x = walked_behind ms (m ∷ []) x ∙ each_cong (walked ms x) (walked (m ∷ [])) (moved m) (λ y. each-only (moved m y))

two_behind : (ms : List Move) (m n : Move) (x : ItemValue) → walked ((ms ++ m ∷ []) ++ n ∷ []) x ≡ each (each (walked ms x) (moved m)) (moved n)
two_behind ms m n x = one_behind (ms ++ m ∷ []) n x ∙ ap (λ u. each u (moved n)) (one_behind ms m x)

-- ---- accessors

-- in lax mode `[*]` unwraps
all_on : (k : Kind) (x : ItemValue) → on_kind k all_elements Lax x ≡ on_kind k unwrapped Lax x
all_on kinds.Null x = refl
all_on kinds.Truth x = refl
all_on kinds.Number x = refl
all_on kinds.String x = refl
all_on kinds.Array x = refl
all_on kinds.Object x = refl

all_unwraps : (x : ItemValue) → reach all_elements Lax x ≡ unwrap Lax x
unfolding reach
all_unwraps x = all_on (kind_of (item_tree x)) x

pub moves_all : (e : t.Expr) (old new : List Move) → new ≡ old ++ moves.Unwrap ∷ [] → AreMovesOf e old → AreMovesOf (t.Access e t.AllElements) new
moves_all e old new is h = λ env lax.
    ap (λ m. each (meaning e env) (reach all_elements m)) lax
    ∙ each_cong (meaning e env) (reach all_elements Lax) (unwrap Lax) all_unwraps
    ∙ ap (λ u. each u (unwrap Lax)) (h env lax)
    ∙ sym (ap (λ ms. walked ms env.root) is ∙ one_behind old moves.Unwrap env.root)

pub moves_member : (e : t.Expr) (text : List ℕ) (key : Key) (old some new : List Move) → key.now ≡ text → some ≡ old ++ moves.Unwrap ∷ [] → new ≡ some ++ moves.Member key ∷ []
    → AreMovesOf e old → AreMovesOf (t.Access e (t.Member text)) new
moves_member e text key old some new same is_some is h = λ env lax.
    ap (λ k. each (each (meaning e env) (unwrap env.mode)) (reach (by_key k) env.mode)) (sym same)
    ∙ ap (λ m. each (each (meaning e env) (unwrap m)) (reach (by_key key.now) m)) lax
    ∙ ap (λ u. each (each u (unwrap Lax)) (reach (by_key key.now) Lax)) (h env lax)
    ∙ sym (ap (λ ms. walked ms env.root) (is ∙ ap (λ ms. ms ++ moves.Member key ∷ []) is_some) ∙ two_behind old moves.Unwrap (moves.Member key) env.root)

-- ---- filters

tested_is : (test : MemberTest) (env : Env) (x : ItemValue) → env.mode ≡ Lax → verdict (test_pred test) (at_item env x) ≡ tested test x
tested_is test env x lax =
    let a : t.Expr = t.Access t.Context (t.Member test.key.now) in
    let b : t.Expr = t.Lit test.literal.literal.now in
    let left : Trace = operand_whole Unwrapped a (at_item env x) in
    let right : Trace = operand_whole Unwrapped b (at_item env x) in
    ap (λ m. compare_verdict m (items_compare test.op) left right) lax
    ∙ ap (λ u. compare_verdict Lax (items_compare test.op) u right) (link_below Unwrapped t.Context (links.Member test.key) x (at_item env x) lax refl)
    ∙ ap (λ u. compare_verdict Lax (items_compare test.op) (below Unwrapped (member_under test.key.now ∷ []) x) u) (literal_is_one test.literal.literal.now (at_item env x) (literal_item test.literal.literal.now) refl)

pub moves_filter : (e : t.Expr) (p : t.Pred) (test : MemberTest) (old some new : List Move)
    → test_pred test ≡ p → some ≡ old ++ moves.Unwrap ∷ [] → new ≡ some ++ moves.Filter test ∷ []
    → AreMovesOf e old → AreMovesOf (t.Access e (t.Filter p)) new
moves_filter e p test old some new is_test is_some is h = λ env lax.
    ap (λ q. each (spread env.mode (meaning e env)) (λ x. filtered (verdict q (at_item env x)) x)) (sym is_test)
    ∙ each_cong (spread env.mode (meaning e env)) (λ x. filtered (verdict (test_pred test) (at_item env x)) x) (moved (moves.Filter test)) (λ x. ap (λ v. filtered v x) (tested_is test env x lax))
    ∙ ap (λ m. each (each (meaning e env) (unwrap m)) (moved (moves.Filter test))) lax
    ∙ ap (λ u. each (each u (unwrap Lax)) (moved (moves.Filter test))) (h env lax)
    ∙ sym (ap (λ ms. walked ms env.root) (is ∙ ap (λ ms. ms ++ moves.Filter test ∷ []) is_some) ∙ two_behind old moves.Unwrap (moves.Filter test) env.root)

-- ---- a path

pub trail_trace : (path : t.Path) (vars : Variables) (x : ItemValue) (trail : Trail) → IsTrailOf path trail → path_trace path vars x ≡ walked trail.moves.items x
unfolding path_trace
trail_trace path vars x trail h = h.means (start_env path vars x) h.lax
