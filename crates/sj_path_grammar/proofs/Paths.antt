-- A list of tokens has at most one tree, which reading finds.
use Rattle.std.proofs.Common.{◌≡◌, suc, false, [], ◌∷◌, length, Option, Some, None, Result, Ok, Err, MatchResult, refl, sym, subst, ◌∙◌, arith}
use Rattle.sj_base.specs.Options.{◌>>=◌}
use Rattle.sj_path_token.specs.declared.token.Token.{Token}
use Rattle.sj_path_token.specs.declared.token.Token.TheVariants as k
use Rattle.sj_path_token.specs.declared.keyword.Keyword.TheVariants as w
use Rattle.sj_path_tree.specs.declared.parts.Mode.{Mode}
use Rattle.sj_path_tree.specs.declared.parts.Mode.TheVariants as mode
use Rattle.sj_path_tree.specs.Tree.{Expr, Path}
use Rattle.sj_path_grammar.specs.Signs.{token_expr}
use Rattle.sj_path_grammar.specs.Grammar as g
use Rattle.sj_path_grammar.specs.Grammar.{Tokens, IsExpr, IsPath}
use Rattle.sj_path_grammar.specs.Reading.{Read, ExprOrPred, Value, Test, on_some, lax_at, strict_at, as_value, inner_expr, expr_or_pred_at, ended, whole_at, with_mode, in_mode, path_at}
use Rattle.sj_path_grammar.specs.declared.refusal.PathRefusal.{PathRefusal}
use Rattle.sj_path_grammar.specs.declared.refusal.PathRefusal.TheVariants as r
use Rattle.sj_path_grammar.specs.Depth.{IsTooDeep}
use Rattle.sj_path_grammar.specs.Misplaced.{is_misplaced}
use Rattle.sj_path_grammar.specs.Answers.{Spells, Allows, Forbids}
use Rattle.sj_path_grammar.proofs.ReadTokens.{some_is, lax_word, strict_word}
use Rattle.sj_path_grammar.proofs.Soundness.{Spells as SpellsExprOrPred, expr_or_pred_reads}
use Rattle.sj_path_grammar.proofs.ConstructEdges.{expr_empty, empty_no_test}
use Rattle.sj_path_grammar.proofs.Completeness.{bind_is, none_on, inner_value, neg_full_expr}

-- ---- what is in the grammar is read

whole_full : {ts : Tokens} {e : Expr} → IsExpr ts e [] → whole_at ts ≡ Some e
unfolding whole_at
whole_full {ts} {e} d = bind_is _ _ (inner_value (length ts) ts e [] (neg_full_expr d expr_empty (length ts) (omega arith)) empty_no_test) refl

single_not_lax : (u : Token) (ts : Tokens) (e : Expr) → token_expr u ≡ Some e → lax_at (u ∷ ts) ≡ None
single_not_lax (k.Word w.Lax text) ts e h = absurd cc
single_not_lax _ ts e h = refl

single_not_strict : (u : Token) (ts : Tokens) (e : Expr) → token_expr u ≡ Some e → strict_at (u ∷ ts) ≡ None
single_not_strict (k.Word w.Strict text) ts e h = absurd cc
single_not_strict _ ts e h = refl

-- an expression begins with no word of a mode
expr_not_lax : {ts rest : Tokens} {e : Expr} → IsExpr ts e rest → lax_at ts ≡ None
expr_not_lax (g.sum (g.product (g.plus d) q) r) = refl
expr_not_lax (g.sum (g.product (g.minus d) q) r) = refl
expr_not_lax (g.sum (g.product (g.access (g.parens d) a) q) r) = refl
expr_not_lax (g.sum (g.product (g.access (g.single {t = t} {rest = rest} {e = e} h) a) q) r) = single_not_lax t rest e h

expr_not_strict : {ts rest : Tokens} {e : Expr} → IsExpr ts e rest → strict_at ts ≡ None
expr_not_strict (g.sum (g.product (g.plus d) q) r) = refl
expr_not_strict (g.sum (g.product (g.minus d) q) r) = refl
expr_not_strict (g.sum (g.product (g.access (g.parens d) a) q) r) = refl
expr_not_strict (g.sum (g.product (g.access (g.single {t = t} {rest = rest} {e = e} h) a) q) r) = single_not_strict t rest e h

pub path_full : {ts : Tokens} {p : Path} → IsPath ts p → path_at ts ≡ Some p
unfolding path_at
path_full (g.plain d) = none_on _ _ _ (expr_not_lax d) (none_on _ _ _ (expr_not_strict d) (bind_is _ _ (whole_full d) refl))
path_full (g.lax d) = bind_is _ _ (whole_full d) refl
path_full (g.strict d) = bind_is _ _ (whole_full d) refl

-- a list of tokens has at most one tree
pub one_tree : (ts : Tokens) (p q : Path) → IsPath ts p → IsPath ts q → p ≡ q
one_tree ts p q d e = some_is (sym (path_full d) ∙ path_full e)

-- ---- what is read is in the grammar

whole_sound : (ts : Tokens) (e : Expr) → whole_at ts ≡ Some e → IsExpr ts e []
unfolding whole_at inner_expr
whole_sound ts e h = go (expr_or_pred_at (suc (length ts)) ts) refl h
  where
    end : (x : ExprOrPred) (rest : Tokens) → SpellsExprOrPred ts x rest → (as_value x rest >>= λ e. ended e.0 e.1) ≡ Some e → IsExpr ts e []
    end (Value y) [] d q = subst (λ z. IsExpr ts z []) (some_is q) d
    end (Value y) (t ∷ rest) d q = absurd cc
    end (Test p) rest d q = absurd cc

    go : (o : Read ExprOrPred) → expr_or_pred_at (suc (length ts)) ts ≡ o → ((o >>= λ x. as_value x.0 x.1) >>= λ e. ended e.0 e.1) ≡ Some e → IsExpr ts e []
    go None q f = absurd cc
    go (Some x) q f = end x.0 x.1 ((expr_or_pred_reads (suc (length ts)) ts).holds x.0 x.1 q) f

mode_sound : (m : Mode) (ts : Tokens) (p : Path) → in_mode m ts ≡ Some p → (e : Expr) × IsExpr ts e [] × (with_mode m e ≡ p)
mode_sound m ts p h = go (whole_at ts) refl h
  where
    go : (o : Option Expr) → whole_at ts ≡ o → (o >>= λ e. Some (with_mode m e)) ≡ Some p → (e : Expr) × IsExpr ts e [] × (with_mode m e ≡ p)
    go None q f = absurd cc
    go (Some e) q f = (e, whole_sound ts e q, some_is f)

pub path_sound : (ts : Tokens) (p : Path) → path_at ts ≡ Some p → IsPath ts p
unfolding path_at
path_sound ts p h = go (lax_at ts) (strict_at ts) refl refl h
  where
    go : (a b : Option Tokens) → lax_at ts ≡ a → strict_at ts ≡ b
        → on_some a (on_some b (in_mode mode.Lax ts) (in_mode mode.Strict)) (in_mode mode.Lax) ≡ Some p → IsPath ts p
    go None None qa qb f = let s = mode_sound mode.Lax ts p f in subst (λ x. IsPath ts x) s.2 (g.plain s.1)
    go None (Some mid) qa qb f = let s = mode_sound mode.Strict mid p f in let u = strict_word ts mid qb in
        subst (λ x. IsPath x p) (sym u.1) (subst (λ x. IsPath (k.Word w.Strict u.0 ∷ mid) x) s.2 (g.strict s.1))
    go (Some mid) b qa qb f = let s = mode_sound mode.Lax mid p f in let u = lax_word ts mid qa in
        subst (λ x. IsPath x p) (sym u.1) (subst (λ x. IsPath (k.Word w.Lax u.0 ∷ mid) x) s.2 (g.lax s.1))

-- ---- the order of the refusals

pub unread : (ts : Tokens) → (IsTooDeep ts → ⊥) → path_at ts ≡ None → Forbids ts r.Syntax
unread ts shallow h = (shallow, λ p d. none_some (sym h ∙ path_full d))
  where
    none_some : {p : Path} → None ≡ Some p → ⊥
    none_some q = cc

pub spelled : (ts : Tokens) (p : Path) → (IsTooDeep ts → ⊥) → path_at ts ≡ Some p → Spells ts p
spelled ts p shallow h = record { shallow = shallow; tree = path_sound ts p h }
