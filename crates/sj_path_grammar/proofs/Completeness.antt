-- What is in the grammar is read, whatever follows it, if that does not go on with it.
use Rattle.std.proofs.Common.{◌≡◌, ℕ, zero, suc, ◌≤◌, Bool, true, false, cond, ◌∷◌, length, Option, Some, None, refl, ap, ◌∙◌, arith}
use Rattle.sj_base.specs.Options.{◌>>=◌}
use Rattle.sj_path_token.specs.declared.token.Token.{Token}
use Rattle.sj_path_token.specs.declared.token.Token.TheVariants as k
use Rattle.sj_path_token.specs.declared.keyword.Keyword.TheVariants as w
use Rattle.sj_path_tree.specs.Tree as t
use Rattle.sj_path_tree.specs.Tree.{Expr, Step, Sub, Subs, Pred}
use Rattle.sj_path_grammar.specs.Signs.{token_expr}
use Rattle.sj_path_grammar.specs.Grammar as g
use Rattle.sj_path_grammar.specs.Grammar.{Tokens, NotOpen, IsExpr, IsSum, IsTerm, IsProduct, IsUnary, IsAccess, IsPrimary, IsStep, IsSub, IsSubs, IsPred, IsOr, IsConj, IsAnd, IsNeg, IsDelim, IsPrim}
use Rattle.sj_path_grammar.specs.Reading.{Parser, Read, ExprOrPred, Value, Test, on_some, inner_expr, inner_pred, datetime_at, called, named, after_dot, sub_at, subs_at, after_bracket, after_question, step_at, primary_at, access_from, access_at, unary_at, product_from, term_at, sum_from, expr_at, expr_from, initial_at, flags_at, unknown_from, test_from, tested, after_group, exists_at, group_at, delim_at, neg_at, test_at, and_from, conj_at, or_from, pred_from, expr_or_pred_over, expr_or_pred_at}
use Rattle.sj_path_grammar.proofs.Lengths.{expr_longer, term_longer, unary_longer, step_longer, sub_longer, conj_longer, neg_longer}
use Rattle.sj_path_grammar.proofs.ConstructEdges.{EndsUnary, EndsTerm, EndsExpr, NoTest, EndsOne, EndsSub, EndsNeg, EndsConj, EndsPred, expr_close, expr_compare, expr_word, close_no_test, to_no_test, sub_comma, sub_bracket, pred_close, sum_ends, product_ends, or_ends, and_ends, step_begins, subs_not_star, no_open, called_is}

pub bind_is : {A B : Type 0} {x : A} {r : Option B} (o : Option A) (f : A → Option B) → o ≡ Some x → f x ≡ r → (o >>= f) ≡ r
bind_is o f e h = ap (λ p. p >>= f) e ∙ h

pub some_on : {A B : Type 0} {x : A} {r : B} (o : Option A) (y : B) (f : A → B) → o ≡ Some x → f x ≡ r → on_some o y f ≡ r
some_on o y f e h = ap (λ p. on_some p y f) e ∙ h

pub none_on : {A B : Type 0} {r : B} (o : Option A) (y : B) (f : A → B) → o ≡ None → y ≡ r → on_some o y f ≡ r
none_on o y f e h = ap (λ p. on_some p y f) e ∙ h

pub cond_on : {A : Type 0} {r : A} (b : Bool) (x y : A) → b ≡ true → x ≡ r → cond b x y ≡ r
cond_on b x y e h = ap (λ p. cond p x y) e ∙ h

pub cond_off : {A : Type 0} {r : A} (b : Bool) (x y : A) → b ≡ false → y ≡ r → cond b x y ≡ r
cond_off b x y e h = ap (λ p. cond p x y) e ∙ h

-- ---- single tokens

abbrev followed : Tokens → Expr → Read Expr
followed ts e = Some (e, ts)

one_token : (o : Option Expr) (ts : Tokens) (e : Expr) → o ≡ Some e → (o >>= followed ts) ≡ Some (e, ts)
one_token o ts e h = ap (λ p. p >>= followed ts) h

single_is : (T : Parser ExprOrPred) (u : Token) (ts : Tokens) (e : Expr) → token_expr u ≡ Some e → primary_at T (u ∷ ts) ≡ Some (e, ts)
unfolding primary_at
single_is T k.Open ts e h = absurd cc
single_is T u ts e h = one_token (token_expr u) ts e h

unary_single : (T : Parser ExprOrPred) (u : Token) (ts : Tokens) (e : Expr) → token_expr u ≡ Some e → unary_at T (u ∷ ts) ≡ access_at T (u ∷ ts)
unfolding unary_at
unary_single T k.Plus ts e h = absurd cc
unary_single T k.Minus ts e h = absurd cc
unary_single T u ts e h = refl

neg_single : (T : Parser ExprOrPred) (u : Token) (ts : Tokens) (e : Expr) → token_expr u ≡ Some e → neg_at T (u ∷ ts) ≡ tested T (u ∷ ts)
unfolding neg_at
neg_single T k.Not ts e h = absurd cc
neg_single T k.Open ts e h = absurd cc
neg_single T (k.Word w.Exists text) ts e h = absurd cc
neg_single T u ts e h = refl

-- ---- expressions where a predicate may stand

-- the rest of an expression, and of a predicate, that begins with the operand x
unfoldable after_unary : Parser ExprOrPred → Expr → Parser ExprOrPred
after_unary T x ts = (product_from T (length ts) x ts >>= λ b. sum_from T (length b.1) b.0 b.1) >>= λ e. test_from T e.0 e.1

tested_is : (T : Parser ExprOrPred) (ts : Tokens) (x : Expr) (mid : Tokens) → unary_at T ts ≡ Some (x, mid) → tested T ts ≡ after_unary T x mid
unfolding tested expr_at term_at after_unary
tested_is T ts x mid h = ap (λ (o : Read Expr). ((o >>= λ x. product_from T (length x.1) x.0 x.1) >>= λ x. sum_from T (length x.1) x.0 x.1) >>= λ e. test_from T e.0 e.1) h

grouped_is : (T : Parser ExprOrPred) (e : Expr) (ts : Tokens) (x : Expr) (mid : Tokens) → access_from T (length ts) e ts ≡ Some (x, mid) → after_group T (Value e) ts ≡ after_unary T x mid
unfolding after_group expr_from after_unary
grouped_is T e ts x mid h = ap (λ (o : Read Expr). (o >>= λ a. product_from T (length a.1) a.0 a.1 >>= λ b. sum_from T (length b.1) b.0 b.1) >>= λ e. test_from T e.0 e.1) h

value_read : (n : ℕ) (ts : Tokens) (e : Expr) (rest : Tokens) → neg_at (expr_or_pred_at n) ts ≡ test_from (expr_or_pred_at n) e rest → NoTest rest → expr_or_pred_at (suc n) ts ≡ Some (Value e, rest)
unfolding expr_or_pred_at expr_or_pred_over pred_from
value_read n ts e rest h plain = bind_is _ _ (h ∙ plain (expr_or_pred_at n) e) refl

pub inner_value : (n : ℕ) (ts : Tokens) (e : Expr) (rest : Tokens) → neg_at (expr_or_pred_at n) ts ≡ test_from (expr_or_pred_at n) e rest → NoTest rest → inner_expr (expr_or_pred_at (suc n)) ts ≡ Some (e, rest)
unfolding inner_expr
inner_value n ts e rest h plain = bind_is _ _ (value_read n ts e rest h plain) refl

inner_test : (n : ℕ) (ts : Tokens) (p : Pred) (rest : Tokens) → expr_or_pred_over (expr_or_pred_at n) ts ≡ Some (Test p, rest) → inner_pred (expr_or_pred_at (suc n)) ts ≡ Some (p, rest)
unfolding inner_pred expr_or_pred_at
inner_test n ts p rest h = bind_is _ _ h refl

mutual
  unfolding primary_at access_at unary_at term_at expr_at product_from sum_from access_from step_at after_dot named called datetime_at after_bracket after_question sub_at subs_at test_from initial_at flags_at unknown_from after_group exists_at group_at delim_at neg_at test_at and_from conj_at or_from pred_from expr_or_pred_over expr_or_pred_at after_unary

  pub expr_full : {ts rest : Tokens} {e : Expr} → IsExpr ts e rest → EndsExpr rest → (n : ℕ) → length ts ≤ n → expr_at (expr_or_pred_at n) ts ≡ Some (e, rest)
  expr_full (g.sum {mid = mid} d q) ends n le =
      bind_is _ _ (term_full d (sum_ends q ends) n le) (sum_full q ends n (omega (arith, term_longer d)) (length mid) (omega arith))

  sum_full : {x : Expr} {ts rest : Tokens} {e : Expr} → IsSum x ts e rest → EndsExpr rest → (n : ℕ) → length ts ≤ n → (m : ℕ) → length ts ≤ m → sum_from (expr_or_pred_at n) m x ts ≡ Some (e, rest)
  sum_full g.sum_end ends n le zero lm = refl
  sum_full g.sum_end ends n le (suc m) lm = none_on _ _ _ ends.no_add refl
  sum_full (g.sum_more h d q) ends n le zero lm = absurd (omega arith)
  sum_full (g.sum_more h d q) ends n le (suc m) lm = some_on _ _ _ (bind_is _ _ h refl)
      (bind_is _ _ (term_full d (sum_ends q ends) n (omega arith)) (sum_full q ends n (omega (arith, term_longer d)) m (omega (arith, term_longer d))))

  term_full : {ts rest : Tokens} {e : Expr} → IsTerm ts e rest → EndsTerm rest → (n : ℕ) → length ts ≤ n → term_at (expr_or_pred_at n) ts ≡ Some (e, rest)
  term_full (g.product {mid = mid} d q) ends n le =
      bind_is _ _ (unary_full d (product_ends q ends) n le) (product_full q ends n (omega (arith, unary_longer d)) (length mid) (omega arith))

  product_full : {x : Expr} {ts rest : Tokens} {e : Expr} → IsProduct x ts e rest → EndsTerm rest → (n : ℕ) → length ts ≤ n → (m : ℕ) → length ts ≤ m → product_from (expr_or_pred_at n) m x ts ≡ Some (e, rest)
  product_full g.product_end ends n le zero lm = refl
  product_full g.product_end ends n le (suc m) lm = none_on _ _ _ ends.no_mul refl
  product_full (g.product_more h d q) ends n le zero lm = absurd (omega arith)
  product_full (g.product_more h d q) ends n le (suc m) lm = some_on _ _ _ (bind_is _ _ h refl)
      (bind_is _ _ (unary_full d (product_ends q ends) n (omega arith)) (product_full q ends n (omega (arith, unary_longer d)) m (omega (arith, unary_longer d))))

  unary_full : {ts rest : Tokens} {e : Expr} → IsUnary ts e rest → EndsUnary rest → (n : ℕ) → length ts ≤ n → unary_at (expr_or_pred_at n) ts ≡ Some (e, rest)
  unary_full (g.plus d) ends n le = bind_is _ _ (unary_full d ends n (omega arith)) refl
  unary_full (g.minus d) ends n le = bind_is _ _ (unary_full d ends n (omega arith)) refl
  unary_full (g.access (g.single {t = u} {rest = mid} {e = x} h) a) ends n le =
      unary_single (expr_or_pred_at n) u mid x h ∙ bind_is _ _ (single_is (expr_or_pred_at n) u mid x h) (access_full a ends n (omega arith) (length mid) (omega arith))
  unary_full (g.access (g.parens d) a) ends zero le = absurd (omega arith)
  unary_full (g.access (g.parens {ts = ts} {rest = mid} {e = x} d) a) ends (suc n) le =
      bind_is _ _ (bind_is _ _ (inner_value n ts x (k.Close ∷ mid) (neg_full_expr d (expr_close mid) n (omega arith)) (close_no_test mid)) refl)
      (access_full a ends (suc n) (omega (arith, expr_longer d)) (length mid) (omega arith))

  access_full : {x : Expr} {ts rest : Tokens} {e : Expr} → IsAccess x ts e rest → EndsUnary rest → (n : ℕ) → length ts ≤ n → (m : ℕ) → length ts ≤ m → access_from (expr_or_pred_at n) m x ts ≡ Some (e, rest)
  access_full g.access_end ends n le zero lm = refl
  access_full g.access_end ends n le (suc m) lm = cond_off _ _ _ ends.no_step refl
  access_full (g.access_more d q) ends n le zero lm = absurd (omega (arith, step_longer d))
  access_full (g.access_more d q) ends n le (suc m) lm = cond_on _ _ _ (step_begins d)
      (bind_is _ _ (step_full d n le) (access_full q ends n (omega (arith, step_longer d)) m (omega (arith, step_longer d))))

  step_full : {ts rest : Tokens} {s : Step} → IsStep ts s rest → (n : ℕ) → length ts ≤ n → step_at (expr_or_pred_at n) ts ≡ Some (s, rest)
  step_full (g.key {rest = rest} h) n le = none_on _ _ _ (no_open rest h) refl
  step_full g.quoted n le = refl
  step_full g.all_members n le = refl
  step_full (g.method {keyword = keyword} {s = s} {rest = rest} h) n le = called_is keyword s rest h
  step_full g.datetime n le = refl
  step_full g.datetime_by n le = refl
  step_full g.all_elements n le = refl
  step_full (g.elements d) zero le = absurd (omega arith)
  step_full (g.elements {ts = ts} {rest = rest} d) (suc n) le = none_on _ _ _ (subs_not_star d)
      (bind_is _ _ (subs_full d (sub_bracket rest) n (omega arith) (length ts) (omega arith)) refl)
  step_full (g.filter d) zero le = absurd (omega arith)
  step_full (g.filter {ts = ts} {rest = rest} {p = p} d) (suc n) le =
      bind_is _ _ (inner_test n ts p (k.Close ∷ rest) (pred_full d (pred_close rest) n (omega arith))) refl

  sub_full : {ts rest : Tokens} {s : Sub} → IsSub ts s rest → EndsOne rest → (n : ℕ) → length ts ≤ n → sub_at (expr_or_pred_at (suc n)) ts ≡ Some (s, rest)
  sub_full (g.one {ts = ts} {rest = rest} {e = e} d) ends n le =
      bind_is _ _ (inner_value n ts e rest (neg_full_expr d ends.ends n le) ends.no_test) (none_on _ _ _ ends.no_to refl)
  sub_full (g.range {text = text} {ts = ts} {mid = mid} {rest = rest} {a = a} {b = b} d q) ends n le =
      bind_is _ _ (inner_value n ts a (k.Word w.To text ∷ mid) (neg_full_expr d (expr_word w.To text mid) n le) (to_no_test text mid))
      (bind_is _ _ (inner_value n mid b rest (neg_full_expr q ends.ends n (omega (arith, expr_longer d))) ends.no_test) refl)

  subs_full : {ts rest : Tokens} {s : Subs} → IsSubs ts s rest → EndsSub rest → (n : ℕ) → length ts ≤ n → (m : ℕ) → length ts ≤ m → subs_at (expr_or_pred_at (suc n)) m ts ≡ Some (s, rest)
  subs_full (g.only d) ends n le zero lm = absurd (omega (arith, sub_longer d))
  subs_full (g.only d) ends n le (suc m) lm = bind_is _ _ (sub_full d ends.one n le) (none_on _ _ _ ends.no_comma refl)
  subs_full (g.more d q) ends n le zero lm = absurd (omega (arith, sub_longer d))
  subs_full (g.more {mid = mid} d q) ends n le (suc m) lm =
      bind_is _ _ (sub_full d (sub_comma mid) n le) (bind_is _ _ (subs_full q ends n (omega (arith, sub_longer d)) m (omega (arith, sub_longer d))) refl)

  -- an expression where a predicate may stand
  pub neg_full_expr : {ts rest : Tokens} {e : Expr} → IsExpr ts e rest → EndsExpr rest → (n : ℕ) → length ts ≤ n → neg_at (expr_or_pred_at n) ts ≡ test_from (expr_or_pred_at n) e rest
  neg_full_expr (g.sum {mid = mid} (g.product {mid = low} d p) s) ends n le =
      neg_full_unary d (product_ends p (sum_ends s ends)) n le
      ∙ bind_is _ _ (bind_is _ _ (product_full p (sum_ends s ends) n (omega (arith, unary_longer d)) (length low) (omega arith))
      (sum_full s ends n (omega (arith, term_longer (g.product d p))) (length mid) (omega arith))) refl

  neg_full_unary : {ts mid : Tokens} {x : Expr} → IsUnary ts x mid → EndsUnary mid → (n : ℕ) → length ts ≤ n → neg_at (expr_or_pred_at n) ts ≡ after_unary (expr_or_pred_at n) x mid
  neg_full_unary (g.plus {ts = ts} {rest = mid} {e = x} d) ends n le =
      tested_is (expr_or_pred_at n) (k.Plus ∷ ts) (t.Plus x) mid (bind_is _ _ (unary_full d ends n (omega arith)) refl)
  neg_full_unary (g.minus {ts = ts} {rest = mid} {e = x} d) ends n le =
      tested_is (expr_or_pred_at n) (k.Minus ∷ ts) (t.Minus x) mid (bind_is _ _ (unary_full d ends n (omega arith)) refl)
  neg_full_unary (g.access {rest = rest} {e = e} (g.single {t = u} {rest = mid} {e = x} h) a) ends n le =
      neg_single (expr_or_pred_at n) u mid x h ∙ tested_is (expr_or_pred_at n) (u ∷ mid) e rest
      (unary_single (expr_or_pred_at n) u mid x h ∙ bind_is _ _ (single_is (expr_or_pred_at n) u mid x h) (access_full a ends n (omega arith) (length mid) (omega arith)))
  neg_full_unary (g.access (g.parens d) a) ends zero le = absurd (omega arith)
  neg_full_unary (g.access {rest = rest} {e = e} (g.parens {ts = ts} {rest = mid} {e = x} d) a) ends (suc n) le =
      bind_is _ _ (value_read n ts x (k.Close ∷ mid) (neg_full_expr d (expr_close mid) n (omega arith)) (close_no_test mid))
      (grouped_is (expr_or_pred_at (suc n)) x mid e rest (access_full a ends (suc n) (omega (arith, expr_longer d)) (length mid) (omega arith)))

  pub pred_full : {ts rest : Tokens} {p : Pred} → IsPred ts p rest → EndsPred rest → (n : ℕ) → length ts ≤ n → expr_or_pred_over (expr_or_pred_at n) ts ≡ Some (Test p, rest)
  pred_full (g.either {mid = high} (g.both {mid = mid} d q) r) ends n le =
      bind_is _ _ (neg_full d (and_ends q (or_ends r ends)) n le)
      (bind_is _ _ (and_full q (or_ends r ends) n (omega (arith, neg_longer d)) (length mid) (omega arith))
      (bind_is _ _ (or_full r ends n (omega (arith, conj_longer (g.both d q))) (length high) (omega arith)) refl))

  or_full : {x : Pred} {ts rest : Tokens} {p : Pred} → IsOr x ts p rest → EndsPred rest → (n : ℕ) → length ts ≤ n → (m : ℕ) → length ts ≤ m → or_from (expr_or_pred_at n) m x ts ≡ Some (p, rest)
  or_full g.or_end ends n le zero lm = refl
  or_full g.or_end ends n le (suc m) lm = none_on _ _ _ ends.no_or refl
  or_full (g.or_more d q) ends n le zero lm = absurd (omega arith)
  or_full (g.or_more d q) ends n le (suc m) lm =
      bind_is _ _ (conj_full d (or_ends q ends) n (omega arith)) (or_full q ends n (omega (arith, conj_longer d)) m (omega (arith, conj_longer d)))

  conj_full : {ts rest : Tokens} {p : Pred} → IsConj ts p rest → EndsConj rest → (n : ℕ) → length ts ≤ n → conj_at (expr_or_pred_at n) ts ≡ Some (p, rest)
  conj_full (g.both {mid = mid} d q) ends n le =
      bind_is _ _ (bind_is _ _ (neg_full d (and_ends q ends) n le) refl) (and_full q ends n (omega (arith, neg_longer d)) (length mid) (omega arith))

  and_full : {x : Pred} {ts rest : Tokens} {p : Pred} → IsAnd x ts p rest → EndsConj rest → (n : ℕ) → length ts ≤ n → (m : ℕ) → length ts ≤ m → and_from (expr_or_pred_at n) m x ts ≡ Some (p, rest)
  and_full g.and_end ends n le zero lm = refl
  and_full g.and_end ends n le (suc m) lm = none_on _ _ _ ends.no_and refl
  and_full (g.and_more d q) ends n le zero lm = absurd (omega arith)
  and_full (g.and_more d q) ends n le (suc m) lm =
      bind_is _ _ (bind_is _ _ (neg_full d (and_ends q ends) n (omega arith)) refl) (and_full q ends n (omega (arith, neg_longer d)) m (omega (arith, neg_longer d)))

  neg_full : {ts rest : Tokens} {p : Pred} → IsNeg ts p rest → EndsNeg rest → (n : ℕ) → length ts ≤ n → neg_at (expr_or_pred_at n) ts ≡ Some (Test p, rest)
  neg_full (g.not d) ends n le = bind_is _ _ (delim_full d n (omega arith)) refl
  neg_full (g.prim (g.delim (g.group d))) ends zero le = absurd (omega arith)
  neg_full (g.prim (g.delim (g.group {rest = rest} d))) ends (suc n) le =
      bind_is _ _ (pred_full d (pred_close rest) n (omega arith)) (none_on _ _ _ ends.no_is refl)
  neg_full (g.prim (g.delim (g.exists d))) ends zero le = absurd (omega arith)
  neg_full (g.prim (g.delim (g.exists {ts = ts} {rest = rest} {e = e} d))) ends (suc n) le =
      bind_is _ _ (bind_is _ _ (inner_value n ts e (k.Close ∷ rest) (neg_full_expr d (expr_close rest) n (omega arith)) (close_no_test rest)) refl) refl
  neg_full (g.prim (g.unknown d)) ends zero le = absurd (omega arith)
  neg_full (g.prim (g.unknown {is = is} {unknown = unknown} {rest = rest} d)) ends (suc n) le =
      bind_is _ _ (pred_full d (pred_close (k.Word w.Is is ∷ k.Word w.Unknown unknown ∷ rest)) n (omega arith)) refl
  neg_full (g.prim (g.compare {op = op} {mid = mid} d q)) ends n le =
      neg_full_expr d (expr_compare op mid) n le ∙ bind_is _ _ (expr_full q ends.ends n (omega (arith, expr_longer d))) refl
  neg_full (g.prim (g.starts_text {starts = starts} {with = with} {text = text} {rest = rest} d)) ends n le =
      neg_full_expr d (expr_word w.Starts starts (k.Word w.With with ∷ k.Quoted text ∷ rest)) n le
  neg_full (g.prim (g.starts_variable {starts = starts} {with = with} {name = name} {rest = rest} d)) ends n le =
      neg_full_expr d (expr_word w.Starts starts (k.Word w.With with ∷ k.Variable name ∷ rest)) n le
  neg_full (g.prim (g.like {like = like} {pattern = pattern} {rest = rest} d)) ends n le =
      neg_full_expr d (expr_word w.LikeRegex like (k.Quoted pattern ∷ rest)) n le ∙ none_on _ _ _ ends.no_flag refl
  neg_full (g.prim (g.like_by {like = like} {flag = flag} {pattern = pattern} {flags = flags} {rest = rest} d)) ends n le =
      neg_full_expr d (expr_word w.LikeRegex like (k.Quoted pattern ∷ k.Word w.Flag flag ∷ k.Quoted flags ∷ rest)) n le

  delim_full : {ts rest : Tokens} {p : Pred} → IsDelim ts p rest → (n : ℕ) → length ts ≤ n → delim_at (expr_or_pred_at n) ts ≡ Some (p, rest)
  delim_full (g.group d) zero le = absurd (omega arith)
  delim_full (g.group {ts = ts} {rest = rest} {p = p} d) (suc n) le = bind_is _ _ (inner_test n ts p (k.Close ∷ rest) (pred_full d (pred_close rest) n (omega arith))) refl
  delim_full (g.exists d) zero le = absurd (omega arith)
  delim_full (g.exists {ts = ts} {rest = rest} {e = e} d) (suc n) le =
      bind_is _ _ (inner_value n ts e (k.Close ∷ rest) (neg_full_expr d (expr_close rest) n (omega arith)) (close_no_test rest)) refl
