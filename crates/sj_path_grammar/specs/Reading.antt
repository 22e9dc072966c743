-- Reading tokens from left to right, with no way back. `None` means that no tree begins there.
use Rattle.std.specs.Prelude.{ℕ, zero, suc, Bool, true, false, List, [], ◌∷◌, length, Option, Some, None, if◌then◌else◌}
use Rattle.sj_base.specs.Options.{◌>>=◌}
use Rattle.sj_path_token.specs.declared.token.Token.{Token}
use Rattle.sj_path_token.specs.declared.token.Token.TheVariants as k
use Rattle.sj_path_token.specs.declared.keyword.Keyword.{Keyword}
use Rattle.sj_path_token.specs.declared.keyword.Keyword.TheVariants as w
use Rattle.sj_path_tree.specs.declared.parts.Arith.{Arith}
use Rattle.sj_path_tree.specs.declared.parts.Initial.TheVariants as initial
use Rattle.sj_path_tree.specs.declared.parts.Mode.{Mode}
use Rattle.sj_path_tree.specs.declared.parts.Mode.TheVariants as mode
use Rattle.sj_path_tree.specs.Tree.{Path, Expr, Plus, Minus, Binary, Access, Step, Member, AllMembers, AllElements, Elements, Filter, Sub, One, Range, Subs, NoSubs, More, Pred, Compares, And, Or, Not, IsUnknown, Exists, StartsWith}
use Rattle.sj_path_grammar.specs.Signs.{add_sign, mul_sign, token_expr, method_of, stand_in}
use Rattle.sj_path_grammar.specs.Grammar.{Tokens}

-- what was read, and what follows it
abbrev pub Read : Type 0 → Type 0
Read A = Option (A × Tokens)

abbrev pub Parser : Type 0 → Type 0
Parser A = Tokens → Read A

-- goes on by f where there is something, and else by the second
abbrev pub on_some : {A B : Type 0} → Option A → B → (A → B) → B
on_some None y f = y
on_some (Some x) y f = f x

-- ---- single tokens

abbrev pub sign_at : (Token → Option Arith) → Tokens → Read Arith
sign_at f [] = None
sign_at f (t ∷ ts) = f t >>= λ op. Some (op, ts)

abbrev pub to_at : Tokens → Option Tokens
to_at [] = None
to_at (k.Word w.To text ∷ ts) = Some ts
to_at (_ ∷ ts) = None

abbrev pub is_at : Tokens → Option Tokens
is_at [] = None
is_at (k.Word w.Is text ∷ ts) = Some ts
is_at (_ ∷ ts) = None

abbrev pub unknown_at : Tokens → Option Tokens
unknown_at [] = None
unknown_at (k.Word w.Unknown text ∷ ts) = Some ts
unknown_at (_ ∷ ts) = None

abbrev pub with_at : Tokens → Option Tokens
with_at [] = None
with_at (k.Word w.With text ∷ ts) = Some ts
with_at (_ ∷ ts) = None

abbrev pub flag_at : Tokens → Option Tokens
flag_at [] = None
flag_at (k.Word w.Flag text ∷ ts) = Some ts
flag_at (_ ∷ ts) = None

abbrev pub lax_at : Tokens → Option Tokens
lax_at [] = None
lax_at (k.Word w.Lax text ∷ ts) = Some ts
lax_at (_ ∷ ts) = None

abbrev pub strict_at : Tokens → Option Tokens
strict_at [] = None
strict_at (k.Word w.Strict text ∷ ts) = Some ts
strict_at (_ ∷ ts) = None

abbrev pub open_at : Tokens → Option Tokens
open_at [] = None
open_at (k.Open ∷ ts) = Some ts
open_at (_ ∷ ts) = None

abbrev pub close_at : Tokens → Option Tokens
close_at [] = None
close_at (k.Close ∷ ts) = Some ts
close_at (_ ∷ ts) = None

abbrev pub bracket_at : Tokens → Option Tokens
bracket_at [] = None
bracket_at (k.CloseBracket ∷ ts) = Some ts
bracket_at (_ ∷ ts) = None

abbrev pub comma_at : Tokens → Option Tokens
comma_at [] = None
comma_at (k.Comma ∷ ts) = Some ts
comma_at (_ ∷ ts) = None

abbrev pub and_at : Tokens → Option Tokens
and_at [] = None
and_at (k.And ∷ ts) = Some ts
and_at (_ ∷ ts) = None

abbrev pub or_at : Tokens → Option Tokens
or_at [] = None
or_at (k.Or ∷ ts) = Some ts
or_at (_ ∷ ts) = None

abbrev pub quoted_at : Tokens → Read (List ℕ)
quoted_at [] = None
quoted_at (k.Quoted w ∷ ts) = Some (w, ts)
quoted_at (_ ∷ ts) = None

-- an accessor begins here
abbrev pub begins_step : Tokens → Bool
begins_step [] = false
begins_step (k.Dot ∷ ts) = true
begins_step (k.OpenBracket ∷ ts) = true
begins_step (k.Question ∷ ts) = true
begins_step (_ ∷ ts) = false

-- ---- accessors with no tree inside

-- behind `.datetime(`
unfoldable pub datetime_at : Parser Step
datetime_at ts = on_some (quoted_at ts)
    (close_at ts >>= λ rest. Some (stand_in, rest))
    (λ w. close_at w.1 >>= λ rest. Some (stand_in, rest))

-- behind a name and a parenthesis
unfoldable pub called : Keyword → Parser Step
called w.Datetime ts = datetime_at ts
called keyword ts = method_of keyword >>= λ s. close_at ts >>= λ rest. Some (s, rest)

-- behind a point and a name
unfoldable pub named : Keyword → List ℕ → Parser Step
named keyword text ts = on_some (open_at ts) (Some (Member text, ts)) (called keyword)

unfoldable pub after_dot : Parser Step
after_dot [] = None
after_dot (k.Star ∷ ts) = Some (AllMembers, ts)
after_dot (k.Quoted w ∷ ts) = Some (Member w, ts)
after_dot (k.Word keyword text ∷ ts) = named keyword text ts
after_dot (_ ∷ ts) = None

-- ---- everything that holds a tree inside, with inner to read that

-- An expression or a predicate: which of them it is shows at its end alone.
pub data ExprOrPred : Type 0 where
  Value : (e : Expr) → ExprOrPred
  Test : (p : Pred) → ExprOrPred

abbrev pub as_value : ExprOrPred → Tokens → Read Expr
as_value (Value e) ts = Some (e, ts)
as_value (Test p) ts = None

abbrev pub as_test : ExprOrPred → Tokens → Read Pred
as_test (Value e) ts = None
as_test (Test p) ts = Some (p, ts)

abbrev pub star_at : Tokens → Option Tokens
star_at [] = None
star_at (k.Star ∷ ts) = Some ts
star_at (_ ∷ ts) = None

unfoldable pub initial_at : Expr → Parser ExprOrPred
initial_at e [] = None
initial_at e (k.Quoted w ∷ ts) = Some (Test (StartsWith e (initial.Lit w)), ts)
initial_at e (k.Variable w ∷ ts) = Some (Test (StartsWith e (initial.Var w)), ts)
initial_at e (_ ∷ ts) = None

unfoldable pub flags_at : Expr → Parser ExprOrPred
flags_at e ts = on_some (flag_at ts) (Some (Test (Exists e), ts))
    (λ mid. quoted_at mid >>= λ f. Some (Test (Exists e), f.1))

-- behind a predicate in parentheses
unfoldable pub unknown_from : Pred → Parser ExprOrPred
unknown_from p ts = on_some (is_at ts) (Some (Test p, ts))
    (λ mid. unknown_at mid >>= λ rest. Some (Test (IsUnknown p), rest))

module _ (inner : Parser ExprOrPred) where
  unfoldable pub inner_expr : Parser Expr
  inner_expr ts = inner ts >>= λ x. as_value x.0 x.1

  unfoldable pub inner_pred : Parser Pred
  inner_pred ts = inner ts >>= λ x. as_test x.0 x.1

  unfoldable pub sub_at : Parser Sub
  sub_at ts = do
    a ← inner_expr ts
    on_some (to_at a.1) (Some (One a.0, a.1)) (λ mid. inner_expr mid >>= λ b. Some (Range a.0 b.0, b.1))

  -- The number bounds the turns.
  unfoldable pub subs_at : ℕ → Parser Subs
  subs_at zero ts = None
  subs_at (suc n) ts = do
    s ← sub_at ts
    on_some (comma_at s.1) (Some (More s.0 NoSubs, s.1)) (λ mid. subs_at n mid >>= λ others. Some (More s.0 others.0, others.1))

  unfoldable pub after_bracket : Parser Step
  after_bracket ts = on_some (star_at ts)
      (subs_at (length ts) ts >>= λ subs. bracket_at subs.1 >>= λ rest. Some (Elements subs.0, rest))
      (λ mid. bracket_at mid >>= λ rest. Some (AllElements, rest))

  unfoldable pub after_question : Parser Step
  after_question ts = do
    mid ← open_at ts
    p ← inner_pred mid
    rest ← close_at p.1
    Some (Filter p.0, rest)

  unfoldable pub step_at : Parser Step
  step_at [] = None
  step_at (k.Dot ∷ ts) = after_dot ts
  step_at (k.OpenBracket ∷ ts) = after_bracket ts
  step_at (k.Question ∷ ts) = after_question ts
  step_at (_ ∷ ts) = None

  unfoldable pub access_from : ℕ → Expr → Parser Expr
  access_from zero x ts = Some (x, ts)
  access_from (suc n) x ts =
      if begins_step ts then (step_at ts >>= λ s. access_from n (Access x s.0) s.1)
      else Some (x, ts)

  unfoldable pub primary_at : Parser Expr
  primary_at [] = None
  primary_at (k.Open ∷ ts) = do
    e ← inner_expr ts
    rest ← close_at e.1
    Some (e.0, rest)
  primary_at (t ∷ ts) = token_expr t >>= λ e. Some (e, ts)

  unfoldable pub access_at : Parser Expr
  access_at ts = primary_at ts >>= λ x. access_from (length x.1) x.0 x.1

  unfoldable pub unary_at : Parser Expr
  unary_at [] = None
  unary_at (k.Plus ∷ ts) = unary_at ts >>= λ e. Some (Plus e.0, e.1)
  unary_at (k.Minus ∷ ts) = unary_at ts >>= λ e. Some (Minus e.0, e.1)
  unary_at (t ∷ ts) = access_at (t ∷ ts)

  unfoldable pub product_from : ℕ → Expr → Parser Expr
  product_from zero x ts = Some (x, ts)
  product_from (suc n) x ts =
      on_some (sign_at mul_sign ts) (Some (x, ts)) (λ s. unary_at s.1 >>= λ y. product_from n (Binary s.0 x y.0) y.1)

  unfoldable pub term_at : Parser Expr
  term_at ts = unary_at ts >>= λ x. product_from (length x.1) x.0 x.1

  unfoldable pub sum_from : ℕ → Expr → Parser Expr
  sum_from zero x ts = Some (x, ts)
  sum_from (suc n) x ts =
      on_some (sign_at add_sign ts) (Some (x, ts)) (λ s. term_at s.1 >>= λ y. sum_from n (Binary s.0 x y.0) y.1)

  unfoldable pub expr_at : Parser Expr
  expr_at ts = term_at ts >>= λ x. sum_from (length x.1) x.0 x.1

  -- the rest of an expression that begins with x
  unfoldable pub expr_from : Expr → Parser Expr
  expr_from x ts = do
    a ← access_from (length ts) x ts
    b ← product_from (length a.1) a.0 a.1
    sum_from (length b.1) b.0 b.1

  -- what stands behind an expression
  unfoldable pub test_from : Expr → Parser ExprOrPred
  test_from e [] = Some (Value e, [])
  test_from e (k.Compare op ∷ ts) = expr_at ts >>= λ b. Some (Test (Compares op e b.0), b.1)
  test_from e (k.Word w.Starts text ∷ ts) = with_at ts >>= initial_at e
  test_from e (k.Word w.LikeRegex text ∷ ts) = quoted_at ts >>= λ p. flags_at e p.1
  test_from e (t ∷ ts) = Some (Value e, t ∷ ts)

  unfoldable pub tested : Parser ExprOrPred
  tested ts = expr_at ts >>= λ e. test_from e.0 e.1

  -- what stands behind a parenthesis that was closed
  unfoldable pub after_group : ExprOrPred → Parser ExprOrPred
  after_group (Value e) ts = expr_from e ts >>= λ x. test_from x.0 x.1
  after_group (Test p) ts = unknown_from p ts

  unfoldable pub exists_at : Parser Pred
  exists_at ts = do
    mid ← open_at ts
    e ← inner_expr mid
    rest ← close_at e.1
    Some (Exists e.0, rest)

  unfoldable pub group_at : Parser Pred
  group_at ts = do
    p ← inner_pred ts
    rest ← close_at p.1
    Some (p.0, rest)

  unfoldable pub delim_at : Parser Pred
  delim_at [] = None
  delim_at (k.Open ∷ ts) = group_at ts
  delim_at (k.Word w.Exists text ∷ ts) = exists_at ts
  delim_at (_ ∷ ts) = None

  -- a predicate with no && and no ||, or an expression
  unfoldable pub neg_at : Parser ExprOrPred
  neg_at [] = None
  neg_at (k.Not ∷ ts) = delim_at ts >>= λ p. Some (Test (Not p.0), p.1)
  neg_at (k.Open ∷ ts) = do
    x ← inner ts
    rest ← close_at x.1
    after_group x.0 rest
  neg_at (k.Word w.Exists text ∷ ts) = exists_at ts >>= λ p. Some (Test p.0, p.1)
  neg_at (t ∷ ts) = tested (t ∷ ts)

  unfoldable pub test_at : Parser Pred
  test_at ts = neg_at ts >>= λ x. as_test x.0 x.1

  unfoldable pub and_from : ℕ → Pred → Parser Pred
  and_from zero p ts = Some (p, ts)
  and_from (suc n) p ts = on_some (and_at ts) (Some (p, ts)) (λ mid. test_at mid >>= λ q. and_from n (And p q.0) q.1)

  unfoldable pub conj_at : Parser Pred
  conj_at ts = test_at ts >>= λ p. and_from (length p.1) p.0 p.1

  unfoldable pub or_from : ℕ → Pred → Parser Pred
  or_from zero p ts = Some (p, ts)
  or_from (suc n) p ts = on_some (or_at ts) (Some (p, ts)) (λ mid. conj_at mid >>= λ q. or_from n (Or p q.0) q.1)

  unfoldable pub pred_from : ExprOrPred → Parser ExprOrPred
  pred_from (Value e) ts = Some (Value e, ts)
  pred_from (Test p) ts = do
    c ← and_from (length ts) p ts
    d ← or_from (length c.1) c.0 c.1
    Some (Test d.0, d.1)

  unfoldable pub expr_or_pred_over : Parser ExprOrPred
  expr_or_pred_over ts = neg_at ts >>= λ x. pred_from x.0 x.1

-- with parentheses and brackets inside one another at most this deep
unfoldable pub expr_or_pred_at : ℕ → Parser ExprOrPred
expr_or_pred_at zero ts = None
expr_or_pred_at (suc n) ts = expr_or_pred_over (expr_or_pred_at n) ts

-- all of the tokens
abbrev pub ended : Expr → Tokens → Option Expr
ended e [] = Some e
ended e (t ∷ ts) = None

unfoldable pub whole_at : Tokens → Option Expr
whole_at ts = inner_expr (expr_or_pred_at (suc (length ts))) ts >>= λ e. ended e.0 e.1

abbrev pub with_mode : Mode → Expr → Path
with_mode m e = record { mode = m; expr = e }

abbrev pub in_mode : Mode → Tokens → Option Path
in_mode m ts = whole_at ts >>= λ e. Some (with_mode m e)

unfoldable pub path_at : Tokens → Option Path
path_at ts = on_some (lax_at ts)
    (on_some (strict_at ts) (in_mode mode.Lax ts) (in_mode mode.Strict))
    (in_mode mode.Lax)
