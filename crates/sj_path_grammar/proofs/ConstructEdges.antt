-- Where a construct of the grammar cannot go on, and how it begins.
use Rattle.std.proofs.Common.{◌≡◌, ℕ, true, false, List, [], ◌∷◌, Option, Some, None, refl, ap}
use Rattle.sj_base.specs.Options.{◌>>=◌}
use Rattle.sj_path_token.specs.declared.token.Token.{Token}
use Rattle.sj_path_token.specs.declared.token.Token.TheVariants as k
use Rattle.sj_path_token.specs.declared.keyword.Keyword.{Keyword}
use Rattle.sj_path_token.specs.declared.keyword.Keyword.TheVariants as w
use Rattle.sj_decimal.specs.declared.comparing.Compare.{Compare}
use Rattle.sj_path_tree.specs.declared.parts.Arith.{Arith}
use Rattle.sj_path_tree.specs.Tree.{Expr, Step, Sub, Subs, Pred}
use Rattle.sj_path_grammar.specs.Signs.{add_sign, mul_sign, token_expr, method_of}
use Rattle.sj_path_grammar.specs.Grammar as g
use Rattle.sj_path_grammar.specs.Grammar.{Tokens, NotOpen, IsExpr, IsSum, IsTerm, IsProduct, IsUnary, IsAccess, IsPrimary, IsStep, IsSub, IsSubs, IsPred, IsOr, IsConj, IsAnd, IsNeg, IsDelim, IsPrim}
use Rattle.sj_path_grammar.specs.Reading.{Parser, Read, ExprOrPred, Value, begins_step, sign_at, to_at, is_at, flag_at, close_at, called, open_at, star_at, comma_at, and_at, or_at, test_from}

pub record EndsUnary (rest : Tokens) : Type 0 where
  pub no_step : begins_step rest ≡ false

pub record EndsTerm (rest : Tokens) : Type 0 where
  pub no_step : begins_step rest ≡ false
  pub no_mul : sign_at mul_sign rest ≡ None

pub record EndsExpr (rest : Tokens) : Type 0 where
  pub no_step : begins_step rest ≡ false
  pub no_mul : sign_at mul_sign rest ≡ None
  pub no_add : sign_at add_sign rest ≡ None

-- an expression that ends here is no part of a predicate
abbrev pub NoTest : Tokens → Type 0
NoTest rest = (inner : Parser ExprOrPred) (e : Expr) → test_from inner e rest ≡ Some (Value e, rest)

pub record EndsOne (rest : Tokens) : Type 0 where
  pub ends : EndsExpr rest
  pub no_test : NoTest rest
  pub no_to : to_at rest ≡ None

pub record EndsSub (rest : Tokens) : Type 0 where
  pub one : EndsOne rest
  pub no_comma : comma_at rest ≡ None

pub record EndsNeg (rest : Tokens) : Type 0 where
  pub ends : EndsExpr rest
  pub no_is : is_at rest ≡ None
  pub no_flag : flag_at rest ≡ None

pub record EndsConj (rest : Tokens) : Type 0 where
  pub neg : EndsNeg rest
  pub no_and : and_at rest ≡ None

pub record EndsPred (rest : Tokens) : Type 0 where
  pub conj : EndsConj rest
  pub no_or : or_at rest ≡ None

-- ---- at single tokens

pub expr_close : (ts : Tokens) → EndsExpr (k.Close ∷ ts)
expr_close ts = record { no_step = refl; no_mul = refl; no_add = refl }

pub expr_compare : (op : Compare) (ts : Tokens) → EndsExpr (k.Compare op ∷ ts)
expr_compare op ts = record { no_step = refl; no_mul = refl; no_add = refl }

pub expr_word : (keyword : Keyword) (text : List ℕ) (ts : Tokens) → EndsExpr (k.Word keyword text ∷ ts)
expr_word keyword text ts = record { no_step = refl; no_mul = refl; no_add = refl }

pub close_no_test : (ts : Tokens) → NoTest (k.Close ∷ ts)
unfolding test_from
close_no_test ts inner e = refl

pub to_no_test : (text : List ℕ) (ts : Tokens) → NoTest (k.Word w.To text ∷ ts)
unfolding test_from
to_no_test text ts inner e = refl

pub empty_no_test : NoTest []
unfolding test_from
empty_no_test inner e = refl

pub expr_empty : EndsExpr []
expr_empty = record { no_step = refl; no_mul = refl; no_add = refl }

pub sub_comma : (ts : Tokens) → EndsOne (k.Comma ∷ ts)
unfolding test_from
sub_comma ts = record { ends = record { no_step = refl; no_mul = refl; no_add = refl }; no_test = λ inner e. refl; no_to = refl }

pub sub_bracket : (ts : Tokens) → EndsSub (k.CloseBracket ∷ ts)
unfolding test_from
sub_bracket ts = record { one = record { ends = record { no_step = refl; no_mul = refl; no_add = refl }; no_test = λ inner e. refl; no_to = refl }; no_comma = refl }

neg_close : (ts : Tokens) → EndsNeg (k.Close ∷ ts)
neg_close ts = record { ends = expr_close ts; no_is = refl; no_flag = refl }

pub pred_close : (ts : Tokens) → EndsPred (k.Close ∷ ts)
pred_close ts = record { conj = record { neg = neg_close ts; no_and = refl }; no_or = refl }

-- ---- before an operator

add_ends : (t : Token) (op : Arith) (ts : Tokens) → add_sign t ≡ Some op → EndsTerm (t ∷ ts)
add_ends k.Plus op ts h = record { no_step = refl; no_mul = refl }
add_ends k.Minus op ts h = record { no_step = refl; no_mul = refl }
add_ends _ op ts h = absurd cc

mul_ends : (t : Token) (op : Arith) (ts : Tokens) → mul_sign t ≡ Some op → EndsUnary (t ∷ ts)
mul_ends k.Star op ts h = record { no_step = refl }
mul_ends k.Slash op ts h = record { no_step = refl }
mul_ends k.Percent op ts h = record { no_step = refl }
mul_ends _ op ts h = absurd cc

pub sum_ends : {x e : Expr} {ts rest : Tokens} → IsSum x ts e rest → EndsExpr rest → EndsTerm ts
sum_ends g.sum_end ends = record { no_step = ends.no_step; no_mul = ends.no_mul }
sum_ends (g.sum_more {t = t} {op = op} {ts = ts} h d q) ends = add_ends t op ts h

pub product_ends : {x e : Expr} {ts rest : Tokens} → IsProduct x ts e rest → EndsTerm rest → EndsUnary ts
product_ends g.product_end ends = record { no_step = ends.no_step }
product_ends (g.product_more {t = t} {op = op} {ts = ts} h d q) ends = mul_ends t op ts h

pub or_ends : {x p : Pred} {ts rest : Tokens} → IsOr x ts p rest → EndsPred rest → EndsConj ts
or_ends g.or_end ends = ends.conj
or_ends (g.or_more d q) ends = record { neg = record { ends = record { no_step = refl; no_mul = refl; no_add = refl }; no_is = refl; no_flag = refl }; no_and = refl }

pub and_ends : {x p : Pred} {ts rest : Tokens} → IsAnd x ts p rest → EndsConj rest → EndsNeg ts
and_ends g.and_end ends = ends.neg
and_ends (g.and_more d q) ends = record { ends = record { no_step = refl; no_mul = refl; no_add = refl }; no_is = refl; no_flag = refl }

-- ---- how a construct begins

pub step_begins : {ts rest : Tokens} {s : Step} → IsStep ts s rest → begins_step ts ≡ true
step_begins (g.key h) = refl
step_begins g.quoted = refl
step_begins g.all_members = refl
step_begins (g.method h) = refl
step_begins g.datetime = refl
step_begins g.datetime_by = refl
step_begins g.all_elements = refl
step_begins (g.elements d) = refl
step_begins (g.filter d) = refl

single_not_star : (t : Token) (e : Expr) (ts : Tokens) → token_expr t ≡ Some e → star_at (t ∷ ts) ≡ None
single_not_star k.Star e ts h = absurd cc
single_not_star _ e ts h = refl

pub expr_not_star : {ts rest : Tokens} {e : Expr} → IsExpr ts e rest → star_at ts ≡ None
expr_not_star (g.sum (g.product (g.plus d) q) r) = refl
expr_not_star (g.sum (g.product (g.minus d) q) r) = refl
expr_not_star (g.sum (g.product (g.access (g.parens d) a) q) r) = refl
expr_not_star (g.sum (g.product (g.access (g.single {t = t} {rest = rest} {e = e} h) a) q) r) = single_not_star t e rest h

sub_not_star : {ts rest : Tokens} {s : Sub} → IsSub ts s rest → star_at ts ≡ None
sub_not_star (g.one d) = expr_not_star d
sub_not_star (g.range d q) = expr_not_star d

pub subs_not_star : {ts rest : Tokens} {s : Subs} → IsSubs ts s rest → star_at ts ≡ None
subs_not_star (g.only d) = sub_not_star d
subs_not_star (g.more d q) = sub_not_star d

pub no_open : (ts : Tokens) → NotOpen ts → open_at ts ≡ None
no_open [] h = refl
no_open (k.Open ∷ ts) h = absurd h
no_open (_ ∷ ts) h = refl

abbrev closing : Tokens → Step → Read Step
closing ts s = close_at ts >>= λ rest. Some (s, rest)

closed : (o : Option Step) (s : Step) (rest : Tokens) → o ≡ Some s → (o >>= closing (k.Close ∷ rest)) ≡ Some (s, rest)
closed o s rest h = ap (λ (o : Option Step). o >>= closing (k.Close ∷ rest)) h

-- a method without an argument is read by its keyword
pub called_is : (keyword : Keyword) (s : Step) (rest : Tokens) → method_of keyword ≡ Some s → called keyword (k.Close ∷ rest) ≡ Some (s, rest)
unfolding called
called_is w.Datetime s rest h = absurd cc
called_is keyword s rest h = closed (method_of keyword) s rest h
