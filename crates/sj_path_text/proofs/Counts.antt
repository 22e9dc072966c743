-- Each text of a tree has as many tokens of those that are counted.
use Rattle.std.proofs.Common.{◌≡◌, ℕ, ◌+◌, Bool, true, false, cond, [], ◌∷◌, Option, None, Some, count_by, refl, sym, ap, ◌∙◌, arith}
use Rattle.std.proofs.lemmas.List.Recursion.{is_count_by}
use Rattle.sj_path_token.specs.declared.keyword.Keyword.{Keyword}
use Rattle.sj_path_token.specs.declared.keyword.Keyword.TheVariants as w
use Rattle.sj_path_token.specs.declared.token.Token.{Token}
use Rattle.sj_path_token.specs.declared.token.Token.TheVariants as k
use Rattle.sj_path_tree.specs.declared.parts.Arith.{Arith}
use Rattle.sj_path_tree.specs.Tree.{Path, Expr, Plus, Minus, Binary, Access, Step, Member, AllMembers, AllElements, Elements, Filter, Call, Sub, One, Range, Subs, NoSubs, More, Pred, Compares, And, Or, Not, IsUnknown, Exists, StartsWith}
use Rattle.sj_path_grammar.specs.Signs.{add_sign, mul_sign, word_expr, token_expr}
use Rattle.sj_path_grammar.specs.Grammar as g
use Rattle.sj_path_grammar.specs.Grammar.{Tokens, IsExpr, IsSum, IsTerm, IsProduct, IsUnary, IsAccess, IsPrimary, IsStep, IsSub, IsSubs, IsPred, IsOr, IsConj, IsAnd, IsNeg, IsDelim, IsPrim, IsPath}
use Rattle.sj_path_grammar.specs.Depth.{is_counted}
use Rattle.sj_path_text.proofs.Methods.{of_methods}

-- how many pass, counted from the last
abbrev pub tally : (Token → Bool) → Tokens → ℕ
tally p [] = 0
tally p (u ∷ ts) = cond (p u) (1 + tally p ts) (tally p ts)

pub tally_is : (p : Token → Bool) (ts : Tokens) → tally p ts ≡ count_by p ts
tally_is p ts = is_count_by (tally p) p refl (λ _ _. refl) ts

abbrev counted : Tokens → ℕ
counted ts = tally is_counted ts

-- ---- how many a tree has

abbrev mutual
  expr_weight : Expr → ℕ
  expr_weight (Access e s) = expr_weight e + step_weight s
  expr_weight (Plus e) = 1 + expr_weight e
  expr_weight (Minus e) = 1 + expr_weight e
  expr_weight (Binary op a b) = expr_weight a + (1 + expr_weight b)
  expr_weight _ = 0

  step_weight : Step → ℕ
  step_weight (Member key) = 1
  step_weight AllMembers = 2
  step_weight AllElements = 2
  step_weight (Elements subs) = 1 + subs_weight subs
  step_weight (Filter p) = 1 + pred_weight p
  step_weight (Call method) = 1

  sub_weight : Sub → ℕ
  sub_weight (One e) = expr_weight e
  sub_weight (Range a b) = expr_weight a + expr_weight b

  -- the first has no comma before it
  subs_weight : Subs → ℕ
  subs_weight NoSubs = 0
  subs_weight (More s others) = sub_weight s + others_weight others

  others_weight : Subs → ℕ
  others_weight NoSubs = 0
  others_weight (More s others) = 1 + sub_weight s + others_weight others

  pred_weight : Pred → ℕ
  pred_weight (Compares op a b) = expr_weight a + expr_weight b
  pred_weight (And p q) = pred_weight p + (1 + pred_weight q)
  pred_weight (Or p q) = pred_weight p + (1 + pred_weight q)
  pred_weight (Not p) = 1 + pred_weight p
  pred_weight (IsUnknown p) = pred_weight p
  pred_weight (Exists e) = expr_weight e
  pred_weight (StartsWith e initial) = expr_weight e

-- ---- tokens that are chosen from a table

add_weighs : (u : Token) (op : Arith) → add_sign u ≡ Some op → is_counted u ≡ true
add_weighs k.Plus op is = refl
add_weighs k.Minus op is = refl
add_weighs _ op is = absurd cc

mul_weighs : (u : Token) (op : Arith) → mul_sign u ≡ Some op → is_counted u ≡ true
mul_weighs k.Star op is = refl
mul_weighs k.Slash op is = refl
mul_weighs k.Percent op is = refl
mul_weighs _ op is = absurd cc

counts_one : (u : Token) (ts : Tokens) → is_counted u ≡ true → counted (u ∷ ts) ≡ 1 + counted ts
counts_one u ts h = ap (λ (b : Bool). cond b (1 + counted ts) (counted ts)) h

counts_none : (u : Token) (ts : Tokens) → is_counted u ≡ false → counted (u ∷ ts) ≡ counted ts
counts_none u ts h = ap (λ (b : Bool). cond b (1 + counted ts) (counted ts)) h

abbrev weight_in : Option Expr → ℕ
weight_in None = 0
weight_in (Some e) = expr_weight e

word_weighs : (keyword : Keyword) → weight_in (word_expr keyword) ≡ 0
word_weighs w.Last = refl
word_weighs w.True = refl
word_weighs w.False = refl
word_weighs w.Null = refl
word_weighs _ = refl

token_weighs : (u : Token) → weight_in (token_expr u) ≡ 0
token_weighs (k.Word keyword text) = word_weighs keyword
token_weighs _ = refl

uncounted : (u : Token) (e : Expr) → token_expr u ≡ Some e → is_counted u ≡ false
uncounted k.Root e is = refl
uncounted (k.Variable name) e is = refl
uncounted k.At e is = refl
uncounted (k.Quoted s) e is = refl
uncounted (k.Number d) e is = refl
uncounted (k.Word keyword text) e is = refl
uncounted _ e is = absurd cc

single_counts : (u : Token) (e : Expr) (rest : Tokens) → token_expr u ≡ Some e → counted (u ∷ rest) ≡ expr_weight e + counted rest
single_counts u e rest is = let n = counts_none u rest (uncounted u e is) in let m = sym (ap weight_in is) ∙ token_weighs u in omega (arith, n, m)

-- the parts behind a comma have one comma more than by themselves
behind_comma : {ts rest : Tokens} {subs : Subs} → IsSubs ts subs rest → others_weight subs ≡ 1 + subs_weight subs
behind_comma (g.only d) = omega arith
behind_comma (g.more d q) = omega arith

-- ---- all texts of a tree

mutual
  expr_counts : {ts rest : Tokens} {e : Expr} → IsExpr ts e rest → counted ts ≡ expr_weight e + counted rest
  expr_counts (g.sum d s) = term_counts d ∙ sum_counts s

  sum_counts : {x e : Expr} {ts rest : Tokens} → IsSum x ts e rest → expr_weight x + counted ts ≡ expr_weight e + counted rest
  sum_counts g.sum_end = refl
  sum_counts (g.sum_more {t = u} {op = op} {ts = ts} is d s) = omega (arith, counts_one u ts (add_weighs u op is), term_counts d, sum_counts s)

  term_counts : {ts rest : Tokens} {e : Expr} → IsTerm ts e rest → counted ts ≡ expr_weight e + counted rest
  term_counts (g.product d s) = unary_counts d ∙ product_counts s

  product_counts : {x e : Expr} {ts rest : Tokens} → IsProduct x ts e rest → expr_weight x + counted ts ≡ expr_weight e + counted rest
  product_counts g.product_end = refl
  product_counts (g.product_more {t = u} {op = op} {ts = ts} is d s) = omega (arith, counts_one u ts (mul_weighs u op is), unary_counts d, product_counts s)

  unary_counts : {ts rest : Tokens} {e : Expr} → IsUnary ts e rest → counted ts ≡ expr_weight e + counted rest
  unary_counts (g.plus d) = omega (arith, unary_counts d)
  unary_counts (g.minus d) = omega (arith, unary_counts d)
  unary_counts (g.access d a) = primary_counts d ∙ access_counts a

  access_counts : {x e : Expr} {ts rest : Tokens} → IsAccess x ts e rest → expr_weight x + counted ts ≡ expr_weight e + counted rest
  access_counts g.access_end = refl
  access_counts (g.access_more d a) = omega (arith, step_counts d, access_counts a)

  primary_counts : {ts rest : Tokens} {e : Expr} → IsPrimary ts e rest → counted ts ≡ expr_weight e + counted rest
  primary_counts (g.single {t = u} {rest = rest} {e = e} is) = single_counts u e rest is
  primary_counts (g.parens d) = omega (arith, expr_counts d)

  step_counts : {ts rest : Tokens} {s : Step} → IsStep ts s rest → counted ts ≡ step_weight s + counted rest
  step_counts (g.key shut) = omega arith
  step_counts g.quoted = omega arith
  step_counts g.all_members = omega arith
  step_counts (g.method {keyword = keyword} {s = s} is) = omega (arith, of_methods (λ x. step_weight x ≡ 1) (λ _. refl) keyword s is)
  step_counts g.datetime = omega arith
  step_counts g.datetime_by = omega arith
  step_counts g.all_elements = omega arith
  step_counts (g.elements d) = omega (arith, subs_counts d)
  step_counts (g.filter d) = omega (arith, pred_counts d)

  sub_counts : {ts rest : Tokens} {s : Sub} → IsSub ts s rest → counted ts ≡ sub_weight s + counted rest
  sub_counts (g.one d) = omega (arith, expr_counts d)
  sub_counts (g.range d q) = omega (arith, expr_counts d, expr_counts q)

  subs_counts : {ts rest : Tokens} {s : Subs} → IsSubs ts s rest → counted ts ≡ subs_weight s + counted rest
  subs_counts (g.only d) = omega (arith, sub_counts d)
  subs_counts (g.more d q) = omega (arith, sub_counts d, subs_counts q, behind_comma q)

  pred_counts : {ts rest : Tokens} {p : Pred} → IsPred ts p rest → counted ts ≡ pred_weight p + counted rest
  pred_counts (g.either d o) = conj_counts d ∙ or_counts o

  or_counts : {x p : Pred} {ts rest : Tokens} → IsOr x ts p rest → pred_weight x + counted ts ≡ pred_weight p + counted rest
  or_counts g.or_end = refl
  or_counts (g.or_more d o) = omega (arith, conj_counts d, or_counts o)

  conj_counts : {ts rest : Tokens} {p : Pred} → IsConj ts p rest → counted ts ≡ pred_weight p + counted rest
  conj_counts (g.both d a) = neg_counts d ∙ and_counts a

  and_counts : {x p : Pred} {ts rest : Tokens} → IsAnd x ts p rest → pred_weight x + counted ts ≡ pred_weight p + counted rest
  and_counts g.and_end = refl
  and_counts (g.and_more d a) = omega (arith, neg_counts d, and_counts a)

  neg_counts : {ts rest : Tokens} {p : Pred} → IsNeg ts p rest → counted ts ≡ pred_weight p + counted rest
  neg_counts (g.not d) = omega (arith, delim_counts d)
  neg_counts (g.prim d) = prim_counts d

  delim_counts : {ts rest : Tokens} {p : Pred} → IsDelim ts p rest → counted ts ≡ pred_weight p + counted rest
  delim_counts (g.group d) = omega (arith, pred_counts d)
  delim_counts (g.exists d) = omega (arith, expr_counts d)

  prim_counts : {ts rest : Tokens} {p : Pred} → IsPrim ts p rest → counted ts ≡ pred_weight p + counted rest
  prim_counts (g.delim d) = delim_counts d
  prim_counts (g.unknown d) = omega (arith, pred_counts d)
  prim_counts (g.compare d q) = omega (arith, expr_counts d, expr_counts q)
  prim_counts (g.starts_text d) = omega (arith, expr_counts d)
  prim_counts (g.starts_variable d) = omega (arith, expr_counts d)
  prim_counts (g.like d) = omega (arith, expr_counts d)
  prim_counts (g.like_by d) = omega (arith, expr_counts d)

path_counts : {ts : Tokens} {p : Path} → IsPath ts p → counted ts ≡ expr_weight p.expr
path_counts (g.plain d) = omega (arith, expr_counts d)
path_counts (g.lax d) = omega (arith, expr_counts d)
path_counts (g.strict d) = omega (arith, expr_counts d)

pub same_count : {ts us : Tokens} {p : Path} → IsPath ts p → IsPath us p → count_by is_counted ts ≡ count_by is_counted us
same_count {ts} {us} d q = sym (tally_is is_counted ts) ∙ path_counts d ∙ sym (path_counts q) ∙ tally_is is_counted us
