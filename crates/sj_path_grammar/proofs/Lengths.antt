-- Each spelling takes at least one token.
use Rattle.std.proofs.Common.{◌<◌, ◌≤◌, length, arith}
use Rattle.sj_path_tree.specs.Tree.{Expr, Step, Sub, Subs, Pred}
use Rattle.sj_path_grammar.specs.Grammar as g
use Rattle.sj_path_grammar.specs.Grammar.{Tokens, IsExpr, IsSum, IsTerm, IsProduct, IsUnary, IsAccess, IsPrimary, IsStep, IsSub, IsSubs, IsPred, IsOr, IsConj, IsAnd, IsNeg, IsDelim, IsPrim}

mutual
  pub expr_longer : {ts rest : Tokens} {e : Expr} → IsExpr ts e rest → length rest < length ts
  expr_longer (g.sum d q) = omega (arith, term_longer d, sum_longer q)

  pub sum_longer : {x : Expr} {ts rest : Tokens} {e : Expr} → IsSum x ts e rest → length rest ≤ length ts
  sum_longer g.sum_end = omega arith
  sum_longer (g.sum_more h d q) = omega (arith, term_longer d, sum_longer q)

  pub term_longer : {ts rest : Tokens} {e : Expr} → IsTerm ts e rest → length rest < length ts
  term_longer (g.product d q) = omega (arith, unary_longer d, product_longer q)

  pub product_longer : {x : Expr} {ts rest : Tokens} {e : Expr} → IsProduct x ts e rest → length rest ≤ length ts
  product_longer g.product_end = omega arith
  product_longer (g.product_more h d q) = omega (arith, unary_longer d, product_longer q)

  pub unary_longer : {ts rest : Tokens} {e : Expr} → IsUnary ts e rest → length rest < length ts
  unary_longer (g.plus d) = omega (arith, unary_longer d)
  unary_longer (g.minus d) = omega (arith, unary_longer d)
  unary_longer (g.access d q) = omega (arith, primary_longer d, access_longer q)

  pub access_longer : {x : Expr} {ts rest : Tokens} {e : Expr} → IsAccess x ts e rest → length rest ≤ length ts
  access_longer g.access_end = omega arith
  access_longer (g.access_more d q) = omega (arith, step_longer d, access_longer q)

  pub primary_longer : {ts rest : Tokens} {e : Expr} → IsPrimary ts e rest → length rest < length ts
  primary_longer (g.single h) = omega arith
  primary_longer (g.parens d) = omega (arith, expr_longer d)

  pub step_longer : {ts rest : Tokens} {s : Step} → IsStep ts s rest → length rest < length ts
  step_longer (g.key h) = omega arith
  step_longer g.quoted = omega arith
  step_longer g.all_members = omega arith
  step_longer (g.method h) = omega arith
  step_longer g.datetime = omega arith
  step_longer g.datetime_by = omega arith
  step_longer g.all_elements = omega arith
  step_longer (g.elements d) = omega (arith, subs_longer d)
  step_longer (g.filter d) = omega (arith, pred_longer d)

  pub sub_longer : {ts rest : Tokens} {s : Sub} → IsSub ts s rest → length rest < length ts
  sub_longer (g.one d) = omega (arith, expr_longer d)
  sub_longer (g.range d q) = omega (arith, expr_longer d, expr_longer q)

  pub subs_longer : {ts rest : Tokens} {s : Subs} → IsSubs ts s rest → length rest < length ts
  subs_longer (g.only d) = omega (arith, sub_longer d)
  subs_longer (g.more d q) = omega (arith, sub_longer d, subs_longer q)

  pub pred_longer : {ts rest : Tokens} {p : Pred} → IsPred ts p rest → length rest < length ts
  pred_longer (g.either d q) = omega (arith, conj_longer d, or_longer q)

  pub or_longer : {x : Pred} {ts rest : Tokens} {p : Pred} → IsOr x ts p rest → length rest ≤ length ts
  or_longer g.or_end = omega arith
  or_longer (g.or_more d q) = omega (arith, conj_longer d, or_longer q)

  pub conj_longer : {ts rest : Tokens} {p : Pred} → IsConj ts p rest → length rest < length ts
  conj_longer (g.both d q) = omega (arith, neg_longer d, and_longer q)

  pub and_longer : {x : Pred} {ts rest : Tokens} {p : Pred} → IsAnd x ts p rest → length rest ≤ length ts
  and_longer g.and_end = omega arith
  and_longer (g.and_more d q) = omega (arith, neg_longer d, and_longer q)

  pub neg_longer : {ts rest : Tokens} {p : Pred} → IsNeg ts p rest → length rest < length ts
  neg_longer (g.not d) = omega (arith, delim_longer d)
  neg_longer (g.prim d) = omega (arith, prim_longer d)

  pub delim_longer : {ts rest : Tokens} {p : Pred} → IsDelim ts p rest → length rest < length ts
  delim_longer (g.group d) = omega (arith, pred_longer d)
  delim_longer (g.exists d) = omega (arith, expr_longer d)

  pub prim_longer : {ts rest : Tokens} {p : Pred} → IsPrim ts p rest → length rest < length ts
  prim_longer (g.delim d) = omega (arith, delim_longer d)
  prim_longer (g.unknown d) = omega (arith, pred_longer d)
  prim_longer (g.compare d q) = omega (arith, expr_longer d, expr_longer q)
  prim_longer (g.starts_text d) = omega (arith, expr_longer d)
  prim_longer (g.starts_variable d) = omega (arith, expr_longer d)
  prim_longer (g.like d) = omega (arith, expr_longer d)
  prim_longer (g.like_by d) = omega (arith, expr_longer d)
