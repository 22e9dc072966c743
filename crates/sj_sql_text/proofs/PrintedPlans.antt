-- The pieces of a plan that the tokens of a file spell are inner ones.
use Rattle.std.proofs.Common.{◌≡◌, Bool, true, false, List, ℕ, codes, refl, sym}
use Rattle.sj_sql_token.specs.declared.keyword.Keyword.TheVariants as w
use Rattle.sj_sql_grammar.specs.declared.clauses.InOut.{InOut}
use Rattle.sj_sql_grammar.specs.declared.clauses.InOut.TheVariants as in_out
use Rattle.sj_sql_grammar.specs.declared.clauses.Siblings.{Siblings}
use Rattle.sj_sql_grammar.specs.declared.clauses.Siblings.TheVariants as siblings
use Rattle.sj_sql_grammar.specs.Tree.{NamedPlan, Outer, Inner, Union, Cross, PlanTree, Default, Named}
use Rattle.sj_sql_grammar.specs.Phrases.{Tokens}
use Rattle.sj_sql_grammar.specs.Grammar as g
use Rattle.sj_sql_grammar.specs.Grammar.{IsPlanExpr, IsUnion, IsCross, IsPlanPrim, IsPlan}
use Rattle.sj_sql_text.specs.Pieces.{Name, Comma, Pieces}
use Rattle.sj_sql_text.specs.Plans.{alone_or_enclosed, is_name, leads_union, leads_cross, named_on, in_out_on, siblings_on, plan_on}
use Rattle.sj_sql_text.proofs.Inner.{AreLexical, IsInner, Prints, and_prints, enclosed_prints}
use Rattle.sj_sql_text.proofs.ReadPhrases.{IsDefault, default_read}
use Rattle.sj_sql_text.proofs.Room.{opens, closes}
use Rattle.sj_sql_text.proofs.RoomPhrases.{word_keeps, name_keeps}
use Rattle.sj_sql_text.proofs.PrintedPhrases.{piece_prints, word_prints, name_prints}

apart : true ≡ false → ⊥
apart q = cc

-- ---- named plans

-- alone or in parentheses
placed : {f : Pieces → Pieces} (alone : Bool) → Prints f → Prints (alone_or_enclosed alone f)
placed true x = x
placed false x = enclosed_prints x

outer_prints : (name : List ℕ) (p : NamedPlan) → IsInner (Name name) → Prints (named_on p) → Prints (named_on (Outer name p))
outer_prints name p n x = and_prints (piece_prints (Name name) n) (and_prints (word_prints (codes "OUTER") refl) (placed (is_name p) x))

inner_prints : (name : List ℕ) (p : NamedPlan) → IsInner (Name name) → Prints (named_on p) → Prints (named_on (Inner name p))
inner_prints name p n x = and_prints (piece_prints (Name name) n) (and_prints (word_prints (codes "INNER") refl) (placed (is_name p) x))

union_prints : (a b : NamedPlan) → Prints (named_on a) → Prints (named_on b) → Prints (named_on (Union a b))
union_prints a b x y = and_prints (placed (leads_union a) x) (and_prints (word_prints (codes "UNION") refl) (placed (is_name b) y))

cross_prints : (a b : NamedPlan) → Prints (named_on a) → Prints (named_on b) → Prints (named_on (Cross a b))
cross_prints a b x y = and_prints (placed (leads_cross a) x) (and_prints (word_prints (codes "CROSS") refl) (placed (is_name b) y))

-- the plan prints, and the tokens behind it are of a file
record Printed (p : NamedPlan) (rest : Tokens) : Type 0 where
  prints : Prints (named_on p)
  lexical : AreLexical rest

mutual
  expr_prints : {ts rest : Tokens} {p : NamedPlan} → IsPlanExpr ts p rest → AreLexical ts → Printed p rest
  expr_prints (g.lone {ts = ts} {rest = rest} {name = n} h) q =
      record { prints = piece_prints (Name n) ((name_prints ts q).holds (n, rest) h); lexical = ((name_keeps ts).holds (n, rest) h).lexical q }
  expr_prints (g.outer {ts = ts} {a = a} {b = b} {name = n} {x = x} h o d) q =
      let y = prim_prints d (((word_keeps w.Outer a).holds b o).lexical (((name_keeps ts).holds (n, a) h).lexical q)) in
      record { prints = outer_prints n x ((name_prints ts q).holds (n, a) h) y.prints; lexical = y.lexical }
  expr_prints (g.inner {ts = ts} {a = a} {b = b} {name = n} {x = x} h o d) q =
      let y = prim_prints d (((word_keeps w.Inner a).holds b o).lexical (((name_keeps ts).holds (n, a) h).lexical q)) in
      record { prints = inner_prints n x ((name_prints ts q).holds (n, a) h) y.prints; lexical = y.lexical }
  expr_prints (g.union {a = a} {b = b} {x = x} {y = y} d h e more) q =
      let first = prim_prints d q in
      let second = prim_prints e (((word_keeps w.Union a).holds b h).lexical first.lexical) in
      unions_print more (union_prints x y first.prints second.prints) second.lexical
  expr_prints (g.cross {a = a} {b = b} {x = x} {y = y} d h e more) q =
      let first = prim_prints d q in
      let second = prim_prints e (((word_keeps w.Cross a).holds b h).lexical first.lexical) in
      crosses_print more (cross_prints x y first.prints second.prints) second.lexical

  unions_print : {x : NamedPlan} {ts rest : Tokens} {p : NamedPlan} → IsUnion x ts p rest → Prints (named_on x) → AreLexical ts → Printed p rest
  unions_print g.union_end h q = record { prints = h; lexical = q }
  unions_print (g.union_more {ts = ts} {a = a} {x = x} {y = y} o d more) h q =
      let next = prim_prints d (((word_keeps w.Union ts).holds a o).lexical q) in unions_print more (union_prints x y h next.prints) next.lexical

  crosses_print : {x : NamedPlan} {ts rest : Tokens} {p : NamedPlan} → IsCross x ts p rest → Prints (named_on x) → AreLexical ts → Printed p rest
  crosses_print g.cross_end h q = record { prints = h; lexical = q }
  crosses_print (g.cross_more {ts = ts} {a = a} {x = x} {y = y} o d more) h q =
      let next = prim_prints d (((word_keeps w.Cross ts).holds a o).lexical q) in crosses_print more (cross_prints x y h next.prints) next.lexical

  prim_prints : {ts rest : Tokens} {p : NamedPlan} → IsPlanPrim ts p rest → AreLexical ts → Printed p rest
  prim_prints (g.plan_name {ts = ts} {rest = rest} {name = n} h) q =
      record { prints = piece_prints (Name n) ((name_prints ts q).holds (n, rest) h); lexical = ((name_keeps ts).holds (n, rest) h).lexical q }
  prim_prints (g.parens {ts = ts} {a = a} {b = b} {rest = rest} o d z) q =
      let x = expr_prints d (((opens ts).holds a o).lexical q) in record { prints = x.prints; lexical = ((closes b).holds rest z).lexical x.lexical }

-- ---- plans

in_out_prints : (x : InOut) → Prints (in_out_on x)
in_out_prints in_out.Outer = word_prints (codes "OUTER") refl
in_out_prints in_out.Inner = word_prints (codes "INNER") refl

siblings_print : (x : Siblings) → Prints (siblings_on x)
siblings_print siblings.Union = word_prints (codes "UNION") refl
siblings_print siblings.Cross = word_prints (codes "CROSS") refl

default_prints : (p : PlanTree) → IsDefault p → Prints (plan_on p)
default_prints (Default i s) is =
    and_prints (word_prints (codes "PLAN") refl) (and_prints (word_prints (codes "DEFAULT") refl)
    (enclosed_prints (and_prints (in_out_prints i) (and_prints (piece_prints Comma tt) (siblings_print s)))))
default_prints (Named p) is = absurd (apart (sym is.is))

pub plan_prints : {ts rest : Tokens} {p : PlanTree} → IsPlan ts p rest → AreLexical ts → Prints (plan_on p)
plan_prints (g.named_plan {ts = ts} {a = a} {b = b} h o d z few) q =
    and_prints (word_prints (codes "PLAN") refl) (enclosed_prints (expr_prints d (((opens a).holds b o).lexical (((word_keeps w.Plan ts).holds a h).lexical q))).prints)
plan_prints (g.default_plan {c = c} {d = d} {p = p} h e o x z) q = default_prints p (default_read c d p x)
plan_prints g.no_plan q = default_prints (Default in_out.Outer siblings.Union) (record { is = refl })
