-- The pieces of a plan that some tokens spell have the room that these have, if it is room for one at least.
use Rattle.std.proofs.Common.{◌≡◌, ℕ, zero, suc, ◌≤◌, Bool, true, false, List, ◌∷◌, codes, refl, sym, subst, arith}
use Rattle.sj_sql_token.specs.declared.keyword.Keyword.TheVariants as w
use Rattle.sj_sql_grammar.specs.declared.clauses.InOut.{InOut}
use Rattle.sj_sql_grammar.specs.declared.clauses.InOut.TheVariants as in_out
use Rattle.sj_sql_grammar.specs.declared.clauses.Siblings.{Siblings}
use Rattle.sj_sql_grammar.specs.declared.clauses.Siblings.TheVariants as siblings
use Rattle.sj_sql_grammar.specs.Tree.{NamedPlan, PathOf, Outer, Inner, Union, Cross, PlanTree, Default, Named}
use Rattle.sj_sql_grammar.specs.Phrases.{Tokens}
use Rattle.sj_sql_grammar.specs.Grammar as g
use Rattle.sj_sql_grammar.specs.Grammar.{IsPlanExpr, IsUnion, IsCross, IsPlanPrim, IsPlan}
use Rattle.sj_sql_text.specs.Pieces.{Pieces, Open, Close}
use Rattle.sj_sql_text.specs.Phrases as on
use Rattle.sj_sql_text.specs.Plans.{is_name, leads_union, leads_cross, alone_or_enclosed, named_on, plan_on}
use Rattle.sj_sql_text.specs.Tokens.{tokens_of}
use Rattle.sj_sql_text.proofs.ReadPhrases.{IsDefault, default_read}
use Rattle.sj_sql_text.proofs.Room.{Fits, Keeps, stays, and_keeps, opens, closes, enclosed_keep, Needs, needs_none, with_more, Holds, kept, plain, joined, in_parentheses, within}
use Rattle.sj_sql_text.proofs.RoomPhrases.{word_keeps, name_keeps, default_keeps}

apart : true ≡ false → ⊥
apart q = cc

word_needs : (text : List ℕ) → Needs 0 (on.word text)
word_needs text = needs_none (λ d ps h. h)

name_needs : (name : List ℕ) → Needs 0 (on.name_on name)
name_needs name = needs_none (λ d ps h. h)

-- ---- named plans

-- an operand, which stands alone or in parentheses
record HoldsPrim (ts : Tokens) (p : NamedPlan) (rest : Tokens) : Type 0 where
  alone : Holds ts (named_on p) rest
  enclosed : Holds ts (alone_or_enclosed (is_name p) (named_on p)) rest

as_prim : {ts rest : Tokens} (p : NamedPlan) → Holds ts (named_on p) rest → Holds ts (λ ps. Open ∷ named_on p (Close ∷ ps)) rest → HoldsPrim ts p rest
as_prim (PathOf name) x y = record { alone = x; enclosed = x }
as_prim (Outer name p) x y = record { alone = x; enclosed = y }
as_prim (Inner name p) x y = record { alone = x; enclosed = y }
as_prim (Union p q) x y = record { alone = x; enclosed = y }
as_prim (Cross p q) x y = record { alone = x; enclosed = y }

-- the first operand of operators of one kind
first_union : {ts rest : Tokens} (p : NamedPlan) → HoldsPrim ts p rest → Holds ts (alone_or_enclosed (leads_union p) (named_on p)) rest
first_union (PathOf name) x = x.alone
first_union (Outer name p) x = x.enclosed
first_union (Inner name p) x = x.enclosed
first_union (Union p q) x = x.alone
first_union (Cross p q) x = x.enclosed

first_cross : {ts rest : Tokens} (p : NamedPlan) → HoldsPrim ts p rest → Holds ts (alone_or_enclosed (leads_cross p) (named_on p)) rest
first_cross (PathOf name) x = x.alone
first_cross (Outer name p) x = x.enclosed
first_cross (Inner name p) x = x.enclosed
first_cross (Union p q) x = x.enclosed
first_cross (Cross p q) x = x.alone

unions : {ts a b c : Tokens} (x y : NamedPlan) → Holds ts (alone_or_enclosed (leads_union x) (named_on x)) a → Keeps a b → HoldsPrim b y c → Holds ts (named_on (Union x y)) c
unions x y d e f = joined d (joined (plain (word_needs (codes "UNION")) e) f.enclosed)

crosses : {ts a b c : Tokens} (x y : NamedPlan) → Holds ts (alone_or_enclosed (leads_cross x) (named_on x)) a → Keeps a b → HoldsPrim b y c → Holds ts (named_on (Cross x y)) c
crosses x y d e f = joined d (joined (plain (word_needs (codes "CROSS")) e) f.enclosed)

mutual
  expr_holds : {ts rest : Tokens} {p : NamedPlan} → IsPlanExpr ts p rest → Holds ts (named_on p) rest
  expr_holds (g.lone {ts = ts} {rest = rest} {name = n} h) = plain (name_needs n) ((name_keeps ts).holds (n, rest) h)
  expr_holds (g.outer {ts = ts} {a = a} {b = b} {name = n} h o d) =
      joined (plain (name_needs n) ((name_keeps ts).holds (n, a) h)) (joined (plain (word_needs (codes "OUTER")) ((word_keeps w.Outer a).holds b o)) (prim_holds d).enclosed)
  expr_holds (g.inner {ts = ts} {a = a} {b = b} {name = n} h o d) =
      joined (plain (name_needs n) ((name_keeps ts).holds (n, a) h)) (joined (plain (word_needs (codes "INNER")) ((word_keeps w.Inner a).holds b o)) (prim_holds d).enclosed)
  expr_holds (g.union {ts = ts} {a = a} {b = b} {x = x} {y = y} d h e q) = union_holds q ts refl (unions x y (first_union x (prim_holds d)) ((word_keeps w.Union a).holds b h) (prim_holds e))
  expr_holds (g.cross {ts = ts} {a = a} {b = b} {x = x} {y = y} d h e q) = cross_holds q ts refl (crosses x y (first_cross x (prim_holds d)) ((word_keeps w.Cross a).holds b h) (prim_holds e))

  -- from where the first operand began
  union_holds : {x : NamedPlan} {ts rest : Tokens} {p : NamedPlan} → IsUnion x ts p rest → (start : Tokens) → leads_union x ≡ true → Holds start (named_on x) ts → Holds start (named_on p) rest
  union_holds g.union_end start is h = h
  union_holds (g.union_more {ts = ts} {a = a} {x = x} {y = y} o d q) start is h =
      let first : Holds start (alone_or_enclosed (leads_union x) (named_on x)) ts = subst (λ (b : Bool). Holds start (alone_or_enclosed b (named_on x)) ts) (sym is) h in
      union_holds q start refl (unions x y first ((word_keeps w.Union ts).holds a o) (prim_holds d))

  cross_holds : {x : NamedPlan} {ts rest : Tokens} {p : NamedPlan} → IsCross x ts p rest → (start : Tokens) → leads_cross x ≡ true → Holds start (named_on x) ts → Holds start (named_on p) rest
  cross_holds g.cross_end start is h = h
  cross_holds (g.cross_more {ts = ts} {a = a} {x = x} {y = y} o d q) start is h =
      let first : Holds start (alone_or_enclosed (leads_cross x) (named_on x)) ts = subst (λ (b : Bool). Holds start (alone_or_enclosed b (named_on x)) ts) (sym is) h in
      cross_holds q start refl (crosses x y first ((word_keeps w.Cross ts).holds a o) (prim_holds d))

  prim_holds : {ts rest : Tokens} {p : NamedPlan} → IsPlanPrim ts p rest → HoldsPrim ts p rest
  prim_holds (g.plan_name {ts = ts} {rest = rest} {name = n} h) =
      let x : Holds ts (named_on (PathOf n)) rest = plain (name_needs n) ((name_keeps ts).holds (n, rest) h) in record { alone = x; enclosed = x }
  prim_holds (g.parens {ts = ts} {a = a} {b = b} {rest = rest} {p = p} o d z) =
      as_prim p (within ((opens ts).holds a o) (expr_holds d) ((closes b).holds rest z)) (in_parentheses ((opens ts).holds a o) (expr_holds d) ((closes b).holds rest z))

-- ---- plans

pub record HoldsPlan (ts : Tokens) (f : Pieces → Pieces) (rest : Tokens) : Type 0 where
  pub needs : (d : ℕ) → 1 ≤ d → Fits ts d → Needs d f
  pub keeps : Keeps ts rest

default_needs : (i : InOut) (s : Siblings) → Needs 1 (plan_on (Default i s))
default_needs i s = record { fits = go i s }
  where
    go : (i : InOut) (s : Siblings) (d : ℕ) (ps : Pieces) → 1 ≤ d → Fits (tokens_of ps) d → Fits (tokens_of (plan_on (Default i s) ps)) d
    go i s zero ps le h = absurd (omega arith)
    go in_out.Outer siblings.Union (suc d) ps le h = h
    go in_out.Outer siblings.Cross (suc d) ps le h = h
    go in_out.Inner siblings.Union (suc d) ps le h = h
    go in_out.Inner siblings.Cross (suc d) ps le h = h

default_holds : {ts rest : Tokens} (p : PlanTree) → IsDefault p → Keeps ts rest → HoldsPlan ts (plan_on p) rest
default_holds (Default i s) is k = record { needs = λ d le fit. with_more le (default_needs i s); keeps = k }
default_holds (Named p) is k = absurd (apart (sym is.is))

pub plan_holds : {ts rest : Tokens} {p : PlanTree} → IsPlan ts p rest → HoldsPlan ts (plan_on p) rest
plan_holds (g.named_plan {ts = ts} {a = a} {b = b} {c = c} {rest = rest} {p = p} h o d z few) =
    let x : Holds ts (plan_on (Named p)) rest =
    joined (plain (word_needs (codes "PLAN")) ((word_keeps w.Plan ts).holds a h)) (in_parentheses ((opens a).holds b o) (expr_holds d) ((closes c).holds rest z)) in
    record { needs = λ d le fit. x.needs d fit; keeps = kept x }
plan_holds (g.default_plan {ts = ts} {a = a} {b = b} {c = c} {d = d} {rest = rest} {p = p} h e o q z) =
    default_holds p (default_read c d p q)
    (and_keeps ((word_keeps w.Plan ts).holds a h) (and_keeps ((word_keeps w.Default a).holds b e) (enclosed_keep ((opens b).holds c o) ((default_keeps c).holds (p, d) q) ((closes d).holds rest z))))
plan_holds (g.no_plan {ts = ts}) = default_holds (Default in_out.Outer siblings.Union) (record { is = refl }) (stays ts)
