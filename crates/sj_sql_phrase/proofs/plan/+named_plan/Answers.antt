use Rattle.std.proofs.Common.{◌≡◌, suc, ◌-◌, ap, arith}
use Rattle.sj_sql_grammar.specs.Reading.{plan_expr_at}
use Rattle.sj_sql_phrase.proofs.plan.+named_plan.Goals as goal

pub returns-then-depth-eq0 : goal.returns-then-depth-eq0
unfolding plan_expr_at
returns-then-depth-eq0 t c = let none : c.args.depth ≡ 0 = omega arith in ap (λ n. plan_expr_at n c.args.tokens.now) none

pub returns : goal.returns
unfolding plan_expr_at
returns t c =
    let one : c.args.depth ≡ suc (c.args.depth - 1) = omega arith in
    rw (ap (λ n. plan_expr_at n c.args.tokens.now) one) c.over.ensures
