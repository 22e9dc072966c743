use Rattle.std.proofs.Common.{◌≡◌, suc, ◌-◌, ap, arith}
use Rattle.sj_path_grammar.specs.Reading.{expr_or_pred_at}
use Rattle.sj_path.proofs.level.+expr_or_pred.Goals as goal

pub returns-then-depth-eq0 : goal.returns-then-depth-eq0
unfolding expr_or_pred_at
returns-then-depth-eq0 t c = let none : c.args.depth ≡ 0 = omega arith in ap (λ n. expr_or_pred_at n c.args.tokens.now) none

pub returns : goal.returns
unfolding expr_or_pred_at
returns t c =
    let one : c.args.depth ≡ suc (c.args.depth - 1) = omega arith in
    rw (ap (λ n. expr_or_pred_at n c.args.tokens.now) one) c.over.ensures
