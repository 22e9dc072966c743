use Rattle.sj_path_grammar.specs.Reading.{expr_or_pred_at}
use Rattle.sj_path_tree.specs.View.{expr_of}
use Rattle.sj_path.proofs.LevelTurns.{sum_turn}
use Rattle.sj_path.proofs.level.Level.sum_from.Goals as goal

pub loop-turn-preserved : goal.loop-turn-preserved
loop-turn-preserved g c = sum_turn (expr_or_pred_at c.args.self.now.depth) _ c.loop-turn._turn (expr_of c.loop-turn.e.value) (expr_of c.in_ok-y.y.value) (expr_of c.in_ok-e.e.value) c.in-Some.op
    c.loop-turn.rest.now c.in-Some.operand.now c.in_ok-y.after.now c.loop-turn-test.true c.loop-turn.invariant c.in-Some.ensures c.in_ok-y.ensures c.in_ok-e.ensures
