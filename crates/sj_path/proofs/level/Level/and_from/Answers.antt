use Rattle.sj_path_grammar.specs.Reading.{expr_or_pred_at}
use Rattle.sj_path_tree.specs.View.{pred_of}
use Rattle.sj_path.proofs.LevelTurns.{and_turn}
use Rattle.sj_path.proofs.level.Level.and_from.Goals as goal

pub loop-turn-preserved : goal.loop-turn-preserved
loop-turn-preserved g c = and_turn (expr_or_pred_at c.args.self.now.depth) _ c.loop-turn._turn (pred_of c.loop-turn.q.value) (pred_of c.in_ok-other.other.value) (pred_of c.in_ok-q.q.value)
    c.loop-turn.rest.now c.in-Some.operand.now c.in_ok-other.after.now c.loop-turn-test.true c.loop-turn.invariant c.in-Some.ensures c.in_ok-other.ensures c.in_ok-q.ensures
