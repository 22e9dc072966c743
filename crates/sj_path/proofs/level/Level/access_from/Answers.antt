use Rattle.sj_path_grammar.specs.Reading.{expr_or_pred_at}
use Rattle.sj_path_tree.specs.View.{expr_of, step_of}
use Rattle.sj_path.proofs.LevelTurns.{access_turn}
use Rattle.sj_path.proofs.level.Level.access_from.Goals as goal

pub loop-turn-preserved : goal.loop-turn-preserved
loop-turn-preserved g c = access_turn (expr_or_pred_at c.args.self.now.depth) _ c.loop-turn._turn (expr_of c.loop-turn.e.value) (expr_of c.in_ok-e.e.value) (step_of c.in_ok-step.step)
    c.loop-turn.rest.now c.in_ok-step.after.now c.begins_step.result c.loop-turn-test.true c.loop-turn.invariant c.begins_step.ensures c.if-not-begins_step.false c.in_ok-step.ensures c.in_ok-e.ensures
