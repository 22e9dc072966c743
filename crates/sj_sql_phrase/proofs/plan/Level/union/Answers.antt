use Rattle.sj_sql_grammar.specs.Reading.{plan_expr_at}
use Rattle.sj_sql_tree.specs.View.{plan_of}
use Rattle.sj_sql_phrase.proofs.Plans.{union_turn, union_ends}
use Rattle.sj_sql_phrase.proofs.plan.Level.union.Goals as goal

pub loop-turn-preserved : goal.loop-turn-preserved
loop-turn-preserved g c =
    union_turn (plan_expr_at c.args.self.now.depth) _ c.loop-turn._turn (plan_of c.loop-turn.plan) (plan_of c.in_ok-other.other) (plan_of c.in_ok-plan.plan)
    c.loop-turn.left.tokens.now c.in-Some.operand.now c.in_ok-other.after.now c.loop-turn-test.true c.loop-turn.invariant c.in-Some.ensures c.in_ok-other.ensures c.in_ok-plan.ensures

pub returns-in_default : goal.returns-in_default
returns-in_default g c =
    union_ends (plan_expr_at c.args.self.now.depth) _ c.loop-turn._turn (plan_of c.loop-turn.plan) c.loop-turn.left.tokens.now c.loop-turn-test.true c.loop-turn.invariant c.in_default.ensures
