use Rattle.sj_sql_phrase.proofs.Lists.{passed_goes_on, passed_ends}
use Rattle.sj_sql_phrase.proofs.passing.variables.Goals as goal

pub loop-turn-preserved : goal.loop-turn-preserved
loop-turn-preserved c =
    passed_goes_on _ c.loop-turn._turn c.loop-turn.variables c.put.new.values c.in_ok-variable.variable c.loop-turn.left.tokens.now c.in_ok-variable.after.now c.in-Some.next.now
    c.loop-turn-test.true c.loop-turn.invariant c.in_ok-variable.ensures c.in-Some.ensures c.in_ok-put.ensures.ok

pub returns-in_default : goal.returns-in_default
returns-in_default c =
    passed_ends _ c.loop-turn._turn c.loop-turn.variables c.put.new.values c.in_ok-variable.variable c.loop-turn.left.tokens.now c.in_ok-variable.after.now
    c.loop-turn-test.true c.loop-turn.invariant c.in_ok-variable.ensures c.in_default.ensures c.in_ok-put.ensures.ok
