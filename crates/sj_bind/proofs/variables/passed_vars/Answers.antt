use Rattle.sj_bind.proofs.Passed.{fresh_variable}
use Rattle.sj_bind.proofs.variables.passed_vars.Goals as goal

pub push-requires : goal.push-requires
push-requires c = fresh_variable c.loop-variable.vars c.in-Some.variable _ _ c.args.passing c.in-Some.ensures.steps.0 c.loop-variable.invariant.all c.requires
