use Rattle.sj_sql_phrase.proofs.plan.+named_plan.Given as goal

abbrev pub decreases-named_plan : goal.decreases-named_plan
decreases-named_plan l = l.depth
