use Rattle.sj_func.proofs.Outcomes.{value_is}
use Rattle.sj_func.proofs.value.json_value.Goals as goal

pub returns-in-Ok-Some-clause-outcome : goal.returns-in-Ok-Some-clause-outcome
returns-in-Ok-Some-clause-outcome c = value_is _ _ _ _ _ _ (rw c.in-Ok-Some.field-0-is at c.in-Ok-Some.ensures.answers) c.cast_item.ensures.outcome

pub returns-in-Ok-None-clause-outcome : goal.returns-in-Ok-None-clause-outcome
returns-in-Ok-None-clause-outcome c = value_is _ _ _ _ _ _ (rw c.in-Ok-None.field-0-is at c.in-Ok-None.ensures.answers) c.given.ensures.outcome

pub returns-in-Err-clause-outcome : goal.returns-in-Err-clause-outcome
returns-in-Err-clause-outcome c = value_is _ _ _ _ _ _ c.in-Err.ensures.answers c.given-in-Err.ensures.outcome
