use Rattle.sj_func.proofs.Outcomes.{one_price, one_price_none}
use Rattle.sj_func.proofs.query.query_one.Goals as goal

pub returns-in_err-single_value-in-Ok-Some-clause-costs : goal.returns-in_err-single_value-in-Ok-Some-clause-costs
returns-in_err-single_value-in-Ok-Some-clause-costs c =
    one_price _ _ _ _ _ _ _ (rw c.in-Ok-Some.field-0-is at c.in-Ok-Some.ensures.answers) c.single_item.ensures.costs c.single_value.ensures.costs

pub returns-in_ok-single_value-in-Ok-Some-clause-costs : goal.returns-in_ok-single_value-in-Ok-Some-clause-costs
returns-in_ok-single_value-in-Ok-Some-clause-costs c =
    one_price _ _ _ _ _ _ _ (rw c.in-Ok-Some.field-0-is at c.in-Ok-Some.ensures.answers) c.single_item.ensures.costs c.single_value.ensures.costs

pub returns-in-Ok-None-clause-costs : goal.returns-in-Ok-None-clause-costs
returns-in-Ok-None-clause-costs c = one_price_none _ _ _ _ _ _ c.in-Ok-None.ensures.answers c.single_item.ensures.costs

pub returns-in-Err-clause-costs : goal.returns-in-Err-clause-costs
returns-in-Err-clause-costs c = one_price_none _ _ _ _ _ _ c.in-Err.ensures.answers c.single_item.ensures.costs
