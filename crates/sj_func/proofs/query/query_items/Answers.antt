use Rattle.sj_func.proofs.Wrapping.{items_some, items_none, items_fault, cost_some, cost_none, cost_fault}
use Rattle.sj_func.proofs.query.query_items.Goals as goal

pub returns-in-Item-clause-outcome : goal.returns-in-Item-clause-outcome
returns-in-Item-clause-outcome c = items_some c.args.spec.now _ _ _ _ _ _ c.in-Item.ensures.answers c.query_some.ensures.outcome

pub returns-in-Item-clause-costs : goal.returns-in-Item-clause-costs
returns-in-Item-clause-costs c = cost_some _ _ _ _ _ _ c.in-Item.ensures.answers c.query_some.ensures.costs

pub returns-in-End-clause-outcome : goal.returns-in-End-clause-outcome
returns-in-End-clause-outcome c = items_none c.args.spec.now _ _ _ _ _ c.in-End.ensures.answers c.given.ensures.outcome

pub returns-in-End-clause-costs : goal.returns-in-End-clause-costs
returns-in-End-clause-costs c = cost_none _ _ _ _ c.in-End.ensures.answers

pub returns-in-Fault-clause-outcome : goal.returns-in-Fault-clause-outcome
returns-in-Fault-clause-outcome c = items_fault c.args.spec.now _ _ _ _ _ _ c.in-Fault.ensures.answers c.given-in-Fault.ensures.outcome

pub returns-in-Fault-clause-costs : goal.returns-in-Fault-clause-costs
returns-in-Fault-clause-costs c = cost_fault _ _ _ _ _ c.in-Fault.ensures.answers
