use Rattle.std.proofs.Common.{ap}
use Rattle.sj_func.specs.Functions.{context_value}
use Rattle.sj_func.proofs.Outcomes.{exists_item, exists_bad, exists_price}
use Rattle.sj_func.proofs.exists.json_exists.Goals as goal

pub returns-in-Item-clause-outcome : goal.returns-in-Item-clause-outcome
returns-in-Item-clause-outcome c =
    exists_item _ _ _ _ _ _ _ (ap context_value c.in-Item.is) c.exists.ensures.answers c.given.ensures

pub returns-in-Item-clause-costs : goal.returns-in-Item-clause-costs
returns-in-Item-clause-costs c =
    exists_price _ _ _ _ _ _ (ap context_value c.in-Item.is) c.exists.ensures.costs

pub returns-in-Bad-clause-outcome : goal.returns-in-Bad-clause-outcome
returns-in-Bad-clause-outcome c = exists_bad _ _ _ _ _ _ (ap context_value c.in-Bad.is) c.given-in-Bad.ensures
