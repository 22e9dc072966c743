use Rattle.std.proofs.Common.{ap}
use Rattle.sj_func.specs.Functions.{context_value}
use Rattle.sj_func.proofs.Outcomes.{single_price_is}
use Rattle.sj_func.proofs.single.asked_item.Goals as goal

pub returns-in-Item-clause-costs : goal.returns-in-Item-clause-costs
returns-in-Item-clause-costs c =
    single_price_is _ _ _ _ _ _ (ap context_value c.in-Item.is) c.single.ensures.costs
