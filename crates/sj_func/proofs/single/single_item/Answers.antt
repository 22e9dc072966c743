use Rattle.std.proofs.Common.{ap}
use Rattle.sj_func.specs.Functions.{context_value}
use Rattle.sj_func.proofs.Outcomes.{single_price_is}
use Rattle.sj_func.proofs.single.single_item.Goals as goal

pub returns-in-Item-clause-costs : goal.returns-in-Item-clause-costs
returns-in-Item-clause-costs c =
    single_price_is _ _ _ _ _ _ (ap context_value c.in-Item.is) (rw (c.rewind.ensures.left, c.rewind.ensures.path) at c.single.ensures.costs)
