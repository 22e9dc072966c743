use Rattle.std.proofs.Common.{arith}
use Rattle.sj_decimal.proofs.Powers.{products, power_at, power_pos, power_small}
use Rattle.sj_decimal.proofs.magnitude.power_of_ten.Goals as goal

pub returns-clause-value : goal.returns-clause-value
unfolding products
returns-clause-value c = power_at 39 c.args.places (omega (arith, c.requires))

pub returns-clause-positive : goal.returns-clause-positive
unfolding products
returns-clause-positive c = rw (power_at 39 c.args.places (omega (arith, c.requires))) (power_pos c.args.places)

pub returns-clause-bound : goal.returns-clause-bound
unfolding products
returns-clause-bound c = rw (power_at 39 c.args.places (omega (arith, c.requires))) (power_small c.args.places c.requires)
