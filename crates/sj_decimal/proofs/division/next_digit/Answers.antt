use Rattle.std.proofs.Common.{◌*◌, arith}
use Rattle.sj_decimal.proofs.Divisions.{rest_of_sum}
use Rattle.sj_decimal.proofs.division.next_digit.Goals as goal

pub returns-clause-rest : goal.returns-clause-rest
returns-clause-rest c = rest_of_sum c.sum_of.result.0 c.sum_of.result.1 (c.args.rest * 10) c.args.divisor (omega arith) c.sum_of.ensures.below
