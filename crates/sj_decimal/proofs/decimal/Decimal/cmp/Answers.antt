use Rattle.sj_decimal.proofs.Comparisons.{equal_answers}
use Rattle.sj_decimal.proofs.decimal.Decimal.cmp.Goals as goal

pub returns-clause-equal : goal.returns-clause-equal
returns-clause-equal c = equal_answers c.args.self c.args.other c.order.result c.order.ensures.value c.order.ensures.left c.order.ensures.right
