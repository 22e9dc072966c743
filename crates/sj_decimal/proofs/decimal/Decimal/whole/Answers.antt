use Rattle.sj_decimal.proofs.NormalForm.{whole_decimal}
use Rattle.sj_decimal.proofs.decimal.Decimal.whole.Goals as goal

pub exact-requires : goal.exact-requires
exact-requires c = whole_decimal c.args.negative c.args.magnitude c.requires
