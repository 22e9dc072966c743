use Rattle.sj_decimal.proofs.Divisions.{keeps_number}
use Rattle.sj_decimal.proofs.significand.Significand.of.Goals as goal

pub overflow_sub-result : goal.overflow_sub-result
overflow_sub-result c = (keeps_number c.args.number c.reduce-magnitude.result c.reduce-magnitude.ensures c.requires).0

pub returns-clause-value : goal.returns-clause-value
returns-clause-value c =
    let kept = keeps_number c.args.number c.reduce-magnitude.result c.reduce-magnitude.ensures c.requires in
    (kept.1, kept.2)
