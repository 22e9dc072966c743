use Rattle.std.proofs.Common.{sym, ap, ◌∙◌, Ok}
use Rattle.sj_decimal.proofs.Operations.{limited_over, limited_exact, limited_wide}
use Rattle.sj_decimal.proofs.decimal.Decimal.limited.Goals as goal

pub returns-then-magnitude-ge-LIMIT-clause-value : goal.returns-then-magnitude-ge-LIMIT-clause-value
returns-then-magnitude-ge-LIMIT-clause-value c = sym (limited_over c.args.negative c.args.magnitude c.args.scale c.if-magnitude-ge-LIMIT.true)

pub returns-in-Some-clause-value : goal.returns-in-Some-clause-value
returns-in-Some-clause-value c =
    ap Ok (c.in-Some.ensures {u = tt}).value.1 ∙ sym (limited_exact c.args.negative c.args.magnitude c.args.scale c.if-magnitude-ge-LIMIT.false (c.in-Some.ensures {u = tt}).value.0)

pub returns-in-None-clause-value : goal.returns-in-None-clause-value
returns-in-None-clause-value c = sym (limited_wide c.args.negative c.args.magnitude c.args.scale c.if-magnitude-ge-LIMIT.false c.in-None.ensures.value)
