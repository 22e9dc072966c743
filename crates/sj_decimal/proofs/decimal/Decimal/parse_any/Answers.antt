use Rattle.std.proofs.Common.{sym, ap, ◌∙◌}
use Rattle.std.specs.Option.{option_map}
use Rattle.sj_decimal.specs.Parts.{parts}
use Rattle.sj_decimal.proofs.Readings.{has_digits, parses, not_number}
use Rattle.sj_decimal.proofs.decimal.Decimal.parse_any.Goals as goal

pub value-requires : goal.value-requires
value-requires c = has_digits c.args.bytes.now _ (sym c.read.ensures ∙ ap (option_map parts) c.in-Some.is)

pub returns-in-None-clause-value : goal.returns-in-None-clause-value
returns-in-None-clause-value c = not_number c.args.bytes.now (sym c.read.ensures ∙ ap (option_map parts) c.in-None.is)

pub returns-in-Some-clause-value : goal.returns-in-Some-clause-value
returns-in-Some-clause-value c =
    parses c.args.bytes.now _ c.value.result (sym c.read.ensures ∙ ap (option_map parts) c.in-Some.is) c.value.ensures.value
