use Rattle.std.proofs.Common.{sym, ap, ◌∙◌, refl}
use Rattle.std.specs.Option.{option_map}
use Rattle.sj_decimal.specs.Parts.{parts}
use Rattle.sj_decimal.specs.Number.{value_of}
use Rattle.sj_decimal.proofs.Readings.{read_parts_sound, not_number}
use Rattle.sj_decimal.proofs.parsing.is_number.Goals as goal

pub returns-in-None : goal.returns-in-None
returns-in-None c = not_number c.args.bytes.now (sym c.read.ensures ∙ ap (option_map parts) c.in-None.is)

pub returns-in-Some : goal.returns-in-Some
returns-in-Some c =
    let p = parts c.in-Some.field-0 in
    (value_of p, record { parts = p; number = read_parts_sound c.args.bytes.now p (sym c.read.ensures ∙ ap (option_map parts) c.in-Some.is); value = refl })
