use Rattle.std.proofs.Common.{◌≡◌, ◌∷◌, drop, ap, ◌∙◌, arith}
use Rattle.std.proofs.lemmas.Str.{IsCharBoundary-from_ascii}
use Rattle.sj_decimal.specs.Text.{last_digits}
use Rattle.sj_decimal.proofs.Texts.{digits_after_one, fraction_pushed}
use Rattle.sj_decimal.proofs.text.push_fraction.Goals as goal

pub range_from-requires : goal.range_from-requires
range_from-requires c =
    let digits : c.format-digits.result.now ≡ 49 ∷ last_digits c.args.scale c.args.magnitude =
    digits_after_one c.args.scale c.args.magnitude c.power_of_ten.result c.format-digits.result.now c.requires.scale c.requires.magnitude c.power_of_ten.ensures.value c.format-digits.ensures.text in
    λ _. IsCharBoundary-from_ascii c.format-digits.result.now 1 c.format-digits.ensures.ascii (rw digits (omega arith))

pub returns : goal.returns
returns c =
    let digits : c.format-digits.result.now ≡ 49 ∷ last_digits c.args.scale c.args.magnitude =
    digits_after_one c.args.scale c.args.magnitude c.power_of_ten.result c.format-digits.result.now c.requires.scale c.requires.magnitude c.power_of_ten.ensures.value c.format-digits.ensures.text in
    fraction_pushed c.args.scale c.args.magnitude c.args.text.now.bytes c.push_str.new.self.bytes c.push_str-2.new.self.bytes c.range_from.result.now
    c.requires.some c.requires.magnitude c.push_str.ensures.bytes c.push_str-2.ensures.bytes (c.range_from.ensures.value ∙ ap (drop 1) digits)
