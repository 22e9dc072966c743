-- A `Spelling` as the parts that it borrows.
use Rattle.sj_decimal.specs.declared.spelling.Spelling.{Spelling}
use Rattle.std.specs.Str.Parse.{AllDigits}
use Rattle.sj_decimal.specs.Number.{NumberParts}

abbrev pub parts : Spelling → NumberParts
parts s = record { negative = s.negative; whole = s.whole.now; fraction = s.fraction.now; exponent_negative = s.exponent_negative; exponent = s.exponent.now }

-- each part has digits alone
pub record HasDigits (p : NumberParts) : Type 0 where
  pub whole : AllDigits 10 p.whole
  pub fraction : AllDigits 10 p.fraction
  pub exponent : AllDigits 10 p.exponent
