-- What `parse` answers.
use Rattle.std.specs.Prelude.{◌≡◌, ℕ, List, ℤ, Option, Some, None}
use Rattle.sj_decimal.specs.declared.parsing.Parsed.{Parsed}
use Rattle.sj_decimal.specs.declared.parsing.Parsed.TheVariants.{Exact, Wide, NotNumber}
use Rattle.sj_decimal.specs.Normal.{normal, IsExact, IsDecimal}
use Rattle.sj_decimal.specs.Number.{IsNumber, SpellsExact, SpellsWide}

-- the bytes are no number, or a number whose value is exact, or one whose value is not
abbrev pub ParsesAs : List ℕ → Parsed → Type 0
ParsesAs b (Exact d) = SpellsExact b d
ParsesAs b Wide = SpellsWide b
ParsesAs b NotNumber = ¬ (IsNumber b)

-- the number v is exact, or is not
abbrev pub Evaluates : ℤ × ℕ → Parsed → Type 0
Evaluates v (Exact d) = IsExact v × (d ≡ normal v)
Evaluates v Wide = ¬ (IsExact v)
Evaluates v NotNumber = ⊥

abbrev pub IsParsedDecimal : Parsed → Type 0
IsParsedDecimal (Exact d) = IsDecimal d
IsParsedDecimal Wide = Unit {0}
IsParsedDecimal NotNumber = Unit {0}

abbrev pub option_parsed : Option (ℤ × ℕ) → Parsed
option_parsed (Some d) = Exact d
option_parsed None = Wide
