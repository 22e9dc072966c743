-- The number of RFC 8259, section 6, byte by byte: what came of it, and which bytes may come next.
use Rattle.std.specs.Prelude.{ℕ, Bool, true, false, cond, ◌==◌, ◌||◌, List, [], ◌∷◌, Option, Some, None}
use Rattle.std.specs.Char.{is_ascii_digit}
use Rattle.sj_scan.specs.declared.numeral.Numeral.{Numeral}
use Rattle.sj_scan.specs.declared.numeral.Numeral.TheVariants.{Nothing, Minus, Zero, Whole, Point, Fraction, Mark, Sign, Exponent}

-- the first digit
abbrev pub first_digit : ℕ → Option Numeral
first_digit b = cond (b == 48) (Some Zero) (cond (is_ascii_digit b) (Some Whole) None)

abbrev pub exponent_mark : ℕ → Option Numeral
exponent_mark b = cond (b == 101 || b == 69) (Some Mark) None

-- behind the whole digits
abbrev pub behind_whole : ℕ → Option Numeral
behind_whole b = cond (b == 46) (Some Point) (exponent_mark b)

-- a digit is needed
abbrev pub digit_of : Numeral → ℕ → Option Numeral
digit_of next b = cond (is_ascii_digit b) (Some next) None

abbrev pub numeral_step : Numeral → ℕ → Option Numeral
numeral_step Nothing b = cond (b == 45) (Some Minus) (first_digit b)
numeral_step Minus b = first_digit b
numeral_step Zero b = behind_whole b
numeral_step Whole b = cond (is_ascii_digit b) (Some Whole) (behind_whole b)
numeral_step Point b = digit_of Fraction b
numeral_step Fraction b = cond (is_ascii_digit b) (Some Fraction) (exponent_mark b)
numeral_step Mark b = cond (b == 43 || b == 45) (Some Sign) (digit_of Exponent b)
numeral_step Sign b = digit_of Exponent b
numeral_step Exponent b = digit_of Exponent b

-- what came is a whole number
abbrev pub may_end : Numeral → Bool
may_end Nothing = false
may_end Minus = false
may_end Zero = true
may_end Whole = true
may_end Point = false
may_end Fraction = true
may_end Mark = false
may_end Sign = false
may_end Exponent = true

abbrev pub numeral_then : Option Numeral → ℕ → Option Numeral
numeral_then None b = None
numeral_then (Some q) b = numeral_step q b

-- after these bytes; none if no number begins with all of them
abbrev pub numeral_after : Option Numeral → List ℕ → Option Numeral
numeral_after o [] = o
numeral_after o (b ∷ bs) = numeral_after (numeral_then o b) bs

abbrev pub ends : Option Numeral → Bool
ends None = false
ends (Some q) = may_end q
