-- The escape of a string (RFC 8259, section 7), byte by byte: what came of it, and which bytes may come next. A unit of a surrogate
-- is known by its first two digits: "d8" to "db" begin a high one, and "dc" to "df" a low one.
use Rattle.std.specs.Prelude.{ℕ, cond, ◌==◌, nat_lt, Option, Some, None, is_some}
use Rattle.std.specs.Char.{digit_value, is_digit}
use Rattle.sj_base.specs.ByteClasses.{letter_char}
use Rattle.sj_scan.specs.declared.escape.Escape.{Escape}
use Rattle.sj_scan.specs.declared.escape.Escape.TheVariants.{Begun, First, FirstD, Rest3, Rest2, Rest1, High2, High1, High, Second, Low, LowD, Low2, Low1}
use Rattle.sj_scan.specs.declared.escape.Escaped.{Escaped}
use Rattle.sj_scan.specs.declared.escape.Escaped.TheVariants.{GoesOn, Ended}

-- a hexadecimal digit of that value
abbrev pub digit_step : Escape → ℕ → Option Escaped
digit_step Begun d = None
digit_step First d = cond (d == 13) (Some (GoesOn FirstD)) (Some (GoesOn Rest3))
digit_step FirstD d = cond (nat_lt d 8) (Some (GoesOn Rest2)) (cond (nat_lt d 12) (Some (GoesOn High2)) None)
digit_step Rest3 d = Some (GoesOn Rest2)
digit_step Rest2 d = Some (GoesOn Rest1)
digit_step Rest1 d = Some Ended
digit_step High2 d = Some (GoesOn High1)
digit_step High1 d = Some (GoesOn High)
digit_step High d = None
digit_step Second d = None
digit_step Low d = cond (d == 13) (Some (GoesOn LowD)) None
digit_step LowD d = cond (nat_lt d 12) None (Some (GoesOn Low2))
digit_step Low2 d = Some (GoesOn Low1)
digit_step Low1 d = Some Ended

abbrev pub hex_step : Escape → ℕ → Option Escaped
hex_step e b = cond (is_digit b 16) (digit_step e (digit_value b)) None

abbrev pub escape_step : Escape → ℕ → Option Escaped
escape_step Begun b = cond (b == 117) (Some (GoesOn First)) (cond (is_some (letter_char b)) (Some Ended) None)
escape_step High b = cond (b == 92) (Some (GoesOn Second)) None
escape_step Second b = cond (b == 117) (Some (GoesOn Low)) None
escape_step First b = hex_step First b
escape_step FirstD b = hex_step FirstD b
escape_step Rest3 b = hex_step Rest3 b
escape_step Rest2 b = hex_step Rest2 b
escape_step Rest1 b = hex_step Rest1 b
escape_step High2 b = hex_step High2 b
escape_step High1 b = hex_step High1 b
escape_step Low b = hex_step Low b
escape_step LowD b = hex_step LowD b
escape_step Low2 b = hex_step Low2 b
escape_step Low1 b = hex_step Low1 b
