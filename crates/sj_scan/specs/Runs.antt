-- Bytes that a string passes over: they stand for themselves, and are ASCII.
use Rattle.std.specs.Prelude.{ℕ, Bool, true, false, not, ◌||◌, ◌&&◌, ◌==◌, nat_lt, Option, Some, None}
use Rattle.sj_scan.specs.Modes.{Mode, value, value_or_close, key, key_or_close, colon, after_value, word, quoted, escaped, number}
use Rattle.sj_scan.specs.Scanning.{Reached, is_between}

-- a byte at which such a run stops
abbrev pub is_stop : ℕ → Bool
is_stop b = (b == 34) || ((b == 92) || (nat_lt b 32 || nat_lt 127 b))

abbrev pub is_run : ℕ → Bool
is_run b = not (is_stop b)

abbrev pub is_quoted : Mode → Bool
is_quoted value = false
is_quoted value_or_close = false
is_quoted key = false
is_quoted key_or_close = false
is_quoted colon = false
is_quoted after_value = false
is_quoted (word r) = false
is_quoted (quoted k) = true
is_quoted (escaped k e) = false
is_quoted (number q) = false

-- a run may begin
abbrev pub in_string : Option Reached → Bool
in_string None = false
in_string (Some r) = is_quoted r.mode && is_between r.text
