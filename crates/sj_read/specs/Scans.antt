-- What a scan of a string finds.
use Rattle.std.specs.Prelude.{◌≡◌, ℕ, ◌-◌, ◌<◌, ◌≤◌, List, length, take, drop, get_or, Bool, not, ◌||◌, ◌==◌, nat_lt}
use Rattle.std.specs.Char.{is_ascii_digit}
use Rattle.std.specs.List.{AllByRecursion}
use Rattle.sj_json.specs.Strings.{IsPlain}

-- a byte at which plain text stops
abbrev pub is_stop : ℕ → Bool
is_stop x = (x == 34) || (x == 92) || nat_lt x 32

-- a byte that is no digit
abbrev pub is_other : ℕ → Bool
is_other x = not (is_ascii_digit x)

-- a byte that no ASCII text has
abbrev pub is_high : ℕ → Bool
is_high x = nat_lt 127 x

-- the bytes from the one place up to the other are ASCII
abbrev pub AsciiBetween : List ℕ → ℕ → ℕ → Type 0
AsciiBetween bytes from end = (k : ℕ) → from ≤ k → k < end → get_or bytes k 0 < 128

-- plain text from the place on, up to a quotation mark
pub record EndsPlain (bytes : List ℕ) (from : ℕ) (end : ℕ) : Type 0 where
  pub later : from ≤ end
  pub within : end < length bytes
  pub plain : AllByRecursion IsPlain (take (end - from) (drop from bytes))
  pub quote : get_or bytes end 0 ≡ 34
