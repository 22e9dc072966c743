-- How large an exact number may be, and how long its text.
use Rattle.std.specs.Prelude.{ℕ, ◌^◌}

-- the digits of a coefficient, at most
abbrev pub max_digits : ℕ
max_digits = 38

-- the decimals, at most
abbrev pub max_scale : ℕ
max_scale = 38

-- the least magnitude with more digits than that
abbrev pub magnitude_limit : ℕ
magnitude_limit = 10 ^ max_digits
