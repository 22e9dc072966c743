-- How long a sequence may be.
use Rattle.std.specs.Prelude.{ℕ, ◌-◌, ◌^◌}

-- the most values of a sequence: as many as a `u32` counts
abbrev pub most_values : ℕ
most_values = 2 ^ 32 - 1
