-- Counts that stay at their last value, 2^64 - 1.
use Rattle.std.specs.Prelude.{ℕ, ◌+◌, ◌≤◌, max}
use Rattle.std.specs.Io.Iter.{u64_saturate}

-- a count raised by n: it stays at its last value. A count is never past that, but a contract's number has no bound, hence `max`.
abbrev pub raised : ℕ → ℕ → ℕ
raised count n = max count (u64_saturate (count + n))

-- the count rose: it is greater, or stands at its last value
abbrev pub Rose : ℕ → ℕ → Type 0
Rose before now = u64_saturate (before + 1) ≤ now
