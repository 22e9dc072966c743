-- How deep the tokens of a path or a statement nest.
use Rattle.std.specs.Prelude.{ℕ, ◌+◌, ◌<◌, Bool, List, take, count_by}

-- parentheses and brackets that may be open at once
abbrev pub max_open : ℕ
max_open = 64

-- the first n tokens leave more of them open
abbrev pub LeavesOpen : {T : Type 0} → (T → Bool) → (T → Bool) → List T → ℕ → Type 0
LeavesOpen opens closes ts n = count_by closes (take n ts) + max_open < count_by opens (take n ts)

-- some prefix does
abbrev pub NestsTooDeep : {T : Type 0} → (T → Bool) → (T → Bool) → List T → Type 0
NestsTooDeep opens closes ts = (n : ℕ) × LeavesOpen opens closes ts n
