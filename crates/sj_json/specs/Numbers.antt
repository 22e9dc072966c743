-- The number that bytes spell, as a function. Like the machine it defines nothing: it is proved to be what
-- `Spelling` says.
use Rattle.std.specs.Prelude.{ℕ, List, cond, Option, option_map, ℤ}
use Rattle.sj_decimal.specs.Normal.{normal}
use Rattle.sj_decimal.specs.Exact.{is_exact}
use Rattle.sj_decimal.specs.Number.{NumberParts, value_of}
use Rattle.sj_decimal.specs.Reading.{read_parts}
use Rattle.sj_json.specs.Tree.{Number, exact, wide}

-- the bytes b spell the number v
abbrev pub classified : List ℕ → ℤ × ℕ → Number
classified b v = cond (is_exact v) (exact (normal v)) (wide b)

unfoldable pub number_of : List ℕ → Option Number
number_of b = option_map (λ (p : NumberParts). classified b (value_of p)) (read_parts b)
