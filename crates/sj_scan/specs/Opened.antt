-- How many containers are open behind bytes that begin a JSON text: the brackets outside strings are counted.
use Rattle.std.specs.Prelude.{ℕ, ◌+◌, ◌-◌, cond, ◌==◌, ◌||◌, List, [], ◌∷◌}

-- whether a string is open, and there whether a backslash came just before
pub data Quoting : Type 0 where
  outside : Quoting
  inside : Quoting
  behind_backslash : Quoting

abbrev pub quoting_step : Quoting → ℕ → Quoting
quoting_step outside b = cond (b == 34) inside outside
quoting_step inside b = cond (b == 34) outside (cond (b == 92) behind_backslash inside)
quoting_step behind_backslash b = inside

-- an opening bracket, or a closing one
abbrev pub count_step : Quoting → ℕ → ℕ → ℕ
count_step outside n b = cond (b == 91 || b == 123) (n + 1) (cond (b == 93 || b == 125) (n - 1) n)
count_step inside n b = n
count_step behind_backslash n b = n

abbrev pub opened_from : Quoting → ℕ → List ℕ → ℕ
opened_from q n [] = n
opened_from q n (b ∷ bs) = opened_from (quoting_step q b) (count_step q n b) bs

abbrev pub opened_at_end : List ℕ → ℕ
opened_at_end h = opened_from outside 0 h
