-- How a list of pieces grows.
use Rattle.std.specs.Prelude.{◌≡◌, ◌++◌}
use Rattle.sj_sql_text.specs.Pieces.{Pieces}

-- the pieces `new` are the pieces `old` with those behind them that `on` puts before what follows
abbrev pub Adds : (old new : Pieces) → (Pieces → Pieces) → Type 0
Adds old new on = (rest : Pieces) → new ++ rest ≡ old ++ on rest
