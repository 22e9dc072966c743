-- What stands between quotation marks, where a mark inside is written twice.
use Rattle.std.specs.Prelude.{ℕ, ◌+◌, ◌&&◌, ◌==◌, List, [], ◌∷◌, Option, Some, None, option_map, if◌then◌else◌}
use Rattle.sj_base.specs.ByteClasses.{next_is}

-- Behind an opening mark: how many bytes stand before the closing one, which is the first mark that no second one
-- follows directly. Where there is none, the piece is not closed.
abbrev pub inside_len : ℕ → List ℕ → Option ℕ
inside_len mark [] = None
inside_len mark (b ∷ []) = if b == mark then Some 0 else None
inside_len mark (b ∷ c ∷ bs) =
    if b == mark then (if c == mark then option_map (λ n. n + 2) (inside_len mark bs) else Some 0)
    else option_map (λ n. n + 1) (inside_len mark (c ∷ bs))

-- what the bytes inside stand for: two marks for one
abbrev pub undoubled : ℕ → List ℕ → List ℕ
undoubled mark [] = []
undoubled mark (b ∷ []) = b ∷ []
undoubled mark (b ∷ c ∷ bs) = if b == mark && c == mark then mark ∷ undoubled mark bs else b ∷ undoubled mark (c ∷ bs)

-- how many marks stand for one, where one does and bs follows it
abbrev pub marks_len : ℕ → List ℕ → ℕ
marks_len mark bs = if next_is mark bs then 2 else 1
