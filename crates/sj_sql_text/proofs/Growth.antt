-- Pieces that come one by one.
use Rattle.std.proofs.Common.{◌≡◌, [], ◌∷◌, ◌++◌, ap, ◌∙◌, append_assoc}
use Rattle.sj_sql_text.specs.Pieces.{Piece, Pieces}

-- a piece that has come stands before the rest
pub puts : (old new : Pieces) (p : Piece) → new ≡ old ++ p ∷ [] → (rest : Pieces) → new ++ rest ≡ old ++ p ∷ rest
puts old new p came rest = ap (λ l. l ++ rest) came ∙ append_assoc old (p ∷ []) rest
