-- The text of pieces, one by one.
use Rattle.std.proofs.Common.{◌≡◌, ℕ, ◌+◌, ◌<◌, Bool, List, ◌++◌, length, get_or, drop, sym, ap, ◌∙◌}
use Rattle.std.proofs.lemmas.List.{at_drop_more}
use Rattle.sj_sql_text.specs.declared.piece.Piece.{Piece}
use Rattle.sj_sql_text.specs.Pieces.{gap, opens, piece_text, text_behind}
use Rattle.sj_sql_text.specs.View.{piece_of, pieces_of}

-- the next piece, and those behind it
pub next_piece : (fresh : Bool) (pieces : List Piece) (i : ℕ) (p : Piece) → i < length pieces → p ≡ get_or pieces i p
    → text_behind fresh (pieces_of (drop i pieces)) ≡ (gap fresh (piece_of p) ++ piece_text (piece_of p)) ++ text_behind (opens (piece_of p)) (pieces_of (drop (i + 1) pieces))
next_piece fresh pieces i p h is =
    at_drop_more (λ (l : List Piece). text_behind fresh (pieces_of l)) pieces i p h
    ∙ ap (λ (x : Piece). (gap fresh (piece_of x) ++ piece_text (piece_of x)) ++ text_behind (opens (piece_of x)) (pieces_of (drop (i + 1) pieces))) (sym is)
