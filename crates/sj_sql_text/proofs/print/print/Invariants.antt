use Rattle.std.proofs.Common.{drop}
use Rattle.sj_text.proofs.Appends.{Appending}
use Rattle.sj_sql_text.specs.Pieces.{text_of, text_behind}
use Rattle.sj_sql_text.specs.View.{pieces_of}
use Rattle.sj_sql_text.proofs.print.print.Given as goal

-- the text has come up to the pieces that are left
abbrev pub invariant-loop-piece : goal.invariant-loop-piece
invariant-loop-piece l = Appending l.initial.out (text_of (pieces_of l.pieces)) l.out (text_behind l.fresh (pieces_of (drop l.piece-index l.pieces)))
