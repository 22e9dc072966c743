use Rattle.std.proofs.Common.{◌+◌, ◌++◌, drop, subst, arith}
use Rattle.sj_text.proofs.Appends.{Appending, at_error, stops}
use Rattle.sj_sql_text.specs.Pieces.{gap, opens, piece_text, text_of, text_behind}
use Rattle.sj_sql_text.specs.View.{piece_of, pieces_of}
use Rattle.sj_sql_text.proofs.Printing.{next_piece}
use Rattle.sj_sql_text.proofs.print.print.Goals as goal

pub returns-in_err-spaced-clause-err : goal.returns-in_err-spaced-clause-err
returns-in_err-spaced-clause-err c =
    let pieces = c.args.pieces.now in
    let i = c.loop-piece.piece-index in
    let fresh = c.loop-piece.fresh in
    let old = c.args.out.now in
    let text = text_of (pieces_of pieces) in
    let next = piece_of c.piece-item.result in
    at_error c.from_residual.result (stops old text c.loop-piece.out (gap fresh next ++ piece_text next) (text_behind (opens next) (pieces_of (drop (i + 1) pieces))) c.spaced.new.out
    (subst (Appending old text c.loop-piece.out) (next_piece fresh pieces i c.piece-item.result (omega arith) c.piece-item.is) c.loop-piece.invariant) c.in_err-spaced.ensures.err)
