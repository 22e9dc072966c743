-- Pieces, without where their texts lie in memory.
use Rattle.std.specs.Prelude.{List, map}
use Rattle.sj_path_tree.specs.View.{path_of}
use Rattle.sj_path_text.specs.Text.{path_text}
use Rattle.sj_sql_text.specs.declared.piece.Piece.{Piece}
use Rattle.sj_sql_text.specs.declared.piece.Piece.TheVariants as code
use Rattle.sj_sql_text.specs.Pieces as s

abbrev pub piece_of : Piece → s.Piece
piece_of (code.Word text) = s.Word text.now
piece_of (code.Call name) = s.Call name.now
piece_of (code.Name text) = s.Name text.now
piece_of (code.Text text) = s.String text.now
piece_of (code.Path path) = s.String (path_text (path_of path.now))
piece_of (code.Number d) = s.Number d
piece_of (code.Count n) = s.Count n
piece_of code.Open = s.Open
piece_of code.Close = s.Close
piece_of code.Comma = s.Comma
piece_of code.Star = s.Star
piece_of code.Semicolon = s.Semicolon

abbrev pub pieces_of : List Piece → s.Pieces
pieces_of ps = map piece_of ps
