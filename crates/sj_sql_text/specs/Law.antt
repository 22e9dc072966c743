-- What the laws of the canonical text speak of: a statement in its canonical tokens, and the statements that a file has.
use Rattle.std.specs.Prelude.{ℕ, List, Option}
use Rattle.std.specs.List.{Contains}
use Rattle.sj_path_tree.specs.Tree.{Path}
use Rattle.sj_path_text.specs.Text.{path_text}
use Rattle.sj_sql_token.specs.Tokens.{lexed}
use Rattle.sj_sql_grammar.specs.declared.refusal.FileKind.{FileKind}
use Rattle.sj_sql_grammar.specs.Tree.{PathText, Written, Statement}
use Rattle.sj_sql_grammar.specs.Notes.{Notes}
use Rattle.sj_sql_grammar.specs.Answers.{path_of, IsFile}

-- each path as its canonical text, and nothing noted
abbrev pub canonical : Notes PathText (Unit {0})
canonical = record { path_of = λ q. Written (path_text (path_of q)); see_path = λ p f. f; see_unsupported = λ name f. f }

-- a statement that is accepted in a file, whatever else stands there
pub record IsStatementOf (file : List ℕ) (s : Statement Path) : Type 0 where
  pub statements : List (Statement Path)
  pub refusal : Option (ℕ × FileKind)
  pub read : IsFile (lexed file) statements refusal
  pub among : Contains statements s
