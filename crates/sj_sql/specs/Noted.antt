-- What the parser has noted, as the definitions of statements have it.
use Rattle.std.specs.Prelude.{◌≡◌, Option, Some, Result, Ok, Err}
use Rattle.sj_path_tree.specs.Tree as g
use Rattle.sj_path_tree.specs.declared.tree.Path.{Path}
use Rattle.sj_path_tree.specs.View.{path_of}
use Rattle.std.specs.Borrow.{Bor}
use Rattle.sj_base.specs.declared.refusal.ParseRefusal.{ParseRefusal}
use Rattle.sj_base.specs.Gives.{Fails}
use Rattle.sj_sql_grammar.specs.Answers as a
use Rattle.sj_sql_grammar.specs.Faults as f
use Rattle.sj_sql_grammar.specs.Phrases.{Tokens}
use Rattle.sj_sql_grammar.specs.Tree.{PathText}
use Rattle.sj_sql.specs.declared.faults.Faults.{Faults}

abbrev pub faults_of : Faults → f.Faults
faults_of x = record { path = x.path; unsupported = x.unsupported }

-- this is the path of a path as it is written, and what is noted behind it
pub record IsNoted (text : PathText) (before : f.Faults) (path : g.Path) (after : f.Faults) : Type 0 where
  pub its_path : path ≡ a.path_of text
  pub noted : after ≡ f.noting_path text before

-- a path as it is written stands there, and this is its path, and what is noted behind it
pub record IsPathRead (read : Option (PathText × Tokens)) (before : f.Faults) (path : g.Path) (after : f.Faults) (rest : Tokens) : Type 0 where
  pub text : PathText
  pub stands : read ≡ Some (text, rest)
  pub its_path : path ≡ a.path_of text
  pub noted : after ≡ f.noting_path text before

abbrev pub ReadsPath : Option (PathText × Tokens) → f.Faults → Result (Path × Faults × Bor Tokens) ParseRefusal → Type 0
ReadsPath read before (Ok x) = IsPathRead read before (path_of x.0) (faults_of x.1) x.2.now
ReadsPath read before (Err e) = Fails e read
