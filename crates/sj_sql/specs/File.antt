-- What the functions that read a file ensure.
use Rattle.std.specs.Prelude.{◌≡◌, ℕ, ◌<◌, Bool, true, false, List, [], ◌∷◌, length, Option, Some, Result, Ok, Err}
use Rattle.sj_path_tree.specs.Tree.{Path}
use Rattle.sj_sql_token.specs.declared.token.Token.{Token}
use Rattle.sj_sql_token.specs.declared.token.Token.TheVariants as k
use Rattle.sj_sql_token.specs.Tokens.{lexed}
use Rattle.sj_sql_grammar.specs.declared.refusal.FileKind.{FileKind}
use Rattle.sj_sql_grammar.specs.Phrases.{Tokens}
use Rattle.sj_sql_grammar.specs.Tree as t
use Rattle.sj_sql_grammar.specs.Answers.{Ending, closed, cut_off, broken, pieces, Accepted, Forbids, IsScript}
use Rattle.sj_sql_tree.specs.declared.tree.Statement.{Statement}
use Rattle.sj_sql.specs.declared.answer.Refused.{Refused}
use Rattle.sj_sql.specs.declared.answer.Refused.TheVariants as refused
use Rattle.sj_sql.specs.declared.file.NextStatement.{NextStatement}
use Rattle.sj_sql.specs.declared.file.NextStatement.TheVariants as first
use Rattle.sj_sql.specs.declared.file.Gathered.{Gathered}
use Rattle.sj_sql.specs.declared.file.Gathered.TheVariants as gathered
use Rattle.sj_sql_tree.specs.View.{statement_of}

-- the answer of one statement, unless memory ran out
abbrev pub IsAnswered : Tokens → Result Statement Refused → Type 0
IsAnswered ts (Ok s) = Accepted ts (statement_of s)
IsAnswered ts (Err (refused.For why)) = Forbids ts why
IsAnswered ts (Err refused.Memory) = Unit {0}

abbrev pub is_semicolon : Token → Bool
is_semicolon k.Semicolon = true
is_semicolon _ = false

-- no statement of the file is whole, and it ends so
abbrev pub EndsBy : List ℕ → Ending → Type 0
EndsBy file e = pieces (lexed file) ≡ record { statements = []; ending = e }

-- These are the tokens of the first statement of a file, where there is one, and this is how they end.
abbrev pub IsGathered : List ℕ → Tokens → Gathered → Type 0
IsGathered file ts (gathered.Statement behind) =
    (pieces (lexed file) ≡ record { statements = ts ∷ (pieces (lexed behind.now)).statements; ending = (pieces (lexed behind.now)).ending })
    × (length behind.now < length file)
IsGathered file ts gathered.End = EndsBy file closed
IsGathered file ts gathered.CutOff = EndsBy file cut_off
IsGathered file ts gathered.Broken = EndsBy file broken

-- ---- the first statement of a file

-- from statement k on, what is left of a file is read as these statements and this refusal
abbrev pub IsLeft : ℕ → List ℕ → List (t.Statement Path) → Option (ℕ × FileKind) → Type 0
IsLeft k rest = IsScript k (pieces (lexed rest)).statements (pieces (lexed rest)).ending

-- THE FIRST STATEMENT of a file is accepted as this one, and this is behind its semicolon
pub record IsFirst (file : List ℕ) (s : t.Statement Path) (behind : List ℕ) : Type 0 where
  pub tokens : Tokens
  pub is_first : pieces (lexed file) ≡ record { statements = tokens ∷ (pieces (lexed behind)).statements; ending = (pieces (lexed behind)).ending }
  pub accepted : Accepted tokens s
  pub shorter : length behind < length file

-- the first statement of a file is refused for this reason, whatever its number is
abbrev pub RefusesFirst : List ℕ → FileKind → Type 0
RefusesFirst file why = (k : ℕ) → IsLeft k file [] (Some (k, why))

-- the first statement, or that there is none, or why it is refused; being out of memory says nothing of it
abbrev pub IsNext : List ℕ → Result NextStatement Refused → Type 0
IsNext file (Ok (first.Statement s behind)) = IsFirst file (statement_of s) behind.now
IsNext file (Ok first.End) = EndsBy file closed
IsNext file (Err (refused.For why)) = RefusesFirst file why
IsNext file (Err refused.Memory) = Unit {0}
