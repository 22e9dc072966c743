-- What a file of statements is read as, and which of its statements is refused first, and why.
use Rattle.std.specs.Prelude.{◌≡◌, ℕ, suc, List, [], ◌∷◌, ◌++◌, Option, Some, None, Result, Ok, Err}
use Rattle.sj_path_grammar.specs.declared.refusal.Name.{Name}
use Rattle.sj_path_grammar.specs.declared.refusal.PathRefusal.{PathRefusal}
use Rattle.sj_path_grammar.specs.declared.refusal.PathRefusal.TheVariants as r
use Rattle.sj_path_tree.specs.declared.parts.Mode.TheVariants as mode
use Rattle.sj_path_tree.specs.Tree.{Path, Root, Access, Member}
use Rattle.sj_path_grammar.specs.Answers.{Refuses}
use Rattle.sj_path_grammar.specs.Accepted.{accepted_path}
use Rattle.sj_sql_token.specs.declared.token.Token.{Token}
use Rattle.sj_sql_token.specs.declared.token.Token.TheVariants as k
use Rattle.sj_sql_token.specs.Tokens.{Lexed, end, fault, next}
use Rattle.sj_sql_grammar.specs.declared.refusal.FileKind.{FileKind}
use Rattle.sj_sql_grammar.specs.declared.refusal.FileKind.TheVariants as kind
use Rattle.sj_sql_grammar.specs.Tree.{PathText, Written, OfName, Statement}
use Rattle.sj_sql_grammar.specs.Phrases.{Tokens}
use Rattle.sj_sql_grammar.specs.Grammar.{IsStatement}
use Rattle.sj_sql_grammar.specs.Notes.{Notes, statement_with, note_statement}

-- ---- the statements of a file

-- how a file ends behind its last semicolon
pub data Ending : Type 0 where
  -- with nothing
  closed : Ending
  -- with tokens, which are a statement without its end
  cut_off : Ending
  -- with a piece that is no token
  broken : Ending

-- the tokens of each statement that a semicolon ends
pub record Pieces : Type 0 where
  pub statements : List Tokens
  pub ending : Ending

abbrev pub opened : Ending → Ending
opened closed = cut_off
opened e = e

-- one more token at the front: it belongs to the first statement
abbrev pub before : Token → List Tokens → Ending → Pieces
before k.Semicolon ss e = record { statements = [] ∷ ss; ending = e }
before t [] e = record { statements = []; ending = opened e }
before t (s ∷ ss) e = record { statements = (t ∷ s) ∷ ss; ending = e }

abbrev pub pieces : Lexed → Pieces
pieces end = record { statements = []; ending = closed }
pieces fault = record { statements = []; ending = broken }
pieces (next t more) = before t (pieces more).statements (pieces more).ending

-- ---- what a tree has that may be refused

-- a path, or a type or an encoding that this implementation lacks
pub data Mark : Type 0 where
  path : PathText → Mark
  unsupported : Name → Mark

abbrev pub listing : Notes PathText (List Mark)
listing = record { path_of = λ p. p; see_path = λ p f. f ++ path p ∷ []; see_unsupported = λ name f. f ++ unsupported name ∷ [] }

-- the marks of a tree, in the order of the text
abbrev pub marks : Statement PathText → List Mark
marks x = note_statement listing x []

-- a path text is refused for another reason than a part that is lacking
abbrev pub path_kind : PathRefusal → Option FileKind
path_kind r.Lex = Some kind.PathLex
path_kind r.TooDeep = Some kind.PathTooDeep
path_kind r.Syntax = Some kind.PathSyntax
path_kind r.Misplaced = Some kind.PathMisplaced
path_kind _ = None

abbrev pub IsFault : Mark → FileKind → Type 0
IsFault (path (Written text)) x = (refusal : PathRefusal) × Refuses text refusal × (path_kind refusal ≡ Some x)
IsFault (path (OfName name)) x = ⊥
IsFault (unsupported name) x = ⊥

-- this implementation lacks a part of it
abbrev pub IsUnsupported : Mark → Name → Type 0
IsUnsupported (path (Written text)) x = Refuses text (r.Unsupported x)
IsUnsupported (path (OfName name)) x = ⊥
IsUnsupported (unsupported name) x = name ≡ x

-- no mark is of this kind
pub data Free {A : Type 0} (Is : Mark → A → Type 0) : List Mark → Type 0 where
  none : Free Is []
  more : {m : Mark} {ms : List Mark} → ((x : A) → Is m x → ⊥) → Free Is ms → Free Is (m ∷ ms)

-- the first mark that is of this kind is of this one
pub data First {A : Type 0} (Is : Mark → A → Type 0) : List Mark → A → Type 0 where
  here : {m : Mark} {ms : List Mark} {x : A} → Is m x → First Is (m ∷ ms) x
  later : {m : Mark} {ms : List Mark} {x : A} → ((y : A) → Is m y → ⊥) → First Is ms x → First Is (m ∷ ms) x

-- ---- one statement

-- the path that stands for a path as it is written; a text that is refused has none, and the root stands there
abbrev pub or_root : Option Path → Path
or_root None = record { mode = mode.Lax; expr = Root }
or_root (Some p) = p

abbrev pub path_of : PathText → Path
path_of (Written text) = or_root (accepted_path text)
path_of (OfName name) = record { mode = mode.Lax; expr = Access Root (Member name) }

-- nothing is noted
abbrev pub finishing : Notes Path (Unit {0})
finishing = record { path_of = path_of; see_path = λ p f. f; see_unsupported = λ name f. f }

-- the tokens spell this tree, and nothing in it is refused
pub record Clean (ts : Tokens) (x : Statement PathText) : Type 0 where
  pub tree : IsStatement ts x
  pub faultless : Free IsFault (marks x)
  pub supported : Free IsUnsupported (marks x)

-- the tokens are accepted as this statement, in which each path stands as its own tree
abbrev pub Accepted : Tokens → Statement Path → Type 0
Accepted ts s = (x : Statement PathText) × Clean ts x × (s ≡ statement_with finishing x)

-- a statement is refused for the first reason that holds
abbrev pub Forbids : Tokens → FileKind → Type 0
Forbids ts kind.Lex = ⊥
Forbids ts kind.Syntax = (x : Statement PathText) → IsStatement ts x → ⊥
Forbids ts (kind.Unsupported name) = (x : Statement PathText) × IsStatement ts x × Free IsFault (marks x) × First IsUnsupported (marks x) name
Forbids ts (kind.Bind why) = ⊥
Forbids ts kind.Group = ⊥
Forbids ts kind.NotForward = ⊥
Forbids ts of_path = (x : Statement PathText) × IsStatement ts x × First IsFault (marks x) of_path

-- the answer of one statement: its tree, or why it is refused
abbrev pub IsAnswer : Tokens → Result (Statement Path) FileKind → Type 0
IsAnswer ts (Ok s) = Accepted ts s
IsAnswer ts (Err why) = Forbids ts why

-- ---- files

-- From statement k on: the trees of the statements before the first one that is refused, and that refusal.
pub data IsScript : ℕ → List Tokens → Ending → List (Statement Path) → Option (ℕ × FileKind) → Type 0 where
  done : {k : ℕ} → IsScript k [] closed [] None
  -- tokens behind the last semicolon
  unended : {k : ℕ} → IsScript k [] cut_off [] (Some (k, kind.Syntax))
  -- a lexical fault stands in the statement of this number: one more than there are semicolons before it
  faulty : {k : ℕ} → IsScript k [] broken [] (Some (k, kind.Lex))
  refused : {k : ℕ} {ts : Tokens} {tss : List Tokens} {e : Ending} {why : FileKind} → Forbids ts why → IsScript k (ts ∷ tss) e [] (Some (k, why))
  accepted : {k : ℕ} {ts : Tokens} {tss : List Tokens} {e : Ending} {s : Statement Path} {ss : List (Statement Path)} {refusal : Option (ℕ × FileKind)} → Accepted ts s
      → IsScript (suc k) tss e ss refusal → IsScript k (ts ∷ tss) e (s ∷ ss) refusal

-- how long a file may be, in bytes
abbrev pub max_file : ℕ
max_file = 1048576

-- what a file is read as: its statements are numbered from 1
abbrev pub IsFile : Lexed → List (Statement Path) → Option (ℕ × FileKind) → Type 0
IsFile file = IsScript 1 (pieces file).statements (pieces file).ending
