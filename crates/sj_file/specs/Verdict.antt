-- What a command makes of a file of statements: how each is bound, or which one is refused first, and why.
use Rattle.std.specs.Prelude.{◌≡◌, ℕ, ◌+◌, List, [], ◌∷◌, Option, None, Some, Result, Ok, Err}
use Rattle.sj_path_tree.specs.Tree.{Path}
use Rattle.sj_sql_token.specs.Tokens.{lexed}
use Rattle.sj_sql_grammar.specs.declared.refusal.BindKind.{BindKind}
use Rattle.sj_sql_grammar.specs.declared.refusal.FileKind.{FileKind}
use Rattle.sj_sql_grammar.specs.declared.refusal.FileKind.TheVariants.{Bind}
use Rattle.sj_sql_grammar.specs.Tree.{Statement}
use Rattle.sj_sql_grammar.specs.Answers.{IsFile}
use Rattle.sj_sql_text.specs.Statements.{lines_text}
use Rattle.sj_bound.specs.Bound.{Bound}
use Rattle.sj_bind.specs.Meaning.{bound}
use Rattle.sj_bind.specs.Rules.{bind_fault}

-- ---- one statement

abbrev pub unless_fault : Option BindKind → Bound → Result Bound FileKind
unless_fault None b = Ok b
unless_fault (Some why) b = Err (Bind why)

-- a statement is accepted where it breaks no rule of binding
abbrev pub answer : Statement Path → Result Bound FileKind
answer s = unless_fault (bind_fault s) (bound s)

-- ---- a file

-- statement k before those behind it
abbrev pub before_others : ℕ → Result Bound FileKind → Result (List Bound) (ℕ × FileKind) → Result (List Bound) (ℕ × FileKind)
before_others k (Err kind) others = Err (k, kind)
before_others k (Ok x) (Ok others) = Ok (x ∷ others)
before_others k (Ok x) (Err refusal) = Err refusal

-- statements of which the first has number k, before one that has no tree, if there is one
abbrev pub judged : ℕ → List (Statement Path) → Option (ℕ × FileKind) → Result (List Bound) (ℕ × FileKind)
judged k [] None = Ok []
judged k [] (Some refusal) = Err refusal
judged k (s ∷ ss) refusal = before_others k (answer s) (judged (k + 1) ss refusal)

-- THE VERDICT on a file, which all commands share: how its statements are bound, or the number of the first that is refused, and why
pub record IsVerdict (file : List ℕ) (verdict : Result (List Bound) (ℕ × FileKind)) : Type 0 where
  pub statements : List (Statement Path)
  pub refusal : Option (ℕ × FileKind)
  pub read : IsFile (lexed file) statements refusal
  pub is : verdict ≡ judged 1 statements refusal

-- the file is read as these statements, whatever the rules of binding say of them
abbrev pub IsReadAs : List ℕ → List (Statement Path) → Type 0
IsReadAs file statements = IsFile (lexed file) statements None

-- the file is accepted, and its statements are bound so
abbrev pub Accepts : List ℕ → List Bound → Type 0
Accepts file statements = IsVerdict file (Ok statements)

-- the text, as a file, is accepted with these statements, and is its own canonical text
pub record IsCanonicalOf (statements : List Bound) (text : List ℕ) : Type 0 where
  pub accepted : Accepts text statements
  pub own : (read : List (Statement Path)) → IsReadAs text read → lines_text read ≡ text

-- statement k is the first that is refused, and for this reason
abbrev pub Refuses : List ℕ → ℕ → FileKind → Type 0
Refuses file k kind = IsVerdict file (Err (k, kind))
