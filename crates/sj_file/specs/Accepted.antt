-- What is known of the file that the words name, where its statements are accepted and where they are not.
use Rattle.std.specs.Prelude.{◌≡◌, ℕ, List, length, IsTrue}
use Rattle.sj_base.specs.Count.{Rose}
use Rattle.sj_outside.specs.Outside.{HasFile}
use Rattle.sj_sql_grammar.specs.declared.refusal.FileKind.{FileKind}
use Rattle.sj_sql_text.specs.Statements.{lines_text}
use Rattle.sj_bound.specs.Bound.{Bound}
use Rattle.sj_file.specs.declared.status.Status.{Status}
use Rattle.sj_file.specs.declared.status.Status.TheVariants.{Refused, ShelfFault, Memory, FileTooLong}
use Rattle.sj_file.specs.File.{ShelfSide, IsTooLong, Holds}
use Rattle.sj_file.specs.Verdict.{Accepts, Refuses}

-- this file was read whole, and its statements are accepted
pub record Accepted (name : List ℕ) (old new : ShelfSide) (statements : List Bound) : Type 0 where
  pub file : List ℕ
  pub holds : Holds name old new file
  pub accepted : Accepts file statements

-- this file was read whole, and so many statements are accepted
abbrev pub AcceptedSoMany : List ℕ → ShelfSide → ShelfSide → ℕ → Type 0
AcceptedSoMany name old new count = (statements : List Bound) × Accepted name old new statements × (count ≡ length statements)

-- this file was read whole, its statements are accepted, and this is their canonical text
abbrev pub AcceptedWithText : List ℕ → ShelfSide → ShelfSide → List ℕ → Type 0
AcceptedWithText name old new text = (statements : List Bound) × (a : Accepted name old new statements) × (text ≡ lines_text a.accepted.statements)

-- this file was read whole, and statement k is refused, by what is said of refusals
pub record RefusedFile (refuses : List ℕ → ℕ → FileKind → Type 0) (name : List ℕ) (old new : ShelfSide) (k : ℕ) (kind : FileKind) : Type 0 where
  pub file : List ℕ
  pub holds : Holds name old new file
  pub refused : refuses file k kind

-- why no file was taken, by what is said of refusals
abbrev pub IsUntaken : (List ℕ → ℕ → FileKind → Type 0) → List ℕ → ShelfSide → ShelfSide → Status → Type 0
IsUntaken refuses name old new ShelfFault = Rose old.faults new.faults × (IsTrue old.quiet → HasFile old.files name → ⊥)
IsUntaken refuses name old new FileTooLong = IsTooLong old.files name new.left × (new.faults ≡ old.faults)
IsUntaken refuses name old new (Refused k kind) = RefusedFile refuses name old new k kind
IsUntaken refuses name old new Memory = new.faults ≡ old.faults
IsUntaken refuses name old new _ = ⊥

-- why no file was accepted
abbrev pub IsUnaccepted : List ℕ → ShelfSide → ShelfSide → Status → Type 0
IsUnaccepted = IsUntaken Refuses
