-- What a command has done when it ends, and why it ends.
use Rattle.std.specs.Prelude.{◌≡◌, ◌≤◌, ◌⊎◌, ℕ, List, ◌∷◌, [], length, Option, None, Some, codes, decimal}
use Rattle.sj_base.specs.Count.{Rose, raised}
use Rattle.sj_outside.specs.declared.outside.Shelf as shelves
use Rattle.sj_outside.specs.declared.outside.Source as sources
use Rattle.sj_outside.specs.declared.outside.Sink as sinks
use Rattle.sj_path_tree.specs.Tree.{Path}
use Rattle.sj_sql_grammar.specs.Tree.{Statement}
use Rattle.sj_sql_grammar.specs.declared.refusal.FileKind.{FileKind}
use Rattle.sj_sql_text.specs.Statements.{lines_text}
use Rattle.sj_bound.specs.Bound.{Bound}
use Rattle.sj_generated.specs.Lines.{generated}
use Rattle.sj_page.specs.Sides.{OutputSide, Grew, joined}
use Rattle.sj_page.specs.declared.page.Page.{Page}
use Rattle.sj_file.specs.declared.job.Keys.TheVariants.{Any}
use Rattle.sj_file.specs.declared.status.Status.{Status}
use Rattle.sj_file.specs.declared.status.Status.TheVariants.{Done, Usage, Refused, ShelfFault, WriteFault, Memory, FileTooLong}
use Rattle.sj_file.specs.File.{ShelfSide, shelf_at, Form, running, checking, generating, showing, grouping, scanning, named_in}
use Rattle.sj_file.specs.Accepted.{Accepted, IsUntaken}
use Rattle.sj_file.specs.ToGroup.{CanGroup, RefusesFor}
use Rattle.sj_file.specs.Verdict.{IsCanonicalOf}
use Rattle.sj_stream.specs.Input.{InputSide, input_at}
use Rattle.sj_stream.specs.LineJob.{allowed}
use Rattle.sj_stream.specs.Out.{out_at}
use Rattle.sj_run.specs.Output.{job}
use Rattle.sj_stream.specs.Stream.{Streamed, IsFrontOf}
use Rattle.sj_stream.specs.Then.{StreamedThen}
use Rattle.sj_group.specs.declared.aggregate.Aggregate.{Aggregate}
use Rattle.sj_group_run.specs.GroupJob.{group_job}
use Rattle.sj_run.specs.Scanned.{Scanned, IsUnscanned}
use Rattle.sj_run.specs.Summary.{summary_text}

-- the shelf, the input and the output at one moment
pub record Moment : Type 0 where
  pub shelf : ShelfSide
  pub input : InputSide
  pub out : OutputSide

abbrev pub moment : ShelfSide → InputSide → OutputSide → Moment
moment shelf input out = record { shelf = shelf; input = input; out = out }

-- by what they tell and count
abbrev pub moment_at : {H I O : Type 0} → shelves.Ghosts H → sources.Ghosts I → sinks.Ghosts O → H → I → ℕ → O → Moment
moment_at h i o shelf input steps out = moment (shelf_at h shelf) (input_at i input steps) (out_at o out)

-- a text was written that is a canonical file of these statements
pub record WroteCanonical (statements : List Bound) (to to' : OutputSide) : Type 0 where
  pub text : List ℕ
  pub grew : Grew to to' text
  pub canonical : IsCanonicalOf statements text

-- ---- what is done with the statements of a file

-- what `check` tells of statements that are accepted
abbrev pub accepted_text : List Bound → List ℕ
accepted_text statements = joined (codes "accepted " ∷ decimal (length statements) ∷ codes "\n" ∷ [])

-- a text was told, or a front of it, or nothing
abbrev pub Tells : List ℕ → OutputSide → OutputSide → Status → Type 0
Tells text to to' Done = Grew to to' text × (to'.faults ≡ to.faults)
Tells text to to' WriteFault = IsFrontOf text to to' × Rose to.faults to'.faults
Tells text to to' Memory = to' ≡ to
Tells text to to' _ = ⊥

-- the statements ran over generated lines, in place of the input
pub record RanGenerated (number : ℕ) (statements : List Bound) (from from' : InputSide) : Type 0 where
  pub left : from'.left ≡ from.left
  pub faults : from'.faults ≡ from.faults
  pub costs : from'.steps ≤ raised from.steps (allowed (job Any statements) (generated number))

-- the rows of the one statement were grouped
pub record Grouped (statements : List Bound) (from from' : InputSide) (to to' : OutputSide) (status : Status) : Type 0 where
  pub aggregate : Aggregate
  pub statement : Bound
  pub only : statements ≡ statement ∷ []
  pub fits : CanGroup aggregate statement
  pub streamed : StreamedThen (group_job aggregate statement) from from' to to' status

-- WHAT A FORM DOES with the statements of an accepted file, as they are read and as they are bound, and how that ended
abbrev pub Does : Form → List (Statement Path) → List Bound → InputSide → InputSide → OutputSide → OutputSide → Status → Type 0
Does (running keys name) read statements from from' to to' status = (page : Page) × Streamed (job keys statements) from from' to (record { out = to'; page = page }) status
Does (checking name) read statements from from' to to' status = (from' ≡ from) × Tells (accepted_text statements) to to' status
Does (generating number name) read statements from from' to to' status = RanGenerated number statements from from' × Tells (summary_text number statements) to to' status
Does (showing name) read statements from from' to to' status = (from' ≡ from) × Tells (lines_text read) to to' status
Does (grouping name) read statements from from' to to' status = Grouped statements from from' to to' status
Does (scanning text) read statements from from' to to' status = Scanned text from from' to to' status

-- ---- the whole

-- no file was taken for the form, and nothing was read or written
pub record Idle (form : Form) (name : List ℕ) (before after : Moment) (status : Status) : Type 0 where
  pub why : IsUntaken (RefusesFor form) name before.shelf after.shelf status
  pub input : after.input ≡ before.input
  pub out : after.out ≡ before.out

-- a file was accepted, and this was done
pub record Did (form : Form) (name : List ℕ) (before after : Moment) (status : Status) : Type 0 where
  pub statements : List Bound
  pub accepted : Accepted name before.shelf after.shelf statements
  pub does : Does form accepted.accepted.statements statements before.input after.input before.out after.out status

-- why a form that names no file was not taken
abbrev pub IsUnwanted : Form → Status → Type 0
IsUnwanted (scanning text) status = IsUnscanned text status
IsUnwanted _ status = ⊥

-- it was not taken, and nothing was read or written
pub record IdleWithout (form : Form) (before after : Moment) (status : Status) : Type 0 where
  pub why : IsUnwanted form status
  pub same : after ≡ before

-- no file was asked for, so there were no statements, and this was done
pub record DidWithout (form : Form) (before after : Moment) (status : Status) : Type 0 where
  pub shelf : after.shelf ≡ before.shelf
  pub does : Does form [] [] before.input after.input before.out after.out status

-- by the file that a form names, if it names one
abbrev pub RanOver : Form → Option (List ℕ) → Moment → Moment → Status → Type 0
RanOver form None before after status = IdleWithout form before after status ⊎ DidWithout form before after status
RanOver form (Some name) before after status = Idle form name before after status ⊎ Did form name before after status

-- A COMMAND: with words of one of the forms it does what the form says, and otherwise it is Usage and does nothing.
abbrev pub Ran : Option Form → Moment → Moment → Status → Type 0
Ran None before after status = (status ≡ Usage) × (after ≡ before)
Ran (Some form) before after status = RanOver form (named_in form) before after status

-- statement k is the first for which the command refuses this file, and for this reason
abbrev pub IsRefusedBy : Option Form → List ℕ → ℕ → FileKind → Type 0
IsRefusedBy None file k kind = ⊥
IsRefusedBy (Some form) file k kind = RefusesFor form file k kind

-- a command that ended before a file was taken
abbrev pub IsBefore : Status → Type 0
IsBefore Usage = Unit {0}
IsBefore ShelfFault = Unit {0}
IsBefore FileTooLong = Unit {0}
IsBefore (Refused k kind) = Unit {0}
IsBefore _ = ⊥
