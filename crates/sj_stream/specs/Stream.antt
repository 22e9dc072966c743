-- What a run over the lines of an input has written when it ends, and why it ends.
use Rattle.std.specs.Prelude.{◌≡◌, ℕ, ◌-◌, ◌<◌, ◌≤◌, List, [], ◌++◌, length, take, Option, Some}
use Rattle.std.specs.Io.KnownBytes.{Consumes, IsAtEnd}
use Rattle.std.specs.Io.Iter.{u64_saturate}
use Rattle.sj_base.specs.Count.{Rose, raised}
use Rattle.sj_rows.specs.Lines.{max_input}
use Rattle.sj_page.specs.Sides.{OutputSide, Grew}
use Rattle.sj_page.specs.Pages.{empty_page, PrintState, Printed}
use Rattle.sj_page.specs.declared.page.Page.{Page}
use Rattle.sj_page.specs.declared.stop.Stop.{Stop}
use Rattle.sj_page.specs.declared.stop.Stop.TheVariants as stop
use Rattle.sj_file.specs.declared.status.Status.{Status}
use Rattle.sj_file.specs.declared.status.Status.TheVariants.{Done, ReadFault, WriteFault, Memory, InputLimit}
use Rattle.sj_file.specs.Piece.{max_piece}
use Rattle.sj_stream.specs.declared.turns.Progress.{Progress}
use Rattle.sj_stream.specs.declared.turns.Progress.TheVariants.{More, Over}
use Rattle.sj_stream.specs.Input.{InputSide}
use Rattle.sj_stream.specs.LineJob.{LineJob, all_print, whole_print, output, whole_output, allowed, whole_allowed}

abbrev pub IsPrefix : List ℕ → List ℕ → Type 0
IsPrefix front text = (rest : List ℕ) × (text ≡ front ++ rest)

-- what was written is a front of the output of the bytes taken, and of that of all bytes where the input tells what is left,
-- and has all of the lines whose LF stands before the last piece
pub record IsCutShort (job : LineJob) (left : Option (List ℕ)) (bytes text : List ℕ) : Type 0 where
  pub front : IsPrefix text (output job bytes)
  pub front_of_all : (rest : List ℕ) → left ≡ Some rest → IsPrefix text (output job (bytes ++ rest))
  pub least : IsPrefix (whole_output job (take (length bytes - max_piece) bytes)) text

-- nothing was printed to a sink so far
abbrev pub fresh : OutputSide → PrintState
fresh to = record { out = to; page = empty_page }

-- a run that is not over, after these bytes: it wrote what their whole lines print
pub record GoesOn (job : LineJob) (from now : InputSide) (to : OutputSide) (to' : PrintState) (bytes : List ℕ) : Type 0 where
  pub consumed : Consumes from.left now.left bytes
  pub printed : Printed (whole_print job bytes) (fresh to) to'
  pub written : to'.page.text ≡ []
  pub costs : now.steps ≤ raised from.steps (whole_allowed job bytes)
  pub no_read_fault : now.faults ≡ from.faults

-- the rows and error rows of all lines were counted
pub record Counted (job : LineJob) (bytes : List ℕ) (page : Page) : Type 0 where
  pub rows : page.rows ≡ u64_saturate (all_print job bytes).rows
  pub errors : page.errors ≡ u64_saturate (all_print job bytes).errors

-- as many bytes were taken as an input may have
abbrev pub TookMost : Option (List ℕ) → Option (List ℕ) → Type 0
TookMost left left' = (bytes : List ℕ) × Consumes left left' bytes × (length bytes ≡ max_input)

-- why a run ended, and what it had written then
abbrev pub IsWhy : LineJob → InputSide → InputSide → OutputSide → PrintState → List ℕ → List ℕ → Status → Type 0
IsWhy job from from' to to' bytes text Done =
    (text ≡ output job bytes) × IsAtEnd from'.left × (length bytes < max_input) × (from'.faults ≡ from.faults) × (to'.out.faults ≡ to.faults) × Counted job bytes to'.page
IsWhy job from from' to to' bytes text ReadFault = (text ≡ whole_output job bytes) × Rose from.faults from'.faults × (to'.out.faults ≡ to.faults)
IsWhy job from from' to to' bytes text WriteFault = IsCutShort job from'.left bytes text × Rose to.faults to'.out.faults × (from'.faults ≡ from.faults)
IsWhy job from from' to to' bytes text InputLimit =
    (text ≡ whole_output job bytes) × (length bytes ≡ max_input) × (from'.faults ≡ from.faults) × (to'.out.faults ≡ to.faults)
IsWhy job from from' to to' bytes text Memory = IsCutShort job from'.left bytes text × (from'.faults ≡ from.faults) × (to'.out.faults ≡ to.faults)
IsWhy job from from' to to' bytes text _ = ⊥

-- A run over an input is over: it took these bytes and wrote this text.
pub record Streamed (job : LineJob) (from from' : InputSide) (to : OutputSide) (to' : PrintState) (status : Status) : Type 0 where
  pub bytes : List ℕ
  pub text : List ℕ
  pub consumed : Consumes from.left from'.left bytes
  pub grew : Grew to to'.out text
  pub costs : from'.steps ≤ raised from.steps (allowed job bytes)
  pub costs_of_all : (rest : List ℕ) → from'.left ≡ Some rest → from'.steps ≤ raised from.steps (allowed job (bytes ++ rest))
  pub no_more : length bytes ≤ max_input
  pub why : IsWhy job from from' to to' bytes text status

-- how a run ends where rows are printed no further
abbrev pub status_of : Stop → Status
status_of stop.Memory = Memory
status_of stop.Output = WriteFault

-- ---- with whoever takes the pieces

-- the run is over, and where it is Done the taker has ended after all its bytes
abbrev pub StreamedWith : (List ℕ → Type 0) → LineJob → InputSide → InputSide → OutputSide → PrintState → Status → Type 0
StreamedWith ended job from from' to to' status = (s : Streamed job from from' to to' status) × (status ≡ Done → ended s.bytes)

-- the run is not over, and its bytes are those that the taker took
abbrev pub GoesOnWith : (LineJob → List ℕ → Type 0) → LineJob → InputSide → InputSide → OutputSide → PrintState → List ℕ → Type 0
GoesOnWith took job from now to to' bytes = GoesOn job from now to to' bytes × took job bytes

-- behind these bytes, the run goes on with n more or is over
abbrev pub Turned : (LineJob → List ℕ → Type 0) → (LineJob → List ℕ → Type 0) → LineJob → InputSide → InputSide → OutputSide → PrintState → List ℕ → Progress → Type 0
Turned took ended job from now to to' bytes (More n) = (piece : List ℕ) × (length piece ≡ n) × GoesOnWith took job from now to to' (bytes ++ piece)
Turned took ended job from now to to' bytes (Over status) = StreamedWith (ended job) job from now to to' status

-- at least one byte was taken, and at most so many
abbrev pub IsWithin : ℕ → Progress → Type 0
IsWithin most (More n) = (0 < n) × (n ≤ most)
IsWithin most (Over status) = Unit {0}

-- ---- what was written, however a run ended

-- what was written, as far as the sink tells, is a front of a text
pub record IsFrontOf (whole : List ℕ) (to to' : OutputSide) : Type 0 where
  pub text : List ℕ
  pub grew : Grew to to' text
  pub front : IsPrefix text whole

-- what was written, as far as the sink tells, is a front of the output of the bytes taken, and has at least the texts of the
-- lines whose LF stands before the last piece of them
pub record WroteLeast (job : LineJob) (from from' : InputSide) (to to' : OutputSide) : Type 0 where
  pub bytes : List ℕ
  pub consumed : Consumes from.left from'.left bytes
  pub text : List ℕ
  pub grew : Grew to to' text
  pub front : IsPrefix text (output job bytes)
  pub least : IsPrefix (whole_output job (take (length bytes - max_piece) bytes)) text

-- what was written, as far as the sink tells, is the output of the whole lines among the bytes taken
pub record WroteWhole (job : LineJob) (from from' : InputSide) (to to' : OutputSide) : Type 0 where
  pub bytes : List ℕ
  pub consumed : Consumes from.left from'.left bytes
  pub grew : Grew to to' (whole_output job bytes)

-- the steps are within what the lines of the bytes taken allow
pub record StepsWithin (job : LineJob) (from from' : InputSide) : Type 0 where
  pub bytes : List ℕ
  pub consumed : Consumes from.left from'.left bytes
  pub costs : from'.steps ≤ raised from.steps (allowed job bytes)
