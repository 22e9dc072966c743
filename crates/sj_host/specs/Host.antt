-- What the calls for other programs give.
use Rattle.std.specs.Prelude.{◌≡◌, ◌⊎◌, ℕ, ◌<◌, ◌≤◌, ◌==◌, if◌then◌else◌, List, [], length, map, take, codes}
use Rattle.sj_sql_grammar.specs.Answers.{max_file}
use Rattle.sj_bound.specs.Bound.{Bound}
use Rattle.sj_rows.specs.Lines.{whole_lines, open_part}
use Rattle.sj_file.specs.declared.job.Keys.{Keys}
use Rattle.sj_file.specs.declared.status.Status.{Status}
use Rattle.sj_file.specs.declared.status.Status.TheVariants as s
use Rattle.sj_file.specs.Verdict.{Accepts, Refuses}
use Rattle.sj_file.specs.Refusals.{AcceptsWithText}
use Rattle.sj_stream.specs.LineJob.{output}
use Rattle.sj_run.specs.Output.{job}
use Rattle.sj_run.specs.Notes.{note_of}
use Rattle.sj_host.specs.declared.lines.Part.{Part}
use Rattle.sj_host.specs.declared.lines.Part.TheVariants.{Front, End}
use Rattle.sj_host.specs.declared.unanswered.Unanswered.{Unanswered}
use Rattle.sj_host.specs.declared.unanswered.Unanswered.TheVariants.{Refused, FileTooLong, Memory, Room}

-- the name under which a file lies in memory
abbrev pub file_name : List ℕ
file_name = codes "f"

-- ---- why a call gives nothing

-- by the status of a command over objects in memory
abbrev pub unanswered_by : Status → Unanswered
unanswered_by (s.Refused k kind) = Refused k kind
unanswered_by s.FileTooLong = FileTooLong
unanswered_by s.WriteFault = Room
unanswered_by s.Done = Memory
unanswered_by s.Usage = Memory
unanswered_by s.ShelfFault = Memory
unanswered_by s.ReadFault = Memory
unanswered_by s.Memory = Memory
unanswered_by s.InputLimit = Memory

-- The file is refused so, or is too long. Being out of memory says nothing of it.
abbrev pub IsWhy : List ℕ → Unanswered → Type 0
IsWhy file (Refused k kind) = (length file ≤ max_file) × Refuses file k kind
IsWhy file FileTooLong = max_file < length file
IsWhy file Memory = Unit {0}
IsWhy file Room = ⊥

-- its canonical text may also be longer than the room for it
abbrev pub IsWhyUnshown : List ℕ → ℕ → Unanswered → Type 0
IsWhyUnshown file room (Refused k kind) = IsWhy file (Refused k kind)
IsWhyUnshown file room FileTooLong = IsWhy file FileTooLong
IsWhyUnshown file room Memory = IsWhy file Memory
IsWhyUnshown file room Room = (text : List ℕ) × AcceptsWithText file text × (room < length text)

-- its rows may also have no room, which says nothing of it
abbrev pub IsWhyUnwritten : List ℕ → Unanswered → Type 0
IsWhyUnwritten file (Refused k kind) = IsWhy file (Refused k kind)
IsWhyUnwritten file FileTooLong = IsWhy file FileTooLong
IsWhyUnwritten file Memory = IsWhy file Memory
IsWhyUnwritten file Room = Unit {0}

-- what is told of it: what the command tells, and words of its own where there is no room
abbrev pub message_of : Unanswered → List ℕ
message_of (Refused k kind) = note_of (s.Refused k kind)
message_of FileTooLong = note_of s.FileTooLong
message_of Memory = note_of s.Memory
message_of Room = codes "no room\n"

-- ---- statements

-- how many fields the rows of a statement have
abbrev pub width_of : Bound → ℕ
width_of s = length s.items

-- the file is accepted, and these are the widths of its statements
abbrev pub AcceptsWithWidths : List ℕ → List ℕ → Type 0
AcceptsWithWidths file widths = (statements : List Bound) × Accepts file statements × (widths ≡ map width_of statements)

-- ---- rows

-- THE ROWS: the file is accepted, and the text is the output of its statements over this input
pub record Answers (keys : Keys) (file input text : List ℕ) : Type 0 where
  pub statements : List Bound
  pub accepted : Accepts file statements
  pub output_is : text ≡ output (job keys statements) input

-- so many bytes of a part of an input are whole lines: they end in LF, or they are all bytes up to its end
abbrev pub EndsLine : Part → List ℕ → ℕ → Type 0
EndsLine Front input taken = open_part (take taken input) ≡ []
EndsLine End input taken = (open_part (take taken input) ≡ []) ⊎ (taken ≡ length input)

-- it has none
abbrev pub HasNoLine : Part → List ℕ → Type 0
HasNoLine Front input = whole_lines input ≡ []
HasNoLine End input = input ≡ []

-- ---- a document

-- a carriage return in place of a line feed
abbrev pub return_for : ℕ → ℕ
return_for x = if x == 10 then 13 else x

abbrev pub on_one_line : List ℕ → List ℕ
on_one_line document = map return_for document
