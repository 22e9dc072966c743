-- The statement file of a run, and what the words name.
use Rattle.std.specs.Prelude.{◌≡◌, ℕ, ◌+◌, ◌-◌, ◌*◌, ◌≤◌, nat_lt, nat_le, List, [], ◌∷◌, Bool, false, not, ◌==◌, ◌&&◌, if◌then◌else◌, length, map, Option, None, Some, IsTrue, string_bytes, codes}
use Rattle.std.specs.declared.string.String.{String}
use Rattle.std.specs.Str.{bytes_eq, all_ascii_digits}
use Rattle.std.specs.Io.KnownBytes.{Consumes}
use Rattle.sj_base.specs.Count.{Rose}
use Rattle.sj_outside.specs.Outside.{Files, HasFile}
use Rattle.sj_outside.specs.declared.outside.Shelf.{Ghosts}
use Rattle.sj_sql_grammar.specs.Answers.{max_file}
use Rattle.sj_generated.specs.Lines.{most_lines}
use Rattle.sj_file.specs.declared.file.Form as declared
use Rattle.sj_file.specs.declared.file.Form.TheVariants as f
use Rattle.sj_file.specs.declared.job.Keys.{Keys}
use Rattle.sj_file.specs.declared.job.Keys.TheVariants.{Any, Unique}
use Rattle.sj_file.specs.declared.status.Status.{Status}
use Rattle.sj_file.specs.declared.status.Status.TheVariants.{ShelfFault, Memory, FileTooLong}

-- a file's name isn't empty and doesn't begin with a minus
abbrev pub is_file_name : List ℕ → Bool
is_file_name [] = false
is_file_name (x ∷ name) = not (x == 45)

-- what the words ask for: the statements of a file are run over the input, or checked, or run over so many generated lines, or shown, or grouped over the input; or the items of a path are told
pub data Form : Type 0 where
  running : (keys : Keys) (name : List ℕ) → Form
  checking : (name : List ℕ) → Form
  generating : (number : ℕ) (name : List ℕ) → Form
  showing : (name : List ℕ) → Form
  grouping : (name : List ℕ) → Form
  scanning : (path : List ℕ) → Form

-- ---- a number of lines: one to six decimal digits

abbrev pub most_digits : ℕ
most_digits = 6

abbrev pub number_from : ℕ → List ℕ → ℕ
number_from n [] = n
number_from n (x ∷ digits) = number_from (10 * n + (x - 48)) digits

abbrev pub is_number : List ℕ → Bool
is_number word = nat_lt 0 (length word) && (nat_le (length word) most_digits && all_ascii_digits word)

abbrev pub number_of : List ℕ → Option ℕ
number_of word = if is_number word then Some (number_from 0 word) else None

-- ---- the words

-- `run FILE`, `check FILE`, `show FILE` and `group FILE`
abbrev pub form_of_file : List ℕ → List ℕ → Option Form
form_of_file word name =
    if is_file_name name
    then (if bytes_eq word (codes "run") then Some (running Any name)
    else (if bytes_eq word (codes "check") then Some (checking name)
    else (if bytes_eq word (codes "show") then Some (showing name)
    else (if bytes_eq word (codes "group") then Some (grouping name) else None))))
    else None

-- and `scan PATH`, where any word is taken for a path
abbrev pub form_of : List ℕ → List ℕ → Option Form
form_of word other = if bytes_eq word (codes "scan") then Some (scanning other) else form_of_file word other

abbrev pub generating_as : List ℕ → Option ℕ → Option Form
generating_as name None = None
generating_as name (Some number) = Some (generating number name)

-- `run --unique-keys FILE` and `selfrun N FILE`
abbrev pub form_with : List ℕ → List ℕ → List ℕ → Option Form
form_with word middle name =
    if is_file_name name
    then (if bytes_eq word (codes "run") then (if bytes_eq middle (codes "--unique-keys") then Some (running Unique name) else None)
    else (if bytes_eq word (codes "selfrun") then generating_as name (number_of middle) else None))
    else None

abbrev pub form : List (List ℕ) → Option Form
form [] = None
form (word ∷ []) = None
form (word ∷ name ∷ []) = form_of word name
form (word ∷ middle ∷ name ∷ []) = form_with word middle name
form (word ∷ middle ∷ name ∷ more ∷ words) = None

-- WHAT THE WORDS ASK FOR, where they are of a form
abbrev pub command : {A : Type 0} → List (String A) → Option Form
command words = form (map string_bytes words)

-- what the program takes the words for, as what they ask for
abbrev pub form_value : declared.Form → Form
form_value (f.Run keys name) = running keys name.now
form_value (f.Check name) = checking name.now
form_value (f.Generated number name) = generating number name.now
form_value (f.Show name) = showing name.now
form_value (f.Group name) = grouping name.now
form_value (f.Scan path) = scanning path.now

-- a number of lines has six digits at most
abbrev pub IsWithin : declared.Form → Type 0
IsWithin (f.Generated number name) = number ≤ most_lines
IsWithin _ = Unit {0}

-- ---- the file that is named

-- a form names one file of statements at the most
abbrev pub named_in : Form → Option (List ℕ)
named_in (running keys name) = Some name
named_in (checking name) = Some name
named_in (generating number name) = Some name
named_in (showing name) = Some name
named_in (grouping name) = Some name
named_in (scanning path) = None

abbrev pub file_named : Option Form → Option (List ℕ)
file_named None = None
file_named (Some form) = named_in form

-- where its statements are run over the input
abbrev pub file_run : Option Form → Option (List ℕ)
file_run (Some (running keys name)) = Some name
file_run _ = None

-- whether the keys of a line's objects are to be unique
abbrev pub keys_run : Option Form → Keys
keys_run (Some (running keys name)) = keys
keys_run _ = Any

-- where its statements are checked
abbrev pub file_checked : Option Form → Option (List ℕ)
file_checked (Some (checking name)) = Some name
file_checked _ = None

-- where they are run over generated lines, and how many
abbrev pub file_generated : Option Form → Option (List ℕ)
file_generated (Some (generating number name)) = Some name
file_generated _ = None

abbrev pub lines_generated : Option Form → ℕ
lines_generated (Some (generating number name)) = number
lines_generated _ = 0

-- where they are shown
abbrev pub file_to_show : Option Form → Option (List ℕ)
file_to_show (Some (showing name)) = Some name
file_to_show _ = None

-- where they are grouped
abbrev pub file_to_group : Option Form → Option (List ℕ)
file_to_group (Some (grouping name)) = Some name
file_to_group _ = None

-- the text of the path whose items are told
abbrev pub path_scanned : Option Form → Option (List ℕ)
path_scanned (Some (scanning path)) = Some path
path_scanned _ = None

-- the shelf as it is seen at one moment
pub record ShelfSide : Type 0 where
  pub files : Option Files
  pub left : Option (List ℕ)
  pub faults : ℕ
  pub quiet : Bool

-- by what a shelf tells and counts
abbrev pub shelf_at : {H : Type 0} → Ghosts H → H → ShelfSide
shelf_at tells shelf = record { files = tells.files shelf; left = tells.left shelf; faults = tells.faults shelf; quiet = tells.quiet shelf }

-- the file of this name has these bytes, where the shelf tells
abbrev pub IsFile : Option Files → List ℕ → List ℕ → Type 0
IsFile None name file = Unit {0}
IsFile (Some files) name file = files name ≡ Some file

-- the bytes of the file that the words name, where the shelf tells
abbrev pub file_shown : Option Files → Option (List ℕ) → Option (List ℕ)
file_shown None name = None
file_shown (Some files) None = None
file_shown (Some files) (Some name) = files name

-- The file of this name is too long, where the shelf tells, and no more of it was read than the first byte past the limit.
abbrev pub IsTooLong : Option Files → List ℕ → Option (List ℕ) → Type 0
IsTooLong None name left = Unit {0}
IsTooLong (Some files) name left = (file : List ℕ) × (files name ≡ Some file) × (front : List ℕ) × (length front ≡ max_file + 1) × Consumes (Some file) left front

-- why there is no file
abbrev pub IsNoFile : List ℕ → ShelfSide → ShelfSide → Status → Type 0
IsNoFile name old new ShelfFault = Rose old.faults new.faults × (IsTrue old.quiet → HasFile old.files name → ⊥)
IsNoFile name old new FileTooLong = IsTooLong old.files name new.left × (new.faults ≡ old.faults)
IsNoFile name old new Memory = new.faults ≡ old.faults
IsNoFile name old new _ = ⊥

-- these bytes are the file, which isn't too long
pub record Holds (name : List ℕ) (old new : ShelfSide) (file : List ℕ) : Type 0 where
  pub is : IsFile old.files name file
  pub short : length file ≤ max_file
  pub no_fault : new.faults ≡ old.faults
