-- The conditions under which the contract of `run` speaks.
use Rattle.std.specs.Prelude.{◌≡◌, ◌⊎◌, ℕ, List, [], ◌∷◌, Option, IfSome}
use Rattle.sj_outside.specs.Outside.{Files}
use Rattle.sj_path_tree.specs.Tree.{Path}
use Rattle.sj_sql_grammar.specs.Tree.{Statement}
use Rattle.sj_bound.specs.Bound.{Bound}
use Rattle.sj_group.specs.declared.aggregate.Aggregate.{Aggregate}
use Rattle.sj_file.specs.declared.job.Keys.{Keys}
use Rattle.sj_file.specs.declared.status.Status.{Status}
use Rattle.sj_file.specs.declared.status.Status.TheVariants.{Memory}
use Rattle.sj_file.specs.File.{Form, file_named, file_run, keys_run, file_checked, file_generated, lines_generated, file_to_show, file_to_group, file_shown}
use Rattle.sj_file.specs.Verdict.{Accepts, IsReadAs}
use Rattle.sj_file.specs.ToGroup.{CanGroup}

-- ---- of the words and the shelf

-- the words ask for a run, and the shelf shows this file for it: its keys may be equal or not
abbrev pub IfRuns : Option Form → Option Files → (Keys → List ℕ → Type 0) → Type 0
IfRuns asked files P = IfSome (file_shown files (file_run asked)) (P (keys_run asked))

-- they ask for a check of this file
abbrev pub IfChecks : Option Form → Option Files → (List ℕ → Type 0) → Type 0
IfChecks asked files P = IfSome (file_shown files (file_checked asked)) P

-- they ask for a run of this file over so many generated lines
abbrev pub IfGenerates : Option Form → Option Files → (ℕ → List ℕ → Type 0) → Type 0
IfGenerates asked files P = IfSome (file_shown files (file_generated asked)) (P (lines_generated asked))

-- they ask for the canonical text of this file
abbrev pub IfShows : Option Form → Option Files → (List ℕ → Type 0) → Type 0
IfShows asked files P = IfSome (file_shown files (file_to_show asked)) P

-- they ask for the groups of this file
abbrev pub IfGroups : Option Form → Option Files → (List ℕ → Type 0) → Type 0
IfGroups asked files P = IfSome (file_shown files (file_to_group asked)) P

-- they name this file, whatever is done with it
abbrev pub IfNames : Option Form → Option Files → (List ℕ → Type 0) → Type 0
IfNames asked files P = IfSome (file_shown files (file_named asked)) P

-- ---- of the file

-- it is accepted, and its statements are bound so
abbrev pub IfAccepted : List ℕ → (List Bound → Type 0) → Type 0
IfAccepted file P = (statements : List Bound) → Accepts file statements → P statements

-- it is read as these statements, and none is refused for its own text
abbrev pub IfRead : List ℕ → (List (Statement Path) → Type 0) → Type 0
IfRead file P = (statements : List (Statement Path)) → IsReadAs file statements → P statements

-- it is accepted, and this is its one statement, whose rows can be grouped so
abbrev pub IfToGroup : List ℕ → (Aggregate → Bound → Type 0) → Type 0
IfToGroup file P = (aggregate : Aggregate) (statement : Bound) → Accepts file (statement ∷ []) → CanGroup aggregate statement → P aggregate statement

-- ---- of the end

-- it ended so, unless memory ran out
abbrev pub IsOrMemory : Status → Status → Type 0
IsOrMemory status end = (status ≡ end) ⊎ (status ≡ Memory)
