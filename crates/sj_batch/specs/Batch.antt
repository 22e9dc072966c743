-- Lines that are read together.
use Rattle.std.specs.Prelude.{◌≡◌, ◌≢◌, ℕ, ◌+◌, List, [], ◌∷◌, ◌++◌, length, Option, None, Some, if◌then◌else◌}
use Rattle.std.specs.List.{list_all}
use Rattle.sj_rows.specs.Lines.{is_blank_byte}
use Rattle.sj_rows.specs.HeldLines.{HeldLines}
use Rattle.sj_json.specs.Tree.{Tree}
use Rattle.sj_json.specs.Document.{document}
use Rattle.sj_json.specs.UniqueKeys.{has_unique_keys}
use Rattle.sj_select_list.specs.Line.{Line, not_json, repeated, json}
use Rattle.sj_file.specs.declared.job.Keys.{Keys}
use Rattle.sj_file.specs.declared.job.Keys.TheVariants.{Any, Unique}
use Rattle.sj_batch.specs.declared.batch.ReadLine.{ReadLine}
use Rattle.sj_batch.specs.declared.batch.Reading.{Reading}
use Rattle.sj_batch.specs.declared.batch.Reading.TheVariants as r
use Rattle.sj_batch.specs.declared.batch.Behind.{Behind}
use Rattle.sj_batch.specs.declared.batch.Behind.TheVariants.{Nothing, Perhaps}

-- a line by its tree, as it is kept
abbrev pub reading : Keys → Option Tree → Reading
reading keys None = r.NotJson
reading Any (Some t) = r.Json t
reading Unique (Some t) = if has_unique_keys t then r.Json t else r.Repeated t

-- and as statements see it
abbrev pub line_read : Reading → Line
line_read r.NotJson = not_json
line_read (r.Repeated t) = repeated t
line_read (r.Json t) = json t

-- a line of this number as it is seen: none where it is blank
abbrev pub read_line : Keys → ℕ → Option (List ℕ) → List ReadLine
read_line keys number None = record { number = number; reading = r.NotJson } ∷ []
read_line keys number (Some line) = if list_all is_blank_byte line then [] else record { number = number; reading = reading keys (document line) } ∷ []

-- lines, the first of which has this number
abbrev pub read_lines : Keys → ℕ → List (Option (List ℕ)) → List ReadLine
read_lines keys number [] = []
read_lines keys number (line ∷ more) = read_line keys number line ++ read_lines keys (number + 1) more

-- no line waits behind those that were read, or at least one was taken
abbrev pub IsBehind : Behind → List (Option (List ℕ)) → List (Option (List ℕ)) → Type 0
IsBehind Nothing front rest = rest ≡ []
IsBehind Perhaps front rest = front ≢ []

-- the first of the lines that waited were read
pub record ReadFront (keys : Keys) (old new : HeldLines) (batch : List ReadLine) : Type 0 where
  pub front : List (Option (List ℕ))
  pub split : old.waiting ≡ front ++ new.waiting
  pub given : new.given ≡ old.given + length front
  pub rest : new.rest ≡ old.rest
  pub fed : new.fed ≡ old.fed
  pub ended : new.ended ≡ old.ended
  pub batch_is : batch ≡ read_lines keys (old.given + 1) front

-- all of them, or some
pub record ReadOn (keys : Keys) (old new : HeldLines) (batch : List ReadLine) (behind : Behind) : Type 0 where
  pub read : ReadFront keys old new batch
  pub behind_is : IsBehind behind read.front new.waiting
