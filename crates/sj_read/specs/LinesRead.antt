-- What a line is read as.
use Rattle.std.specs.Prelude.{◌≡◌, ℕ, List, None, Result, Ok, Err, ⊤}
use Rattle.sj_json.specs.Building.{State, IsComplete}
use Rattle.sj_json.specs.Machine.{after_value, ending, reading}
use Rattle.sj_json.specs.Spelling.{SpellsText, IsJson, max_depth}
use Rattle.sj_read.specs.declared.reader.ReadRefusal.{ReadRefusal}
use Rattle.sj_read.specs.declared.reader.ReadRefusal.TheVariants as refusals
use Rattle.sj_read.specs.declared.line.LineRead.{LineRead}
use Rattle.sj_read.specs.declared.line.LineRead.TheVariants.{Json, NotJson}

-- a document that the line spells, where it is JSON, and else nothing
abbrev pub IsReadAs : List ℕ → LineRead → Type 0
IsReadAs line (Json doc) = SpellsText doc line × IsJson line
IsReadAs line (NotJson builder) = IsJson line → ⊥

-- the text to its end, behind which the state is complete, or no further than where it is refused
abbrev pub HasRead : List ℕ → Result ⊤ ReadRefusal → State → Type 0
HasRead text (Ok done) state = IsComplete state × (reading max_depth text ≡ ending after_value state)
HasRead text (Err refusals.NotJson) state = reading max_depth text ≡ None
HasRead text (Err refusals.Memory) state = ⊤
