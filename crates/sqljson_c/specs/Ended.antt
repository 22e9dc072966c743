-- How a call ended, as C sees it.
use Rattle.std.specs.Prelude.{ℕ, ◌≤◌, List, length}
use Rattle.sj_sql_grammar.specs.Answers.{max_file}
use Rattle.sj_sql_grammar.specs.declared.refusal.FileKind.{FileKind}
use Rattle.sj_file.specs.Verdict.{Refuses}
use Rattle.sj_host.specs.declared.unanswered.Unanswered.{Unanswered}
use Rattle.sj_host.specs.declared.unanswered.Unanswered.TheVariants.{Refused, FileTooLong, Memory, Room}

-- the number of why a call gives nothing
abbrev pub status_of : Unanswered → ℕ
status_of (Refused k kind) = 2
status_of Memory = 6
status_of FileTooLong = 8
status_of Room = 10

-- the statement that is refused
abbrev pub statement_of : Unanswered → ℕ
statement_of (Refused k kind) = k
statement_of Memory = 0
statement_of FileTooLong = 0
statement_of Room = 0

-- this statement is the first that is refused
pub record IsRefusedAt (file : List ℕ) (k : ℕ) : Type 0 where
  pub short : length file ≤ max_file
  pub kind : FileKind
  pub refused : Refuses file k kind
