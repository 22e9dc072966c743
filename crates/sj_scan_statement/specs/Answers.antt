-- The answers of the call that makes the statement.
use Rattle.std.specs.Prelude.{◌≡◌, List, ℕ, Option, Some, None}
use Rattle.sj_path_grammar.specs.declared.refusal.PathRefusal.{PathRefusal}
use Rattle.sj_sql_grammar.specs.declared.refusal.FileKind.{FileKind}
use Rattle.sj_path_tree.specs.Tree.{Path}
use Rattle.sj_bound.specs.Bound.{Bound}
use Rattle.sj_scan_statement.specs.declared.refusal.ScanRefusal.{ScanRefusal}
use Rattle.sj_scan_statement.specs.declared.refusal.ScanRefusal.TheVariants.{Refused, Memory}
use Rattle.sj_scan_statement.specs.Statement.{scan_statement, IsToScan, refusal_kind, RefusesToScan}

-- a kind of refusal, or being out of memory
abbrev pub answer : Option FileKind → ScanRefusal
answer (Some x) = Refused x
answer None = Memory

abbrev pub answer_to : PathRefusal → ScanRefusal
answer_to refusal = answer (refusal_kind refusal)

-- it is the statement of this path text
abbrev pub IsScanOf : List ℕ → Bound → Type 0
IsScanOf text statement = (path : Path) × IsToScan text path × (statement ≡ scan_statement path)

-- why there is no statement
abbrev pub IsUnscanned : List ℕ → ScanRefusal → Type 0
IsUnscanned text (Refused x) = RefusesToScan text x
IsUnscanned text Memory = Unit {0}
