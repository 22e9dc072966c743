-- What a scan does.
use Rattle.std.specs.Prelude.{◌≡◌, ℕ, List, [], ◌∷◌, Option, IfSome}
use Rattle.sj_path_tree.specs.Tree.{Path}
use Rattle.sj_sql_grammar.specs.declared.refusal.FileKind.{FileKind}
use Rattle.sj_scan_statement.specs.Statement.{scan_statement, IsToScan, RefusesToScan}
use Rattle.sj_bound.specs.Bound.{Bound}
use Rattle.sj_page.specs.Sides.{OutputSide}
use Rattle.sj_page.specs.declared.page.Page.{Page}
use Rattle.sj_file.specs.declared.job.Keys.TheVariants.{Any}
use Rattle.sj_file.specs.declared.status.Status.{Status}
use Rattle.sj_file.specs.declared.status.Status.TheVariants.{Refused, Memory}
use Rattle.sj_file.specs.File.{Form, path_scanned}
use Rattle.sj_stream.specs.Input.{InputSide}
use Rattle.sj_stream.specs.LineJob.{LineJob}
use Rattle.sj_stream.specs.Stream.{Streamed}
use Rattle.sj_run.specs.Output.{job}

-- THE JOB OF A SCAN is that of a run of its one statement: a row for each item of the path, or an error row if a line is not JSON.
abbrev pub scan_job : Path → LineJob
scan_job path = job Any (scan_statement path ∷ [])

-- the words ask for a scan of this path, which is forward
abbrev pub IfScans : Option Form → (Path → Type 0) → Type 0
IfScans asked P = IfSome (path_scanned asked) (λ text. (path : Path) → IsToScan text path → P path)

-- they ask for a scan of a text that is refused so
abbrev pub IfRefusesToScan : Option Form → (FileKind → Type 0) → Type 0
IfRefusesToScan asked P = IfSome (path_scanned asked) (λ text. (kind : FileKind) → RefusesToScan text kind → P kind)

-- these statements are the one that tells the items of this path text
abbrev pub AreScanOf : List ℕ → List Bound → Type 0
AreScanOf text statements = (path : Path) × IsToScan text path × (statements ≡ scan_statement path ∷ [])

-- the path was taken, and its items were told
pub record Scanned (text : List ℕ) (from from' : InputSide) (to to' : OutputSide) (status : Status) : Type 0 where
  pub path : Path
  pub taken : IsToScan text path
  pub page : Page
  pub streamed : Streamed (scan_job path) from from' to (record { out = to'; page = page }) status

-- why the text of a path was not taken
abbrev pub IsUnscanned : List ℕ → Status → Type 0
IsUnscanned text (Refused k kind) = (k ≡ 1) × RefusesToScan text kind
IsUnscanned text Memory = Unit {0}
IsUnscanned text _ = ⊥
