-- What is gathered of lines that were read. Private clauses alone cite this.
use Rattle.std.specs.Prelude.{◌≡◌, ℕ, ◌+◌, List, [], ◌∷◌, ◌++◌, Option, Result, OnOk}
use Rattle.sj_bound.specs.Bound.{Bound}
use Rattle.sj_bound.specs.View.{bound_of}
use Rattle.sj_table.specs.Series.{Series, elements}
use Rattle.sj_group.specs.declared.aggregate.Aggregate.{Aggregate}
use Rattle.sj_group.specs.Grouping.{Row}
use Rattle.sj_group.specs.Held.{HeldGroups, StandsForRows}
use Rattle.sj_page.specs.Pages.{Print, nothing, followed_by}
use Rattle.sj_file.specs.declared.to_group.ToGroup.{ToGroup}
use Rattle.sj_file.specs.ToGroup.{IsReadyToGroup}
use Rattle.sj_stream.specs.LineJob.{LineJob}
use Rattle.sj_batch.specs.declared.batch.ReadLine.{ReadLine}
use Rattle.sj_batch.specs.Batch.{line_read}
use Rattle.sj_batch.specs.Given.{rows_given, cost_given}
use Rattle.sj_group_run.specs.Kept.{kept, rows_kept}
use Rattle.sj_group_run.specs.GroupJob.{errors_print, group_job}

-- ---- lines that were read together

-- the rows of a line that are gathered
abbrev pub read_kept : Aggregate → Bound → ReadLine → Series Row
read_kept aggregate s line = kept aggregate (rows_given s (line_read line.reading))

abbrev pub batch_print : Aggregate → Bound → List ReadLine → Print
batch_print aggregate s [] = nothing
batch_print aggregate s (line ∷ lines) = followed_by (errors_print line.number (read_kept aggregate s line)) (batch_print aggregate s lines)

abbrev pub batch_cost : Bound → List ReadLine → ℕ
batch_cost s [] = 0
batch_cost s (line ∷ lines) = cost_given s (line_read line.reading) + batch_cost s lines

abbrev pub batch_rows : Aggregate → Bound → List ReadLine → List Row
batch_rows aggregate s [] = []
batch_rows aggregate s (line ∷ lines) = elements (read_kept aggregate s line) ++ batch_rows aggregate s lines

-- ---- groups

-- texts of groups, each of which is a row
abbrev pub groups_print : List (List ℕ) → Print
groups_print [] = nothing
groups_print (text ∷ texts) = followed_by (record { text = text; rows = 1; errors = 0 }) (groups_print texts)

-- these rows were added behind those that were there, unless it was refused; what is made of them stays the same
pub record Gathered {T E : Type 0} (rows : List Row) (old new : HeldGroups) (result : Result T E) : Type 0 where
  pub aggregate : new.aggregate ≡ old.aggregate
  pub stands : (before : List Row) → StandsForRows before old → OnOk result (StandsForRows (before ++ rows) new)

-- the groups are those of the rows of these lines
pub record Saw (of_file : ToGroup) (groups : HeldGroups) (job : LineJob) (lines : List (Option (List ℕ))) : Type 0 where
  pub ready : IsReadyToGroup of_file
  pub job_is : group_job of_file.aggregate (bound_of of_file.statement) ≡ job
  pub aggregate : groups.aggregate ≡ of_file.aggregate
  pub stands : StandsForRows (rows_kept of_file.aggregate (bound_of of_file.statement) lines) groups
