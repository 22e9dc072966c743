-- WHAT GROUPING WRITES: the error rows of all lines, and then the groups of all rows.
use Rattle.std.specs.Prelude.{ℕ, List, if◌then◌else◌, Option, None, Some}
use Rattle.std.specs.List.{list_all}
use Rattle.sj_base.specs.declared.state.State.{State}
use Rattle.sj_rows.specs.Lines.{is_blank_byte}
use Rattle.sj_json.specs.Document.{document}
use Rattle.sj_table.specs.Series.{Series, end_of}
use Rattle.sj_bound.specs.Bound.{Bound}
use Rattle.sj_group.specs.declared.aggregate.Aggregate.{Aggregate}
use Rattle.sj_group.specs.Grouping.{Row, grouped}
use Rattle.sj_page.specs.Sides.{joined}
use Rattle.sj_page.specs.Pages.{Print, nothing, error_print}
use Rattle.sj_file.specs.declared.job.Keys.TheVariants.{Any}
use Rattle.sj_stream.specs.LineJob.{LineJob, whole_text}
use Rattle.sj_batch.specs.Given.{line_as, cost_given}
use Rattle.sj_group_run.specs.Kept.{line_kept, rows_kept}

-- ---- the lines

-- an error row for the state that is raised at its end, if one is; the statement has number 1
abbrev pub end_print : ℕ → Option State → Print
end_print number None = nothing
end_print number (Some s) = error_print number 1 s

abbrev pub errors_print : ℕ → Series Row → Print
errors_print number rows = end_print number (end_of rows)

-- the steps that the rows of a line may take
abbrev pub line_cost : Bound → Option (List ℕ) → ℕ
line_cost s None = cost_given s (line_as Any None)
line_cost s (Some line) = if list_all is_blank_byte line then 0 else cost_given s (line_as Any (document line))

-- ---- the groups

-- the texts of the groups of the rows of these lines
abbrev pub groups_text : Aggregate → Bound → List (Option (List ℕ)) → List ℕ
groups_text aggregate s lines = joined (grouped aggregate (rows_kept aggregate s lines))

-- ---- both

-- THE JOB OF GROUPING: a line prints its error row, if it has one, and the groups of all rows come behind the lines.
abbrev pub group_job : Aggregate → Bound → LineJob
group_job aggregate s = record { prints = λ number line. errors_print number (line_kept aggregate s line); costs = λ number line. line_cost s line; behind = groups_text aggregate s }

-- ALL THAT IS WRITTEN for an input
abbrev pub group_output : Aggregate → Bound → List ℕ → List ℕ
group_output aggregate s = whole_text (group_job aggregate s)
