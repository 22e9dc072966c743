-- What `selfrun` tells of a run over generated lines.
use Rattle.std.specs.Prelude.{ℕ, List, [], ◌∷◌, length, codes, decimal}
use Rattle.std.specs.Io.Iter.{u64_saturate}
use Rattle.sj_bound.specs.Bound.{Bound}
use Rattle.sj_generated.specs.Lines.{generated}
use Rattle.sj_page.specs.Sides.{joined}
use Rattle.sj_file.specs.declared.job.Keys.TheVariants.{Any}
use Rattle.sj_page.specs.Pages.{Print}
use Rattle.sj_stream.specs.LineJob.{all_print}
use Rattle.sj_run.specs.Output.{job}

abbrev pub counts_text : ℕ → ℕ → ℕ → ℕ → List ℕ
counts_text lines rows errors bytes =
    joined (codes "lines " ∷ decimal lines ∷ codes " rows " ∷ decimal rows ∷ codes " errors " ∷ decimal errors ∷ codes " bytes " ∷ decimal bytes ∷ codes "\n" ∷ [])

-- THE SUMMARY: how many lines there are, and how many rows, error rows and bytes the output for them has. Each count stays
-- at its last value
abbrev pub summary_text : ℕ → List Bound → List ℕ
summary_text number statements =
    let all : Print = all_print (job Any statements) (generated number) in
    counts_text number (u64_saturate all.rows) (u64_saturate all.errors) (u64_saturate (length all.text))
