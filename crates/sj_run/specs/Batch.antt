-- What is asked of lines that were read together.
use Rattle.std.specs.Prelude.{List, [], ◌∷◌, ◌++◌, map}
use Rattle.sj_bound.specs.Bound.{Bound}
use Rattle.sj_bound.specs.View.{bound_of}
use Rattle.sj_select.specs.Seen.{Seen}
use Rattle.sj_batch.specs.declared.batch.ReadLine.{ReadLine}
use Rattle.sj_batch.specs.Batch.{line_read}
use Rattle.sj_run.specs.Output.{Asked, asked_from}

-- what is asked of lines that were read
abbrev pub batch_asked : List Bound → List ReadLine → List Asked
batch_asked statements [] = []
batch_asked statements (line ∷ more) = asked_from 1 statements line.number (line_read line.reading) ++ batch_asked statements more

-- ---- the rows of statements, which go from line to line

abbrev pub bounds_in : List Seen → List Bound
bounds_in rows = map (λ r. bound_of r.bound) rows
