-- The job that kept rows do.
use Rattle.std.specs.Prelude.{◌≡◌, List}
use Rattle.sj_bound.specs.Bound.{Bound}
use Rattle.sj_file.specs.declared.job.Job.{Job}
use Rattle.sj_file.specs.Job.{job_of, IsReady}
use Rattle.sj_stream.specs.LineJob.{LineJob}
use Rattle.sj_run.specs.Output.{line_job}

-- the rows are those of a file's statements, and the job is what these print for a line
pub record Does (of_file : Job) (rows : List Bound) (job : LineJob) : Type 0 where
  pub ready : IsReady of_file
  pub rows_are : rows ≡ (job_of of_file).statements
  pub job_is : line_job (job_of of_file) ≡ job
