-- What is run over the lines of an input.
use Rattle.std.specs.Prelude.{ℕ, ◌<◌, ◌^◌, List, length, map, All}
use Rattle.sj_bound.specs.Bound.{Bound}
use Rattle.sj_bound.specs.Sound.{IsSound}
use Rattle.sj_bound.specs.View.{bound_of}
use Rattle.sj_bound.specs.declared.bound.Bound.{Bound as BoundHeld}
use Rattle.sj_file.specs.declared.job.Keys.{Keys}
use Rattle.sj_file.specs.declared.job.Job.{Job as JobHeld}

-- the statements of a file, and whether the keys of a line's objects are to be unique
pub record Job : Type 0 where
  pub keys : Keys
  pub statements : List Bound

abbrev pub job : Keys → List Bound → Job
job keys statements = record { keys = keys; statements = statements }

abbrev pub job_of : JobHeld → Job
job_of x = job x.keys (map bound_of x.statements.items)

-- A file has fewer statements than this, since their numbers have 32 bits.
abbrev pub statement_limit : ℕ
statement_limit = 2 ^ 32

-- statements as they are bound
abbrev pub AreSound : List BoundHeld → Type 0
AreSound statements = All (λ s. IsSound (bound_of s)) statements

-- they are bound, and few enough to be numbered
pub record IsReady (x : JobHeld) : Type 0 where
  pub few : length x.statements.items < statement_limit
  pub sound : AreSound x.statements.items
