-- One call that takes the first element of a series or its end, and what it may take.
use Rattle.std.specs.Prelude.{◌≡◌, ◌≤◌, ◌-◌, ℕ}
use Rattle.sj_base.specs.Count.{raised}
use Rattle.sj_table.specs.Series.{Series, done, raises, more, first, rest}
use Rattle.sj_table.specs.Rows.{Row, PlanRows}
use Rattle.sj_table.specs.declared.pull.RowPull.{RowPull}
use Rattle.sj_table.specs.declared.pull.RowPull.TheVariants as pulls

-- ---- a list of rows that is taken row by row

-- what is answered: there is a row, or the end
abbrev pub answer_of : PlanRows → RowPull
answer_of done = pulls.End
answer_of (raises s) = pulls.Raised s
answer_of (more row others) = pulls.Row

-- what may still be taken behind an answer: nothing behind the end
abbrev pub due_behind : RowPull → ℕ → ℕ
due_behind pulls.Row due = due
due_behind pulls.End due = 0
due_behind (pulls.Raised s) due = 0

-- The number of what is due falls, and the steps rise by no more than it falls.
pub record Spends (due due' steps later : ℕ) : Type 0 where
  pub falls : due' ≤ due
  pub costs : later ≤ raised steps (due - due')

-- The answer tells whether there is a row, which is then the one given; the rest is left. Behind the end nothing is due.
pub record Advances (left : PlanRows) (due : ℕ) (answer : RowPull) (given : Row) (left' : PlanRows) (due' : ℕ) (steps later : ℕ) : Type 0 where
  pub answers : answer ≡ answer_of left
  pub gives : given ≡ first left
  pub leaves : left' ≡ rest left
  pub ends : due' ≡ due_behind answer due'
  pub spends : Spends due due' steps later

-- ---- the same of what a cell has left

-- an element was taken, or there was none
abbrev pub Answers : {A : Type 0} → Series A → RowPull → A → Series A → Type 0
Answers left pulls.Row x left' = left ≡ more x left'
Answers left pulls.End x left' = left ≡ done
Answers left (pulls.Raised s) x left' = left ≡ raises s

pub record Takes {A : Type 0} (left : Series A) (due : ℕ) (answer : RowPull) (x : A) (left' : Series A) (due' : ℕ) (steps later : ℕ) : Type 0 where
  pub answers : Answers left answer x left'
  pub spends : Spends due (due_behind answer due') steps later

-- nothing was taken so far, and no more was spent than fell due
pub record Approaches {A : Type 0} (left : Series A) (due steps : ℕ) (left' : Series A) (due' later : ℕ) : Type 0 where
  pub same : left' ≡ left
  pub spends : Spends due due' steps later
