-- One call that takes a trace's first item or its end.
use Rattle.std.specs.Prelude.{◌≡◌, ℕ}
use Rattle.sj_base.specs.Count.{raised}
use Rattle.sj_item.specs.Items.{PullValue}
use Rattle.sj_step.specs.Trace.{Trace, first, rest, visits_to_first}

-- The answer is the first item of a trace, or its end where there is none. The rest is left, and the steps rise by the
-- visits that stand before.
pub record Takes (before : Trace) (answer : PullValue) (after : Trace) (steps later : ℕ) : Type 0 where
  pub answers : answer ≡ first before
  pub leaves : after ≡ rest before
  pub costs : later ≡ raised steps (visits_to_first before)

-- On the way from t to u nothing was given. Each visit that was taken was one step.
pub record Onward (t : Trace) (steps : ℕ) (u : Trace) (later : ℕ) : Type 0 where
  pub same_answer : first u ≡ first t
  pub same_rest : rest u ≡ rest t
  pub cost_so_far : raised later (visits_to_first u) ≡ raised steps (visits_to_first t)
