-- Taking the first item of a trace, or its end, at no more steps than there are visits before it.
use Rattle.std.specs.Prelude.{◌≡◌, ◌≤◌, ℕ}
use Rattle.sj_base.specs.Count.{raised}
use Rattle.sj_item.specs.Items.{PullValue}
use Rattle.sj_step.specs.Trace.{Trace, stop, fail, visit, give, first, rest, visits_to_first}

-- The answer is the first item of a trace, or its end where there is none. The rest is left, and the steps rise by no more than
-- the visits that stand before.
pub record Draws (before : Trace) (answer : PullValue) (after : Trace) (steps later : ℕ) : Type 0 where
  pub answers : answer ≡ first before
  pub leaves : after ≡ rest before
  pub costs : later ≤ raised steps (visits_to_first before)

-- a trace from its first item or its end on
abbrev pub ahead : Trace → Trace
ahead stop = stop
ahead (fail s) = fail s
ahead (visit t) = ahead t
ahead (give x t) = give x t

-- On the way from t to u nothing was given, and no more was spent than visits.
pub record Approaches (t : Trace) (steps : ℕ) (u : Trace) (later : ℕ) : Type 0 where
  pub same : ahead u ≡ ahead t
  pub costs : raised later (visits_to_first u) ≤ raised steps (visits_to_first t)
