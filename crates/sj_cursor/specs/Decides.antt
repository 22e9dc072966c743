-- An answer on a predicate.
use Rattle.std.specs.Prelude.{◌≡◌, ◌≤◌, ℕ}
use Rattle.sj_base.specs.Count.{raised}
use Rattle.sj_item.specs.declared.truth.Truth.{Truth}
use Rattle.sj_cursor.specs.Verdicts.{Verdict}

-- the truth of the predicate, at no more steps than it may take
pub record Decides (v : Verdict) (answer : Truth) (steps later : ℕ) : Type 0 where
  pub answers : answer ≡ v.truth
  pub costs : later ≤ raised steps v.allow
