-- Whether a right operand ends in a fault, asked where there was no left item.
use Rattle.std.specs.Prelude.{◌≡◌, ◌≤◌, ℕ, Bool, false, cond}
use Rattle.sj_base.specs.Count.{raised}
use Rattle.sj_step.specs.Trace.{Trace, visits}
use Rattle.sj_cursor.specs.Verdicts.{is_faulty}

pub record Asked (some : Bool) (right : Trace) (faulty : Bool) (steps later : ℕ) : Type 0 where
  pub answers : faulty ≡ cond some false (is_faulty right)
  pub costs : later ≤ raised steps (cond some 0 (visits right))
