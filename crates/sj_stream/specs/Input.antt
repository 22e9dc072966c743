-- The input of a run, as it is seen at one moment.
use Rattle.std.specs.Prelude.{ℕ, List, Option}
use Rattle.sj_outside.specs.declared.outside.Source.{Ghosts}

-- with the steps that were counted so far
pub record InputSide : Type 0 where
  pub left : Option (List ℕ)
  pub faults : ℕ
  pub steps : ℕ

-- by what a source tells and counts
abbrev pub input_at : {I : Type 0} → Ghosts I → I → ℕ → InputSide
input_at tells input steps = record { left = tells.left input; faults = tells.faults input; steps = steps }
