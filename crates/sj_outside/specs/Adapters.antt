-- What a shelf over real files shows.
use Rattle.std.specs.Prelude.{ℕ, List, [], Bool, false, Option, None, Some, if◌then◌else◌}

-- how often it has failed, and whether a file is chosen
pub record FileShelfState : Type 0 where
  pub faults : ℕ
  pub has_file : Bool

-- before its first call
abbrev pub untouched_shelf : FileShelfState
untouched_shelf = record { faults = 0; has_file = false }

-- it tells nothing of a file that is chosen, and that nothing is left where none is
abbrev pub told_left : FileShelfState → Option (List ℕ)
told_left s = if s.has_file then None else Some []
