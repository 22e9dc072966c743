-- WHAT IS APPENDED for an outcome.
use Rattle.std.specs.Prelude.{◌≡◌, ℕ, List, Option, Some, None, Result, Ok, Err}
use Rattle.sj_base.specs.declared.memory.Memory.{Memory}
use Rattle.sj_base.specs.declared.state.State.{State}
use Rattle.sj_rows.specs.RowText.{Extends, HasField}
use Rattle.sj_func.specs.declared.context.Outcome.{Outcome}
use Rattle.sj_func.specs.declared.context.Outcome.TheVariants.{Value, Raised}

-- the field of its value was appended, or it raises a state
abbrev pub AppendsOutcome : Outcome → Result (Option State) Memory → List ℕ → List ℕ → Type 0
AppendsOutcome outcome (Ok None) old new = HasField Value outcome old new
AppendsOutcome outcome (Ok (Some s)) old new = (outcome ≡ Raised s) × (new ≡ old)
AppendsOutcome outcome (Err m) old new = Extends old new
