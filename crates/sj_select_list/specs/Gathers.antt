-- How values are gathered one behind the other, up to the first state that is raised.
use Rattle.std.specs.Prelude.{◌≡◌, List, Option, Some, None, Result, Ok, Err}
use Rattle.sj_base.specs.declared.state.State.{State}
use Rattle.sj_value.specs.declared.value.SqlValue.{SqlValue}

-- no state was raised and these are the values, or this state was raised
abbrev pub Gathers : Result (List SqlValue) State → Option State → List SqlValue → Type 0
Gathers end None values = end ≡ Ok values
Gathers end (Some s) values = end ≡ Err s
