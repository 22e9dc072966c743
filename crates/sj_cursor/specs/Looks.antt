-- The only item of what was found. This defines nothing: it is proved to be what `Single` says.
use Rattle.std.specs.Prelude.{ℕ, ℤ, Result, Ok, Err}
use Rattle.sj_base.specs.declared.state.State.{State}
use Rattle.sj_item.specs.Items.{made_number}
use Rattle.sj_plain_path.specs.Looks.{Found, none_found, one_found, several_found, Look}
use Rattle.sj_cursor.specs.Single.{Single, bad, zero_items, one_item, unless_fault}

abbrev pub single_found : State → Found → Single
single_found s none_found = zero_items
single_found s (one_found x) = one_item x
single_found s several_found = bad s

abbrev pub single_in : State → Look → Single
single_in s l = unless_fault l.fault (single_found s l.found)

-- a number that arithmetic made, or the fault in its place
abbrev pub single_made : Result (ℤ × ℕ) State → Single
single_made (Ok d) = one_item (made_number d)
single_made (Err f) = bad f
