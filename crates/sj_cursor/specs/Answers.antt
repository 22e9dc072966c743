-- What a cursor answers when it is asked whether there is an item, and which is the only one.
use Rattle.std.specs.Prelude.{Bool, true, false, Option, Some, None, Result, Ok, Err, if◌then◌else◌}
use Rattle.sj_base.specs.declared.state.State.{State}
use Rattle.sj_path_tree.specs.declared.parts.Mode.{Mode}
use Rattle.sj_path_tree.specs.declared.parts.Mode.TheVariants.{Lax, Strict}
use Rattle.sj_item.specs.Items.{item_value}
use Rattle.sj_item.specs.declared.item.Item.{Item}
use Rattle.sj_step.specs.Trace.{Trace, fault_of}
use Rattle.sj_cursor.specs.Verdicts.{has_item}
use Rattle.sj_cursor.specs.Single.{Single, bad, zero_items, one_item}
use Rattle.sj_plain_path.specs.Looks.{Look, is_found}

abbrev pub unless_faulty : Option State → Bool → Result Bool State
unless_faulty None answer = Ok answer
unless_faulty (Some s) answer = Err s

-- whether a trace has an item: in lax mode an item decides before a fault, and in strict mode a fault decides first
abbrev pub exists_answer : Mode → Trace → Result Bool State
exists_answer Lax t = if has_item t then Ok true else unless_faulty (fault_of t) false
exists_answer Strict t = unless_faulty (fault_of t) (has_item t)

-- the only item, if any, or the state that there is in place of it
abbrev pub single_value : Result (Option Item) State → Single
single_value (Ok None) = zero_items
single_value (Ok (Some x)) = one_item (item_value x)
single_value (Err s) = bad s

-- whether an item was found
abbrev pub answer_in : Look → Result Bool State
answer_in l = unless_faulty l.fault (is_found l.found)
