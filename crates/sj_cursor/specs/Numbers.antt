-- Arithmetic and subscripts on traces.
use Rattle.std.specs.Prelude.{ℕ, Result, Ok, Err, ℤ}
use Rattle.sj_base.specs.declared.state.State.{State}
use Rattle.sj_base.specs.declared.state.State.TheVariants.{S22033, S22038}
use Rattle.sj_path_tree.specs.declared.parts.Arith.{Arith}
use Rattle.sj_path_tree.specs.declared.parts.Mode.{Mode}
use Rattle.sj_item.specs.Items.{ItemValue, made_number}
use Rattle.sj_step.specs.Trace.{Trace, fail, only, after_visits}
use Rattle.sj_step.specs.Reach.{reach, by_range}
use Rattle.sj_method.specs.Numbers.{operand_of, subscript_of, binary_of}
use Rattle.sj_cursor.specs.Single.{need, Single, bad, zero_items, one_item, single}

-- what follows a value, or its fault
abbrev pub followed : {A : Type 0} → Result A State → (A → Trace) → Trace
followed (Ok a) go = go a
followed (Err s) go = fail s

-- ---- operands

abbrev pub operand_in : Single → Result (ℤ × ℕ) State
operand_in (bad s) = Err s
operand_in zero_items = Err S22038
operand_in (one_item x) = operand_of x

-- the operand of a trace, at its price, and what follows it
abbrev pub with_operand : Mode → Trace → (ℤ × ℕ → Trace) → Trace
with_operand mode t go = after_visits (need mode 2 t) (followed (operand_in (single mode S22038 t)) go)

-- the left operand is decided before the right one is asked
unfoldable pub binary_trace : Arith → Mode → Trace → Trace → Trace
binary_trace op mode left right =
    with_operand mode left (λ a. with_operand mode right (λ b. followed (binary_of op a b) (λ d. only (made_number d))))

-- ---- subscripts

abbrev pub subscript_in : Single → Result ℤ State
subscript_in (bad s) = Err s
subscript_in zero_items = Err S22033
subscript_in (one_item x) = subscript_of x

-- the subscript of a trace, at its price, and what follows it
abbrev pub with_subscript : Mode → Trace → (ℤ → Trace) → Trace
with_subscript mode t go = after_visits (need mode 2 t) (followed (subscript_in (single mode S22033 t)) go)

-- a part of a list of subscripts on the item x
unfoldable pub element_part : Mode → Trace → ItemValue → Trace
element_part mode at x = with_subscript mode at (λ i. reach (by_range i i) mode x)

unfoldable pub range_part : Mode → Trace → Trace → ItemValue → Trace
range_part mode from to x = with_subscript mode from (λ i. with_subscript mode to (λ j. reach (by_range i j) mode x))
