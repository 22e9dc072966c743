-- Items as numbers: operands, subscripts and arithmetic (ISO/IEC 9075-2, SQL/JSON path language).
use Rattle.std.specs.Prelude.{ℕ, Result, Ok, Err, ℤ}
use Rattle.sj_base.specs.declared.state.State.{State}
use Rattle.sj_base.specs.declared.state.State.TheVariants.{S22003, S22012, S22033, S22036}
use Rattle.sj_decimal.specs.declared.arithmetic.NumFault.{NumFault}
use Rattle.sj_decimal.specs.declared.arithmetic.NumFault.TheVariants.{Range, ZeroDivide}
use Rattle.sj_decimal.specs.Arithmetic.{sum, difference, product, quotient, remainder}
use Rattle.sj_decimal.specs.Rounding.{whole_of}
use Rattle.sj_json.specs.Tree.{Tree, null, truth, string, number, array, object, exact, wide}
use Rattle.sj_path_tree.specs.declared.parts.Arith.{Arith}
use Rattle.sj_path_tree.specs.declared.parts.Arith.TheVariants as ariths
use Rattle.sj_item.specs.Items.{ItemValue, item_tree}

-- the exact number that a tree is: nothing else is a number, and a wide one is out of range
abbrev pub exact_number : Tree → Result (ℤ × ℕ) State
exact_number null = Err S22036
exact_number (truth b) = Err S22036
exact_number (string s) = Err S22036
exact_number (number (exact d)) = Ok d
exact_number (number (wide s)) = Err S22003
exact_number (array ts) = Err S22036
exact_number (object ms) = Err S22036

-- an item as an operand of arithmetic
unfoldable pub operand_of : ItemValue → Result (ℤ × ℕ) State
operand_of x = exact_number (item_tree x)

abbrev pub cut : Result (ℤ × ℕ) State → Result ℤ State
cut (Ok d) = Ok (whole_of d)
cut (Err s) = Err S22033

-- an item as a subscript: an exact number, cut toward zero
unfoldable pub subscript_of : ItemValue → Result ℤ State
subscript_of x = cut (operand_of x)

-- ---- arithmetic on two exact numbers

abbrev pub fault_state : NumFault → State
fault_state Range = S22003
fault_state ZeroDivide = S22012

abbrev pub or_state : Result (ℤ × ℕ) NumFault → Result (ℤ × ℕ) State
or_state (Ok d) = Ok d
or_state (Err f) = Err (fault_state f)

abbrev pub arithmetic : Arith → ℤ × ℕ → ℤ × ℕ → Result (ℤ × ℕ) NumFault
arithmetic ariths.Add a b = sum a b
arithmetic ariths.Sub a b = difference a b
arithmetic ariths.Mul a b = product a b
arithmetic ariths.Div a b = quotient a b
arithmetic ariths.Rem a b = remainder a b

unfoldable pub binary_of : Arith → ℤ × ℕ → ℤ × ℕ → Result (ℤ × ℕ) State
binary_of op a b = or_state (arithmetic op a b)
