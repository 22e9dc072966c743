-- Where the canonical text of a path has parentheses that the grammar leaves open: about an operand that would else be
-- read as part of another operation.
use Rattle.std.specs.Prelude.{Bool, true, false, not, ◌&&◌, if◌then◌else◌}
use Rattle.sj_path_tree.specs.declared.parts.Arith.{Arith}
use Rattle.sj_path_tree.specs.declared.parts.Arith.TheVariants.{Add, Sub, Mul, Div, Rem}
use Rattle.sj_path_tree.specs.Tree.{Expr, Plus, Minus, Binary, Pred, And, Or, Exists}

-- + and - have the lower rank, and * / % the higher one
abbrev pub is_low : Arith → Bool
is_low Add = true
is_low Sub = true
is_low Mul = false
is_low Div = false
is_low Rem = false

-- an operation with two operands
abbrev pub is_binary : Expr → Bool
is_binary (Binary op a b) = true
is_binary _ = false

-- and with one or two
abbrev pub is_operation : Expr → Bool
is_operation (Binary op a b) = true
is_operation (Plus e) = true
is_operation (Minus e) = true
is_operation _ = false

-- an operation with two operands of the lower rank
abbrev pub is_sum : Expr → Bool
is_sum (Binary op a b) = is_low op
is_sum _ = false

-- one of a lower rank than this operator
abbrev pub is_below : Arith → Expr → Bool
is_below op e = not (is_low op) && is_sum e

-- one of the same rank as this operator, or of a lower one
abbrev pub is_not_above : Arith → Expr → Bool
is_not_above op e = if is_low op then is_sum e else is_binary e

abbrev pub is_or : Pred → Bool
is_or (Or p q) = true
is_or _ = false

abbrev pub is_and_or_or : Pred → Bool
is_and_or_or (And p q) = true
is_and_or_or (Or p q) = true
is_and_or_or _ = false

abbrev pub is_exists : Pred → Bool
is_exists (Exists e) = true
is_exists _ = false
