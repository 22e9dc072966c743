-- Item methods and signs on one item (ISO/IEC 9075-2, SQL/JSON path language, item methods).
use Rattle.std.specs.Prelude.{ℕ, List, codes, Bool, true, false, Result, Ok, Err, ℤ, pos, neg_ℤ, unsigned_abs}
use Rattle.sj_base.specs.declared.state.State.{State}
use Rattle.sj_decimal.specs.Rounding.{floor_of, ceiling_of}
use Rattle.sj_doc.specs.Kinds.{kind_of}
use Rattle.sj_doc.specs.declared.node.Kind.{Kind}
use Rattle.sj_doc.specs.declared.node.Kind.TheVariants as kinds
use Rattle.sj_path_tree.specs.declared.parts.Method.{Method}
use Rattle.sj_path_tree.specs.declared.parts.Method.TheVariants as methods
use Rattle.sj_item.specs.Items.{ItemValue, made_number, made_text, made_truth, item_value, item_tree, size_of}
use Rattle.sj_item.specs.Bounds.{integer_low, integer_high, bigint_low, bigint_high}
use Rattle.sj_item.specs.Scalars.{number_cast, whole_cast, truth_cast, text_cast}
use Rattle.sj_item.specs.declared.item.Item.{Item}
use Rattle.sj_step.specs.Trace.{Trace, only, fail}
use Rattle.sj_method.specs.Numbers.{operand_of}
use Rattle.sj_method.specs.Pairs.{key_values}

-- a call's answer as a trace: one item, or a fault
abbrev pub outcome : Result Item State → Trace
outcome (Ok x) = only (item_value x)
outcome (Err s) = fail s

abbrev pub type_name : Kind → List ℕ
type_name kinds.Null = codes "null"
type_name kinds.Truth = codes "boolean"
type_name kinds.Number = codes "number"
type_name kinds.String = codes "string"
type_name kinds.Array = codes "array"
type_name kinds.Object = codes "object"

-- the item that is made of a value, or the state in which there is none
abbrev pub made_of : {A : Type 0} → (A → ItemValue) → Result A State → Trace
made_of f (Ok a) = only (f a)
made_of f (Err s) = fail s

-- f of an exact number
abbrev pub made_from : (ℤ × ℕ → ℤ × ℕ) → Result (ℤ × ℕ) State → Trace
made_from f r = made_of (λ d. made_number (f d)) r

abbrev pub absolute : ℤ × ℕ → ℤ × ℕ
absolute d = (pos (unsigned_abs d.0), d.1)

abbrev pub with_sign : Bool → ℤ × ℕ → ℤ × ℕ
with_sign true d = (neg_ℤ d.0, d.1)
with_sign false d = d

-- the trace of a method on one item; the last six give a cast of it
unfoldable pub method_of : Method → ItemValue → Trace
method_of methods.TypeOf x = only (made_text (type_name (kind_of (item_tree x))))
method_of methods.Size x = only (made_number (pos (size_of (item_tree x)), 0))
method_of methods.Ceiling x = made_from (λ d. (ceiling_of d, 0)) (operand_of x)
method_of methods.Floor x = made_from (λ d. (floor_of d, 0)) (operand_of x)
method_of methods.Abs x = made_from absolute (operand_of x)
method_of methods.KeyValue x = key_values x
method_of methods.Bigint x = made_of made_number (whole_cast bigint_low bigint_high (item_tree x))
method_of methods.Boolean x = made_of made_truth (truth_cast (item_tree x))
method_of methods.Decimal x = made_of made_number (number_cast (item_tree x))
method_of methods.Integer x = made_of made_number (whole_cast integer_low integer_high (item_tree x))
method_of methods.Number x = made_of made_number (number_cast (item_tree x))
method_of methods.Text x = made_of made_text (text_cast (item_tree x))

-- the trace of a sign before one item, where `minus` tells which sign
unfoldable pub sign_of : Bool → ItemValue → Trace
sign_of minus x = made_from (with_sign minus) (operand_of x)
