-- THE CANONICAL TEXT of a path: one text for each tree, which the law `read_back` reads back to this tree. The mode is written
-- out, a key is a string, blanks stand about operators alone, and parentheses only where the tree needs them.
use Rattle.std.specs.Prelude.{ℕ, List, [], ◌++◌, Bool, true, false, not, codes}
use Rattle.sj_decimal.specs.Text.{decimal_text}
use Rattle.sj_decimal.specs.declared.comparing.Compare.{Compare}
use Rattle.sj_decimal.specs.declared.comparing.Compare.TheVariants.{Eq, Ne, Lt, Le, Gt, Ge}
use Rattle.sj_json.specs.Printing.{printed_string, truth_text}
use Rattle.sj_path_tree.specs.declared.parts.Mode.{Mode}
use Rattle.sj_path_tree.specs.declared.parts.Mode.TheVariants as mode
use Rattle.sj_path_tree.specs.declared.parts.Arith.{Arith}
use Rattle.sj_path_tree.specs.declared.parts.Arith.TheVariants as arith
use Rattle.sj_path_tree.specs.declared.parts.Method.{Method}
use Rattle.sj_path_tree.specs.declared.parts.Method.TheVariants as m
use Rattle.sj_path_tree.specs.declared.parts.Literal.{Literal}
use Rattle.sj_path_tree.specs.declared.parts.Literal.TheVariants as literal
use Rattle.sj_path_tree.specs.declared.parts.Initial.{Initial}
use Rattle.sj_path_tree.specs.declared.parts.Initial.TheVariants as initial
use Rattle.sj_path_tree.specs.Tree.{Path, Expr, Root, Var, Context, Last, Lit, Plus, Minus, Binary, Access, Step, Member, AllMembers, AllElements, Elements, Filter, Call, Sub, One, Range, Subs, NoSubs, More, Pred, Compares, And, Or, Not, IsUnknown, Exists, StartsWith}
use Rattle.sj_path_text.specs.Parentheses.{is_binary, is_operation, is_below, is_not_above, is_or, is_and_or_or, is_exists}

-- in parentheses where the flag says so
abbrev pub enclosed : Bool → List ℕ → List ℕ
enclosed true text = codes "(" ++ (text ++ codes ")")
enclosed false text = text

-- ---- what holds no other part

abbrev pub mode_text : Mode → List ℕ
mode_text mode.Lax = codes "lax"
mode_text mode.Strict = codes "strict"

-- the sign, between blanks
abbrev pub arith_text : Arith → List ℕ
arith_text arith.Add = codes " + "
arith_text arith.Sub = codes " - "
arith_text arith.Mul = codes " * "
arith_text arith.Div = codes " / "
arith_text arith.Rem = codes " % "

abbrev pub compare_text : Compare → List ℕ
compare_text Eq = codes " == "
compare_text Ne = codes " != "
compare_text Lt = codes " < "
compare_text Le = codes " <= "
compare_text Gt = codes " > "
compare_text Ge = codes " >= "

abbrev pub method_name : Method → List ℕ
method_name m.TypeOf = codes "type"
method_name m.Size = codes "size"
method_name m.Ceiling = codes "ceiling"
method_name m.Floor = codes "floor"
method_name m.Abs = codes "abs"
method_name m.KeyValue = codes "keyvalue"
method_name m.Bigint = codes "bigint"
method_name m.Boolean = codes "boolean"
method_name m.Decimal = codes "decimal"
method_name m.Integer = codes "integer"
method_name m.Number = codes "number"
method_name m.Text = codes "string"

-- a string as JSON prints it
abbrev pub literal_text : Literal → List ℕ
literal_text (literal.Text s) = printed_string s
literal_text (literal.Num d) = decimal_text d
literal_text (literal.Bool b) = truth_text b
literal_text literal.Null = codes "null"

abbrev pub variable_text : List ℕ → List ℕ
variable_text name = codes "$" ++ name

abbrev pub initial_text : Initial → List ℕ
initial_text (initial.Lit s) = printed_string s
initial_text (initial.Var name) = variable_text name

-- ---- expressions, accessors and predicates

abbrev mutual
  pub expr_text : Expr → List ℕ
  expr_text Root = codes "$"
  expr_text (Var name) = variable_text name
  expr_text Context = codes "@"
  expr_text Last = codes "last"
  expr_text (Lit literal) = literal_text literal
  expr_text (Access e s) = enclosed (is_operation e) (expr_text e) ++ step_text s
  expr_text (Plus e) = codes "+" ++ enclosed (is_binary e) (expr_text e)
  expr_text (Minus e) = codes "-" ++ enclosed (is_binary e) (expr_text e)
  expr_text (Binary op a b) = enclosed (is_below op a) (expr_text a) ++ (arith_text op ++ enclosed (is_not_above op b) (expr_text b))

  pub step_text : Step → List ℕ
  step_text (Member key) = codes "." ++ printed_string key
  step_text AllMembers = codes ".*"
  step_text AllElements = codes "[*]"
  step_text (Elements subs) = codes "[" ++ (subs_text [] subs ++ codes "]")
  step_text (Filter p) = codes "?(" ++ (pred_text p ++ codes ")")
  step_text (Call method) = codes "." ++ (method_name method ++ codes "()")

  pub sub_text : Sub → List ℕ
  sub_text (One e) = expr_text e
  sub_text (Range from to) = expr_text from ++ (codes " to " ++ expr_text to)

  -- each behind a lead, which is nothing before the first and a comma and a blank before the others
  pub subs_text : List ℕ → Subs → List ℕ
  subs_text lead NoSubs = []
  subs_text lead (More s others) = lead ++ (sub_text s ++ subs_text (codes ", ") others)

  pub pred_text : Pred → List ℕ
  pred_text (Compares op a b) = expr_text a ++ (compare_text op ++ expr_text b)
  pred_text (And p q) = enclosed (is_or p) (pred_text p) ++ (codes " && " ++ enclosed (is_and_or_or q) (pred_text q))
  pred_text (Or p q) = pred_text p ++ (codes " || " ++ enclosed (is_or q) (pred_text q))
  pred_text (Not p) = codes "!" ++ enclosed (not (is_exists p)) (pred_text p)
  pred_text (IsUnknown p) = enclosed true (pred_text p) ++ codes " is unknown"
  pred_text (Exists e) = codes "exists(" ++ (expr_text e ++ codes ")")
  pred_text (StartsWith e initial) = expr_text e ++ (codes " starts with " ++ initial_text initial)

abbrev pub list_text : Subs → List ℕ
list_text subs = step_text (Elements subs)

abbrev pub path_text : Path → List ℕ
path_text p = mode_text p.mode ++ (codes " " ++ expr_text p.expr)
