-- The tables of the grammar: what single tokens and words stand for.
use Rattle.std.specs.Prelude.{true, false, Option, Some, None}
use Rattle.sj_path_token.specs.declared.token.Token.{Token}
use Rattle.sj_path_token.specs.declared.token.Token.TheVariants as k
use Rattle.sj_path_token.specs.declared.keyword.Keyword.{Keyword}
use Rattle.sj_path_token.specs.declared.keyword.Keyword.TheVariants as w
use Rattle.sj_path_tree.specs.declared.parts.Arith.{Arith}
use Rattle.sj_path_tree.specs.declared.parts.Arith.TheVariants.{Add, Sub, Mul, Div, Rem}
use Rattle.sj_path_tree.specs.declared.parts.Method.TheVariants as m
use Rattle.sj_path_tree.specs.declared.parts.Literal.TheVariants as l
use Rattle.sj_path_tree.specs.Tree.{Expr, Root, Var, Context, Last, Lit, Step, Call}

-- "+" | "-"
abbrev pub add_sign : Token → Option Arith
add_sign k.Plus = Some Add
add_sign k.Minus = Some Sub
add_sign _ = None

-- "*" | "/" | "%"
abbrev pub mul_sign : Token → Option Arith
mul_sign k.Star = Some Mul
mul_sign k.Slash = Some Div
mul_sign k.Percent = Some Rem
mul_sign _ = None

-- a word that is an expression by itself
abbrev pub word_expr : Keyword → Option Expr
word_expr w.Last = Some Last
word_expr w.True = Some (Lit (l.Bool true))
word_expr w.False = Some (Lit (l.Bool false))
word_expr w.Null = Some (Lit l.Null)
word_expr _ = None

-- a token that is an expression by itself: "$" | variable | "@" | "last" | literal
abbrev pub token_expr : Token → Option Expr
token_expr k.Root = Some Root
token_expr (k.Variable name) = Some (Var name)
token_expr k.At = Some Context
token_expr (k.Quoted s) = Some (Lit (l.Text s))
token_expr (k.Number n) = Some (Lit (l.Num n))
token_expr (k.Word keyword text) = word_expr keyword
token_expr _ = None

-- what stands in for a method that is not supported (`Grammar`)
abbrev pub stand_in : Step
stand_in = Call m.TypeOf

-- a method without an argument: "type" | "size" | "ceiling" | "floor" | "abs" | "keyvalue" | "bigint" | "boolean"
--      | "decimal" | "integer" | "number" | "string" | "double"
abbrev pub method_of : Keyword → Option Step
method_of w.Type = Some (Call m.TypeOf)
method_of w.Size = Some (Call m.Size)
method_of w.Ceiling = Some (Call m.Ceiling)
method_of w.Floor = Some (Call m.Floor)
method_of w.Abs = Some (Call m.Abs)
method_of w.KeyValue = Some (Call m.KeyValue)
method_of w.Bigint = Some (Call m.Bigint)
method_of w.Boolean = Some (Call m.Boolean)
method_of w.Decimal = Some (Call m.Decimal)
method_of w.Integer = Some (Call m.Integer)
method_of w.Number = Some (Call m.Number)
method_of w.String = Some (Call m.Text)
method_of w.Double = Some stand_in
method_of _ = None
