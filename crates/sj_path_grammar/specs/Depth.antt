-- Lists of tokens that nest too deep, or have too many parts.
use Rattle.std.specs.Prelude.{ℕ, ◌<◌, ◌⊎◌, Bool, true, false, count_by}
use Rattle.sj_base.specs.Nesting.{LeavesOpen, NestsTooDeep}
use Rattle.sj_path_token.specs.declared.token.Token.{Token}
use Rattle.sj_path_token.specs.declared.token.Token.TheVariants as k
use Rattle.sj_path_grammar.specs.Grammar.{Tokens}

-- "(" or "["
abbrev pub is_opening : Token → Bool
is_opening k.Open = true
is_opening k.OpenBracket = true
is_opening _ = false

-- ")" or "]"
abbrev pub is_closing : Token → Bool
is_closing k.Close = true
is_closing k.CloseBracket = true
is_closing _ = false

-- one of + - * / % && || ! . [ ? ,
abbrev pub is_counted : Token → Bool
is_counted k.Plus = true
is_counted k.Minus = true
is_counted k.Star = true
is_counted k.Slash = true
is_counted k.Percent = true
is_counted k.And = true
is_counted k.Or = true
is_counted k.Not = true
is_counted k.Dot = true
is_counted k.OpenBracket = true
is_counted k.Question = true
is_counted k.Comma = true
is_counted _ = false

-- the tokens of those, wherever they stand, that a path may have
abbrev pub max_counted : ℕ
max_counted = 256

abbrev pub IsDeepAt : Tokens → ℕ → Type 0
IsDeepAt ts n = LeavesOpen is_opening is_closing ts n

abbrev pub OpensTooMany : Tokens → Type 0
OpensTooMany ts = NestsTooDeep is_opening is_closing ts

-- or more tokens are of those counted than may be
abbrev pub IsTooDeep : Tokens → Type 0
IsTooDeep ts = OpensTooMany ts ⊎ (max_counted < count_by is_counted ts)
