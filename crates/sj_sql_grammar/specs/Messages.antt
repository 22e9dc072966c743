-- The message of each reason for which a file of statements is refused.
use Rattle.std.specs.Prelude.{ℕ, List, codes}
use Rattle.sj_path_grammar.specs.declared.refusal.Name.{Name}
use Rattle.sj_path_grammar.specs.declared.refusal.Name.TheVariants.{LikeRegex, Double, Datetime, ApproximateType, DatetimeType, Encoding}
use Rattle.sj_sql_grammar.specs.declared.refusal.BindKind.{BindKind}
use Rattle.sj_sql_grammar.specs.declared.refusal.BindKind.TheVariants.{TooMany, ColumnTwice, PathNameTwice, PathNameMissing, PlanMismatch, VariableTwice, UnknownVariable, QuotesWithWrapper, DefaultCast, UnknownColumn, AggregateMixed, KeyType}
use Rattle.sj_sql_grammar.specs.declared.refusal.FileKind.{FileKind}
use Rattle.sj_sql_grammar.specs.declared.refusal.FileKind.TheVariants.{Lex, Syntax, PathLex, PathTooDeep, PathSyntax, PathMisplaced, Unsupported, Bind, Group, NotForward}

abbrev pub name_text : Name → List ℕ
name_text LikeRegex = codes "unsupported like_regex"
name_text Double = codes "unsupported double"
name_text Datetime = codes "unsupported datetime"
name_text ApproximateType = codes "unsupported approximate type"
name_text DatetimeType = codes "unsupported datetime type"
name_text Encoding = codes "unsupported encoding"

abbrev pub bind_text : BindKind → List ℕ
bind_text TooMany = codes "too many columns or paths"
bind_text ColumnTwice = codes "column named twice"
bind_text PathNameTwice = codes "path named twice"
bind_text PathNameMissing = codes "path without a name"
bind_text PlanMismatch = codes "plan does not match the paths"
bind_text VariableTwice = codes "variable passed twice"
bind_text UnknownVariable = codes "unknown variable"
bind_text QuotesWithWrapper = codes "QUOTES with WRAPPER"
bind_text DefaultCast = codes "default cannot be cast"
bind_text UnknownColumn = codes "unknown column"
bind_text AggregateMixed = codes "aggregate beside a plain value"
bind_text KeyType = codes "key is not a text"

abbrev pub kind_text : FileKind → List ℕ
kind_text Lex = codes "lexical error"
kind_text Syntax = codes "syntax error"
kind_text PathLex = codes "path: lexical error"
kind_text PathTooDeep = codes "path: too deep"
kind_text PathSyntax = codes "path: syntax error"
kind_text PathMisplaced = codes "path: misplaced @ or last"
kind_text (Unsupported name) = name_text name
kind_text (Bind why) = bind_text why
kind_text Group = codes "not a statement to group"
kind_text NotForward = codes "path is not forward"
