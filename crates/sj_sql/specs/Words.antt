-- Single tokens.
use Rattle.std.specs.Prelude.{Bool, false}
use Rattle.sj_sql_token.specs.declared.token.Token.{Token}
use Rattle.sj_sql_token.specs.declared.token.Token.TheVariants as k
use Rattle.sj_sql_token.specs.declared.keyword.Keyword.TheVariants as w
use Rattle.sj_sql_token.specs.Same.{same}

abbrev pub is_from : Token → Bool
is_from (k.Word v text) = same v w.From
is_from _ = false
