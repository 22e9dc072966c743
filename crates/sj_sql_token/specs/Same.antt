-- Whether two keywords are one.
use Rattle.std.specs.Prelude.{Bool}
use denote.Enum.Bare.{sameb}
use Rattle.sj_sql_token.specs.contracts.keyword.Keyword.{the_type}
use Rattle.sj_sql_token.specs.declared.keyword.Keyword.{Keyword}

-- they are the same variant
abbrev pub same : Keyword → Keyword → Bool
same v w = sameb the_type v w
