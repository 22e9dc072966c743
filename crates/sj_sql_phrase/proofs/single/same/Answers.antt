use denote.Enum.Bare.{same_true}
use Rattle.std.proofs.Common.{sym}
use Rattle.sj_sql_token.specs.contracts.keyword.Keyword.{the_type}
use Rattle.sj_sql_token.proofs.Keywords.{same_on}
use Rattle.sj_sql_phrase.proofs.single.same.Goals as goal

pub returns-then-eq : goal.returns-then-eq
returns-then-eq c = sym (same_on c.args.found c.args.wanted (same_true the_type tt c.args.found c.args.wanted (sym c.if-eq.ensures)))
