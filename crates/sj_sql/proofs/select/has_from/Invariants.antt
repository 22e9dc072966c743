use Rattle.std.proofs.Common.{◌≡◌, drop}
use Rattle.sj_sql_grammar.specs.Reading.{has_from}
use Rattle.sj_sql.proofs.select.has_from.Given as goal

abbrev pub invariant-loop-token : goal.invariant-loop-token
invariant-loop-token l = has_from l.tokens ≡ has_from (drop l.token-index l.tokens)
