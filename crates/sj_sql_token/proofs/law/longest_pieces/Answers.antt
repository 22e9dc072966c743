use Rattle.sj_sql_token.proofs.Longest.{token_longest, passed_longest, broken_longest}
use Rattle.sj_sql_token.proofs.law.longest_pieces.Goals as goal

pub returns-clause-token : goal.returns-clause-token
returns-clause-token c = token_longest

pub returns-clause-passed : goal.returns-clause-passed
returns-clause-passed c = passed_longest

pub returns-clause-broken : goal.returns-clause-broken
returns-clause-broken c = broken_longest
