use Rattle.std.proofs.Common.{◌≡◌, ◌≤◌, length}
use Rattle.sj_sql_token.specs.Tokens.{lexed}
use Rattle.sj_sql_token.proofs.lex.next_token.Given as goal

-- what was passed over leaves no trace
abbrev pub invariant-loop-first : goal.invariant-loop-first
invariant-loop-first l = record {
  read : lexed l.file ≡ lexed l.rest;
  within : length l.rest ≤ length l.file;
}

abbrev pub decreases-loop-first : goal.decreases-loop-first
decreases-loop-first l = length l.rest
