use Rattle.std.proofs.Common.{◌≡◌, ◌+◌, length, option_map}
use Rattle.sj_sql_token.specs.Quotes.{inside_len}
use Rattle.sj_sql_token.proofs.quoted.inside_len.Given as goal

-- what stands before the end, when some of it has been passed
abbrev pub invariant-loop-first : goal.invariant-loop-first
invariant-loop-first l = record {
  read : inside_len l.mark l.after ≡ option_map (λ n. n + l.len) (inside_len l.mark l.rest);
  within : l.len + length l.rest ≡ length l.after;
}

abbrev pub decreases-loop-first : goal.decreases-loop-first
decreases-loop-first l = length l.rest
