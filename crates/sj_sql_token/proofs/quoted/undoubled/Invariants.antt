use Rattle.std.proofs.Common.{◌≡◌, ◌++◌, length, string_bytes}
use denote.Shadow.{shadow}
use denote.Text.{Utf8}
use Rattle.sj_sql_token.specs.Quotes.{undoubled}
use Rattle.sj_sql_token.proofs.quoted.undoubled.Given as goal

-- what was written, before what the rest stands for
abbrev pub invariant-loop-after : goal.invariant-loop-after
invariant-loop-after l = record {
  read : undoubled l.mark l.inside ≡ string_bytes l.text ++ undoubled l.mark l.rest;
  text : shadow (Utf8 l.rest);
}

abbrev pub decreases-loop-after : goal.decreases-loop-after
decreases-loop-after l = length l.rest
