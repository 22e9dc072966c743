use Rattle.std.proofs.Common.{◌≡◌, ℕ, ◌≤◌, take}
use Rattle.std.specs.Prelude.{count_by}
use Rattle.sj_sql_grammar.specs.Grammar.{is_open, is_close, IsDeepAt}
use Rattle.sj_sql_phrase.proofs.depth.too_deep.Given as goal

-- the counts of the tokens so far, of which no prefix is too deep
abbrev pub invariant-loop-token : goal.invariant-loop-token
invariant-loop-token l = record {
  opened : l.opened ≡ count_by is_open (take l.token-index l.tokens);
  closed : l.closed ≡ count_by is_close (take l.token-index l.tokens);
  opened_few : l.opened ≤ l.token-index;
  closed_few : l.closed ≤ l.token-index;
  shallow : (n : ℕ) → n ≤ l.token-index → IsDeepAt l.tokens n → ⊥;
}
