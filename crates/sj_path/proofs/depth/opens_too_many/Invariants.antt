use Rattle.std.proofs.Common.{◌≡◌, ℕ, ◌≤◌, take}
use Rattle.std.specs.Prelude.{count_by}
use Rattle.sj_path_grammar.specs.Depth.{is_opening, is_closing, IsDeepAt}
use Rattle.sj_path.proofs.depth.opens_too_many.Given as goal

abbrev pub invariant-loop-token : goal.invariant-loop-token
invariant-loop-token l = record {
  opened : l.opened ≡ count_by is_opening (take l.token-index l.tokens);
  closed : l.closed ≡ count_by is_closing (take l.token-index l.tokens);
  opened_few : l.opened ≤ l.token-index;
  closed_few : l.closed ≤ l.token-index;
  shallow : (n : ℕ) → n ≤ l.token-index → IsDeepAt l.tokens n → ⊥;
}
