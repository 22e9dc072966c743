use Rattle.std.proofs.Common.{◌≡◌, ◌-◌, length}
use denote.Shadow.{shadow}
use denote.Text.{Utf8}
use Rattle.sj_path_token.specs.Reading.{lex_from}
use Rattle.sj_path_token.proofs.TokenTurns.{with_front}
use Rattle.sj_path_token.proofs.lex.tokens_of.Given as goal

abbrev pub invariant-loop-turn : goal.invariant-loop-turn
invariant-loop-turn l = record {
  reads : lex_from (length l.text) l.text ≡ with_front l.tokens.items (lex_from (l._turn-end - l._turn) l.rest);
  text : shadow (Utf8 l.rest);
}
