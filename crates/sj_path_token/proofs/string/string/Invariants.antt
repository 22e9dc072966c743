use Rattle.std.proofs.Common.{◌≡◌, ◌+◌, ◌-◌, length, string_bytes}
use denote.Shadow.{shadow}
use denote.Text.{Utf8}
use Rattle.sj_base.specs.Options.{◌>>=◌}
use Rattle.sj_path_token.specs.Reading.{inside_from, behind}
use Rattle.sj_path_token.proofs.string.string.Given as goal

abbrev pub invariant-loop-turn : goal.invariant-loop-turn
invariant-loop-turn l = record {
  reads : inside_from (length l.inside) l.inside ≡ (inside_from (l._turn-end - l._turn) l.rest >>= behind (string_bytes l.value) l.at);
  within : l.at + length l.rest ≡ length l.inside;
  text : shadow (Utf8 l.rest);
}
