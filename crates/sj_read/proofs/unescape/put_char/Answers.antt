use Rattle.std.proofs.lemmas.Str.{IsUtf8-encode}
use Rattle.sj_read.proofs.unescape.put_char.Goals as goal

pub returns-then-is_ascii-clause-utf8 : goal.returns-then-is_ascii-clause-utf8
returns-then-is_ascii-clause-utf8 c = IsUtf8-encode c.args.c c.ranges.c.0
