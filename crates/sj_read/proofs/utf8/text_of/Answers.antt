use Rattle.std.proofs.Common.{take, subst, arith, IsUtf8}
use Rattle.std.proofs.lemmas.List.{take_all}
use Rattle.std.proofs.lemmas.Str.{IsUtf8-nil}
use Rattle.sj_read.proofs.Ascii.{ascii_more}
use Rattle.sj_read.proofs.utf8.text_of.Goals as goal
use Rattle.sj_read.proofs.utf8.text_of.Goals.{After-ascii_end-at, else-at-line-via-then-at-line+else-not-is_text_from, else-at-line-via-else-at-line}

front : (c : After-ascii_end-at) → IsUtf8 (take c.ascii_end-at.result c.args.line.now)
front c = let e = c.ascii_end-at.ensures in ascii_more c.args.line.now 0 c.ascii_end-at.result e.later e.within e.ascii IsUtf8-nil

pub is_text_from-requires-clause-text : goal.is_text_from-requires-clause-text
is_text_from-requires-clause-text c = front (goal.at.is_text_from-requires-clause-text c).After-ascii_end-at

pub from_utf8_unchecked-requires : goal.from_utf8_unchecked-requires
from_utf8_unchecked-requires c = elim c.else-at-line.branch [
  | else-at-line-via-then-at-line+else-not-is_text_from w ↦ w.if-not-is_text_from.ensures
  | else-at-line-via-else-at-line w ↦ subst IsUtf8 (take_all c.ascii_end-at.result c.args.line.now (omega (arith, w.if-at-line.false))) (front (goal.at.from_utf8_unchecked-requires c).After-ascii_end-at)
]
