use Rattle.std.proofs.Common.{arith}
use Rattle.sj_sql_text.specs.Marks.{mark_of}
use Rattle.sj_sql_text.proofs.Marks.{stands_as_it_is, splits_behind}
use Rattle.sj_sql_text.proofs.quoted.split_behind_mark.Goals as goal

pub returns-in_default : goal.returns-in_default
returns-in_default c = stands_as_it_is (mark_of c.args.mark) c.byte.result c.args.text.now c.byte.ensures c.in_default.ensures

pub returns : goal.returns
returns c = (
  omega (arith, c.split_at.ensures.back_len),
  splits_behind (mark_of c.args.mark) c.byte.result c.args.text.now c.split_at.result.0.now c.split_at.result.1.now c.in-Some.at
      c.byte.ensures c.in-Some.ensures.0 c.in-Some.ensures.1 c.split_at.ensures.front c.split_at.ensures.back,
)
