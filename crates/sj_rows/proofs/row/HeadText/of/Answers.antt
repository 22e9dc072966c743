use Rattle.std.proofs.Common.{◌≤◌, length, decimal, arith}
use Rattle.std.proofs.lemmas.Fmt.{length-decimal-le}
use Rattle.sj_rows.proofs.Heads.{head_is, length_head}
use Rattle.sj_rows.proofs.row.HeadText.of.Goals as goal

pub write_digits-second-requires : goal.write_digits-second-requires
write_digits-second-requires c = (omega (arith, length-decimal-le 10 c.args.statement (omega arith) (omega arith) (omega arith)), omega arith)

pub overflow_sub-second : goal.overflow_sub-second
overflow_sub-second c = omega (arith, length-decimal-le 10 c.args.statement (omega arith) (omega arith) (omega arith), c.write_digits-second.ensures.start)

pub write_digits-first-requires : goal.write_digits-first-requires
write_digits-first-requires c = (
  omega (arith, length-decimal-le 10 c.args.statement (omega arith) (omega arith) (omega arith), length-decimal-le 20 c.args.line (omega arith) (omega arith) c.ranges.line.fits, c.write_digits-second.ensures.start),
  omega (arith, c.write_digits-second.ensures.start),
)

pub returns : goal.returns
returns c =
    let second = c.write_digits-second in
    let first = c.write_digits-first in
    let short : length (decimal c.args.statement) ≤ 10 = length-decimal-le 10 c.args.statement (omega arith) (omega arith) (omega arith) in
    record {
      written = head_is second.new.buf first.new.buf second.result first.result c.args.line c.args.statement c.args.letter second.ensures.before second.ensures.written
          (omega (arith, short, second.ensures.start)) (omega (arith, second.ensures.start)) (omega (arith, second.ensures.start)) first.ensures.written;
      ends = omega (arith, length_head c.args.line c.args.statement c.args.letter, first.ensures.start, second.ensures.start);
      last = omega (arith, short, first.ensures.start, second.ensures.start);
    }

pub overflow_sub-result : goal.overflow_sub-result
overflow_sub-result c = omega (arith, length-decimal-le 10 c.args.statement (omega arith) (omega arith) (omega arith), c.write_digits-second.ensures.start)
