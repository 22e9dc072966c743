use Rattle.std.proofs.Common.{rules, ◌≤◌, ◌%◌, length, decimal, arith}
use Rattle.std.proofs.lemmas.Fmt.{length-decimal-le}
use Rattle.sj_generated.proofs.line.push_digit.Goals as goal

pub push_str-requires : goal.push_str-requires
push_str-requires c =
    let one : length (decimal (c.args.number % c.args.base)) ≤ 1 = length-decimal-le 1 (c.args.number % c.args.base) (omega arith) (omega arith) (omega arith) in
    search rules

pub returns-clause-len : goal.returns-clause-len
returns-clause-len c =
    let one : length (decimal (c.args.number % c.args.base)) ≤ 1 = length-decimal-le 1 (c.args.number % c.args.base) (omega arith) (omega arith) (omega arith) in
    search rules
