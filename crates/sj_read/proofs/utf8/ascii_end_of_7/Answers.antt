use Rattle.std.proofs.Common.{◌+◌, ◌-◌, length, sym, ◌∙◌, arith}
use Rattle.sj_read.proofs.Ascii.{none_high, joined}
use Rattle.sj_read.proofs.utf8.ascii_end_of_7.Goals as goal

pub returns-then-high_in_4-eq0-2-clause-ascii : goal.returns-then-high_in_4-eq0-2-clause-ascii
returns-then-high_in_4-eq0-2-clause-ascii c =
    let t = c.args.bytes.now in
    let from = c.args.from in
    let first = none_high t from 4 (omega arith) (sym c.high_in_4.ensures ∙ c.if-high_in_4-eq0.true) in
    let last = none_high t (length t - 4) 4 (omega arith) (sym c.high_in_4-then-high_in_4-eq0.ensures ∙ c.if-high_in_4-eq0-2.true) in
    joined t from (from + 4) (length t) first (λ k after below. last k (omega (arith, after, c.requires.few)) (omega (arith, below)))
