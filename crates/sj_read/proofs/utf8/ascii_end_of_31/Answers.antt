use Rattle.std.proofs.Common.{◌+◌, sym, ap, ◌∙◌, arith}
use lib.Count.{count_trailing_zeros}
use Rattle.sj_read.proofs.Ascii.{none_high, high_within, below_high, joined}
use Rattle.sj_read.proofs.utf8.ascii_end_of_31.Goals as goal

pub loop-i-preserved : goal.loop-i-preserved
loop-i-preserved c =
    let i = c.loop-i.i in
    let t = c.args.bytes.now in
    record {
      later = omega arith;
      within = omega arith;
      ascii = joined t c.args.from i (i + 8) c.loop-i.invariant.ascii (none_high t i 8 (omega arith) (sym c.high_in_8-found.ensures ∙ c.if-found-ne0.false));
    }

pub returns-then-found-ne0-clause-within : goal.returns-then-found-ne0-clause-within
returns-then-found-ne0-clause-within c =
    let i = c.loop-i.i in
    let t = c.args.bytes.now in
    let found = c.high_in_8-found in
    let few = high_within t i 8 (omega arith) (omega arith) (omega (arith, found.ensures)) (count_trailing_zeros 64 found.result) (ap (count_trailing_zeros 64) found.ensures) in
    omega (arith, few)

pub returns-then-found-ne0-clause-ascii : goal.returns-then-found-ne0-clause-ascii
returns-then-found-ne0-clause-ascii c =
    let i = c.loop-i.i in
    let t = c.args.bytes.now in
    let found = c.high_in_8-found in
    let r = count_trailing_zeros 64 found.result in
    joined t c.args.from i (i + r) c.loop-i.invariant.ascii
    (below_high t i 8 (omega arith) (omega arith) (omega (arith, found.ensures)) r (ap (count_trailing_zeros 64) found.ensures))
