use Rattle.std.proofs.Common.{sym, ap, ◌∙◌, arith}
use lib.Count.{count_trailing_zeros}
use Rattle.sj_rows.proofs.Feeds.{none_among, first_within, none_before, first_is}
use Rattle.sj_rows.proofs.scan.first_feed.Goals as goal

pub loop-i-preserved : goal.loop-i-preserved
loop-i-preserved c =
    (omega arith, none_among c.args.bytes.now c.loop-i.i 32 (omega arith) c.loop-i.invariant.1 (sym c.feeds_in_32-found.ensures ∙ c.if-found-ne0.false))

pub returns-then-found-ne0-clause-within : goal.returns-then-found-ne0-clause-within
returns-then-found-ne0-clause-within c =
    let found = c.feeds_in_32-found in
    let few = first_within c.args.bytes.now c.loop-i.i 32 (omega arith) c.loop-i.invariant.1 (omega arith) (omega (arith, found.ensures)) (count_trailing_zeros 64 found.result) (ap (count_trailing_zeros 64) found.ensures) in
    omega (arith, few)

pub returns-then-found-ne0-clause-before : goal.returns-then-found-ne0-clause-before
returns-then-found-ne0-clause-before c =
    let found = c.feeds_in_32-found in
    none_before c.args.bytes.now c.loop-i.i 32 (omega arith) c.loop-i.invariant.1 (omega arith) (omega (arith, found.ensures)) (count_trailing_zeros 64 found.result) (ap (count_trailing_zeros 64) found.ensures)

pub returns-then-found-ne0-clause-found : goal.returns-then-found-ne0-clause-found
returns-then-found-ne0-clause-found c =
    let found = c.feeds_in_32-found in
    first_is c.args.bytes.now c.loop-i.i 32 (omega arith) c.loop-i.invariant.1 (omega arith) (omega (arith, found.ensures)) (count_trailing_zeros 64 found.result) (ap (count_trailing_zeros 64) found.ensures)
