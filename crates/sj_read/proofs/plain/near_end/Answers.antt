use Rattle.std.proofs.Common.{refl, sym, ap, ◌∙◌, arith}
use lib.Count.{count_trailing_zeros}
use Rattle.sj_base.specs.ByteClasses.{is_plain}
use Rattle.sj_read.specs.Scans.{is_stop}
use Rattle.sj_read.proofs.Runs.{run_short, run_stops, run_through}
use Rattle.sj_read.proofs.plain.near_end.Goals as goal

pub returns : goal.returns
returns c =
    let found = c.stops_in_16-found in
    let run = run_stops is_stop is_plain (λ x. refl) c.args.text.now c.args.from 16 (omega arith) (omega arith) (omega (arith, found.ensures)) ∙ ap (count_trailing_zeros 64) (sym found.ensures) in
    let short = run_short is_stop is_plain (λ x. refl) c.args.text.now c.args.from 16 (omega arith) (omega (arith, found.ensures)) in
    (omega (arith, run), omega (arith, run, short))

pub returns-then-found-eq0 : goal.returns-then-found-eq0
returns-then-found-eq0 c = run_through is_stop is_plain (λ x. refl) c.args.text.now c.args.from 16 (omega arith) (omega (arith, c.stops_in_16-found.ensures, c.if-found-eq0.true))
