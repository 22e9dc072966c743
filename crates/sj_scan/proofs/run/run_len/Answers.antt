use Rattle.std.proofs.Common.{refl, sym, ap, ◌∙◌, arith}
use lib.Count.{count_trailing_zeros}
use Rattle.sj_scan.specs.Runs.{is_stop, is_run}
use Rattle.sj_scan.proofs.Masks.{run_short, run_stops, run_through}
use Rattle.sj_scan.proofs.run.run_len.Goals as goal

pub returns-then-found-ne0-clause-value : goal.returns-then-found-ne0-clause-value
returns-then-found-ne0-clause-value c =
    let found = c.stops_in_16-found in
    let run = run_stops is_stop is_run (λ x. refl) c.args.bytes.now c.steps.at 16 (omega arith) (omega arith) (omega (arith, found.ensures)) ∙ ap (count_trailing_zeros 64) (sym found.ensures) in
    omega (arith, run, c.steps.invariant.0)

pub returns-then-found-ne0-clause-bound : goal.returns-then-found-ne0-clause-bound
returns-then-found-ne0-clause-bound c =
    let found = c.stops_in_16-found in
    let run = run_stops is_stop is_run (λ x. refl) c.args.bytes.now c.steps.at 16 (omega arith) (omega arith) (omega (arith, found.ensures)) ∙ ap (count_trailing_zeros 64) (sym found.ensures) in
    let short = run_short is_stop is_run (λ x. refl) c.args.bytes.now c.steps.at 16 (omega arith) (omega (arith, found.ensures)) in
    omega (arith, run, short)

pub steps-preserved : goal.steps-preserved
steps-preserved c =
    let through = run_through is_stop is_run (λ x. refl) c.args.bytes.now c.steps.at 16 (omega arith) (omega (arith, c.stops_in_16-found.ensures, c.if-found-ne0.false)) in
    (omega (arith, through, c.steps.invariant.0), omega arith)
