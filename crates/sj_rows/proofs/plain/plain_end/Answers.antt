use Rattle.std.proofs.Common.{refl, sym, ap, ◌∙◌, arith}
use lib.Count.{count_trailing_zeros}
use Rattle.sj_rows.specs.RowText.{has_escape, stands}
use Rattle.sj_rows.proofs.Runs.{run_through, run_stops}
use Rattle.sj_rows.proofs.plain.plain_end.Goals as goal

pub returns-then-found-ne0 : goal.returns-then-found-ne0
returns-then-found-ne0 c =
    let found = c.escapes_in_16-found in
    let run = run_stops has_escape stands (λ x. refl) c.args.bytes.now c.loop-i.i 16 (omega arith) (omega arith) (omega (arith, found.ensures)) ∙ ap (count_trailing_zeros 64) (sym found.ensures) in
    omega (arith, run, c.loop-i.invariant.0)

pub loop-i-preserved : goal.loop-i-preserved
loop-i-preserved c =
    let run = run_through has_escape stands (λ x. refl) c.args.bytes.now c.loop-i.i 16 (omega arith) (omega (arith, c.escapes_in_16-found.ensures)) in
    (omega (arith, run, c.loop-i.invariant.0), omega arith)
