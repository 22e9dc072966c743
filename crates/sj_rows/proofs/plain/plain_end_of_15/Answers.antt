use Rattle.std.proofs.Common.{refl, sym, ap, ◌∙◌, arith}
use lib.Count.{count_trailing_zeros}
use Rattle.sj_rows.specs.RowText.{has_escape, stands}
use Rattle.sj_rows.proofs.Runs.{run_through, run_stops}
use Rattle.sj_rows.proofs.plain.plain_end_of_15.Goals as goal

pub returns-then-found-ne0 : goal.returns-then-found-ne0
returns-then-found-ne0 c =
    let found = c.escapes_in_8-found in
    let run = run_stops has_escape stands (λ x. refl) c.args.bytes.now c.args.from 8 (omega arith) (omega arith) (omega (arith, found.ensures)) ∙ ap (count_trailing_zeros 64) (sym found.ensures) in
    omega (arith, run)

pub returns : goal.returns
returns c =
    let run = run_through has_escape stands (λ x. refl) c.args.bytes.now c.args.from 8 (omega arith) (omega (arith, c.escapes_in_8-found.ensures)) in
    omega (arith, run, c.plain_end_by_one-2.ensures)
