use Rattle.std.proofs.Common.{◌≡◌, ◌≤◌, ◌∙◌, ℕ, ap, subst, arith, List}
use Rattle.sj_base.specs.Count.{raised}
use Rattle.sj_bound.specs.Bound.{Bound}
use Rattle.sj_page.proofs.Printing.{prints_same}
use Rattle.sj_batch.specs.declared.batch.ReadLine.{ReadLine}
use Rattle.sj_run.specs.Batch.{batch_asked, bounds_in}
use Rattle.sj_run.specs.Output.{prints, cost}
use Rattle.sj_run.proofs.Batches.{rows_kept}
use Rattle.sj_run.proofs.rows.print_by_kept_rows.Goals as goal

pub returns-clause-prints : goal.returns-clause-prints
returns-clause-prints g c =
    let K : List Bound = bounds_in c.args.kept.now.rows.items in
    let same : bounds_in c.as_mut_slice.result.now ≡ K = ap bounds_in (c.as_mut_slice.ensures.value ∙ c.place-placed.ensures.rows) in
    prints_same _ _ _ _ _ (ap (λ (b : List Bound). prints (batch_asked b c.place-placed.result.now)) same ∙ ap (λ (l : List ReadLine). prints (batch_asked K l)) c.place-placed.ensures.placed) c.print_each.ensures.prints

pub returns-clause-costs : goal.returns-clause-costs
returns-clause-costs g c =
    let K : List Bound = bounds_in c.args.kept.now.rows.items in
    let same : bounds_in c.as_mut_slice.result.now ≡ K = ap bounds_in (c.as_mut_slice.ensures.value ∙ c.place-placed.ensures.rows) in
    subst (λ (n : ℕ). c.print_each.new.steps ≤ raised c.args.out.now.steps.now n) (ap (λ (b : List Bound). cost (batch_asked b c.place-placed.result.now)) same ∙ ap (λ (l : List ReadLine). cost (batch_asked K l)) c.place-placed.ensures.placed) c.print_each.ensures.costs

pub returns-clause-bounds : goal.returns-clause-bounds
returns-clause-bounds g c =
    let K : List Bound = bounds_in c.args.kept.now.rows.items in
    let same : bounds_in c.as_mut_slice.result.now ≡ K = ap bounds_in (c.as_mut_slice.ensures.value ∙ c.place-placed.ensures.rows) in
    rows_kept c.print_each.new.rows _ _ K (omega arith) (c.print_each.ensures.bounds ∙ same)
