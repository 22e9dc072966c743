use Rattle.std.proofs.Common.{◌≡◌, ◌∙◌, arith, get_or, refl, sym, ap}
use Rattle.sj_select_list.specs.Operations.{column, step_of}
use Rattle.sj_select_list.proofs.GatheredOutcomes.{place}
use Rattle.sj_select.proofs.EachColumn.{finds_more}
use Rattle.sj_select.proofs.print.each_finds_its_column.Goals as goal

pub loop-operation-preserved : goal.loop-operation-preserved
loop-operation-preserved c =
    let is : step_of (get_or c.args.operations.now c.loop-operation.operation-index c.operation-item.result) ≡ column c.loop-operation.operation-index =
    ap step_of (sym c.operation-item.is ∙ c.in-Column.is) ∙ ap column (c.if-found-number.true ∙ c.loop-operation.invariant.number) in
    record {
      number = omega arith;
      finds = finds_more _ _ _ (place step_of _ _ _ c.operation-item.result c.loop-operation-test.true refl) is c.loop-operation.invariant.finds;
    }
