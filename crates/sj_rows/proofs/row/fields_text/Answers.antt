use Rattle.std.specs.List.{flat_map}
use Rattle.sj_rows.specs.RowText.{tabbed}
use Rattle.sj_rows.proofs.Fields.{field_stopped}
use Rattle.sj_rows.proofs.row.fields_text.Goals as goal

pub returns-in_err-tabbed_text-clause-err : goal.returns-in_err-tabbed_text-clause-err
returns-in_err-tabbed_text-clause-err c =
    field_stopped c.from_residual.result c.args.out.now (flat_map tabbed c.args.fields.now) c.loop-value.out c.args.fields.now c.loop-value.value-index c.value-item.result c.tabbed_text.new.out
    c.loop-value.invariant c.loop-value-test.true c.value-item.is c.in_err-tabbed_text.ensures.err
