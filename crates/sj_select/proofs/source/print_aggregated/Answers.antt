use Rattle.std.proofs.Common.{List, ◌++◌, ap, ◌∙◌}
use Rattle.std.specs.List.{flat_map}
use Rattle.sj_value.specs.declared.value.SqlValue.{SqlValue}
use Rattle.sj_rows.specs.RowText.{tabbed}
use Rattle.sj_select.proofs.source.print_aggregated.Goals as goal

pub returns-clause-prints : goal.returns-clause-prints
returns-clause-prints c _ = record {
  row = c.gather_aggregates.new.stack.values.items;
  is = rw c.in_default.is at c.in_ok-state.ensures.finds;
  grown = c.in_ok-fields_text.ensures.ok ∙ ap (λ (l : List SqlValue). c.args.out.now ++ flat_map tabbed l) c.as_slice.ensures.value;
}
