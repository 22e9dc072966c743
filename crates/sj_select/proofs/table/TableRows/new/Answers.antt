use Rattle.std.proofs.Common.{◌∙◌, sym, subst}
use Rattle.std.specs.List.{All}
use Rattle.std.proofs.lemmas.List.Elements.{All-nil}
use Rattle.sj_value.specs.Values.{IsPrintable}
use Rattle.sj_bound.specs.View.{table_of}
use Rattle.sj_select.proofs.SoundColumns.{sound_columns}
use Rattle.sj_select.proofs.PlacedRows.{placed_in, table_in}
use Rattle.sj_select.proofs.table.TableRows.new.Goals as goal

pub returns-in-Ok-clause-table : goal.returns-in-Ok-clause-table
returns-in-Ok-clause-table c = table_in _ _ c.boxed.ensures

pub returns-in-Ok-clause-placed : goal.returns-in-Ok-clause-placed
returns-in-Ok-clause-placed c =
    placed_in _ _ c.boxed.ensures
    (record {
      plan = c.in-Ok.ensures.plan;
      paths = c.in-Ok.ensures.paths ∙ c.as_slice.ensures;
      vars = c.in-Ok.ensures.vars;
      on_error = c.in-Ok.ensures.on_error;
      columns = c.in_ok-columns.ensures;
      can_fill = sound_columns (table_of c.args.table.now) c.requires;
      printable = subst (All IsPrintable) (sym c.new.ensures.items) (All-nil IsPrintable);
    })
