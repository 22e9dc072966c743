use Rattle.std.proofs.Common.{subst, sym}
use Rattle.sj_bind.specs.declared.flat.FlatColumn.{FlatColumn}
use Rattle.sj_sql_tree.specs.View.{column_of}
use Rattle.sj_bind.specs.Bindable.{IsBindableColumn}
use Rattle.sj_bind.proofs.IndexedParts.{column_at}
use Rattle.sj_bind.proofs.table_rules.some_column_default_fails.Goals as goal

pub column_default_fails-requires : goal.column_default_fails-requires
column_default_fails-requires c =
    subst (λ (x : FlatColumn). IsBindableColumn (column_of x.column)) (sym c.column-item.is) (column_at IsBindableColumn c.args.columns.now c.loop-column.column-index c.column-item.result c.requires c.loop-column-test.true)
