use Rattle.std.proofs.Common.{◌≡◌, length, sym, ap, ◌∙◌, arith}
use Rattle.std.proofs.lemmas.List.{length-map}
use Rattle.sj_sql_tree.specs.View.{table_of}
use Rattle.sj_bound.specs.View as view
use Rattle.sj_bind.specs.Faults.{all_fault}
use Rattle.sj_bind.specs.FlatView.{flat_column_of, columns_at, flat_of}
use Rattle.sj_bind.specs.Meaning.{columns_below}
use Rattle.sj_bind.proofs.BoundTables.{all_bound}
use Rattle.sj_bind.proofs.Groups.{all_groups}
use Rattle.sj_bind.proofs.FitColumns.{can_bind}
use Rattle.sj_bind.proofs.UnbrokenRules.{clean_all}
use Rattle.sj_bind.proofs.binding.bind_all.Goals as goal

pub returns-in-Some : goal.returns-in-Some
returns-in-Some c = all_groups (table_of c.args.table) ∙ ap all_fault (sym c.in_ok-flat.ensures) ∙ sym c.in_ok-kind.ensures ∙ c.in-Some.is

pub bind_table-requires-clause-columns : goal.bind_table-requires-clause-columns
bind_table-requires-clause-columns c =
    can_bind (table_of c.args.table) (flat_of c.in_ok-flat.flat) c.in_ok-flat.ensures c.requires (clean_all (flat_of c.in_ok-flat.flat) (sym c.in_ok-kind.ensures ∙ c.in_default.is))

pub returns : goal.returns
returns c =
    let flat = c.in_ok-flat.flat in
    let n : c.len.result ≡ length (columns_at flat.columns.items) = omega (arith, c.len.ensures, flat.columns.ok, length-map flat.columns.items flat_column_of) in (
      all_groups (table_of c.args.table) ∙ ap all_fault (sym c.in_ok-flat.ensures) ∙ sym c.in_ok-kind.ensures ∙ c.in_default.is,
      all_bound (table_of c.args.table) (flat_of flat) (view.items_of c.in_ok-items.items) (view.table_of c.in_ok-table.table.value) c.in_ok-flat.ensures (c.in_ok-items.ensures ∙ ap columns_below n) c.in_ok-table.ensures,
    )
