use Rattle.std.proofs.Common.{sym, ap, ◌∙◌, arith}
use Rattle.sj_sql_tree.specs.View.{items_of, table_of}
use Rattle.sj_bound.specs.View as view
use Rattle.sj_bind.specs.Faults.{listed_fault}
use Rattle.sj_bind.specs.FlatView.{flat_of}
use Rattle.sj_bind.proofs.BoundTables.{list_bound}
use Rattle.sj_bind.proofs.Groups.{length-items_of, listed_groups}
use Rattle.sj_bind.proofs.FitColumns.{can_bind}
use Rattle.sj_bind.proofs.UnbrokenRules.{clean_list}
use Rattle.sj_bind.proofs.binding.bind_listed.Goals as goal

pub returns-in-Some : goal.returns-in-Some
returns-in-Some c = listed_groups (items_of c.args.items) (table_of c.args.table) ∙ ap (listed_fault (items_of c.args.items)) (sym c.in_ok-flat.ensures) ∙ sym c.in_ok-kind.ensures ∙ c.in-Some.is

pub bind_beside-requires-clause-fit : goal.bind_beside-requires-clause-fit
bind_beside-requires-clause-fit c = (clean_list (items_of c.args.items) (flat_of c.in_ok-flat.flat) c.requires.asks_nothing (sym c.in_ok-kind.ensures ∙ c.in_default.is)).fit

pub bind_beside-requires-clause-few : goal.bind_beside-requires-clause-few
bind_beside-requires-clause-few c = omega (arith, (clean_list (items_of c.args.items) (flat_of c.in_ok-flat.flat) c.requires.asks_nothing (sym c.in_ok-kind.ensures ∙ c.in_default.is)).few, length-items_of c.args.items)

pub bind_table-requires-clause-matched : goal.bind_table-requires-clause-matched
bind_table-requires-clause-matched c = (clean_list (items_of c.args.items) (flat_of c.in_ok-flat.flat) c.requires.asks_nothing (sym c.in_ok-kind.ensures ∙ c.in_default.is)).table.matched

pub bind_table-requires-clause-once : goal.bind_table-requires-clause-once
bind_table-requires-clause-once c = (clean_list (items_of c.args.items) (flat_of c.in_ok-flat.flat) c.requires.asks_nothing (sym c.in_ok-kind.ensures ∙ c.in_default.is)).table.once

pub bind_table-requires-clause-columns : goal.bind_table-requires-clause-columns
bind_table-requires-clause-columns c =
    can_bind (table_of c.args.table) (flat_of c.in_ok-flat.flat) c.in_ok-flat.ensures c.requires.bindable
    (clean_list (items_of c.args.items) (flat_of c.in_ok-flat.flat) c.requires.asks_nothing (sym c.in_ok-kind.ensures ∙ c.in_default.is)).table

pub returns : goal.returns
returns c = (
  listed_groups (items_of c.args.items) (table_of c.args.table) ∙ ap (listed_fault (items_of c.args.items)) (sym c.in_ok-flat.ensures) ∙ sym c.in_ok-kind.ensures ∙ c.in_default.is,
  list_bound (items_of c.args.items) (table_of c.args.table) (flat_of c.in_ok-flat.flat) (view.items_of c.in_ok-items.items) (view.table_of c.in_ok-table.table.value) c.in_ok-flat.ensures
      c.in_ok-items.ensures c.in_ok-table.ensures,
)
