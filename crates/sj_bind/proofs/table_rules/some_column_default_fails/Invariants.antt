use Rattle.std.proofs.Common.{◌≡◌, drop}
use Rattle.std.specs.List.{list_any}
use Rattle.sj_bind.specs.Rules.{column_default_fails, columns_alone}
use Rattle.sj_bind.specs.FlatView.{columns_at}
use Rattle.sj_bind.proofs.table_rules.some_column_default_fails.Given as goal

-- those so far keep the rule
abbrev pub invariant-loop-column : goal.invariant-loop-column
invariant-loop-column l = list_any (column_default_fails) (columns_alone (columns_at (drop l.column-index l.columns))) ≡ list_any (column_default_fails) (columns_alone (columns_at l.columns))
