use Rattle.std.proofs.Common.{◌≡◌, ◌++◌, drop}
use Rattle.sj_sql_grammar.specs.Tree as t
use Rattle.sj_sql_tree.specs.View.{column_of, columns_onto}
use Rattle.sj_sql_text.specs.Pieces.{Pieces}
use Rattle.sj_sql_text.specs.Statements.{listed_columns_on}
use Rattle.sj_sql_text.proofs.table.+columns.Given as goal

abbrev pub invariant-listed-loop-one : goal.invariant-listed-loop-one
invariant-listed-loop-one l = (rest : Pieces)
    → l.out ++ listed_columns_on (columns_onto (drop l.one-index l.columns.before.items) (t.Last (column_of l.columns.last))) rest
    ≡ l.initial.out ++ listed_columns_on (columns_onto l.columns.before.items (t.Last (column_of l.columns.last))) rest
