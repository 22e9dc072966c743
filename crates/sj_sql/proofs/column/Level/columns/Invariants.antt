use Rattle.std.proofs.Common.{◌≡◌, ◌-◌, length, map}
use Rattle.sj_sql_grammar.specs.Faults.{parsing}
use Rattle.sj_sql_grammar.specs.Reading.{columns_at, columns_from}
use Rattle.sj_sql_grammar.specs.Tree.{More}
use Rattle.sj_sql_phrase.specs.Cells.{fronted}
use Rattle.sj_sql.specs.Noted.{faults_of}
use Rattle.sj_sql_tree.specs.View.{column_of}
use Rattle.sj_sql.proofs.column.Level.columns.Given as goal

abbrev pub invariant-loop-turn : goal.invariant-loop-turn
invariant-loop-turn g l =
    columns_from parsing (columns_at parsing l.self.depth) (length l.tokens) (faults_of l.fn.faults) l.tokens
    ≡ fronted More (map column_of l.before) (columns_from parsing (columns_at parsing l.self.depth) (l._turn-end - l._turn) (faults_of l.so_far) l.left.tokens.now)
