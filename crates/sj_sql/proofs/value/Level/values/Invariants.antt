use Rattle.std.proofs.Common.{◌≡◌, ◌-◌, length, map}
use Rattle.sj_sql_grammar.specs.Faults.{parsing}
use Rattle.sj_sql_grammar.specs.Reading.{value_at, values_from}
use Rattle.sj_sql_grammar.specs.Tree.{MoreValues}
use Rattle.sj_sql_phrase.specs.Cells.{fronted}
use Rattle.sj_sql.specs.Noted.{faults_of}
use Rattle.sj_sql.specs.Sources.{source_of}
use Rattle.sj_sql_tree.specs.View.{value_of}
use Rattle.sj_sql.proofs.value.Level.values.Given as goal

abbrev pub invariant-loop-turn : goal.invariant-loop-turn
invariant-loop-turn g l =
    values_from parsing (value_at parsing (source_of l.self.source) l.self.depth) (length l.tokens) (faults_of l.fn.faults) l.tokens
    ≡ fronted MoreValues (map value_of l.values) (values_from parsing (value_at parsing (source_of l.self.source) l.self.depth) (l._turn-end - l._turn) (faults_of l.so_far) l.left.tokens.now)
