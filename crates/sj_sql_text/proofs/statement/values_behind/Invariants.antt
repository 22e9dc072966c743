use Rattle.std.proofs.Common.{◌≡◌, ◌++◌, drop}
use Rattle.sj_sql_text.specs.Pieces.{Pieces}
use Rattle.sj_sql_tree.specs.View.{plain_of}
use Rattle.sj_sql_text.specs.Phrases.{each_behind}
use Rattle.sj_sql_text.specs.Statements.{value_on}
use Rattle.sj_sql_text.proofs.statement.values_behind.Given as goal

abbrev pub invariant-loop-one : goal.invariant-loop-one
invariant-loop-one l = (rest : Pieces) → l.out ++ each_behind value_on (plain_of (drop l.one-index l.values)) rest ≡ l.initial.out ++ each_behind value_on (plain_of l.values) rest
