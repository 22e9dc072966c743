use Rattle.std.proofs.Common.{◌≡◌, ◌++◌, drop}
use Rattle.sj_sql_text.specs.Pieces.{Pieces}
use Rattle.sj_sql_tree.specs.View.{items_of}
use Rattle.sj_sql_text.specs.Phrases.{each_behind}
use Rattle.sj_sql_text.specs.Statements.{item_on}
use Rattle.sj_sql_text.proofs.statement.items_behind.Given as goal

abbrev pub invariant-loop-one : goal.invariant-loop-one
invariant-loop-one l = (rest : Pieces) → l.out ++ each_behind item_on (items_of (drop l.one-index l.items)) rest ≡ l.initial.out ++ each_behind item_on (items_of l.items) rest
