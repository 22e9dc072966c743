use Rattle.std.proofs.Common.{◌≡◌, ◌++◌, false, drop}
use Rattle.sj_sql_tree.specs.View.{values_of, members_of}
use Rattle.sj_sql_text.specs.Pieces.{Pieces}
use Rattle.sj_sql_text.specs.Statements.{values_on, members_on}
use Rattle.sj_sql_text.proofs.value.+values.Given as goal

abbrev pub invariant-listed_members-loop-one : goal.invariant-listed_members-loop-one
invariant-listed_members-loop-one l = (rest : Pieces) → l.out ++ members_on l.behind (members_of (drop l.one-index l.members)) rest ≡ l.initial.out ++ members_on false (members_of l.members) rest

abbrev pub invariant-listed_values-loop-one : goal.invariant-listed_values-loop-one
invariant-listed_values-loop-one l = (rest : Pieces) → l.out ++ values_on l.behind (values_of (drop l.one-index l.values)) rest ≡ l.initial.out ++ values_on false (values_of l.values) rest
