use Rattle.std.proofs.Common.{◌≡◌, ◌++◌, drop}
use Rattle.sj_sql_text.specs.Pieces.{Pieces}
use Rattle.sj_sql_text.specs.Phrases.{each_behind, passed_on}
use Rattle.sj_sql_text.proofs.phrase.passed_behind.Given as goal

abbrev pub invariant-loop-variable : goal.invariant-loop-variable
invariant-loop-variable l = (rest : Pieces) → l.out ++ each_behind passed_on (drop l.variable-index l.variables) rest ≡ l.initial.out ++ each_behind passed_on l.variables rest
