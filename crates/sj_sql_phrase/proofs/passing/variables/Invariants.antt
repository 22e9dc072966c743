use Rattle.std.proofs.Common.{◌≡◌, ◌-◌, length}
use Rattle.sj_sql_grammar.specs.Phrases.{passed_at}
use Rattle.sj_sql_grammar.specs.Reading.{list_from}
use Rattle.sj_sql_phrase.specs.Cells.{listed}
use Rattle.sj_sql_phrase.proofs.passing.variables.Given as goal

abbrev pub invariant-loop-turn : goal.invariant-loop-turn
invariant-loop-turn l = list_from passed_at (length l.tokens) l.tokens ≡ listed l.variables (list_from passed_at (l._turn-end - l._turn) l.left.tokens.now)
