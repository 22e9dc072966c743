use Rattle.std.proofs.Common.{◌≡◌, ◌-◌, length, ◌∷◌}
use Rattle.sj_sql_grammar.specs.Faults.{parsing}
use Rattle.sj_sql_grammar.specs.Reading.{listed_item_at, items_from}
use Rattle.sj_sql_phrase.specs.Cells.{fronted}
use Rattle.sj_sql.specs.Noted.{faults_of}
use Rattle.sj_sql_tree.specs.View.{items_of}
use Rattle.sj_sql.proofs.item.listed_items.Given as goal

abbrev pub invariant-loop-turn : goal.invariant-loop-turn
invariant-loop-turn l =
    items_from parsing (listed_item_at parsing) (length l.tokens) (faults_of l.fn.faults) l.tokens
    ≡ fronted ◌∷◌ (items_of l.items) (items_from parsing (listed_item_at parsing) (l._turn-end - l._turn) (faults_of l.so_far) l.left.tokens.now)
