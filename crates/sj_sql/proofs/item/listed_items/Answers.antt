use Rattle.std.proofs.Common.{sym, ap, ◌∙◌, ◌∷◌, []}
use Rattle.sj_sql_grammar.specs.Faults.{parsing}
use Rattle.sj_sql_grammar.specs.Reading.{listed_item_at}
use Rattle.sj_sql.specs.Noted.{faults_of}
use Rattle.sj_sql_tree.specs.View.{items_of, item_of}
use Rattle.sj_sql_phrase.proofs.Lists.{goes_on, ends, read, onto_list, items_end, items_read}
use Rattle.sj_sql.proofs.item.listed_items.Goals as goal

pub loop-turn-preserved : goal.loop-turn-preserved
loop-turn-preserved c =
    goes_on ◌∷◌ _ _ _ (items_read (listed_item_at parsing)) _ c.loop-turn._turn (items_of c.loop-turn.items) (items_of c.put.new.values) (item_of c.in_ok-item.item) (faults_of c.loop-turn.so_far) (faults_of c.in_ok-item.noted)
    c.loop-turn.left.tokens.now c.in_ok-item.after.now c.in-Some.next.now c.loop-turn-test.true c.loop-turn.invariant c.in_ok-item.ensures c.in-Some.ensures (ap items_of c.in_ok-put.ensures.ok ∙ items_end c.loop-turn.items c.in_ok-item.item)

pub returns-in_default : goal.returns-in_default
returns-in_default c =
    ends ◌∷◌ _ _ _ (items_read (listed_item_at parsing)) _ c.loop-turn._turn (items_of c.loop-turn.items) (item_of c.in_ok-item.item) (faults_of c.loop-turn.so_far) (faults_of c.in_ok-item.noted)
    c.loop-turn.left.tokens.now c.in_ok-item.after.now c.loop-turn-test.true c.loop-turn.invariant c.in_ok-item.ensures c.in_default.ensures
    ∙ ap (read (faults_of c.in_ok-item.noted) c.in_ok-item.after.now) (onto_list (items_of c.loop-turn.items) (item_of c.in_ok-item.item ∷ []) ∙ sym (ap items_of c.in_ok-put.ensures.ok ∙ items_end c.loop-turn.items c.in_ok-item.item))
