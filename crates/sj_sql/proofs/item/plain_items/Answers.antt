use Rattle.std.proofs.Common.{sym, ap, ◌∙◌, ◌∷◌, []}
use Rattle.sj_sql_grammar.specs.Faults.{parsing}
use Rattle.sj_sql_grammar.specs.Reading.{plain_item_at}
use Rattle.sj_sql.specs.Noted.{faults_of}
use Rattle.sj_sql_tree.specs.View.{plain_of, value_of}
use Rattle.sj_sql_phrase.proofs.Lists.{goes_on, ends, read, onto_list, plain_end, items_read}
use Rattle.sj_sql.proofs.item.plain_items.Goals as goal

pub loop-turn-preserved : goal.loop-turn-preserved
loop-turn-preserved c =
    goes_on ◌∷◌ _ _ _ (items_read (plain_item_at parsing)) _ c.loop-turn._turn (plain_of c.loop-turn.items) (plain_of c.put.new.values) (value_of c.in_ok-item.item) (faults_of c.loop-turn.so_far) (faults_of c.in_ok-item.noted)
    c.loop-turn.left.tokens.now c.in_ok-item.after.now c.in-Some.next.now c.loop-turn-test.true c.loop-turn.invariant c.in_ok-item.ensures c.in-Some.ensures (ap plain_of c.in_ok-put.ensures.ok ∙ plain_end c.loop-turn.items c.in_ok-item.item)

pub returns-in_default : goal.returns-in_default
returns-in_default c =
    ends ◌∷◌ _ _ _ (items_read (plain_item_at parsing)) _ c.loop-turn._turn (plain_of c.loop-turn.items) (value_of c.in_ok-item.item) (faults_of c.loop-turn.so_far) (faults_of c.in_ok-item.noted)
    c.loop-turn.left.tokens.now c.in_ok-item.after.now c.loop-turn-test.true c.loop-turn.invariant c.in_ok-item.ensures c.in_default.ensures
    ∙ ap (read (faults_of c.in_ok-item.noted) c.in_ok-item.after.now) (onto_list (plain_of c.loop-turn.items) (value_of c.in_ok-item.item ∷ []) ∙ sym (ap plain_of c.in_ok-put.ensures.ok ∙ plain_end c.loop-turn.items c.in_ok-item.item))
