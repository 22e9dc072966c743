use Rattle.std.proofs.Common.{map, sym, ap, ◌∙◌}
use Rattle.sj_sql_grammar.specs.Faults.{parsing}
use Rattle.sj_sql_grammar.specs.Reading.{value_at}
use Rattle.sj_sql_grammar.specs.Tree.{MoreValues}
use Rattle.sj_sql.specs.Noted.{faults_of}
use Rattle.sj_sql.specs.Sources.{source_of}
use Rattle.sj_sql_tree.specs.View.{value_of, values_of}
use Rattle.sj_sql_phrase.proofs.Lists.{goes_on, ends, read, mapped_end, values_end, values_read}
use Rattle.sj_sql.proofs.value.Level.values.Goals as goal

pub loop-turn-preserved : goal.loop-turn-preserved
loop-turn-preserved g c =
    goes_on MoreValues _ _ _ (values_read (value_at parsing (source_of c.args.self.now.source) c.args.self.now.depth)) _ c.loop-turn._turn (map value_of c.loop-turn.values) (map value_of c.put.new.values) (value_of c.in_ok-value.value) (faults_of c.loop-turn.so_far) (faults_of c.in_ok-value.noted)
    c.loop-turn.left.tokens.now c.in_ok-value.after.now c.in-Some.next.now c.loop-turn-test.true c.loop-turn.invariant c.in_ok-value.ensures c.in-Some.ensures (ap (map value_of) c.in_ok-put.ensures.ok ∙ mapped_end value_of c.loop-turn.values c.in_ok-value.value)

pub returns-in_default : goal.returns-in_default
returns-in_default g c =
    ends MoreValues _ _ _ (values_read (value_at parsing (source_of c.args.self.now.source) c.args.self.now.depth)) _ c.loop-turn._turn (map value_of c.loop-turn.values) (value_of c.in_ok-value.value) (faults_of c.loop-turn.so_far) (faults_of c.in_ok-value.noted)
    c.loop-turn.left.tokens.now c.in_ok-value.after.now c.loop-turn-test.true c.loop-turn.invariant c.in_ok-value.ensures c.in_default.ensures
    ∙ ap (read (faults_of c.in_ok-value.noted) c.in_ok-value.after.now)
    (values_end c.loop-turn.values c.in_ok-value.value ∙ sym (ap values_of c.in_ok-put.ensures.ok) ∙ sym (ap values_of c.into_vec.ensures))
