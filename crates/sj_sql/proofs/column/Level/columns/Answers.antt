use Rattle.std.proofs.Common.{map, sym, ap, ◌∙◌}
use Rattle.sj_sql_grammar.specs.Faults.{parsing}
use Rattle.sj_sql_grammar.specs.Reading.{columns_at}
use Rattle.sj_sql_grammar.specs.Tree.{More, Last}
use Rattle.sj_sql.specs.Noted.{faults_of}
use Rattle.sj_sql_tree.specs.View.{column_of, columns_onto}
use Rattle.sj_sql_phrase.proofs.Lists.{goes_on, ends, read, mapped_end, columns_before, columns_read}
use Rattle.sj_sql.proofs.column.Level.columns.Goals as goal

pub loop-turn-preserved : goal.loop-turn-preserved
loop-turn-preserved g c =
    goes_on More _ _ _ (columns_read (columns_at parsing c.args.self.now.depth)) _ c.loop-turn._turn (map column_of c.loop-turn.before) (map column_of c.put.new.values) (column_of c.in_ok-column.column) (faults_of c.loop-turn.so_far) (faults_of c.in_ok-column.noted)
    c.loop-turn.left.tokens.now c.in_ok-column.after.now c.in-Some.next.now c.loop-turn-test.true c.loop-turn.invariant c.in_ok-column.ensures c.in-Some.ensures (ap (map column_of) c.in_ok-put.ensures.ok ∙ mapped_end column_of c.loop-turn.before c.in_ok-column.column)

pub returns-in_default : goal.returns-in_default
returns-in_default g c =
    ends More _ _ _ (columns_read (columns_at parsing c.args.self.now.depth)) _ c.loop-turn._turn (map column_of c.loop-turn.before) (column_of c.in_ok-column.column) (faults_of c.loop-turn.so_far) (faults_of c.in_ok-column.noted)
    c.loop-turn.left.tokens.now c.in_ok-column.after.now c.loop-turn-test.true c.loop-turn.invariant c.in_ok-column.ensures c.in_default.ensures
    ∙ ap (read (faults_of c.in_ok-column.noted) c.in_ok-column.after.now)
    (columns_before c.loop-turn.before (Last (column_of c.in_ok-column.column)) ∙ sym (ap (λ xs. columns_onto xs (Last (column_of c.in_ok-column.column))) c.into_vec.ensures))
