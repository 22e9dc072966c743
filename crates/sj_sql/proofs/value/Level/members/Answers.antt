use Rattle.std.proofs.Common.{map, sym, ap, ◌∙◌}
use Rattle.sj_sql_grammar.specs.Faults.{parsing}
use Rattle.sj_sql_grammar.specs.Reading.{value_at}
use Rattle.sj_sql_phrase.specs.Cells.{more_members}
use Rattle.sj_sql.specs.Noted.{faults_of}
use Rattle.sj_sql.specs.Sources.{source_of}
use Rattle.sj_sql_tree.specs.View.{member_of, members_of}
use Rattle.sj_sql_phrase.proofs.Lists.{goes_on, ends, read, mapped_end, members_end, members_read}
use Rattle.sj_sql.proofs.value.Level.members.Goals as goal

pub loop-turn-preserved : goal.loop-turn-preserved
loop-turn-preserved g c =
    goes_on more_members _ _ _ (members_read (value_at parsing (source_of c.args.self.now.source) c.args.self.now.depth)) _ c.loop-turn._turn (map member_of c.loop-turn.members) (map member_of c.put.new.values) (member_of c.in_ok-member.member) (faults_of c.loop-turn.so_far) (faults_of c.in_ok-member.noted)
    c.loop-turn.left.tokens.now c.in_ok-member.after.now c.in-Some.next.now c.loop-turn-test.true c.loop-turn.invariant c.in_ok-member.ensures c.in-Some.ensures (ap (map member_of) c.in_ok-put.ensures.ok ∙ mapped_end member_of c.loop-turn.members c.in_ok-member.member)

pub returns-in_default : goal.returns-in_default
returns-in_default g c =
    ends more_members _ _ _ (members_read (value_at parsing (source_of c.args.self.now.source) c.args.self.now.depth)) _ c.loop-turn._turn (map member_of c.loop-turn.members) (member_of c.in_ok-member.member) (faults_of c.loop-turn.so_far) (faults_of c.in_ok-member.noted)
    c.loop-turn.left.tokens.now c.in_ok-member.after.now c.loop-turn-test.true c.loop-turn.invariant c.in_ok-member.ensures c.in_default.ensures
    ∙ ap (read (faults_of c.in_ok-member.noted) c.in_ok-member.after.now)
    (members_end c.loop-turn.members c.in_ok-member.member ∙ sym (ap members_of c.in_ok-put.ensures.ok) ∙ sym (ap members_of c.into_vec.ensures))
