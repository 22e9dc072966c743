use Rattle.std.proofs.Common.{ap, ◌∙◌}
use Rattle.sj_cursor.specs.Answers.{single_value}
use Rattle.sj_cursor.proofs.Inquiries.{found_by_chain, sent_back}
use Rattle.sj_cursor.proofs.Looks.{single_answer, single_price}
use Rattle.sj_cursor.proofs.inquiry.Inquiry.single_on.Goals as goal
use Rattle.sj_cursor.proofs.inquiry.Inquiry.single_on.Goals.{in-Chain, in-Cursor}

pub returns-clause-answers : goal.returns-clause-answers
returns-clause-answers c =
    rw (← c.self.view_is)
    (elim c.match-self.branch [
      | in-Chain w ↦
          ap single_value w.result-is ∙ w.single_or_fault.ensures
          ∙ single_answer _ _ _ _ _ _ (found_by_chain _ _ _ _ _ _ _ _ _ _ c.self.invariant w.in-Chain.is w.of_single-limit.ensures w.look_on.ensures)
      | in-Cursor w ↦
          let back = sent_back _ _ _ _ _ _ _ (rw w.in-Cursor.is at c.self.invariant) w.deref_mut.ensures.value w.rewind.ensures.left w.rewind.ensures.path w.deref_mut-in-Cursor.ensures.value in
          ap single_value w.result-is ∙ (rw (back.0, back.1) at w.single.ensures.answers)
    ])

pub returns-clause-costs : goal.returns-clause-costs
returns-clause-costs c =
    rw (← c.self.view_is)
    (elim c.match-self.branch [
      | in-Chain w ↦ rw w.steps-is (single_price _ _ _ _ _ (found_by_chain _ _ _ _ _ _ _ _ _ _ c.self.invariant w.in-Chain.is w.of_single-limit.ensures w.look_on.ensures))
      | in-Cursor w ↦
          let back = sent_back _ _ _ _ _ _ _ (rw w.in-Cursor.is at c.self.invariant) w.deref_mut.ensures.value w.rewind.ensures.left w.rewind.ensures.path w.deref_mut-in-Cursor.ensures.value in
          rw w.steps-is (rw (back.0, back.1) at w.single.ensures.costs)
    ])
