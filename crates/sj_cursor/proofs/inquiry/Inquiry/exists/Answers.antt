use Rattle.std.proofs.Common.{◌∙◌}
use Rattle.sj_cursor.proofs.Inquiries.{found_by_chain, sent_back}
use Rattle.sj_cursor.proofs.Looks.{exists_answers, exists_price}
use Rattle.sj_cursor.proofs.inquiry.Inquiry.exists.Goals as goal
use Rattle.sj_cursor.proofs.inquiry.Inquiry.exists.Goals.{in-Chain, in-Cursor}

pub returns-clause-answers : goal.returns-clause-answers
returns-clause-answers c =
    rw (← c.self.view_is)
    (elim c.match-self.branch [
      | in-Chain w ↦
          w.result-is ∙ w.exists_or_fault.ensures
          ∙ exists_answers _ _ _ _ _ (found_by_chain _ _ _ _ _ _ _ _ _ _ c.self.invariant w.in-Chain.is w.of_exists.ensures w.look_on.ensures)
      | in-Cursor w ↦
          let back = sent_back _ _ _ _ _ _ _ (rw w.in-Cursor.is at c.self.invariant) w.deref_mut.ensures.value w.rewind.ensures.left w.rewind.ensures.path w.deref_mut-in-Cursor.ensures.value in
          w.result-is ∙ (rw (back.0, back.1) at w.exists.ensures.answers)
    ])

pub returns-clause-costs : goal.returns-clause-costs
returns-clause-costs c =
    rw (← c.self.view_is)
    (elim c.match-self.branch [
      | in-Chain w ↦ rw w.steps-is (exists_price _ _ _ _ _ (found_by_chain _ _ _ _ _ _ _ _ _ _ c.self.invariant w.in-Chain.is w.of_exists.ensures w.look_on.ensures))
      | in-Cursor w ↦
          let back = sent_back _ _ _ _ _ _ _ (rw w.in-Cursor.is at c.self.invariant) w.deref_mut.ensures.value w.rewind.ensures.left w.rewind.ensures.path w.deref_mut-in-Cursor.ensures.value in
          rw w.steps-is (rw (back.0, back.1) at w.exists.ensures.costs)
    ])
