use Rattle.std.proofs.Common.{◌∙◌}
use Rattle.sj_cursor.proofs.Inquiries.{found_by_chain}
use Rattle.sj_cursor.proofs.Looks.{single_answer, single_price}
use Rattle.sj_cursor.proofs.inquiry.Inquiry.single.Goals as goal

pub returns-in-Chain-Node-clause-answers : goal.returns-in-Chain-Node-clause-answers
returns-in-Chain-Node-clause-answers c =
    rw (← c.self.view_is, c.in-Chain-Node.is-1)
    (c.single_node.ensures ∙ single_answer _ _ _ _ _ _ (found_by_chain _ _ _ _ _ _ _ _ _ _ c.self.invariant c.in-Chain-Node.is-0 c.of_single-limit.ensures c.nodes.ensures))

pub returns-in-Chain-Node-clause-costs : goal.returns-in-Chain-Node-clause-costs
returns-in-Chain-Node-clause-costs c =
    rw (← c.self.view_is, c.in-Chain-Node.is-1)
    (single_price _ _ _ _ _ (found_by_chain _ _ _ _ _ _ _ _ _ _ c.self.invariant c.in-Chain-Node.is-0 c.of_single-limit.ensures c.nodes.ensures))
