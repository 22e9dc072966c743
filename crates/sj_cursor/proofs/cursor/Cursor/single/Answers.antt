use Rattle.std.proofs.Common.{◌∙◌}
use Rattle.sj_plain_path.specs.Looks.{Finds, nodes_look}
use Rattle.sj_cursor.proofs.Looks.{single_answer, single_price}
use Rattle.sj_cursor.proofs.PlainPaths.{plain_finds}
use Rattle.sj_cursor.proofs.cursor.Cursor.single.Goals as goal
use Rattle.sj_cursor.proofs.cursor.Cursor.single.Goals.{After-nodes}

finds : (c : After-nodes) → Finds c.of_single-limit.result c.args.self.now.left (nodes_look c.nodes.result) c.args.steps.now c.nodes.new.steps
finds c =
    rw (← c.self.view_is, c.in-AtTheBeginning-Some-Node.is-0, c.in-AtTheBeginning-Some-Node.is-2)
    (plain_finds _ _ _ _ _ _ _ _ (rw c.in-AtTheBeginning-Some-Node.is-1 at c.self.invariant.chains) c.nodes.ensures)

pub returns-in-AtTheBeginning-Some-Node-clause-answers : goal.returns-in-AtTheBeginning-Some-Node-clause-answers
returns-in-AtTheBeginning-Some-Node-clause-answers c =
    c.single_node.ensures ∙ single_answer _ _ _ _ _ _ (rw (c.of_single-limit.ensures, c.mode.ensures) at (finds (goal.at.returns-in-AtTheBeginning-Some-Node-clause-answers c).After-nodes))

pub returns-in-AtTheBeginning-Some-Node-clause-costs : goal.returns-in-AtTheBeginning-Some-Node-clause-costs
returns-in-AtTheBeginning-Some-Node-clause-costs c =
    single_price _ _ _ _ _ (rw (c.of_single-limit.ensures, c.mode.ensures) at (finds (goal.at.returns-in-AtTheBeginning-Some-Node-clause-costs c).After-nodes))
