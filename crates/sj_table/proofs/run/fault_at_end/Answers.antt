use Rattle.std.proofs.Common.{◌∙◌}
use Rattle.sj_table.proofs.Entries.{drawn_fewer, running_on, running_end, running_fault, running_end_costs, running_fault_costs}
use Rattle.sj_table.proofs.run.fault_at_end.Goals as goal

pub items-smaller : goal.items-smaller
items-smaller c = drawn_fewer _ _ _ _ _ c.in-Item.ensures.answers

pub items-preserved : goal.items-preserved
items-preserved c = record {
  path = c.in-Item.ensures.path ∙ c.items.invariant.path;
  vars = c.in-Item.ensures.vars ∙ c.items.invariant.vars;
  running = running_on _ _ _ _ _ _ _ c.items.invariant.running c.in-Item.ensures.answers;
}

pub returns-in-End-clause-fault : goal.returns-in-End-clause-fault
returns-in-End-clause-fault c = running_end _ _ _ _ _ _ c.items.invariant.running c.in-End.ensures.answers

pub returns-in-End-clause-costs : goal.returns-in-End-clause-costs
returns-in-End-clause-costs c = running_end_costs _ _ _ _ _ _ c.items.invariant.running c.in-End.ensures.answers

pub returns-in-Fault-clause-fault : goal.returns-in-Fault-clause-fault
returns-in-Fault-clause-fault c = running_fault _ _ _ _ _ _ _ c.items.invariant.running c.in-Fault.ensures.answers

pub returns-in-Fault-clause-costs : goal.returns-in-Fault-clause-costs
returns-in-Fault-clause-costs c = running_fault_costs _ _ _ _ _ _ _ c.items.invariant.running c.in-Fault.ensures.answers
