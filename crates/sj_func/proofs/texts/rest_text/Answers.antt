use Rattle.std.proofs.Common.{◌∙◌, sym}
use Rattle.sj_func.proofs.Wrapping.{count_given, items_ended, fault_ended, items_failed, fault_failed, passing_on, passing_cost, passing_push_cost, passing_end_text, passing_end_some, passing_end_cost, passing_fault_cost}
use Rattle.sj_func.proofs.QueryFields.{extends_by, extends_more}
use Rattle.sj_func.proofs.texts.rest_text.Goals as goal

pub returns-in_err-push-in-Item-clause-costs : goal.returns-in_err-push-in-Item-clause-costs
returns-in_err-push-in-Item-clause-costs c = passing_push_cost _ _ _ _ _ _ _ _ _ _ c.texts.invariant.passing c.in-Item.ensures.answers

pub texts-smaller : goal.texts-smaller
texts-smaller c = count_given _ _ _ _ _ c.in-Item.ensures.answers

pub texts-preserved : goal.texts-preserved
texts-preserved c = record {
  path = c.in-Item.ensures.path ∙ c.texts.invariant.path;
  vars = c.in-Item.ensures.vars ∙ c.texts.invariant.vars;
  extends = extends_more _ _ _ c.texts.invariant.extends (extends_more _ _ _ (extends_by _ _ _ c.in_ok-push-in-Item.ensures.ok) (extends_by _ _ _ c.in_ok-item_text-in-Item.ensures.ok));
  passing = passing_on _ _ _ _ _ _ _ _ _ _ _ _ _ c.texts.invariant.passing c.in-Item.ensures.answers c.in_ok-push-in-Item.ensures.ok c.in_ok-item_text-in-Item.ensures.ok c.in_ok-item_text-in-Item.ensures.steps;
}

pub returns-in_err-item_text-in-Item-clause-costs : goal.returns-in_err-item_text-in-Item-clause-costs
returns-in_err-item_text-in-Item-clause-costs c =
    passing_cost _ _ _ _ _ _ _ _ _ _ _ c.texts.invariant.passing c.in-Item.ensures.answers c.in_err-item_text-in-Item.ensures.at_most

pub returns-in-End-clause-text : goal.returns-in-End-clause-text
returns-in-End-clause-text c = passing_end_text _ _ _ _ _ _ _ c.texts.invariant.passing (items_ended _ _ _ _ c.in-End.ensures.answers)

pub returns-in-End-clause-some : goal.returns-in-End-clause-some
returns-in-End-clause-some c = passing_end_some _ _ _ _ _ _ _ c.texts.invariant.passing (items_ended _ _ _ _ c.in-End.ensures.answers)

pub returns-in-End-clause-fault : goal.returns-in-End-clause-fault
returns-in-End-clause-fault c = sym (fault_ended _ _ _ _ c.in-End.ensures.answers) ∙ c.texts.invariant.passing.fault

pub returns-in-End-clause-costs : goal.returns-in-End-clause-costs
returns-in-End-clause-costs c = passing_end_cost _ _ _ _ _ _ _ _ _ c.texts.invariant.passing c.in-End.ensures.answers

pub returns-in-Fault-clause-text : goal.returns-in-Fault-clause-text
returns-in-Fault-clause-text c = passing_end_text _ _ _ _ _ _ _ c.texts.invariant.passing (items_failed _ _ _ _ _ c.in-Fault.ensures.answers)

pub returns-in-Fault-clause-some : goal.returns-in-Fault-clause-some
returns-in-Fault-clause-some c = passing_end_some _ _ _ _ _ _ _ c.texts.invariant.passing (items_failed _ _ _ _ _ c.in-Fault.ensures.answers)

pub returns-in-Fault-clause-fault : goal.returns-in-Fault-clause-fault
returns-in-Fault-clause-fault c = sym (fault_failed _ _ _ _ _ c.in-Fault.ensures.answers) ∙ c.texts.invariant.passing.fault

pub returns-in-Fault-clause-costs : goal.returns-in-Fault-clause-costs
returns-in-Fault-clause-costs c = passing_fault_cost _ _ _ _ _ _ _ _ _ _ c.texts.invariant.passing c.in-Fault.ensures.answers
