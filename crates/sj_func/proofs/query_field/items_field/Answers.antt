use Rattle.sj_func.proofs.QueryFields.{appends_some, appends_none, appends_fault}
use Rattle.sj_func.proofs.Wrapping.{cost_some, cost_none, cost_fault}
use Rattle.sj_func.proofs.query_field.items_field.Goals as goal

pub returns-in-Item-clause-appends : goal.returns-in-Item-clause-appends
returns-in-Item-clause-appends c =
    appends_some c.args.spec.now c.args.cursor.now.left c.next.new.self.left _ _ c.some_field.result c.args.out.now c.some_field.new.out _ c.in-Item.ensures.answers c.some_field.ensures.appends

pub returns-in-Item-clause-costs : goal.returns-in-Item-clause-costs
returns-in-Item-clause-costs c = cost_some _ _ _ _ _ _ c.in-Item.ensures.answers c.some_field.ensures.costs

pub returns-in-End-clause-appends : goal.returns-in-End-clause-appends
returns-in-End-clause-appends c =
    appends_none c.args.spec.now c.args.cursor.now.left c.next.new.self.left _ _ c.given_field.result c.args.out.now c.given_field.new.out c.in-End.ensures.answers c.given_field.ensures

pub returns-in-End-clause-costs : goal.returns-in-End-clause-costs
returns-in-End-clause-costs c = cost_none _ _ _ _ c.in-End.ensures.answers

pub returns-in-Fault-clause-appends : goal.returns-in-Fault-clause-appends
returns-in-Fault-clause-appends c =
    appends_fault c.args.spec.now c.args.cursor.now.left c.next.new.self.left _ _ c.given_field-in-Fault.result c.args.out.now c.given_field-in-Fault.new.out _ c.in-Fault.ensures.answers c.given_field-in-Fault.ensures

pub returns-in-Fault-clause-costs : goal.returns-in-Fault-clause-costs
returns-in-Fault-clause-costs c = cost_fault _ _ _ _ _ c.in-Fault.ensures.answers
