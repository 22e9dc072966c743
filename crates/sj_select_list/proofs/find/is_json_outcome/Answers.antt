use Rattle.sj_select_list.proofs.Predicates.{negated_is, plain_is}
use Rattle.sj_select_list.proofs.find.is_json_outcome.Goals as goal
use Rattle.sj_select_list.proofs.find.is_json_outcome.Goals.{then-call, else-call}

pub returns-clause-is : goal.returns-clause-is
returns-clause-is c =
    elim c.if-call.branch [ then-call w ↦ negated_is _ _ _ _ c.in_ok-yes.ensures w.if-call.true w.result-is | else-call w ↦ plain_is _ _ _ _ c.in_ok-yes.ensures w.if-call.false w.result-is ]
