use Rattle.std.proofs.Common.{◌≡◌, IfOk, Option, subst}
use Rattle.sj_json.specs.Tree.{Tree}
use Rattle.sj_select_list.specs.Values.{is_json_outcome}
use Rattle.sj_select_list.proofs.find.put_is_json.Goals as goal

pub returns-clause-does : goal.returns-clause-does
returns-clause-does c =
    c.put.ensures.does _ (subst (λ (tree : Option Tree). IfOk c.is_json_outcome-outcome.result (λ o. o ≡ is_json_outcome c.args.call tree)) c.doc.ensures c.is_json_outcome-outcome.ensures.is)
