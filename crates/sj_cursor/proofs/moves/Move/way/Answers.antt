use Rattle.std.proofs.Common.{sym, ◌∙◌}
use Rattle.sj_plain_path.specs.Chains.{node_value}
use Rattle.sj_cursor.specs.Moves.{tested}
use Rattle.sj_cursor.proofs.Trails.{leads_same, unwrap_array, unwrap_other, member_object, member_other, filter_true, filter_other}
use Rattle.sj_cursor.proofs.moves.Move.way.Goals as goal

pub returns-in-Array : goal.returns-in-Array
returns-in-Array c = λ within. rw c.in-Unwrap.is (leads_same _ _ _ (unwrap_array c.args.node within (sym c.kind.ensures ∙ c.in-Array.is)))

pub returns-in_default : goal.returns-in_default
returns-in_default c = λ within. rw c.in-Unwrap.is (leads_same _ _ _ (unwrap_other c.args.node within (rw c.kind.ensures at c.in_default.not-Array)))

pub returns-in-Object : goal.returns-in-Object
returns-in-Object c = λ within. rw c.in-Member.is (leads_same _ _ _ (member_object c.args.node c.in-Member.field-0.now within (sym c.kind-in-Member.ensures ∙ c.in-Object.is)))

pub returns-in_default-kind : goal.returns-in_default-kind
returns-in_default-kind c = λ within. rw c.in-Member.is (leads_same _ _ _ (member_other c.args.node c.in-Member.field-0.now within (rw c.kind-in-Member.ensures at c.in_default-kind.not-Object)))

pub returns-in-True : goal.returns-in-True
returns-in-True c = λ within. rw c.in-Filter.is (filter_true (tested c.in-Filter.test (node_value c.args.node)) within (node_value c.args.node) _ _ _ c.truth.ensures c.in-True.is)

pub returns-in_default-truth : goal.returns-in_default-truth
returns-in_default-truth c = λ within. rw c.in-Filter.is (filter_other (tested c.in-Filter.test (node_value c.args.node)) within (node_value c.args.node) _ _ _ c.truth.ensures c.in_default-truth.not-True)
