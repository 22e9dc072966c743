use Rattle.std.proofs.Common.{OnOk, ◌∷◌, sym, subst, ◌∙◌}
use Rattle.std.proofs.lemmas.Result.{on_ok_weaker}
use Rattle.sj_sql_text.specs.Adds.{Adds}
use Rattle.sj_sql_text.specs.Statements.{value_on}
use Rattle.sj_sql_text.specs.Pieces.{Close}
use Rattle.sj_sql_text.proofs.Growth.{puts}
use Rattle.sj_sql_text.proofs.Constructed.{is_object, is_array}
use Rattle.sj_sql_text.proofs.value.+values.Goals as goal

pub value-returns-in-Object : goal.value-returns-in-Object
value-returns-in-Object t c =
    subst (λ x. OnOk c.object.result (Adds c.args.out.now c.object.new.out (value_on x)))
    (sym (is_object c.in-Object.members c.in-Object.is c.deref-in-Object.ensures.value)) c.object.ensures

pub value-returns-in-Array : goal.value-returns-in-Array
value-returns-in-Array t c =
    subst (λ x. OnOk c.array.result (Adds c.args.out.now c.array.new.out (value_on x)))
    (sym (is_array c.in-Array.values c.in-Array.is c.deref-in-Array.ensures.value)) c.array.ensures

pub object-returns : goal.object-returns
object-returns t c = on_ok_weaker c.close.result
    (λ came rest.
    puts _ _ _ came rest
    ∙ c.in_ok-object_clauses.ensures (Close ∷ rest)
    ∙ c.in_ok-listed_members.ensures _
    ∙ puts _ _ _ c.in_ok-call.ensures _)
    c.close.ensures
