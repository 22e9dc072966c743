use Rattle.std.proofs.Common.{◌≡◌, ◌++◌, ◌∷◌, [], Vec, Global, sym, ap, ◌∙◌}
use Rattle.sj_bound.specs.View.{value_of, values_of, members_of, path_with_of}
use Rattle.sj_bound.specs.declared.bound.BoundValue.{BoundValue}
use Rattle.sj_select_list.specs.Operations.{exists, value, query, object, array, step_of, steps_of, steps_to, steps_to_values, steps_to_members}
use Rattle.sj_select_list.specs.declared.operation.Operation.{Operation}
use Rattle.sj_bound.proofs.Rows.{object as bound_object, array as bound_array}
use Rattle.sj_select_list.proofs.Appending.{made_and_last, last_alone, value_count-in, member_count-in}
use Rattle.sj_select_list.proofs.build.+push_value.Goals as goal
use Rattle.sj_select_list.proofs.build.+push_value.Goals.{push_value-in-Lit, push_value-in-Column, push_value-in-Exists+in_ok-inquiry_of-in-Exists, push_value-in-Value+in_ok-inquiry_of-in-Value, push_value-in-Query+in_ok-cursor_of-in-Query, push_value-in-IsJson, push_value-in-Object+in_ok-push_members-in-Object, push_value-in-Array+in_ok-push_values-in-Array}

pub push_value-returns : goal.push_value-returns
push_value-returns t c =
    let old = c.args.operations.now.items in
    let made = c.match-value.operations.items in
    let new = c.push.new.list.items in
    let last = c.match-value.operation in
    let whole = steps_to (value_of c.args.value.now) in
    elim c.match-value.branch [
      | push_value-in-Lit w ↦
          last_alone old made new last c.push.result c.push.ensures.ok whole (ap (λ (v : Vec Operation Global). v.items) w.operations-is)
          (ap (λ (o : Operation). step_of o ∷ []) w.operation-is ∙ ap (λ (v : BoundValue). steps_to (value_of v)) (sym w.in-Lit.is))
      | push_value-in-Column w ↦
          last_alone old made new last c.push.result c.push.ensures.ok whole (ap (λ (v : Vec Operation Global). v.items) w.operations-is)
          (ap (λ (o : Operation). step_of o ∷ []) w.operation-is ∙ ap (λ (v : BoundValue). steps_to (value_of v)) (sym w.in-Column.is))
      | push_value-in-Exists+in_ok-inquiry_of-in-Exists w ↦
          last_alone old made new last c.push.result c.push.ensures.ok whole (ap (λ (v : Vec Operation Global). v.items) w.operations-is)
          (ap (λ (o : Operation). step_of o ∷ []) w.operation-is
          ∙ ap (λ p. exists p w.in-Exists.on_error ∷ []) (w.in_ok-inquiry_of-in-Exists.ensures ∙ ap path_with_of w.deref.ensures)
          ∙ ap (λ (v : BoundValue). steps_to (value_of v)) (sym w.in-Exists.is))
      | push_value-in-Value+in_ok-inquiry_of-in-Value w ↦
          last_alone old made new last c.push.result c.push.ensures.ok whole (ap (λ (v : Vec Operation Global). v.items) w.operations-is)
          (ap (λ (o : Operation). step_of o ∷ []) w.operation-is
          ∙ ap (λ p. value p w.deref-in-Value-2.result.now ∷ []) (w.in_ok-inquiry_of-in-Value.ensures ∙ ap path_with_of w.deref-in-Value.ensures)
          ∙ ap (λ s. value (path_with_of w.in-Value.path.value) s ∷ []) w.deref-in-Value-2.ensures
          ∙ ap (λ (v : BoundValue). steps_to (value_of v)) (sym w.in-Value.is))
      | push_value-in-Query+in_ok-cursor_of-in-Query w ↦
          last_alone old made new last c.push.result c.push.ensures.ok whole (ap (λ (v : Vec Operation Global). v.items) w.operations-is)
          (ap (λ (o : Operation). step_of o ∷ []) w.operation-is
          ∙ ap (λ p. query p w.in-Query.clauses ∷ []) (w.in_ok-cursor_of-in-Query.ensures ∙ ap path_with_of w.deref-in-Query.ensures)
          ∙ ap (λ (v : BoundValue). steps_to (value_of v)) (sym w.in-Query.is))
      | push_value-in-IsJson w ↦
          last_alone old made new last c.push.result c.push.ensures.ok whole (ap (λ (v : Vec Operation Global). v.items) w.operations-is)
          (ap (λ (o : Operation). step_of o ∷ []) w.operation-is ∙ ap (λ (v : BoundValue). steps_to (value_of v)) (sym w.in-IsJson.is))
      | push_value-in-Object+in_ok-push_members-in-Object w ↦
          let members = w.in-Object.members in
          let parts = steps_to_members (members_of members.items) in
          made_and_last old made new last c.push.result c.push.ensures.ok parts whole
          (ap (λ (v : Vec Operation Global). steps_of v.items) w.operations-is ∙ w.in_ok-push_members-in-Object.ensures
          ∙ ap (λ l. steps_of old ++ steps_to_members (members_of l)) w.deref-in-Object.ensures.value)
          (ap (λ (o : Operation). parts ++ step_of o ∷ []) w.operation-is
          ∙ ap (λ n. parts ++ object n w.in-Object.nulls w.in-Object.unique ∷ []) (w.len.ensures ∙ member_count-in members)
          ∙ ap steps_to (sym (bound_object members w.in-Object.nulls w.in-Object.unique))
          ∙ ap (λ (v : BoundValue). steps_to (value_of v)) (sym w.in-Object.is))
      | push_value-in-Array+in_ok-push_values-in-Array w ↦
          let values = w.in-Array.values in
          let parts = steps_to_values (values_of values.items) in
          made_and_last old made new last c.push.result c.push.ensures.ok parts whole
          (ap (λ (v : Vec Operation Global). steps_of v.items) w.operations-is ∙ w.in_ok-push_values-in-Array.ensures
          ∙ ap (λ l. steps_of old ++ steps_to_values (values_of l)) w.deref-in-Array.ensures.value)
          (ap (λ (o : Operation). parts ++ step_of o ∷ []) w.operation-is
          ∙ ap (λ n. parts ++ array n w.in-Array.nulls ∷ []) (w.len-in-Array.ensures ∙ value_count-in values)
          ∙ ap steps_to (sym (bound_array values w.in-Array.nulls))
          ∙ ap (λ (v : BoundValue). steps_to (value_of v)) (sym w.in-Array.is))
    ]
