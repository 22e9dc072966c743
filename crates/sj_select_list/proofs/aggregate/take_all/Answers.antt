use Rattle.std.proofs.Common.{◌<◌, ◌++◌, ◌∷◌, ◌∙◌, [], length, map, get_or, sym, ap, subst, arith}
use Rattle.std.specs.List.{All}
use Rattle.std.proofs.Math.Seq.{map-set_same}
use Rattle.std.proofs.lemmas.List.Elements.{All-set, AllWithin-more_set, AllWithin-upto, All-from_all_within}
use Rattle.sj_select_list.specs.Aggregates.{aggregate, input_cost}
use Rattle.sj_select_list.specs.Line.{line_of}
use Rattle.sj_select_list.specs.Taking.{aggregate_of, IsReady, HasTaken}
use Rattle.sj_select_list.proofs.Aggregating.{taken_value}
use Rattle.sj_select_list.proofs.GatheredOutcomes.{place, state_step, state_here, cost_step, cost_stop, left_at, left_step}
use Rattle.sj_select_list.proofs.aggregate.take_all.Goals as goal

pub take-requires-clause-ready : goal.take-requires-clause-ready
take-requires-clause-ready c = c.loop-aggregate.invariant.ready _ _ (omega arith)

pub returns-in-Err-Memory-clause-costs : goal.returns-in-Err-Memory-clause-costs
returns-in-Err-Memory-clause-costs c rows h =
    let inv = c.loop-aggregate.invariant in
    let i = c.loop-aggregate.aggregate-index in
    let d = c.aggregate-item.result in
    let line = line_of c.args.line in
    let columns = c.args.columns.now in
    let all = map aggregate_of c.args.all.now in
    let within : i < length c.loop-aggregate.all = omega arith in
    cost_stop (aggregate line (rows ++ columns ∷ [])) (input_cost line columns) all i (aggregate_of (get_or c.loop-aggregate.all i d)) c.loop-aggregate.steps c.take.new.steps _
    (place aggregate_of c.loop-aggregate.all all i d within inv.calls) c.take.ensures.costs (inv.costs rows h)

pub returns-in-Err-Memory-clause-calls : goal.returns-in-Err-Memory-clause-calls
returns-in-Err-Memory-clause-calls c =
    map-set_same aggregate_of c.loop-aggregate.all c.loop-aggregate.aggregate-index c.take.new.self c.aggregate-item.result c.take.ensures.call ∙ c.loop-aggregate.invariant.calls

pub returns-in-Err-State-clause-takes : goal.returns-in-Err-State-clause-takes
returns-in-Err-State-clause-takes c rows h =
    let inv = c.loop-aggregate.invariant in
    let i = c.loop-aggregate.aggregate-index in
    let d = c.aggregate-item.result in
    let line = line_of c.args.line in
    let columns = c.args.columns.now in
    let all = map aggregate_of c.args.all.now in
    let within : i < length c.loop-aggregate.all = omega arith in
    let was : HasTaken line rows (get_or c.loop-aggregate.all i d) = subst (λ x. HasTaken line rows x) (sym (left_at c.loop-aggregate.all c.args.all.now i d inv.left)) (h i d (omega arith)) in
    rw c.in-Err-State.field-0-is (inv.raises rows h c.in-Err-State.state
    (state_here (aggregate line (rows ++ columns ∷ [])) all i (aggregate_of (get_or c.loop-aggregate.all i d)) c.in-Err-State.state
    (place aggregate_of c.loop-aggregate.all all i d within inv.calls) (rw c.in-Err-State.field-0-is at (c.in-Err-State.ensures.takes rows was))))

pub returns-in-Err-State-clause-costs : goal.returns-in-Err-State-clause-costs
returns-in-Err-State-clause-costs c rows h =
    let inv = c.loop-aggregate.invariant in
    let i = c.loop-aggregate.aggregate-index in
    let d = c.aggregate-item.result in
    let line = line_of c.args.line in
    let columns = c.args.columns.now in
    let all = map aggregate_of c.args.all.now in
    let within : i < length c.loop-aggregate.all = omega arith in
    cost_stop (aggregate line (rows ++ columns ∷ [])) (input_cost line columns) all i (aggregate_of (get_or c.loop-aggregate.all i d)) c.loop-aggregate.steps c.take.new.steps _
    (place aggregate_of c.loop-aggregate.all all i d within inv.calls) c.take.ensures.costs (inv.costs rows h)

pub returns-in-Err-State-clause-calls : goal.returns-in-Err-State-clause-calls
returns-in-Err-State-clause-calls c =
    map-set_same aggregate_of c.loop-aggregate.all c.loop-aggregate.aggregate-index c.take.new.self c.aggregate-item.result c.take.ensures.call ∙ c.loop-aggregate.invariant.calls

pub loop-aggregate-preserved : goal.loop-aggregate-preserved
loop-aggregate-preserved c =
    let inv = c.loop-aggregate.invariant in
    let held = c.loop-aggregate.all in
    let i = c.loop-aggregate.aggregate-index in
    let d = c.aggregate-item.result in
    let line = line_of c.args.line in
    let columns = c.args.columns.now in
    let all = map aggregate_of c.args.all.now in
    let x = aggregate_of (get_or held i d) in
    let within : i < length held = omega arith in
    let first = place aggregate_of held all i d within inv.calls in
    let was : (rows : _) → All (HasTaken line rows) c.args.all.now → HasTaken line rows (get_or held i d) =
    λ rows h. subst (λ y. HasTaken line rows y) (sym (left_at held c.args.all.now i d inv.left)) (h i d (omega arith)) in
    let takes : (rows : _) → All (HasTaken line rows) c.args.all.now → HasTaken line (rows ++ columns ∷ []) c.take.new.self =
    λ rows h. c.in-Ok.ensures.takes rows (was rows h) in
    record {
      calls = map-set_same aggregate_of held i c.take.new.self d c.take.ensures.call ∙ inv.calls;
      ready = All-set IsReady held i c.take.new.self c.take.ensures.ready inv.ready;
      left = left_step held c.args.all.now i c.take.new.self inv.left;
      printable = c.take.ensures.printable;
      taken = λ rows h. AllWithin-more_set held i c.take.new.self within (HasTaken line (rows ++ columns ∷ [])) (inv.taken rows h) (takes rows h);
      raises = λ rows h s later.
          let v = taken_value line (rows ++ columns ∷ []) c.take.new.self c.take.ensures.ready (takes rows h) in
          inv.raises rows h s (state_step (aggregate line (rows ++ columns ∷ [])) all i x v.0 s first (ap (aggregate line (rows ++ columns ∷ [])) (sym c.take.ensures.call) ∙ v.1) later);
      costs = λ rows h.
          let v = taken_value line (rows ++ columns ∷ []) c.take.new.self c.take.ensures.ready (takes rows h) in
          cost_step (aggregate line (rows ++ columns ∷ [])) (input_cost line columns) all i x v.0 c.loop-aggregate.steps c.take.new.steps _ first
          (ap (aggregate line (rows ++ columns ∷ [])) (sym c.take.ensures.call) ∙ v.1) c.take.ensures.costs (inv.costs rows h);
    }

pub returns-clause-takes : goal.returns-clause-takes
returns-clause-takes c rows h =
    All-from_all_within (HasTaken (line_of c.args.line) (rows ++ c.args.columns.now ∷ [])) c.loop-aggregate.all
    (AllWithin-upto (HasTaken (line_of c.args.line) (rows ++ c.args.columns.now ∷ [])) c.loop-aggregate.all 0 c.loop-aggregate.aggregate-index (length c.loop-aggregate.all) (omega arith) (c.loop-aggregate.invariant.taken rows h))

pub returns-clause-costs : goal.returns-clause-costs
returns-clause-costs c rows h = omega (arith, c.loop-aggregate.invariant.costs rows h)
