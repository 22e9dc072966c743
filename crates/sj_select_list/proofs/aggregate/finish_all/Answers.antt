use Rattle.std.proofs.Common.{◌<◌, ◌∷◌, ◌∙◌, [], ◌+◌, length, map, drop, get_or, sym, ap, subst, arith}
use Rattle.std.specs.List.{All}
use Rattle.std.proofs.Math.Seq.{map-set_same}
use Rattle.std.proofs.lemmas.List.Elements.{All-nil, All-append, All-cons, All-set}
use Rattle.sj_value.specs.Values.{IsPrintable}
use Rattle.sj_select_list.specs.Aggregates.{aggregate, aggregates}
use Rattle.sj_select_list.specs.Taking.{aggregate_of, IsReady, HasTaken}
use Rattle.sj_select_list.specs.Values.{each_value}
use Rattle.sj_select_list.proofs.GatheredOutcomes.{behind, place, gather_step, gather_end, left_at, left_step, none_left}
use Rattle.sj_select_list.proofs.aggregate.finish_all.Goals as goal

pub returns-in_err-push-clause-calls : goal.returns-in_err-push-clause-calls
returns-in_err-push-clause-calls c =
    map-set_same aggregate_of c.loop-aggregate.all c.loop-aggregate.aggregate-index c.finish.new.self c.aggregate-item.result c.finish.ensures.call ∙ c.loop-aggregate.invariant.calls

pub loop-aggregate-preserved : goal.loop-aggregate-preserved
loop-aggregate-preserved c =
    let inv = c.loop-aggregate.invariant in
    let all = c.loop-aggregate.all in
    let i = c.loop-aggregate.aggregate-index in
    let d = c.aggregate-item.result in
    let within : i < length all = omega arith in
    let items = c.in_ok-push.ensures.items in
    record {
      calls = map-set_same aggregate_of all i c.finish.new.self d c.finish.ensures.call ∙ inv.calls;
      ready = All-set IsReady all i c.finish.new.self c.finish.ensures.ready inv.ready;
      left = left_step all c.args.all.now i c.finish.new.self inv.left;
      printable = subst (All IsPrintable) (sym items) (All-append IsPrintable c.loop-aggregate.values.items (c.finish.result ∷ []) inv.printable (All-cons IsPrintable c.finish.result [] c.finish.ensures.printable (All-nil IsPrintable)));
      values = λ line rows h.
          let was : HasTaken line rows (get_or all i d) = subst (λ x. HasTaken line rows x) (sym (left_at all c.args.all.now i d inv.left)) (h i d (omega arith)) in
          ap (λ l. behind l (each_value (aggregate line rows) (drop (i + 1) (map aggregate_of c.args.all.now)))) items
          ∙ gather_step (aggregate line rows) (map aggregate_of c.args.all.now) i (aggregate_of (get_or all i d)) c.loop-aggregate.values.items c.finish.result (aggregates line (map aggregate_of c.args.all.now) rows)
          (place aggregate_of all (map aggregate_of c.args.all.now) i d within inv.calls) (sym (c.finish.ensures.value line rows was)) (inv.values line rows h);
    }

pub returns-clause-values : goal.returns-clause-values
returns-clause-values c line rows h =
    gather_end (aggregate line rows) (map aggregate_of c.args.all.now) c.loop-aggregate.aggregate-index c.loop-aggregate.values.items (aggregates line (map aggregate_of c.args.all.now) rows)
    (none_left aggregate_of c.args.all.now c.loop-aggregate.aggregate-index c.loop-aggregate-test.false) (c.loop-aggregate.invariant.values line rows h)
