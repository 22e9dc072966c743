use Rattle.std.proofs.Common.{◌<◌, ◌∙◌, [], length, refl, arith}
use Rattle.std.proofs.Math.Seq.{map-set_same}
use Rattle.std.proofs.lemmas.List.Elements.{All-set, AllWithin-none, AllWithin-more_set, AllWithin-upto, All-from_all_within}
use Rattle.sj_select_list.specs.Taking.{aggregate_of, IsReady, HasTaken}
use Rattle.sj_select_list.proofs.aggregate.begin_all.Goals as goal

pub loop-aggregate-init : goal.loop-aggregate-init
loop-aggregate-init c = record { calls = refl; ready = c.requires; begun = λ line. AllWithin-none (HasTaken line []) _ 0 }

pub begin-requires : goal.begin-requires
begin-requires c = c.loop-aggregate.invariant.ready _ _ (omega arith)

pub loop-aggregate-preserved : goal.loop-aggregate-preserved
loop-aggregate-preserved c =
    let within : c.loop-aggregate.aggregate-index < length c.loop-aggregate.all = omega arith in
    record {
      calls = map-set_same aggregate_of c.loop-aggregate.all c.loop-aggregate.aggregate-index c.begin.new.self c.aggregate-item.result c.begin.ensures.call ∙ c.loop-aggregate.invariant.calls;
      ready = All-set IsReady c.loop-aggregate.all c.loop-aggregate.aggregate-index c.begin.new.self c.begin.ensures.ready c.loop-aggregate.invariant.ready;
      begun = λ line. AllWithin-more_set c.loop-aggregate.all c.loop-aggregate.aggregate-index c.begin.new.self within (HasTaken line []) (c.loop-aggregate.invariant.begun line) (c.begin.ensures.taken line);
    }

pub returns-clause-taken : goal.returns-clause-taken
returns-clause-taken c line =
    All-from_all_within (HasTaken line []) c.loop-aggregate.all
    (AllWithin-upto (HasTaken line []) c.loop-aggregate.all 0 c.loop-aggregate.aggregate-index (length c.loop-aggregate.all) (omega arith) (c.loop-aggregate.invariant.begun line))
