use Rattle.std.proofs.Common.{ap}
use Rattle.sj_bound.specs.View.{value_of}
use Rattle.sj_bound.specs.declared.bound.BoundValue.{BoundValue}
use Rattle.sj_select_list.specs.Aggregates.{array_of}
use Rattle.sj_select_list.proofs.Aggregating.{appended_is, appended_ready}
use Rattle.sj_select_list.proofs.aggregate.push_array.Goals as goal

pub returns-clause-aggregates : goal.returns-clause-aggregates
returns-clause-aggregates c = appended_is _ _ _ _ _ c.push.ensures.ok (ap (λ (v : BoundValue). array_of (value_of v) c.args.nulls) c.in_ok-value.ensures.value)

pub returns-clause-ready : goal.returns-clause-ready
returns-clause-ready c all = appended_ready _ _ _ _ c.push.ensures.ok (record { value = c.in_ok-value.ensures.ready; nulls = c.new-2.ensures.nulls }) all
