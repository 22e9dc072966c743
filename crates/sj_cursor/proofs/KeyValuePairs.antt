-- The pairs of an item, or the fault that stands for them.
use Rattle.std.proofs.Common.{◌≡◌, Ok, Err, ap}
use Rattle.sj_base.specs.declared.state.State.{State}
use Rattle.sj_item.specs.Items.{ItemValue}
use Rattle.sj_step.specs.Trace.{Trace, fail}
use Rattle.sj_method.specs.Pairs.{pairs_of, key_values, or_fault}

pub key_values_of : (x : ItemValue) (t : Trace) → Ok t ≡ pairs_of x → t ≡ key_values x
unfolding key_values
key_values_of x t e = ap or_fault e

pub key_values_fault : (x : ItemValue) (s : State) → Err s ≡ pairs_of x → fail s ≡ key_values x
unfolding key_values
key_values_fault x s e = ap or_fault e
