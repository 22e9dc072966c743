use Rattle.std.proofs.Common.{subst, sym}
use Rattle.sj_bind.specs.declared.parts.Call.{Call}
use Rattle.sj_bind.specs.PartsView.{call_of}
use Rattle.sj_bind.specs.Bindable.{IsBindableCall}
use Rattle.sj_bind.proofs.IndexedParts.{call_at}
use Rattle.sj_bind.proofs.calls.some_default_fails.Goals as goal

pub call_default_fails-requires : goal.call_default_fails-requires
call_default_fails-requires c =
    subst (λ (x : Call). IsBindableCall (call_of x)) (sym c.call-item.is) (call_at IsBindableCall c.args.calls.now c.loop-call.call-index c.call-item.result c.requires c.loop-call-test.true)
