-- The loans of where rows go, from call to call.
use Rattle.std.proofs.Common.{refl, ◌∙◌}
use Rattle.sj_stream.specs.declared.out.Out.{Out}
use Rattle.sj_stream.specs.Out.{SameLoans}

pub loans_stay : {O : Type 0} (out : Out O) → SameLoans out out
loans_stay out = record { sink = refl; page = refl; steps = refl }

pub loans_on : {O : Type 0} (old mid new : Out O) → SameLoans old mid → SameLoans mid new → SameLoans old new
loans_on old mid new a b = record { sink = b.sink ∙ a.sink; page = b.page ∙ a.page; steps = b.steps ∙ a.steps }
