use Rattle.sj_bind.proofs.Listed.{column_step}
use Rattle.sj_bind.proofs.binding.first_columns.Goals as goal

pub loop-number-preserved : goal.loop-number-preserved
loop-number-preserved c =
    let s = column_step c.loop-number.items c.push.new.self c.loop-number.number c.in_ok-push.ensures.ok c.loop-number.invariant.few c.loop-number.invariant.all in
    record { few = s.0; all = s.1 }
