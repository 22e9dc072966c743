use Rattle.std.proofs.Common.{rules, arith, length, ◌≤◌, ◌≡◌, ◌-◌, drop, length-drop}
use Rattle.std.proofs.lemmas.List.{length-take}
use Rattle.sj_generated.proofs.Giving.{more_given}
use Rattle.sj_generated.proofs.source.GeneratedSourceSource.read.Goals as goal

pub loop-filled-preserved : goal.loop-filled-preserved
loop-filled-preserved c =
    let room : length c.give-n.new.buf ≡ length c.loop-filled.buf - c.loop-filled.filled = omega (arith, c.give-n.auto.buf, length-take (length c.loop-filled.buf - c.loop-filled.filled) (drop c.loop-filled.filled c.loop-filled.buf), length-drop c.loop-filled.filled c.loop-filled.buf) in
    let fits : c.give-n.result ≤ length c.give-n.new.buf = omega arith in
    record {
      within = search rules;
      bytes = more_given _ _ _ _ _ _ _ _ c.loop-filled.invariant.within fits c.loop-filled.invariant.bytes c.give-n.ensures.bytes;
    }
