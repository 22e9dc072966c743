use Rattle.std.proofs.Common.{◌+◌, arith}
use Rattle.sj_bound.specs.View.{bound_of}
use Rattle.sj_file.proofs.Verdicts.{none_counted, one_counted, all_counted, refused_counted, bound_so, end_so}
use Rattle.sj_file.proofs.verdict.count_of.Goals as goal

pub loop-bound-init : goal.loop-bound-init
loop-bound-init c = record { taken = none_counted c.args.file.now; room = omega arith }

pub loop-bound-preserved : goal.loop-bound-preserved
loop-bound-preserved c =
    let rest = c.loop-bound.rest.now in
    let b = c.in-Ok-Statement.bound in
    let behind = c.in-Ok-Statement.behind in
    let h = bound_so (c.loop-bound.count + 1) rest c.in-Ok-Statement.field-0 b behind c.in-Ok-Statement.field-0-is c.in-Ok-Statement.ensures in
    let shorter = h.0.is_first.shorter in
    record {
      taken = one_counted c.args.file.now rest behind.now c.loop-bound.count (bound_of b) c.loop-bound.invariant.taken h.0;
      room = omega (arith, c.loop-bound.invariant.room, shorter);
    }

pub returns-in-Ok-End-clause-accepted : goal.returns-in-Ok-End-clause-accepted
returns-in-Ok-End-clause-accepted c =
    let rest = c.loop-bound.rest.now in
    all_counted c.args.file.now rest c.loop-bound.count c.loop-bound.invariant.taken (end_so (c.loop-bound.count + 1) rest c.in-Ok-End.field-0 c.in-Ok-End.field-0-is c.in-Ok-End.ensures)

pub returns-in-Err-clause-refused : goal.returns-in-Err-clause-refused
returns-in-Err-clause-refused c = refused_counted c.args.file.now c.loop-bound.rest.now c.loop-bound.count c.in-Err.refusal c.loop-bound.invariant.taken c.in-Err.ensures
