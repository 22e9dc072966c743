use Rattle.std.proofs.Common.{◌+◌, arith}
use Rattle.sj_bound.specs.View.{bound_of}
use Rattle.sj_file.proofs.Texts.{no_text, more_text, whole_text, refused_text, statement_so, no_more_so}
use Rattle.sj_file.proofs.verdict.text_of.Goals as goal

pub loop-bound-init : goal.loop-bound-init
loop-bound-init c = record { taken = no_text c.args.file.now c.new-text.result c.new-text.ensures; room = omega arith }

pub loop-bound-preserved : goal.loop-bound-preserved
loop-bound-preserved c =
    let rest = c.loop-bound.rest.now in
    let text = c.loop-bound.text in
    let grown = c.next_with_text.new.text in
    let b = c.in-Ok-Statement.bound in
    let behind = c.in-Ok-Statement.behind in
    let h = statement_so (c.loop-bound.count + 1) rest text grown c.in-Ok-Statement.field-0 b behind c.in-Ok-Statement.field-0-is c.in-Ok-Statement.ensures in
    let shorter = h.0.is_first.shorter in
    record {
      taken = more_text c.args.file.now text grown rest behind.now c.loop-bound.count (bound_of b) c.loop-bound.invariant.taken h.0 h.1;
      room = omega (arith, c.loop-bound.invariant.room, shorter);
    }

pub returns-in-Ok-End-clause-accepted : goal.returns-in-Ok-End-clause-accepted
returns-in-Ok-End-clause-accepted c =
    let rest = c.loop-bound.rest.now in
    let text = c.loop-bound.text in
    let grown = c.next_with_text.new.text in
    whole_text c.args.file.now text grown rest c.loop-bound.count c.loop-bound.invariant.taken
    (no_more_so (c.loop-bound.count + 1) rest text grown c.in-Ok-End.field-0 c.in-Ok-End.field-0-is c.in-Ok-End.ensures)

pub returns-in-Err-clause-refused : goal.returns-in-Err-clause-refused
returns-in-Err-clause-refused c = refused_text c.args.file.now c.loop-bound.text c.loop-bound.rest.now c.loop-bound.count c.in-Err.refusal c.loop-bound.invariant.taken c.in-Err.ensures
