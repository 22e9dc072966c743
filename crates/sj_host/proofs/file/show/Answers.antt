use Rattle.std.proofs.Common.{ap, subst, arith, length}
use Rattle.sj_file.specs.Refusals.{AcceptsWithText}
use Rattle.sj_host.proofs.Files.{shown, with_text, copied_front}
use Rattle.sj_host.proofs.file.show.Goals as goal

pub returns-then-count-out-clause-unanswered : goal.returns-then-count-out-clause-unanswered
returns-then-count-out-clause-unanswered c =
    (_, with_text c.args.file.now _ _ _ (shown c.args.file.now c.in-Ok.shelf c.in-Ok.ensures) c.in-Ok-accept_text.ensures, omega (arith, c.if-count-out.true, ap length c.as_slice-count.ensures))

pub returns-in-Ok-accept_text-clause-shown : goal.returns-in-Ok-accept_text-clause-shown
returns-in-Ok-accept_text-clause-shown c =
    subst (AcceptsWithText c.args.file.now) (copied_front _ _ _ _ _ c.as_slice-count.ensures c.copy_from_slice.ensures.after c.as_slice.ensures)
    (with_text c.args.file.now _ _ _ (shown c.args.file.now c.in-Ok.shelf c.in-Ok.ensures) c.in-Ok-accept_text.ensures)
