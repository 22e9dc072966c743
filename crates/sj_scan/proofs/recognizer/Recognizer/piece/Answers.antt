use Rattle.std.proofs.Common.{◌≡◌, ◌-◌, take, drop, length, take_all, ap, ◌∙◌, arith}
use Rattle.std.proofs.lemmas.List.{length-drop}
use Rattle.sj_scan.specs.Scanning.{steps}
use Rattle.sj_scan.proofs.Steps.{steps_more, stands_on}
use Rattle.sj_scan.proofs.recognizer.Recognizer.piece.Goals as goal

pub loop-at-preserved : goal.loop-at-preserved
loop-at-preserved c =
    let bs = c.args.bytes.now in
    let at = c.loop-at.at in
    let taken = c.in_ok-at.ensures in
    let rest : take (length bs - at) (drop at bs) ≡ drop at bs = take_all (length bs - at) (drop at bs) (omega (arith, length-drop at bs)) in (
      steps_more c.args.self.now c.loop-at.self c.advance.new.self bs at c.in_ok-at.field-0 c.loop-at.invariant.0 (taken.0 ∙ ap (λ xs. steps c.loop-at.self (take c.in_ok-at.field-0 xs)) rest),
      omega (arith, taken.2, ap length rest, length-drop at bs),
    )

pub returns : goal.returns
returns c = λ h e. stands_on h c.args.bytes.now c.args.self.now c.loop-at.self c.loop-at.at c.loop-at-test.false e c.loop-at.invariant.0
