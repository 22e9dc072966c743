use Rattle.std.proofs.Common.{ℕ, ◌+◌, ◌<◌, [], get_or, set, true, false, refl, sym, ap, ◌∙◌, subst, arith, below_more, length-set}
use Rattle.sj_doc.proofs.Distinct.{DifferAt, SlotsTaken, AreDistinct-from_places, DifferAt-from_contains, DifferAt-from_free_slot, repeated_from_contains, SlotsTaken-more}
use Rattle.sj_doc.specs.Slots.{Key}
use Rattle.sj_doc.proofs.keys.each_is_new.Goals as goal
use Rattle.sj_doc.proofs.keys.each_is_new.Goals.{else-taken-slot-via-then-taken-slot+else-contains, else-taken-slot-via-else-taken-slot}

abbrev blank : Key
blank = record { ref_ptr = (0, 0); now = [] }

pub returns-then-contains : goal.returns-then-contains
returns-then-contains c = (λ never. absurd (cc), λ h. absurd (repeated_from_contains c.args.keys.now c.loop-i.i blank c.loop-i-test.true c.if-contains.ensures.cases h))

pub loop-i-preserved : goal.loop-i-preserved
loop-i-preserved c =
    let ks = c.args.keys.now in
    let l = c.loop-i in
    let within = c.loop-i-test.true in
    let slot_is = c.slot_of-slot.ensures.value in
    let new : (j : ℕ) → j < l.i → DifferAt ks j l.i = elim c.else-taken-slot.branch [
      | else-taken-slot-via-then-taken-slot+else-contains w ↦ DifferAt-from_contains ks l.i blank within w.if-contains.ensures.cases
      | else-taken-slot-via-else-taken-slot w ↦ DifferAt-from_free_slot ks l.i blank within l.taken l.invariant.1 (ap (λ s. get_or l.taken s false) (sym slot_is) ∙ w.if-taken-slot.false)
    ] in (
      λ j k less upto. below_more (λ n. j < n → DifferAt ks j n) l.i (λ n below lower. l.invariant.0 j n lower below) (new j) k upto less,
      subst (λ s. SlotsTaken (set l.taken s true) ks (l.i + 1)) (sym slot_is) (SlotsTaken-more ks l.i blank within l.taken (omega (arith, l.invariant.2)) l.invariant.1),
      omega (arith, length-set l.taken c.slot_of-slot.result true, l.invariant.2),
    )

pub returns : goal.returns
returns c = (λ _. AreDistinct-from_places c.args.keys.now (λ i j less within. c.loop-i.invariant.0 i j less (omega arith)), λ _. refl)
