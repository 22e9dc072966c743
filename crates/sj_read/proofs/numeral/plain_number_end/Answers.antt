use Rattle.std.proofs.Common.{ℕ, subst, arith}
use Rattle.sj_read.specs.Numerals.{IsUnsigned}
use Rattle.sj_read.proofs.Unsigned.{behind_minus, unsigned}
use Rattle.sj_read.proofs.numeral.plain_number_end.Goals as goal
use Rattle.sj_read.proofs.numeral.plain_number_end.Goals.{then-c-eq45, else-c-eq45}

pub returns-in-Some : goal.returns-in-Some
returns-in-Some c =
    let b = c.args.bytes.now in
    let end = c.in-Some.end in
    let read = c.in-Some.ensures {u = tt} in
    elim c.if-c-eq45.branch [
      | then-c-eq45 w ↦ behind_minus b c.args.at c.args.c end (omega (arith, c.requires.within)) c.requires.here w.if-c-eq45.true (subst (λ (i : ℕ). IsUnsigned b i end) w.from-is read)
      | else-c-eq45 w ↦ unsigned b c.args.at c.args.c end (omega (arith, c.requires.within)) c.requires.here w.if-c-eq45.false (subst (λ (i : ℕ). IsUnsigned b i end) w.from-is read)
    ]

pub returns-in_ok-far_number_end-in-None : goal.returns-in_ok-far_number_end-in-None
returns-in_ok-far_number_end-in-None c =
    let b = c.args.bytes.now in
    let end = c.in_ok-far_number_end-in-None.field-0 in
    let read = c.in_ok-far_number_end-in-None.ensures {u = tt} in
    elim c.if-c-eq45.branch [
      | then-c-eq45 w ↦ behind_minus b c.args.at c.args.c end (omega (arith, c.requires.within)) c.requires.here w.if-c-eq45.true (subst (λ (i : ℕ). IsUnsigned b i end) w.from-is read)
      | else-c-eq45 w ↦ unsigned b c.args.at c.args.c end (omega (arith, c.requires.within)) c.requires.here w.if-c-eq45.false (subst (λ (i : ℕ). IsUnsigned b i end) w.from-is read)
    ]
