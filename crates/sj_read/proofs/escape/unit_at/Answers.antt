use Rattle.std.proofs.Common.{◌+◌, ◌≤◌, get_or, subst, arith}
use Rattle.std.proofs.lemmas.Bool.Decides.{nat_tests}
use Rattle.sj_read.specs.Strings.{HasUnit}
use Rattle.sj_read.proofs.Escapes.{short_unit, reads_unit, refuses_unit, small_digit}
use Rattle.sj_read.proofs.escape.unit_at.Goals as goal

pub returns-then-bytes-from-lt4 : goal.returns-then-bytes-from-lt4
returns-then-bytes-from-lt4 c = short_unit c.args.bytes.now c.args.from c.requires (omega (arith, c.if-bytes-from-lt4.true))

pub returns-then-first-second : goal.returns-then-first-second
returns-then-first-second c =
    let t = c.args.bytes.now in
    let f = c.args.from in
    refuses_unit t f (omega (arith, c.if-bytes-from-lt4.false, c.requires)) (λ p q r s.
    let a = small_digit (get_or t f 0) p in
    let b = small_digit (get_or t (f + 1) 0) q in
    let d = small_digit (get_or t (f + 2) 0) r in
    let e = small_digit (get_or t (f + 3) 0) s in
    let never : ⊥ = grind (arith, nat_tests) in
    never)

pub returns : goal.returns
returns c =
    let t = c.args.bytes.now in
    let f = c.args.from in
    let a : c.digit-first.result ≤ 15 = grind (arith, nat_tests) in
    let b : c.digit-second.result ≤ 15 = grind (arith, nat_tests) in
    let d : c.digit-third.result ≤ 15 = grind (arith, nat_tests) in
    let e : c.digit-fourth.result ≤ 15 = grind (arith, nat_tests) in
    let u = reads_unit t f (omega (arith, c.if-bytes-from-lt4.false, c.requires)) (omega (arith, a, c.digit-first.ensures)) (omega (arith, b, c.digit-second.ensures)) (omega (arith, d, c.digit-third.ensures)) (omega (arith, e, c.digit-fourth.ensures)) in
    subst (HasUnit t f) (omega (arith, c.digit-first.ensures, c.digit-second.ensures, c.digit-third.ensures, c.digit-fourth.ensures)) u
