use Rattle.std.proofs.Common.{◌≡◌, ◌+◌, ◌-◌, ◌≤◌, ◌++◌, List, ℕ, length, drop, replicate, decimal, codes, arith, subst, OnOk}
use Rattle.std.proofs.lemmas.Fmt.{length-decimal-le}
use Rattle.std.proofs.lemmas.List.{length-append}
use Rattle.sj_rows.proofs.Heads.{front_is, whole_is}
use Rattle.sj_rows.proofs.field.tabbed_whole.Goals as goal

pub write_digits-tab-requires : goal.write_digits-tab-requires
write_digits-tab-requires c = (omega (arith, length-decimal-le 20 c.args.whole (omega arith) (omega arith) c.ranges.whole.fits), omega arith)

pub overflow_sub-tab : goal.overflow_sub-tab
overflow_sub-tab c = omega (arith, length-decimal-le 20 c.args.whole (omega arith) (omega arith) c.ranges.whole.fits, c.write_digits-tab.ensures.start)

pub returns-clause-ok : goal.returns-clause-ok
returns-clause-ok c =
    let digits = c.write_digits-tab in
    let at : ℕ = digits.result in
    let whole : List ℕ = decimal c.args.whole in
    let text : List ℕ = codes "\t" ++ whole in
    let short : length whole ≤ 20 = length-decimal-le 20 c.args.whole (omega arith) (omega arith) c.ranges.whole.fits in
    let is : drop (at - 1) digits.new.buf ≡ text ++ replicate 24 9 =
    whole_is digits.new.buf at c.args.whole digits.ensures.before digits.ensures.written (omega (arith, short, digits.ensures.start)) (omega (arith, digits.ensures.start)) (omega (arith, digits.ensures.start)) in
    let long : length text ≡ 24 - (at - 1) = omega (arith, short, length-append (codes "\t") whole, digits.ensures.start) in
    subst (λ (l : List ℕ). OnOk c.push_front.result (c.push_front.new.out ≡ c.args.out.now ++ l))
    (front_is (drop (at - 1) digits.new.buf) text (replicate 24 9) ((at - 1) + 24 - (at - 1)) (24 - (at - 1)) is long (omega arith))
    c.push_front.ensures.ok
