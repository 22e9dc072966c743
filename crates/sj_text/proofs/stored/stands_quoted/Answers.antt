use Rattle.std.proofs.Common.{◌≡◌, ◌∙◌, sym, ap, arith, get_or, length}
use Rattle.std.proofs.lemmas.Bool.Decides.{nat_tests}
use Rattle.sj_text.proofs.StoredTexts.{stands}
use Rattle.sj_text.proofs.stored.stands_quoted.Goals as goal
use lib.Count.{count_trailing_zeros}

pub returns-clause-quoted : goal.returns-clause-quoted
returns-clause-quoted c =
    λ mark.
    let stops = c.stops_in_16-stops in
    let behind : get_or c.args.window.now (length c.args.text.now) 0 ≡ 34 = grind (arith, nat_tests, mark) in
    stands c.args.text.now c.args.window.now c.requires.window (omega (arith, c.if-len-most.false, c.requires.room)) (omega (arith, c.if-stops-eq0.false, stops.ensures))
    (ap (count_trailing_zeros 64) (sym stops.ensures) ∙ c.if-stops-len.false) behind
