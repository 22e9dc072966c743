use Rattle.std.proofs.Common.{◌≡◌, ◌+◌, ◌-◌, length, take, drop, refl, arith}
use Rattle.std.proofs.lemmas.List.{take_all, length-drop}
use Rattle.sj_text.proofs.Windows.{both_ends}
use Rattle.sj_text.proofs.window.put_ends.Goals as goal

pub returns-clause-put : goal.returns-clause-put
returns-clause-put c =
    let a = c.args in
    let last = length a.bytes.now - a.size in
    let tail : take (last + a.size - last) (drop last a.bytes.now) ≡ drop last a.bytes.now = take_all (last + a.size - last) (drop last a.bytes.now) (omega (arith, length-drop last a.bytes.now, c.requires.ends)) in
    both_ends a.window.now c.put_at.new.window c.put_at-2.new.window a.bytes.now (take a.size a.bytes.now) (take (last + a.size - last) (drop last a.bytes.now)) a.at a.size last (omega (arith, c.requires.within))
    (omega (arith, c.requires.ends)) (omega (arith, c.requires.ends)) refl tail c.put_at.ensures.put c.put_at-2.ensures.put
