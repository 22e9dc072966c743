use Rattle.std.proofs.Common.{◌≡◌, ◌+◌, ◌-◌, ℕ, take, subst, arith, IsUtf8}
use Rattle.sj_read.proofs.Ascii.{text_more, ascii_more}
use Rattle.sj_read.proofs.utf8.is_text_from.Goals as goal

pub loop-at-preserved : goal.loop-at-preserved
loop-at-preserved c =
    let t = c.args.line.now in
    let at = c.loop-at.at in
    let n = at + c.char_len-len.result - at in
    let end : at + n ≡ at + c.char_len-len.result = omega arith in
    let more : IsUtf8 (take (at + c.char_len-len.result) t) = subst (λ (j : ℕ). IsUtf8 (take j t)) end (text_more t at n c.loop-at.invariant.text c.in-Ok.ensures.cases.1) in
    let e = c.ascii_end-at.ensures in
    record {
      within = e.within;
      text = ascii_more t (at + c.char_len-len.result) c.ascii_end-at.result e.later e.within e.ascii more;
      few = omega (arith, c.loop-at.invariant.few, e.later, c.char_len-len.ensures);
    }
