use Rattle.std.proofs.Common.{sym, ◌∙◌, arith}
use Rattle.sj_text.proofs.Windows.{is_quoted}
use Rattle.sj_text.proofs.window.quote.Goals as goal

pub returns-clause-quoted : goal.returns-clause-quoted
returns-clause-quoted c =
    λ _. is_quoted c.args.bytes.now c.put_at.new.window c.put_short.new.window c.put_at-2.new.window (omega (arith, c.if-bytes-gt-MOST_SHORT.false))
    (omega (arith, c.put_short.ensures.same, c.put_at.ensures.same, c.requires)) c.put_at.ensures.put c.put_short.ensures.put (sym c.stops_in_16.ensures ∙ c.if-stops_in_16-ne0.false) c.put_at-2.ensures.put
