use Rattle.std.proofs.Common.{sym, ◌∙◌, arith}
use Rattle.sj_rows.proofs.Short.{is_tabbed, is_nought}
use Rattle.sj_rows.proofs.field.tabbed_short.Goals as goal

pub returns-clause-tabbed : goal.returns-clause-tabbed
returns-clause-tabbed c none =
    is_tabbed c.args.bytes.now c.put_short.new.window c.put_short-2.new.window (omega (arith, c.if-bytes-gt-MOST_SHORT.false)) (omega (arith, c.put_short.ensures.same, c.put_short-2.ensures.same, c.requires)) c.put_short.ensures.put
    c.put_short-2.ensures.put (sym c.escapes_in_16.ensures ∙ is_nought c.escapes_in_16.result none)
