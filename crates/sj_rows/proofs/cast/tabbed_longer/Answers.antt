use Rattle.sj_rows.proofs.Casts.{made_fixed}
use Rattle.sj_rows.proofs.cast.tabbed_longer.Goals as goal

pub returns-in-Num-NumericFixed : goal.returns-in-Num-NumericFixed
returns-in-Num-NumericFixed c = rw (c.in-Num-NumericFixed.is-0, c.in-Num-NumericFixed.is-1, made_fixed _ _ _) (rw c.value.ensures at c.tabbed_fixed.ensures)
