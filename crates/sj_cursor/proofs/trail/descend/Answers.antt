use Rattle.std.proofs.Common.{arith}
use Rattle.sj_cursor.proofs.Trails.{leads_on, led_at, led_down}
use Rattle.sj_cursor.proofs.trail.descend.Goals as goal

pub moves-preserved : goal.moves-preserved
moves-preserved c = record {
  leads = leads_on _ _ _ _ _ _ c.moves.invariant.leads (led_at _ _ _ c.moves-test.true c.index-moves-at.is _ _ _ _ (c.in-Straight.ensures _));
  low = omega (arith, c.moves.invariant.low);
  high = omega (arith, c.moves-test.true);
}

pub returns-in-Nowhere-clause-leads : goal.returns-in-Nowhere-clause-leads
returns-in-Nowhere-clause-leads c = leads_on _ _ _ _ _ _ c.moves.invariant.leads (led_at _ _ _ c.moves-test.true c.index-moves-at.is _ _ _ _ (c.in-Nowhere.ensures _))

pub returns-in-Down-clause-leads : goal.returns-in-Down-clause-leads
returns-in-Down-clause-leads c = leads_on _ _ _ _ _ _ c.moves.invariant.leads (led_down _ _ _ c.moves-test.true c.index-moves-at.is _ _ _ _ (c.in-Down.ensures _))
