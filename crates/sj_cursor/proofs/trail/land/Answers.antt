use Rattle.std.proofs.Common.{arith}
use Rattle.sj_cursor.proofs.Trails.{leads_on, led_at}
use Rattle.sj_cursor.proofs.trail.land.Goals as goal

pub returns-in-None : goal.returns-in-None
returns-in-None c = record {
  leads = leads_on _ _ _ _ _ _ c.moves.invariant.leads (led_at _ _ _ c.moves-test.true c.index-moves-at.is _ _ _ _ (c.in-None.ensures _));
  within = omega arith;
}

pub moves-preserved : goal.moves-preserved
moves-preserved c = record {
  leads = leads_on _ _ _ _ _ _ c.moves.invariant.leads (led_at _ _ _ c.moves-test.true c.index-moves-at.is _ _ _ _ (c.in-Some.ensures _));
  high = omega (arith, c.moves-test.true);
}
