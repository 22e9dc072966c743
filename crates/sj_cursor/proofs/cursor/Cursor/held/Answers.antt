use Rattle.std.proofs.Common.{arith}
use Rattle.sj_path_tree.specs.View.{path_of}
use Rattle.sj_cursor.specs.Standing.{IsMeansOf}
use Rattle.sj_cursor.specs.Trails.{IsTrailOf}
use Rattle.sj_cursor.proofs.cursor.Cursor.held.Goals as goal

pub returns-in-Trail : goal.returns-in-Trail
returns-in-Trail c =
    let trail : IsTrailOf (path_of c.self.inside.path.now) c.in-Trail.trail = rw c.in-Trail.is at c.self.invariant.means in
    rw (← c.self.view_is) (omega (arith, trail.few, c.held.ensures))
