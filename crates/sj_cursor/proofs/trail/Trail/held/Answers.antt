use Rattle.std.proofs.Common.{arith, length}
use Rattle.sj_cursor.proofs.Trails.{stacked_few}
use Rattle.sj_cursor.proofs.trail.Trail.held.Goals as goal

pub returns : goal.returns
returns c = omega (arith, c.len.ensures, c.saturating_add.ensures, stacked_few (length c.args.self.now.moves.items) 0 c.args.self.now.frames.items c.requires.stacked)
