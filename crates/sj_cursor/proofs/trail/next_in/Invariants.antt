use Rattle.std.proofs.Common.{◌≡◌, ◌+◌, ◌*◌, length, vec_capacity}
use Rattle.sj_step.specs.Trace.{join, visits}
use Rattle.sj_cursor.specs.Trails.{Leads, frame_left, stack_left, IsRoomy}
use Rattle.sj_cursor.proofs.trail.next_in.Given as goal

abbrev pub invariant-frames : goal.invariant-frames
invariant-frames l = record {
  leads : Leads (join (frame_left l.moves l.fn.frame) (stack_left l.moves l.fn.frames.items)) l.fn.steps (join (frame_left l.moves l.frame) (stack_left l.moves l.frames.items)) l.steps;
  roomy : IsRoomy l.moves (vec_capacity l.frames) l.frames.items l.frame;
  room : vec_capacity l.frames ≡ vec_capacity l.fn.frames;
}

abbrev pub decreases-frames : goal.decreases-frames
decreases-frames l = 2 * visits (join (frame_left l.moves l.frame) (stack_left l.moves l.frames.items)) + length l.frames.items
