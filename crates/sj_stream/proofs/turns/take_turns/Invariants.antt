use Rattle.std.proofs.Common.{◌≡◌, ◌+◌, ◌-◌, ◌<◌, ◌≤◌, ℕ, List, ◌++◌, length}
use Rattle.sj_rows.specs.Lines.{max_input}
use Rattle.sj_page.specs.Sides.{OutputSide}
use Rattle.sj_stream.specs.Input.{InputSide, input_at}
use Rattle.sj_stream.specs.LineJob.{LineJob}
use Rattle.sj_stream.specs.Out.{state_at, SameLoans}
use Rattle.sj_stream.specs.Stream.{GoesOnWith}
use Rattle.sj_stream.proofs.turns.take_turns.Given as goal

-- so many bytes were taken, and a run that went on goes on with them
abbrev pub invariant-loop-n : goal.invariant-loop-n
invariant-loop-n g l =
    let input = input_at g.I.Source in
    let state = state_at g.O.Sink in
    record {
      left : l.taken < l.most;
      lent : SameLoans l.fn.out l.out;
      goes_on : (job : LineJob) (from : InputSide) (to : OutputSide) (bytes : List ℕ) → length bytes + l.most ≤ max_input → GoesOnWith (g.T.TakesPieces.took l.fn.taker) job from (input l.fn.input l.fn.out.steps.now) to (state l.fn.out) bytes
          → (more : List ℕ) × (length more ≡ l.taken) × GoesOnWith (g.T.TakesPieces.took l.taker) job from (input l.input l.out.steps.now) to (state l.out) (bytes ++ more);
    }

abbrev pub decreases-loop-n : goal.decreases-loop-n
decreases-loop-n g l = l.most - l.taken
