use Rattle.std.proofs.Common.{◌≡◌, ℕ, ◌-◌, ◌≤◌, List, [], length, map}
use Rattle.sj_rows.specs.Lines.{max_input, whole_lines, seen}
use Rattle.sj_file.specs.Piece.{max_piece}
use Rattle.sj_stream.specs.Input.{input_at}
use Rattle.sj_stream.specs.LineJob.{LineJob}
use Rattle.sj_stream.specs.Out.{state_at, out_at, SameLoans}
use Rattle.sj_stream.specs.Splitting.{kept_of}
use Rattle.sj_stream.specs.Stream.{GoesOn}
use Rattle.sj_group_run.specs.Gathering.{Saw}
use Rattle.sj_group_run.proofs.group.take_lines.Given as goal

-- the run goes on, and the groups are those of the lines so far
abbrev pub invariant-loop-taken : goal.invariant-loop-taken
invariant-loop-taken g l =
    let from = input_at g.I.Source in
    record {
      limit : l.taken ≤ max_input;
      a_piece : length l.piece ≡ max_piece;
      lent : SameLoans l.fn.out l.out;
      goes_on : (job : LineJob) → Saw l.fn.taker.printer.to_group.now l.fn.taker.printer.gatherer.groups job [] →
          (bytes : List ℕ) × (length bytes ≡ l.taken) × GoesOn job (from l.fn.input l.fn.out.steps.now) (from l.input l.out.steps.now) (out_at g.O.Sink l.fn.out.sink.now) (state_at g.O.Sink l.out) bytes
          × (l.taker.lines ≡ kept_of bytes) × Saw l.taker.printer.to_group.now l.taker.printer.gatherer.groups job (map seen (whole_lines bytes));
    }

abbrev pub decreases-loop-taken : goal.decreases-loop-taken
decreases-loop-taken g l = max_input - l.taken
