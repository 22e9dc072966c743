use Rattle.std.proofs.Common.{◌≡◌, ℕ, ◌-◌, ◌≤◌, List, length, vec_len}
use Rattle.sj_rows.specs.Lines.{max_input}
use Rattle.sj_file.specs.Job.{job_of}
use Rattle.sj_file.specs.Piece.{max_piece}
use Rattle.sj_stream.specs.Input.{input_at}
use Rattle.sj_stream.specs.Out.{state_at, SameLoans, out_at}
use Rattle.sj_stream.specs.Splitting.{kept_of}
use Rattle.sj_stream.specs.Stream.{GoesOn}
use Rattle.sj_run.specs.Output.{line_job}
use Rattle.sj_run.proofs.stream.stream_in.Given as goal

abbrev pub invariant-loop-taken : goal.invariant-loop-taken
invariant-loop-taken g l =
    let from = input_at g.I.Source in
    record {
      limit : l.taken ≤ max_input;
      a_piece : vec_len l.room.piece ≡ max_piece;
      lent : SameLoans l.fn.out l.out;
      goes_on : (bytes : List ℕ) × (length bytes ≡ l.taken) × (l.lines ≡ kept_of bytes)
          × GoesOn (line_job (job_of l.job)) (from l.fn.input l.fn.out.steps.now) (from l.input l.out.steps.now) (out_at g.O.Sink l.fn.out.sink.now) (state_at g.O.Sink l.out) bytes;
    }

abbrev pub decreases-loop-taken : goal.decreases-loop-taken
decreases-loop-taken g l = max_input - l.taken
