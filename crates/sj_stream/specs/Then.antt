-- WHAT A RUN HAS WRITTEN that writes a text behind all lines, and why it ended.
use Rattle.std.specs.Prelude.{◌≡◌, ◌⊎◌, ℕ, List}
use Rattle.sj_base.specs.Count.{Rose}
use Rattle.sj_page.specs.Sides.{OutputSide, Grew}
use Rattle.sj_page.specs.Pages.{PrintState}
use Rattle.sj_page.specs.declared.page.Page.{Page}
use Rattle.sj_file.specs.declared.status.Status.{Status}
use Rattle.sj_file.specs.declared.status.Status.TheVariants.{Done, WriteFault, Memory}
use Rattle.sj_stream.specs.Input.{InputSide}
use Rattle.sj_stream.specs.LineJob.{LineJob, text_behind}
use Rattle.sj_stream.specs.Stream.{Streamed, IsFrontOf}

-- a text was written, or a front of it
abbrev pub Ends : List ℕ → OutputSide → OutputSide → Status → Type 0
Ends text to to' Done = Grew to to' text × (to'.faults ≡ to.faults)
Ends text to to' WriteFault = IsFrontOf text to to' × Rose to.faults to'.faults
Ends text to to' Memory = IsFrontOf text to to' × (to'.faults ≡ to.faults)
Ends text to to' _ = ⊥

-- all lines were written, and then the text, or a front of it
pub record Behind (job : LineJob) (from from' : InputSide) (to to' : OutputSide) (status : Status) : Type 0 where
  pub mid : PrintState
  pub streamed : Streamed job from from' to mid Done
  pub ends : Ends (text_behind job streamed.bytes) mid.out to' status

-- the run over the lines ended otherwise, so nothing of the text was written
pub record NotBehind (job : LineJob) (from from' : InputSide) (to to' : OutputSide) (status : Status) : Type 0 where
  pub page : Page
  pub streamed : Streamed job from from' to (record { out = to'; page = page }) status
  pub not_done : status ≡ Done → ⊥

-- A run over the lines of an input, with the text behind them, is over.
abbrev pub StreamedThen : LineJob → InputSide → InputSide → OutputSide → OutputSide → Status → Type 0
StreamedThen job from from' to to' status = NotBehind job from from' to to' status ⊎ Behind job from from' to to' status
