use Rattle.std.proofs.Common.{rules, ◌≡◌, ℕ, List, map, subst}
use Rattle.sj_rows.specs.Lines.{lines, seen}
use Rattle.sj_page.specs.Sides.{OutputSide}
use Rattle.sj_page.specs.Pages.{PrintState}
use Rattle.sj_file.specs.declared.status.Status.{Status}
use Rattle.sj_stream.specs.Input.{InputSide}
use Rattle.sj_stream.specs.LineJob.{LineJob}
use Rattle.sj_stream.specs.Stream.{StreamedWith}
use Rattle.sj_group_run.specs.Gathering.{Saw}
use Rattle.sj_group_run.proofs.group.gather_lines.Goals as goal

-- seen from where the loans end
seen_after : (ended : List ℕ → Type 0) (job : LineJob) (from now now' : InputSide) (to : OutputSide) (to' to'' : PrintState) (status : Status) → now ≡ now' → to' ≡ to'' → StreamedWith ended job from now to to' status → StreamedWith ended job from now' to to'' status
seen_after ended job from now now' to to' to'' status input out s =
    subst (λ (i : InputSide). StreamedWith ended job from i to to'' status) input (subst (λ (p : PrintState). StreamedWith ended job from now to p status) out s)

pub returns : goal.returns
returns g c = λ job saw.
    seen_after (λ bytes. Saw c.take_lines.new.taker.printer.to_group.now c.take_lines.new.taker.printer.gatherer.groups job (map seen (lines bytes))) job _ _ _ _ _ _ _ (search rules) (search rules) (c.take_lines.ensures.streamed job saw)
