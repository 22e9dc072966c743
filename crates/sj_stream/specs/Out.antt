-- Where rows go, as it is seen at one moment.
use Rattle.std.specs.Prelude.{◌≡◌}
use Rattle.sj_outside.specs.declared.outside.Sink.{Ghosts}
use Rattle.sj_page.specs.Sides.{OutputSide, output_side}
use Rattle.sj_page.specs.Pages.{PrintState, print_state}
use Rattle.sj_stream.specs.declared.out.Out.{Out}

-- the page with its sink, by what the sink tells and counts
abbrev pub state_at : {O : Type 0} → Ghosts O → Out O → PrintState
state_at tells out = print_state tells.taken tells.size tells.faults out.sink.now out.page.now

-- the sink alone
abbrev pub out_at : {O : Type 0} → Ghosts O → O → OutputSide
out_at tells out = output_side tells.taken tells.size tells.faults out

-- the loans are the same: sink, page and counter are those of the caller still
pub record SameLoans {O : Type 0} (old new : Out O) : Type 0 where
  pub sink : new.sink.ghost_name ≡ old.sink.ghost_name
  pub page : new.page.ghost_name ≡ old.page.ghost_name
  pub steps : new.steps.ghost_name ≡ old.steps.ghost_name
