-- A scan: what is known of the bytes so far, and for which bytes it stands.
use Rattle.std.specs.Prelude.{◌≡◌, ℕ, ◌+◌, Bool, true, false, cond, ◌&&◌, nat_lt, List, [], ◌∷◌, length, Option, Some, None}
use Rattle.sj_json.specs.Spelling.{max_length, max_depth}
use Rattle.sj_scan.specs.declared.utf8.Utf8.{Utf8}
use Rattle.sj_scan.specs.declared.utf8.Utf8.TheVariants.{Between, OneMore, TwoMore, AfterE0, AfterEd, ThreeMore, AfterF0, AfterF4}
use Rattle.sj_scan.specs.declared.mode.Container.{Container}
use Rattle.sj_scan.specs.Utf8.{utf8_step}
use Rattle.sj_scan.specs.Modes.{Mode, value, Place, turn, may_end_in, none_open}

pub record Reached : Type 0 where
  pub mode : Mode
  pub containers : List Container
  pub text : Utf8
  -- bytes so far
  pub taken : ℕ

-- before the first byte
abbrev pub begun : Reached
begun = record { mode = value; containers = []; text = Between; taken = 0 }

abbrev pub reach : ℕ → Option Place → Option Utf8 → Option Reached
reach taken None u = None
reach taken (Some p) None = None
reach taken (Some p) (Some u) = Some (record { mode = p.0; containers = p.1; text = u; taken = taken })

-- one byte more
abbrev pub step : Reached → ℕ → Option Reached
step r b = cond (nat_lt r.taken max_length) (reach (r.taken + 1) (turn max_depth r.mode r.containers b) (utf8_step r.text b)) None

abbrev pub step_of : Option Reached → ℕ → Option Reached
step_of None b = None
step_of (Some r) b = step r b

-- all of these bytes; none if no JSON text begins with the bytes so far
abbrev pub steps : Option Reached → List ℕ → Option Reached
steps o [] = o
steps o (b ∷ bs) = steps (step_of o b) bs

abbrev pub is_between : Utf8 → Bool
is_between Between = true
is_between OneMore = false
is_between TwoMore = false
is_between AfterE0 = false
is_between AfterEd = false
is_between ThreeMore = false
is_between AfterF0 = false
is_between AfterF4 = false

-- the bytes so far are a JSON text
abbrev pub is_whole : Option Reached → Bool
is_whole None = false
is_whole (Some r) = (may_end_in r.mode && none_open r.containers) && is_between r.text

-- how many containers are open
abbrev pub open_count : Option Reached → ℕ
open_count None = 0
open_count (Some r) = length r.containers

-- The scan stands for the bytes h since its start.
abbrev pub StandsFor : List ℕ → Option Reached → Type 0
StandsFor h s = s ≡ steps (Some begun) h
