-- What the objects in memory show, and what each call makes of it.
use Rattle.std.specs.Prelude.{ℕ, List, [], Bool, ◌==◌, min, drop, Option, None, Some, slice_get, if◌then◌else◌}
use Rattle.std.specs.List.{list_any}
use Rattle.sj_base.specs.Count.{raised}

-- the call of this number, counted from 0, is one of those that fail
abbrev pub is_listed : List ℕ → ℕ → Bool
is_listed fails call = list_any (λ k. k == call) fails

-- a cut above 0 is a limit, and 0 is none
abbrev pub cut_within : Option ℕ → ℕ → ℕ
cut_within None room = room
cut_within (Some cut) room = if cut == 0 then room else min cut room

-- the most bytes that the call of this number gives where there is this room
abbrev pub most_given : List ℕ → ℕ → ℕ → ℕ
most_given cuts call room = cut_within (slice_get cuts call) room

-- a source: the bytes still to come, the limits of its calls, the numbers of the calls that fail, and how often it was called and has failed
pub record SourceState : Type 0 where
  pub left : List ℕ
  pub cuts : List ℕ
  pub fails : List ℕ
  pub calls : ℕ
  pub faults : ℕ

-- before its first call
abbrev pub source_over : List ℕ → List ℕ → List ℕ → SourceState
source_over bytes cuts fails = record { left = bytes; cuts = cuts; fails = fails; calls = 0; faults = 0 }

-- a call gave n bytes
abbrev pub source_gave : SourceState → ℕ → SourceState
source_gave s n = record s { left = drop n s.left; calls = raised s.calls 1 }

-- a call failed
abbrev pub source_failed : SourceState → SourceState
source_failed s = record s { calls = raised s.calls 1; faults = raised s.faults 1 }

-- a sink: the bytes taken, how many there may be, the numbers of the calls that fail, and how often it was called and has failed
pub record SinkState : Type 0 where
  pub taken : List ℕ
  pub room : ℕ
  pub fails : List ℕ
  pub calls : ℕ
  pub faults : ℕ

-- before its first call
abbrev pub sink_of : ℕ → List ℕ → SinkState
sink_of room fails = record { taken = []; room = room; fails = fails; calls = 0; faults = 0 }

-- a call took these bytes too
abbrev pub sink_took : SinkState → List ℕ → SinkState
sink_took s taken = record s { taken = taken; calls = raised s.calls 1 }

-- a call failed
abbrev pub sink_failed : SinkState → SinkState
sink_failed s = record s { calls = raised s.calls 1; faults = raised s.faults 1 }

-- a shelf of one file: its name and bytes, what is left of the file that is chosen (nothing where none is), the numbers of the calls that fail,
-- and how often it was called and has failed
pub record ShelfState : Type 0 where
  pub name : List ℕ
  pub bytes : List ℕ
  pub left : List ℕ
  pub fails : List ℕ
  pub calls : ℕ
  pub faults : ℕ

-- before its first call
abbrev pub shelf_of : List ℕ → List ℕ → List ℕ → ShelfState
shelf_of name bytes fails = record { name = name; bytes = bytes; left = []; fails = fails; calls = 0; faults = 0 }

-- a call chose the file, or gave of it, so that this is left
abbrev pub shelf_left : ShelfState → List ℕ → ShelfState
shelf_left s left = record s { left = left; calls = raised s.calls 1 }

-- a call failed, so that this is left
abbrev pub shelf_failed : ShelfState → List ℕ → ShelfState
shelf_failed s left = record s { left = left; calls = raised s.calls 1; faults = raised s.faults 1 }

-- a quiet shelf of one file: its name and bytes, what is left of the file that is chosen, and how often it has failed
pub record QuietShelfState : Type 0 where
  pub name : List ℕ
  pub bytes : List ℕ
  pub left : List ℕ
  pub faults : ℕ

-- before its first call
abbrev pub quiet_shelf_of : List ℕ → List ℕ → QuietShelfState
quiet_shelf_of name bytes = record { name = name; bytes = bytes; left = []; faults = 0 }
