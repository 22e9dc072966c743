-- What the fields of a recognizer stand for.
use Rattle.std.specs.Prelude.{reverse, Option, Some, None, if◌then◌else◌}
use Rattle.sj_scan.specs.declared.recognizer.Recognizer.TheInside.{Inside}
use Rattle.sj_scan.specs.Views.{mode_of}
use Rattle.sj_scan.specs.Scanning.{Reached}

abbrev pub reached_of : Inside → Option Reached
reached_of s = if s.failed then None else Some (record { mode = mode_of s.mode; containers = reverse s.containers.items; text = s.text; taken = s.taken })
