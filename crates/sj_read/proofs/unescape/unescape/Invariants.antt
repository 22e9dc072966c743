use Rattle.std.proofs.Common.{◌≡◌, ℕ, ◌-◌, ◌*◌, ◌≤◌, [], Bool, length, take, drop}
use Rattle.std.specs.Str.{IsUtf8, IsCharBoundary}
use Rattle.sj_json.specs.Building.{State}
use Rattle.sj_json.specs.Machine.{run, quoted}
use Rattle.sj_read.proofs.unescape.unescape.Given as goal

abbrev pub invariant-loop-at : goal.invariant-loop-at
invariant-loop-at l = record {
  later : l.from ≤ l.at;
  within : l.at ≤ length l.text;
  boundary : IsCharBoundary l.text l.at;
  room : l.len ≤ length l.buffer.items;
  few : l.len ≤ 4 * (l.at - l.from);
  utf8 : IsUtf8 (take l.len l.buffer.items);
  same : (limit : ℕ) (k : Bool) (s : State) → run limit (quoted k []) s (drop l.from l.text) ≡ run limit (quoted k (take l.len l.buffer.items)) s (drop l.at l.text);
}

abbrev pub decreases-loop-at : goal.decreases-loop-at
decreases-loop-at l = length l.text - l.at
