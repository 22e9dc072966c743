use Rattle.std.proofs.Common.{◌≡◌, take, is_some}
use Rattle.sj_build.specs.Keys.{lent_keys}
use Rattle.sj_build.proofs.Members.{IsOpen}
use Rattle.sj_build.proofs.object.object_text.Given as goal

abbrev pub invariant-loop-field : goal.invariant-loop-field
invariant-loop-field l = IsOpen l.nulls (is_some l.keys) (take l.field-index l.fields) l.text l.place (lent_keys l.keys) × (is_some l.keys ≡ is_some l.fn.keys)
