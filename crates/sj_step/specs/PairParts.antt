-- The members of a made pair that are left.
use Rattle.std.specs.Prelude.{List, [], drop}
use Rattle.sj_step.specs.Reach.{Child}
use Rattle.sj_step.specs.declared.parts.PairPart.{PairPart}
use Rattle.sj_step.specs.declared.parts.PairPart.TheVariants as parts

-- the children of a pair from a part on
abbrev pub from_part : PairPart → List Child → List Child
from_part parts.Name cs = cs
from_part parts.Value cs = drop 1 cs
from_part parts.Id cs = drop 2 cs
from_part parts.Nothing cs = []
