-- What the readers of characters and tokens ensure, by a functional reading of the same.
use Rattle.std.specs.Prelude.{◌≡◌, Option, Some, None, Result, Ok, Err}
use Rattle.sj_base.specs.declared.refusal.ParseRefusal.{ParseRefusal}
use Rattle.sj_base.specs.declared.refusal.ParseRefusal.TheVariants as r

-- the reading gives nothing, unless memory ran out
abbrev pub Fails : {Y : Type 0} → ParseRefusal → Option Y → Type 0
Fails r.Memory read = Unit {0}
Fails r.Syntax read = read ≡ None

-- what a reader returned, seen by view, is what the reading gives, unless memory ran out
abbrev pub Gives : {X Y : Type 0} → (X → Y) → Result X ParseRefusal → Option Y → Type 0
Gives view (Ok x) read = read ≡ Some (view x)
Gives view (Err e) read = Fails e read
