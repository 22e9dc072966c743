use Rattle.std.proofs.Common.{◌≡◌, map, take}
use Rattle.sj_bound.specs.View.{bound_of}
use Rattle.sj_bound.specs.declared.bound.Bound.{Bound}
use Rattle.sj_host.specs.Host.{width_of}
use Rattle.sj_host.proofs.file.widths_of.Given as goal

-- those of the statements so far
abbrev pub invariant-loop-statement : goal.invariant-loop-statement
invariant-loop-statement l = l.widths.items ≡ map (λ (s : Bound). width_of (bound_of s)) (take l.statement-index l.statements)
