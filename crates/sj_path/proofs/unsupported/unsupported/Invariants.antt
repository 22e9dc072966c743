use Rattle.std.proofs.Common.{◌≡◌, length}
use Rattle.sj_path_grammar.specs.Unsupported as spec
use Rattle.sj_path.proofs.unsupported.unsupported.Given as goal

abbrev pub invariant-loop-rest : goal.invariant-loop-rest
invariant-loop-rest l = spec.unsupported l.rest ≡ spec.unsupported l.tokens

abbrev pub decreases-loop-rest : goal.decreases-loop-rest
decreases-loop-rest l = length l.rest
