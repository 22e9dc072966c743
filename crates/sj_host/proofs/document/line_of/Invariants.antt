use Rattle.std.proofs.Common.{◌≡◌, map, take}
use Rattle.sj_host.specs.Host.{return_for}
use Rattle.sj_host.proofs.document.line_of.Given as goal

-- the bytes so far
abbrev pub invariant-loop-byte : goal.invariant-loop-byte
invariant-loop-byte l = l.line.items ≡ map return_for (take l.byte-index l.document)
