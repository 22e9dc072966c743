use Rattle.std.proofs.Common.{ℕ, List, Bor}
use Rattle.std.specs.Str.{bytes_eq}
use Rattle.sj_bind.proofs.AddedNames.{place_of}
use Rattle.sj_bind.proofs.Lists.{any_mapped}
use Rattle.sj_bind.proofs.values.number_of.Goals as goal

pub unreachable-requires : goal.unreachable-requires
unreachable-requires c =
    let known = any_mapped (bytes_eq c.args.name.now) (λ (k : Bor (List ℕ)). k.now) c.args.columns.now.names.keys in
    let missing = c.in-None.ensures.found in
    absurd cc

pub returns : goal.returns
returns c = place_of (bytes_eq c.args.name.now) c.args.columns.now.names.keys _ c.in-Some.ensures.index
