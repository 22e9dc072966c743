use Rattle.std.proofs.Common.{ℕ, List, Bor, sym, ◌∙◌}
use Rattle.std.specs.Str.{bytes_eq}
use Rattle.sj_bind.proofs.Lists.{any_mapped}
use Rattle.sj_bind.proofs.covered.has_name.Goals as goal

pub returns : goal.returns
returns c = c.contains.ensures ∙ sym (any_mapped (bytes_eq c.args.name.now) (λ (k : Bor (List ℕ)). k.now) c.args.names.now.names.keys)
