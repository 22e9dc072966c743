use Rattle.std.proofs.Common.{◌<◌, length, ap, arith, refl}
use Rattle.sj_doc.specs.Limits.{text_bound}
use Rattle.sj_doc.proofs.Builders.{no_line, starts, both_seen}
use Rattle.sj_doc.proofs.builder.DocBuilder.over.Goals as goal
use Rattle.sj_doc.proofs.builder.DocBuilder.over.Goals.{Start}

small : (c : Start) → length c.args.arena.items < text_bound
small c = omega (arith, ap length c.requires.no_text)

pub invariant_of-result : goal.invariant_of-result
invariant_of-result c =
    let s = starts c.args.arena.items c.args.nodes.items c.over.result c.over.ensures c.requires.no_nodes (small (goal.at.invariant_of-result c).Start) in
    (s.0, no_line c.args.arena.items, s.2)

pub returns : goal.returns
returns c = both_seen (starts c.args.arena.items c.args.nodes.items c.over.result c.over.ensures c.requires.no_nodes (small (goal.at.returns c).Start)).1 refl
