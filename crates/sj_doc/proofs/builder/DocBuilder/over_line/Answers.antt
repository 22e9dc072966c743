use Rattle.std.proofs.Common.{◌∙◌}
use Rattle.sj_doc.proofs.Builders.{line_held, starts, both_seen}
use Rattle.sj_doc.proofs.builder.DocBuilder.over_line.Goals as goal

pub invariant_of-result : goal.invariant_of-result
invariant_of-result c =
    let s = starts c.args.arena.items c.args.nodes.items c.over.result c.over.ensures c.requires.no_nodes c.requires.narrow in
    (s.0, (line_held c.args.arena.items c.len-line.result c.requires.utf8 c.requires.feeds (c.len-line.ensures ∙ c.args.arena.ok.0)).0, s.2)

pub returns : goal.returns
returns c =
    both_seen (starts c.args.arena.items c.args.nodes.items c.over.result c.over.ensures c.requires.no_nodes c.requires.narrow).1
    (line_held c.args.arena.items c.len-line.result c.requires.utf8 c.requires.feeds (c.len-line.ensures ∙ c.args.arena.ok.0)).1
