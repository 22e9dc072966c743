use Rattle.std.proofs.Common.{refl, ◌∙◌}
use Rattle.sj_doc.proofs.Builders.{both_seen, line_whole, text_whole}
use Rattle.sj_doc.proofs.copied.CopiedLine.hold.Goals as goal

pub over_line-requires-clause-utf8 : goal.over_line-requires-clause-utf8
over_line-requires-clause-utf8 c =
    (text_whole c.self.inside.arena.items c.self.inside.nodes.items c.self.invariant c.args.self c.self.view_is c.requires.utf8).0

pub over_line-requires-clause-feeds : goal.over_line-requires-clause-feeds
over_line-requires-clause-feeds c =
    (text_whole c.self.inside.arena.items c.self.inside.nodes.items c.self.invariant c.args.self c.self.view_is c.requires.utf8).1

pub returns : goal.returns
returns c =
    c.over_line.ensures ∙ both_seen refl (line_whole c.self.inside.arena.items c.self.inside.nodes.items c.self.invariant c.args.self c.self.view_is)
