use Rattle.std.proofs.Common.{arith}
use Rattle.sj_doc.proofs.Builders.{line_narrow, line_range, key_given}
use Rattle.sj_doc.proofs.builder.DocBuilder.key_at.Goals as goal

pub span_between-requires-clause-narrow : goal.span_between-requires-clause-narrow
span_between-requires-clause-narrow c = omega (arith, c.requires.within, line_narrow _ _ c.self.inside.tree _ (c.self.invariant, c.self.view_is))

pub invariant_of-self : goal.invariant_of-self
invariant_of-self c =
    let span = line_range _ _ c.self.inside.tree _ (c.self.invariant, c.self.view_is) c.args.from c.args.to c.requires.within c.requires.utf8 _ c.span_between.ensures in
    (key_given _ _ c.self.inside.tree _ (c.self.invariant, c.self.view_is) _ c.requires.wanted span.0 _ span.1).0

pub returns : goal.returns
returns c =
    let span = line_range _ _ c.self.inside.tree _ (c.self.invariant, c.self.view_is) c.args.from c.args.to c.requires.within c.requires.utf8 _ c.span_between.ensures in
    (key_given _ _ c.self.inside.tree _ (c.self.invariant, c.self.view_is) _ c.requires.wanted span.0 _ span.1).1
