use Rattle.std.proofs.Common.{List, ℕ, ◌≡◌, Some, ap, arith}
use Rattle.sj_decimal.specs.Shorts.{between}
use Rattle.sj_json.specs.Tree.{string}
use Rattle.sj_doc.specs.Nodes.{text_in, IsSpan}
use Rattle.sj_doc.specs.declared.node.Body.TheVariants.{Text}
use Rattle.sj_doc.proofs.Builders.{Comes, line_narrow, line_range, has_room, scalar_added, kept, on_ok}
use Rattle.sj_doc.proofs.builder.DocBuilder.text_at.Goals as goal

span : (c : goal.After-add) → IsSpan c.self.inside.arena.items c.span_between.result × (text_in c.self.inside.arena.items c.span_between.result ≡ between c.args.self.now.1 c.args.from c.args.to)
span c = line_range _ _ c.self.inside.tree _ (c.self.invariant, c.self.view_is) c.args.from c.args.to c.requires.within c.requires.utf8 _ c.span_between.ensures

added : (c : goal.After-add) → Comes c.self.inside.arena.items c.self.inside.line c.add.new.self c.args.self.now (string (between c.args.self.now.1 c.args.from c.args.to)) c.add.result
added c = scalar_added _ _ c.self.inside.tree _ (c.self.invariant, c.self.view_is) c.requires.room c.requires.wanted (Text c.span_between.result) (span c).0 (string (between c.args.self.now.1 c.args.from c.args.to)) (ap (λ (x : List ℕ). Some (string x)) (span c).1) c.add.new.self c.add.result c.add.ensures

pub span_between-requires-clause-narrow : goal.span_between-requires-clause-narrow
span_between-requires-clause-narrow c = omega (arith, c.requires.within, line_narrow _ _ c.self.inside.tree _ (c.self.invariant, c.self.view_is))

pub add-requires : goal.add-requires
add-requires c = has_room _ _ c.self.inside.tree _ (c.self.invariant, c.self.view_is) c.requires.room

pub invariant_of-self : goal.invariant_of-self
invariant_of-self c = kept _ _ c.add.new.self _ _ c.add.result (added c)

pub returns-clause-ok : goal.returns-clause-ok
returns-clause-ok c = on_ok _ _ c.add.new.self _ _ c.add.result (added c)
