use Rattle.std.proofs.Common.{refl}
use Rattle.sj_json.specs.Tree.{null}
use Rattle.sj_doc.specs.declared.node.Body.TheVariants.{Null}
use Rattle.sj_doc.proofs.Builders.{Comes, has_room, scalar_added, kept, on_ok}
use Rattle.sj_doc.proofs.builder.DocBuilder.null.Goals as goal

added : (c : goal.After-add) → Comes c.self.inside.arena.items c.self.inside.line c.add.new.self c.args.self.now null c.add.result
added c = scalar_added _ _ c.self.inside.tree _ (c.self.invariant, c.self.view_is) c.requires.room c.requires.wanted Null tt null refl c.add.new.self c.add.result c.add.ensures

pub add-requires : goal.add-requires
add-requires c = has_room _ _ c.self.inside.tree _ (c.self.invariant, c.self.view_is) c.requires.room

pub invariant_of-self : goal.invariant_of-self
invariant_of-self c = kept _ _ c.add.new.self _ _ c.add.result (added c)

pub returns-clause-ok : goal.returns-clause-ok
returns-clause-ok c = on_ok _ _ c.add.new.self _ _ c.add.result (added c)
