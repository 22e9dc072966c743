use Rattle.std.proofs.Common.{arith, ◌∙◌}
use Rattle.sj_doc.proofs.Builders.{has_room, container_opened, depth_small, state_seen}
use Rattle.sj_doc.proofs.builder.DocBuilder.begin.Goals as goal

pub add-requires : goal.add-requires
add-requires c = has_room _ _ c.self.inside.tree _ (c.self.invariant, c.self.view_is) c.requires.room

pub overflow_add-self : goal.overflow_add-self
overflow_add-self c =
    let f = c.self.inside in
    omega (arith, c.in_ok-add.ensures.depth_is, depth_small f.arena.items f.tree.nodes.items f.tree.key f.tree.inner f.tree.count f.tree.depth c.self.invariant.0 c.args.self.now.0 (state_seen c.self.view_is), c.self.invariant.0.small)

pub invariant_of-self-2 : goal.invariant_of-self-2
invariant_of-self-2 c =
    let f = c.self.inside in
    (container_opened _ _ f.tree _ (c.self.invariant, c.self.view_is) c.requires.room c.requires.wanted c.args.is_object c.add.new.self c.in_ok-add.ensures c.len-at.result (c.len-at.ensures ∙ f.tree.nodes.ok.0) c.opened-self-inside.result c.opened-self-inside.ensures).0

pub returns-clause-ok : goal.returns-clause-ok
returns-clause-ok c =
    let f = c.self.inside in
    (container_opened _ _ f.tree _ (c.self.invariant, c.self.view_is) c.requires.room c.requires.wanted c.args.is_object c.add.new.self c.in_ok-add.ensures c.len-at.result (c.len-at.ensures ∙ f.tree.nodes.ok.0) c.opened-self-inside.result c.opened-self-inside.ensures).1
