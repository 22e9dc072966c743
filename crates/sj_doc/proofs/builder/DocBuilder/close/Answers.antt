use Rattle.std.proofs.Common.{◌+◌, ◌-◌, set, length, arith, refl, ap, sym, ◌∙◌}
use Rattle.std.proofs.lemmas.List.{length-set}
use Rattle.sj_doc.specs.declared.node.Body.TheVariants.{Closed}
use Rattle.sj_doc.specs.Builders.{node_total}
use Rattle.sj_doc.proofs.Builders.{state_seen, line_seen, both_seen, inner_here, inner_body, count_opened, parent_opened, depth_some, container_closes, Closed_up, count_nodes, inner_read, told}
use Rattle.sj_doc.proofs.builder.DocBuilder.close.Goals as goal
use Rattle.sj_doc.proofs.builder.DocBuilder.close.Goals.{In-Opened}

both : (c : In-Opened) → Closed_up c.self.inside.arena.items (set c.self.inside.tree.nodes.items c.self.inside.tree.inner (record { key = c.index-node.result.now.key; below = c.len.result - c.self.inside.tree.inner - 1; body = Closed c.in-Opened.is_object c.self.inside.tree.count (c.self.inside.tree.inner - c.in-Opened.parent) })) c.self.inside.tree.key c.in-Opened.parent (c.in-Opened.before + 1) (c.self.inside.tree.depth - 1) c.args.self.now.0
both c =
    let f = c.self.inside in
    let here = inner_here f.arena.items f.tree.nodes.items f.tree.key f.tree.inner f.tree.count f.tree.depth c.self.invariant.0 c.args.self.now.0 (state_seen c.self.view_is) c.requires in
    container_closes f.arena.items f.tree.nodes.items f.tree.key c.index-node.result.now f.tree.inner f.tree.count f.tree.depth c.in-Opened.is_object c.in-Opened.parent c.in-Opened.before (c.len.result - f.tree.inner - 1) (f.tree.inner - c.in-Opened.parent) _ c.self.invariant.0 c.args.self.now.0 (state_seen c.self.view_is) c.requires
    c.index-node.ensures c.in-Opened.is refl (omega (arith, c.len.ensures, f.tree.nodes.ok.0)) refl

pub overflow_sub-self-inside : goal.overflow_sub-self-inside
overflow_sub-self-inside c =
    let f = c.self.inside in
    let body = inner_body f.arena.items f.tree.nodes.items f.tree.key f.tree.inner f.tree.count f.tree.depth c.self.invariant.0 c.args.self.now.0 (state_seen c.self.view_is) c.requires c.index-node.result.now c.index-node.ensures in
    parent_opened f.tree.inner (length f.tree.nodes.items) c.index-node.result.now.body c.in-Opened.is_object c.in-Opened.parent c.in-Opened.before body c.in-Opened.is

pub overflow_add-self : goal.overflow_add-self
overflow_add-self c =
    let f = c.self.inside in
    let body = inner_body f.arena.items f.tree.nodes.items f.tree.key f.tree.inner f.tree.count f.tree.depth c.self.invariant.0 c.args.self.now.0 (state_seen c.self.view_is) c.requires c.index-node.result.now c.index-node.ensures in
    omega (arith, count_opened f.tree.inner (length f.tree.nodes.items) c.index-node.result.now.body c.in-Opened.is_object c.in-Opened.parent c.in-Opened.before body c.in-Opened.is, c.self.invariant.0.small)

pub overflow_sub-self : goal.overflow_sub-self
overflow_sub-self c =
    let f = c.self.inside in
    omega (arith, depth_some f.arena.items f.tree.nodes.items f.tree.key f.tree.inner f.tree.count f.tree.depth c.self.invariant.0 c.args.self.now.0 (state_seen c.self.view_is) c.requires)

pub invariant_of-self : goal.invariant_of-self
invariant_of-self c =
    let b = (both (goal.at.invariant_of-self c).In-Opened).0 in
    (b, c.self.invariant.1, told _ _ _ _ _ _ b c.seen-self-inside.result c.seen-self-inside.ensures)

pub seen-self-inside-requires : goal.seen-self-inside-requires
seen-self-inside-requires c = inner_read _ _ _ _ _ _ (both (goal.at.seen-self-inside-requires c).In-Opened).0

pub unreachable-requires : goal.unreachable-requires
unreachable-requires c =
    let f = c.self.inside in
    let body = inner_body f.arena.items f.tree.nodes.items f.tree.key f.tree.inner f.tree.count f.tree.depth c.self.invariant.0 c.args.self.now.0 (state_seen c.self.view_is) c.requires c.index-node.result.now c.index-node.ensures in
    c.in_default.not-Opened body.0 body.1 body.2 body.3

pub returns-clause-closed : goal.returns-clause-closed
returns-clause-closed c = both_seen (both (goal.at.returns-clause-closed c).In-Opened).1 (line_seen c.self.view_is)

pub returns-clause-total : goal.returns-clause-total
returns-clause-total c =
    let f = c.self.inside in
    let r = both (goal.at.returns-clause-total c).In-Opened in
    ap node_total r.1 ∙ sym (count_nodes _ _ _ _ _ _ r.0 _ r.1) ∙ length-set f.tree.nodes.items f.tree.inner _ ∙ count_nodes f.arena.items f.tree.nodes.items f.tree.key f.tree.inner f.tree.count f.tree.depth c.self.invariant.0 c.args.self.now.0 (state_seen c.self.view_is)
