use Rattle.std.proofs.Common.{arith, sym, ◌∙◌}
use Rattle.sj_doc.proofs.Builders.{state_seen, wants_first, wants_nothing, wants_items, wants_key, wants_member}
use Rattle.sj_doc.proofs.builder.DocBuilder.wants.Goals as goal

pub returns-then-self-eq0 : goal.returns-then-self-eq0
returns-then-self-eq0 c =
    let f = c.self.inside in
    wants_first f.arena.items f.tree.nodes.items f.tree.key f.tree.inner f.tree.count f.tree.depth c.self.invariant.0 c.args.self.now.0 (state_seen c.self.view_is) (sym c.in-Top.is ∙ c.self.invariant.2) c.if-self-eq0.true

pub returns-else-self-eq0 : goal.returns-else-self-eq0
returns-else-self-eq0 c =
    let f = c.self.inside in
    wants_nothing f.arena.items f.tree.nodes.items f.tree.key f.tree.inner f.tree.count f.tree.depth c.self.invariant.0 c.args.self.now.0 (state_seen c.self.view_is) (sym c.in-Top.is ∙ c.self.invariant.2) (omega arith)

pub returns-in-Array : goal.returns-in-Array
returns-in-Array c =
    let f = c.self.inside in
    wants_items f.arena.items f.tree.nodes.items f.tree.key f.tree.inner f.tree.count f.tree.depth c.self.invariant.0 c.args.self.now.0 (state_seen c.self.view_is) (sym c.in-Array.is ∙ c.self.invariant.2)

pub returns-in-None : goal.returns-in-None
returns-in-None c =
    let f = c.self.inside in
    wants_key f.arena.items f.tree.nodes.items f.tree.key f.tree.inner f.tree.count f.tree.depth c.self.invariant.0 c.args.self.now.0 (state_seen c.self.view_is) (sym c.in-Object.is ∙ c.self.invariant.2) c.in-None.is

pub returns-in-Some : goal.returns-in-Some
returns-in-Some c =
    let f = c.self.inside in
    wants_member f.arena.items f.tree.nodes.items f.tree.key f.tree.inner f.tree.count f.tree.depth c.self.invariant.0 c.args.self.now.0 (state_seen c.self.view_is) c.in-Some.field-0 (sym c.in-Object.is ∙ c.self.invariant.2) c.in-Some.is
