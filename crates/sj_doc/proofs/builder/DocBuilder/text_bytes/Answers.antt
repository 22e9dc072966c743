use Rattle.std.proofs.Common.{List, ℕ, Some, ap}
use Rattle.sj_json.specs.Tree.{string}
use Rattle.sj_doc.specs.declared.node.Body.TheVariants.{Text}
use Rattle.sj_doc.proofs.Builders.{Stands, text_stored, Comes, has_room, scalar_added, kept, on_ok, on_err}
use Rattle.sj_doc.proofs.builder.DocBuilder.text_bytes.Goals as goal
use Rattle.sj_doc.proofs.builder.DocBuilder.text_bytes.Goals.{In_ok-span}

stored : (c : In_ok-span) → Stands c.store.new.arena.items c.self.inside.line c.self.inside.tree c.args.self.now
stored c = text_stored _ _ c.self.inside.tree _ (c.self.invariant, c.self.view_is) c.args.bytes.now _ c.in_ok-span.ensures.ok.grown c.in_ok-span.ensures.ok.narrow

added : (c : goal.After-add) → Comes c.store.new.arena.items c.self.inside.line c.add.new.self c.args.self.now (string c.args.bytes.now) c.add.result
added c =
    let st = c.in_ok-span.ensures.ok in
    scalar_added _ _ c.self.inside.tree _ (stored (goal.at.returns-clause-ok c).In_ok-span) c.requires.room c.requires.wanted (Text c.in_ok-span.span) st.fits (string c.args.bytes.now) (ap (λ (x : List ℕ). Some (string x)) st.same) c.add.new.self c.add.result c.add.ensures

pub add-requires : goal.add-requires
add-requires c = has_room _ _ c.self.inside.tree _ (stored (goal.at.add-requires c).In_ok-span) c.requires.room

pub invariant_of-self-2 : goal.invariant_of-self-2
invariant_of-self-2 c = kept _ _ c.add.new.self _ _ c.add.result (added c)

pub returns-clause-ok : goal.returns-clause-ok
returns-clause-ok c = on_ok _ _ c.add.new.self _ _ c.add.result (added c)

pub returns-clause-err : goal.returns-clause-err
returns-clause-err c = on_err _ _ c.add.new.self _ _ c.add.result (added c)
