use Rattle.sj_doc.proofs.Builders.{Stands, text_stored, key_given}
use Rattle.sj_doc.proofs.builder.DocBuilder.key_bytes.Goals as goal
use Rattle.sj_doc.proofs.builder.DocBuilder.key_bytes.Goals.{In_ok-store}

stored : (c : In_ok-store) → Stands c.store.new.arena.items c.self.inside.line c.self.inside.tree c.args.self.now
stored c = text_stored _ _ c.self.inside.tree _ (c.self.invariant, c.self.view_is) c.args.bytes.now _ c.in_ok-store.ensures.ok.grown c.in_ok-store.ensures.ok.narrow

pub invariant_of-self-2 : goal.invariant_of-self-2
invariant_of-self-2 c =
    let p = (goal.at.invariant_of-self-2 c).In_ok-store in
    (key_given _ _ c.self.inside.tree _ (stored p) _ c.requires.wanted c.in_ok-store.ensures.ok.fits _ c.in_ok-store.ensures.ok.same).0

pub returns-clause-ok : goal.returns-clause-ok
returns-clause-ok c =
    let p = (goal.at.returns-clause-ok c).In_ok-store in
    (key_given _ _ c.self.inside.tree _ (stored p) _ c.requires.wanted c.in_ok-store.ensures.ok.fits _ c.in_ok-store.ensures.ok.same).1
