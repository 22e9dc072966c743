use Rattle.std.proofs.Common.{◌≡◌, ℕ, arith, sym, ap, ◌∙◌, subst}
use Rattle.sj_json.specs.Tree.{Tree, subtree}
use Rattle.sj_json.specs.Keys.{AreDistinct, keys}
use Rattle.sj_doc.specs.Slots.{texts}
use Rattle.sj_doc.proofs.doc.Doc.unique_keys.Goals as goal

pub returns-then-not-are_distinct : goal.returns-then-not-are_distinct
returns-then-not-are_distinct c = (
  λ never. absurd (cc),
  λ h.
      let same : texts c.deref_mut.result.now ≡ keys (subtree c.args.self.now c.loop-at.at) =
      ap texts c.deref_mut.ensures.value ∙ c.in_ok-collect.ensures
      ∙ ap (λ (t : Tree). keys (subtree t c.node_at.result.at)) c.node_at.ensures.doc ∙ ap (λ (i : ℕ). keys (subtree c.args.self.now i)) c.node_at.ensures.number in
      let yes = c.are_distinct.ensures.1 (subst AreDistinct (sym same) (h c.loop-at.at (omega (arith, c.loop-at-test.true, c.count-at-end.ensures.number)))) in
      cc,
)
