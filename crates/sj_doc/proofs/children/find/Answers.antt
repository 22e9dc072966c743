use Rattle.std.proofs.Common.{◌≡◌, ◌-◌, ℕ, ◌∷◌, true, false, Some, sym, ap, ◌∙◌, subst, arith}
use Rattle.sj_json.specs.Tree.{subtree}
use Rattle.sj_doc.specs.Children.{children_left, IsChildren}
use Rattle.sj_doc.specs.Keyed.{is_key, from_key}
use Rattle.sj_doc.specs.Stops.{key_in}
use Rattle.sj_doc.proofs.Searching.{turned, hit, miss, step_more}
use Rattle.sj_doc.proofs.children.find.Goals as goal

pub end_of-next-requires : goal.end_of-next-requires
end_of-next-requires c = (turned c.args.doc.now c.children.next c.children.rest c.children.invariant.lie c.children-test.true).within

pub key_at-requires : goal.key_at-requires
key_at-requires c = (turned c.args.doc.now c.children.next c.children.rest c.children.invariant.lie c.children-test.true).within

pub returns-then-is_named-clause-found : goal.returns-then-is_named-clause-found
returns-then-is_named-clause-found c =
    let t = c.args.doc.now in
    let k = c.args.key.now in
    let i = c.children.next in
    let n = c.children.rest in
    let h = turned t i n c.children.invariant.lie c.children-test.true in
    let named : is_key k (key_in t i) ≡ true = ap (is_key k) (sym c.key_at.ensures) ∙ sym c.is_named.ensures ∙ c.if-is_named.true in
    record {
      within = h.within;
      first = c.children.invariant.same ∙ hit k t i n h named ∙ ap (λ (j : ℕ). (Some k, i, subtree t i) ∷ children_left t j (n - 1)) (sym c.end_of-next.ensures);
      after = subst (λ (j : ℕ). IsChildren t j (n - 1)) (sym c.end_of-next.ensures) h.after;
      fewer = omega (arith, c.children-test.true, c.children.invariant.fewer);
    }

pub children-preserved : goal.children-preserved
children-preserved c =
    let t = c.args.doc.now in
    let k = c.args.key.now in
    let i = c.children.next in
    let n = c.children.rest in
    let h = turned t i n c.children.invariant.lie c.children-test.true in
    let other : is_key k (key_in t i) ≡ false = ap (is_key k) (sym c.key_at.ensures) ∙ sym c.is_named.ensures ∙ c.if-is_named.false in
    record {
      lie = subst (λ (j : ℕ). IsChildren t j (n - 1)) (sym c.end_of-next.ensures) h.after;
      same = c.children.invariant.same ∙ miss k t i n h other ∙ ap (λ (j : ℕ). from_key k (children_left t j (n - 1))) (sym c.end_of-next.ensures);
      fewer = omega (arith, c.children.invariant.fewer);
      counted = c.tick.ensures ∙ step_more c.args.steps.now c.children.steps c.args.left n c.children.invariant.counted c.children.invariant.fewer c.children-test.true;
    }
