use Rattle.std.proofs.Common.{◌≡◌, List, ◌∷◌, ◌++◌, true, false, take, sym, ap, ◌∙◌, subst, append_assoc}
use Rattle.sj_value.specs.declared.value.SqlValue.{SqlValue}
use Rattle.sj_text.specs.Rendering.{comma}
use Rattle.sj_build.specs.Constructors.{is_kept, kept_values, joined, value_text}
use Rattle.sj_build.specs.Growing.{place_behind}
use Rattle.sj_build.proofs.Growing.{open_kept, place_kept, dropped_more}
use Rattle.sj_build.proofs.Members.{one_more}
use Rattle.sj_build.proofs.array.array_text.Goals as goal
use Rattle.sj_build.proofs.array.array_text.Goals.{then-is_kept+in_ok-lead+in_ok-value_text, else-is_kept}

pub loop-value-preserved : goal.loop-value-preserved
loop-value-preserved c =
    let l = c.loop-value in
    let m = c.if-is_kept in
    let choice = c.args.nulls in
    let value = c.value-item.result in
    let before = take l.value-index c.args.values.now in
    subst (λ (vs : List SqlValue). (m.text ≡ 91 ∷ joined value_text (kept_values choice vs)) × (m.place ≡ place_behind (kept_values choice vs)))
    (one_more c.args.values.now l.value-index value c.loop-value-test.true c.value-item.is)
    (elim m.branch [
      | then-is_kept+in_ok-lead+in_ok-value_text w ↦
          let kept : is_kept choice value ≡ true = sym c.is_kept.ensures ∙ w.if-is_kept.true in (
            w.text-is ∙ w.in_ok-value_text.ensures.ok
                ∙ ap (λ t. t ++ value_text value) (w.in_ok-lead.ensures.ok ∙ ap (λ t. t ++ comma l.place) l.invariant.0)
                ∙ append_assoc (91 ∷ joined value_text (kept_values choice before)) (comma l.place) (value_text value)
                ∙ ap (λ t. 91 ∷ t) (sym (open_kept value_text (is_kept choice) 91 93 before value l.place kept l.invariant.1)),
            w.place-is ∙ sym (place_kept value_text (is_kept choice) 91 93 before value kept),
          )
      | else-is_kept w ↦
          let dropped : is_kept choice value ≡ false = sym c.is_kept.ensures ∙ w.if-is_kept.false in
          let same = dropped_more value_text (is_kept choice) 91 93 before value dropped in (
            w.text-is ∙ l.invariant.0 ∙ ap (λ vs. 91 ∷ joined value_text vs) (sym same),
            w.place-is ∙ l.invariant.1 ∙ ap place_behind (sym same),
          )
    ])
