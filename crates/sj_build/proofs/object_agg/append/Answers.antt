use Rattle.std.proofs.Common.{◌≡◌, ◌∷◌, [], ◌++◌, true≢false, sym, ◌∙◌}
use Rattle.std.proofs.lemmas.Result.{on_ok_weaker}
use Rattle.sj_build.specs.Growing.{opening}
use Rattle.sj_build.proofs.Growing.{opening_first, opening_later, four_behind}
use Rattle.sj_build.proofs.object_agg.append.Goals as goal
use Rattle.sj_build.proofs.object_agg.append.Goals.{then-is_empty+in_ok-begin, else-is_empty}

pub returns-clause-text : goal.returns-clause-text
returns-clause-text c =
    let old = c.args.text.now in
    let opened : c.if-is_empty.text ≡ old ++ opening (123 ∷ []) old = elim c.if-is_empty.branch [
      | then-is_empty+in_ok-begin w ↦ opening_first (123 ∷ []) old _ (c.is_empty.ensures.0 w.if-is_empty.true) (w.text-is ∙ w.in_ok-begin.ensures.ok)
      | else-is_empty w ↦ opening_later (123 ∷ []) old _ (λ none. true≢false (sym (c.is_empty.ensures.1 none) ∙ w.if-is_empty.false)) w.text-is
    ] in
    on_ok_weaker c.note_copy.result (λ _. four_behind old _ _ _ _ _ _ _ _ opened c.in_ok-lead.ensures.ok c.in_ok-member_text.ensures.ok c.in_ok-push.ensures.ok) c.note_copy.ensures.ok
