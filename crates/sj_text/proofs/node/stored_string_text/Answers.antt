use Rattle.std.proofs.Common.{◌≡◌, ◌++◌, ◌+◌, List, ℕ, refl, ap, ◌∙◌, subst, length, take, OnOk}
use Rattle.std.proofs.lemmas.Result.{on_err_weaker}
use Rattle.sj_json.specs.Printing.{printed_string}
use Rattle.sj_text.proofs.Appends.{begun, stays}
use Rattle.sj_text.proofs.StoredTexts.{string_front}
use Rattle.sj_text.proofs.node.stored_string_text.Goals as goal

pub returns-then-is_short_string-clause-ok : goal.returns-then-is_short_string-clause-ok
returns-then-is_short_string-clause-ok c =
    let text = c.args.stored.text.now in
    subst (λ (l : List ℕ). OnOk c.push_front.result (c.push_front.new.out ≡ c.args.out.now ++ l)) (ap (take (length text + 2)) c.led.ensures ∙ string_front text c.in-Some.window.now (c.if-is_short_string.ensures refl)) c.push_front.ensures.ok

pub returns-then-is_short_string-clause-err : goal.returns-then-is_short_string-clause-err
returns-then-is_short_string-clause-err c =
    let text = printed_string c.args.stored.text.now in
    on_err_weaker c.push_front.result (stays c.args.out.now text c.args.out.now text c.push_front.new.out (begun c.args.out.now text)) c.push_front.ensures.err
