use Rattle.std.proofs.Common.{◌≡◌, ◌++◌, ◌+◌, List, ℕ, Some, ap, ◌∙◌, subst, length, take, OnOk}
use Rattle.std.proofs.lemmas.Result.{on_err_weaker}
use Rattle.sj_text.specs.Rendering.{lead}
use Rattle.sj_text.proofs.Appends.{begun, stays}
use Rattle.sj_text.proofs.StoredTexts.{first_key, later_key}
use Rattle.sj_text.proofs.node.key_text.Goals as goal

pub returns-in-First-clause-ok : goal.returns-in-First-clause-ok
returns-in-First-clause-ok c =
    let key = c.args.key.now in
    rw c.in-First.is
    (subst (λ (l : List ℕ). OnOk c.push_front.result (c.push_front.new.out ≡ c.args.out.now ++ l)) (ap (take (length key + 3)) c.led.ensures ∙ first_key key c.in-Some.window.now c.in-Some.ensures) c.push_front.ensures.ok)

pub returns-in-Later-clause-ok : goal.returns-in-Later-clause-ok
returns-in-Later-clause-ok c =
    let key = c.args.key.now in
    rw c.in-Later.is
    (subst (λ (l : List ℕ). OnOk c.push_front-in-Later.result (c.push_front-in-Later.new.out ≡ c.args.out.now ++ l)) (ap (take (length key + 4)) c.led_by_comma.ensures ∙ later_key key c.in-Some.window.now c.in-Some.ensures) c.push_front-in-Later.ensures.ok)

pub returns-in-Later-clause-err : goal.returns-in-Later-clause-err
returns-in-Later-clause-err c =
    let text = lead c.args.place (Some c.args.key.now) in
    on_err_weaker c.push_front-in-Later.result (stays c.args.out.now text c.args.out.now text c.push_front-in-Later.new.out (begun c.args.out.now text)) c.push_front-in-Later.ensures.err
