use Rattle.std.proofs.Common.{◌≡◌, ◌++◌, List, ℕ, refl, subst, OnOk}
use Rattle.sj_text.specs.Windows.{IsQuoted}
use Rattle.sj_text.proofs.string.string_text.Goals as goal

pub returns-then-quote-clause-ok : goal.returns-then-quote-clause-ok
returns-then-quote-clause-ok c =
    let quoted : IsQuoted c.args.s.now c.quote.new.window = subst (λ (l : List ℕ). IsQuoted l c.quote.new.window) c.as_bytes.ensures.value (c.if-quote.ensures.quoted refl) in
    subst (λ (l : List ℕ). OnOk c.push_front.result (c.push_front.new.out ≡ c.args.out.now ++ l)) quoted.front c.push_front.ensures.ok
