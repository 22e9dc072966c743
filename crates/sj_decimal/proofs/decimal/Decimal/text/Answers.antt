use Rattle.std.proofs.Common.{◌≡◌, sym, ◌∙◌, subst, List, ℕ}
use Rattle.sj_decimal.specs.Signed.{signed}
use Rattle.sj_decimal.specs.Number.{SpellsExact}
use Rattle.sj_decimal.specs.Text.{decimal_text}
use Rattle.sj_decimal.proofs.Laws.{decimal_text_spells, decimal_text-signed}
use Rattle.sj_decimal.proofs.decimal.Decimal.text.Goals as goal

pub returns-clause-spells : goal.returns-clause-spells
returns-clause-spells c =
    let text : c.written.result.bytes ≡ decimal_text (signed c.self.inside.negative c.self.inside.magnitude, c.self.inside.scale) =
    (rw c.value.ensures at c.written.ensures) ∙ sym (decimal_text-signed c.self.inside.negative c.self.inside.magnitude c.self.inside.scale c.self.invariant.1) in
    rw (← c.self.view_is)
    (subst (λ (b : List ℕ). SpellsExact b (signed c.self.inside.negative c.self.inside.magnitude, c.self.inside.scale)) (sym text)
    (decimal_text_spells (signed c.self.inside.negative c.self.inside.magnitude, c.self.inside.scale) c.self.invariant.0))
