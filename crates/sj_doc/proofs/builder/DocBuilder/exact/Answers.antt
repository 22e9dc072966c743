use Rattle.std.proofs.Common.{arith, List, ℕ, OnOk, subst, sym, ◌≡◌}
use Rattle.sj_decimal.specs.Number.{IsNumber, SpellsExact}
use Rattle.sj_json.specs.Tree.{Number, number}
use Rattle.sj_json.specs.Building.{with_value}
use Rattle.sj_doc.proofs.Numerals.{spelled_exact}
use Rattle.sj_doc.proofs.builder.DocBuilder.exact.Goals as goal

pub number-requires-clause-number : goal.number-requires-clause-number
number-requires-clause-number c =
    let h = c.text.ensures.spells in
    let number = subst IsNumber (sym c.as_str.ensures.value) (h.value, h.spells) in
    record { number = number; long = λ more. absurd (omega (arith, more, c.as_str.ensures.fits)) }

pub returns-clause-ok : goal.returns-clause-ok
returns-clause-ok c =
    let spells = subst (λ (b : List ℕ). SpellsExact b c.args.n) (sym c.as_str.ensures.value) c.text.ensures.spells in
    subst (λ (v : Number). OnOk c.number.result (c.number.new.self ≡ (with_value (number v) c.args.self.now.0, c.args.self.now.1))) (spelled_exact c.as_str.result.now c.args.n spells) c.number.ensures.ok
