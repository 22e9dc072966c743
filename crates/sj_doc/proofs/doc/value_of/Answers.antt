use Rattle.std.proofs.Common.{arith, ℕ, List, sym, subst}
use Rattle.sj_decimal.specs.Number.{IsNumber, SpellsExact, SpellsWide}
use Rattle.sj_doc.proofs.Numerals.{spelled_exact, spelled_wide}
use Rattle.sj_doc.proofs.doc.value_of.Goals as goal

pub returns-then-numeral-gt-LONGEST_READ : goal.returns-then-numeral-gt-LONGEST_READ
returns-then-numeral-gt-LONGEST_READ c = sym (spelled_wide c.args.numeral.now (c.requires.long (omega (arith, c.if-numeral-gt-LONGEST_READ.true))))

pub returns-in-Exact : goal.returns-in-Exact
returns-in-Exact c =
    sym (spelled_exact c.args.numeral.now c.in-Exact.value (subst (λ (b : List ℕ). SpellsExact b c.in-Exact.value) c.as_bytes.ensures.value c.in-Exact.ensures.value))

pub returns-in-Wide : goal.returns-in-Wide
returns-in-Wide c = sym (spelled_wide c.args.numeral.now (subst SpellsWide c.as_bytes.ensures.value c.in-Wide.ensures.value))

pub unreachable-requires : goal.unreachable-requires
unreachable-requires c = c.in-NotNumber.ensures.value (subst IsNumber (sym c.as_bytes.ensures.value) c.requires.number)
