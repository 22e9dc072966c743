use Rattle.std.proofs.Common.{refl, ap, sym}
use Rattle.sj_decimal.specs.Number.{SpellsExact, SpellsWide, IsNumber}
use Rattle.sj_json.specs.Tree.{exact, wide}
use Rattle.sj_json.proofs.Numbers.{number_complete, number_none}
use Rattle.sj_item.specs.Scalars.{spelled_number}
use Rattle.sj_item.proofs.casts.spelled.Goals as goal

pub returns-in-Exact : goal.returns-in-Exact
returns-in-Exact c =
    let spells : SpellsExact c.args.string.now c.in-Exact.number = rw (← c.as_bytes.ensures.value) (c.in-Exact.ensures {u = tt}).value in
    ap spelled_number (sym (number_complete (exact c.in-Exact.number) c.args.string.now spells))

pub returns-in-Wide : goal.returns-in-Wide
returns-in-Wide c =
    let spells : SpellsWide c.args.string.now = rw (← c.as_bytes.ensures.value) (c.in-Wide.ensures {u = tt}).value in
    ap spelled_number (sym (number_complete (wide c.args.string.now) c.args.string.now (spells, refl)))

pub returns-in-NotNumber : goal.returns-in-NotNumber
returns-in-NotNumber c =
    let none : ¬ (IsNumber c.args.string.now) = rw (← c.as_bytes.ensures.value) (c.in-NotNumber.ensures {u = tt}).value in
    rw (number_none c.args.string.now none) refl
