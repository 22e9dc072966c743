use Rattle.std.proofs.Common.{◌≡◌, ◌∙◌, sym, subst, refl, List, ℕ, length, take}
use Rattle.sj_doc.specs.StoredTexts.{IsWindow}
use Rattle.sj_value.specs.declared.value.SqlValue.TheVariants.{Text}
use Rattle.sj_rows.specs.RowText.{escaped}
use Rattle.sj_rows.proofs.cast.short_text.Goals as goal

pub returns-then-is_plain : goal.returns-then-is_plain
returns-then-is_plain c =
    let text = c.args.stored.text.now in
    let window = c.in_ok-window.window.now in
    let same = (c.in_ok-len.ensures {u = tt}).same in
    let is : IsWindow text window = c.args.stored.front c.in_ok-window.window ((c.in_ok-window.was {u = tt})) in
    record {
      value = Text c.in_ok-len.field-0.now;
      is = (c.in_ok-len.ensures {u = tt}).cast;
      whole = is.whole;
      short = c.if-len-lt-WINDOW.true;
      front = subst (λ (l : List ℕ). take (length l) window ≡ escaped l) (sym same) (is.front ∙ sym (c.if-is_plain.ensures {u = tt} refl));
    }
