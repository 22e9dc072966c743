use Rattle.std.proofs.Common.{[], ◌∷◌, ◌++◌, ◌∙◌, sym, ap, append-nil, List, ℕ, ◌+◌, take}
use Rattle.sj_item.specs.Items.{item_value}
use Rattle.sj_value.specs.Casts.{cast_of}
use Rattle.sj_rows.proofs.Windows.{behind_tab}
use Rattle.sj_rows.proofs.cast.tabbed_cast.Goals as goal

pub returns-in-Ok : goal.returns-in-Ok
returns-in-Ok c =
    let f = c.in-Some.ensures in
    let len = c.in-Some.field.len in
    record {
      value = f.value;
      is = ap (λ x. cast_of (item_value x) c.args.ty) c.in-Node.is ∙ f.is;
      grown =
          (c.in-Ok.ensures {u = tt}).ok
          ∙ ap (λ (l : List ℕ). c.args.out.now ++ l) (ap (take (len + 1)) c.led.ensures ∙ behind_tab len c.in-Some.field.window.now f.short ∙ ap (λ (l : List ℕ). 9 ∷ l) f.front);
    }

pub returns-in-Err : goal.returns-in-Err
returns-in-Err c = record { behind = []; grown = (c.in-Err.ensures {u = tt}).err ∙ sym (append-nil c.args.out.now) }
