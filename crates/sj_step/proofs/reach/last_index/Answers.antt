use Rattle.std.proofs.Common.{ap, sym, ◌∙◌, Some, arith}
use Rattle.std.proofs.lemmas.Int.{ints}
use Rattle.sj_item.specs.Items.{item_value}
use Rattle.sj_step.proofs.Lasts.{last_array}
use Rattle.sj_step.proofs.reach.last_index.Goals as goal

pub returns-in-Array-default-clause-is : goal.returns-in-Array-default-clause-is
returns-in-Array-default-clause-is c =
    ap Some (omega (arith, ints))
    ∙ sym (last_array c.args.mode (item_value c.args.item) c.size.result (sym c.kind.ensures ∙ c.in-Array-default.is-0) c.size.ensures)
