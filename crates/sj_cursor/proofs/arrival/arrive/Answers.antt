use Rattle.std.proofs.Common.{◌∙◌, ap, refl}
use Rattle.sj_item.specs.Items.{item_value}
use Rattle.sj_plain_path.specs.Chains.{below}
use Rattle.sj_plain_path.specs.declared.opening.Opening.TheVariants.{AsItIs}
use Rattle.sj_plain_path.proofs.Chains.{first_rest}
use Rattle.sj_cursor.proofs.MadeItems.{lands_on}
use Rattle.sj_cursor.proofs.arrival.arrive.Goals as goal

pub links-preserved : goal.links-preserved
links-preserved c =
    c.links.invariant
    ∙ ap (λ ls. below AsItIs ls (item_value c.links.item)) (first_rest _ _ _ c.in-len1-up.len_at_least refl)
    ∙ lands_on _ _ c.links.item c.in-Some.found c.in-Some.ensures
