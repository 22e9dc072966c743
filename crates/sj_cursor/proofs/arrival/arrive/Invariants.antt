use Rattle.std.proofs.Common.{◌≡◌, length}
use Rattle.sj_item.specs.Items.{item_value}
use Rattle.sj_plain_path.specs.Chains.{below}
use Rattle.sj_plain_path.specs.declared.opening.Opening.TheVariants.{AsItIs}
use Rattle.sj_cursor.proofs.arrival.arrive.Given as goal

abbrev pub invariant-links : goal.invariant-links
invariant-links l = below AsItIs l.links (item_value l.root) ≡ below AsItIs l.rest (item_value l.item)

abbrev pub decreases-links : goal.decreases-links
decreases-links l = length l.rest
