-- What is given where the accessors of a plain path have come from an item that is no node.
use Rattle.sj_item.specs.Items.{item_value}
use Rattle.sj_step.specs.Trace.{Trace, stop, only}
use Rattle.sj_plain_path.specs.Chains.{below, node_value}
use Rattle.sj_plain_path.specs.declared.opening.Opening.TheVariants.{AsItIs}
use Rattle.sj_cursor.specs.declared.arrival.Arrival.{Arrival}
use Rattle.sj_cursor.specs.declared.arrival.Arrival.TheVariants as arrivals

abbrev pub arrived : Arrival → Trace
arrived (arrivals.Item x) = only (item_value x)
arrived arrivals.Nothing = stop
arrived (arrivals.Node rest n) = below AsItIs rest.now (node_value n)
