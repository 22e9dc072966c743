use Rattle.std.proofs.Common.{◌≡◌, ◌+◌, ◌*◌}
use Rattle.sj_item.specs.Pairs.{items_compare}
use Rattle.sj_path_tree.specs.Nodes.{expr_nodes, sub_nodes, subs_nodes, pred_nodes}
use Rattle.sj_step.specs.Trace.{count}
use Rattle.sj_cursor.specs.Cells.{env_value}
use Rattle.sj_plain_path.specs.Pairings.{beside_truth}
use Rattle.sj_cursor.specs.Draws.{Approaches}
use Rattle.sj_plain_path.specs.Looks.{found_value}
use Rattle.sj_cursor.specs.Left.{core, left, doing, doing_nodes, operand_core, operand_left, operand_whole, each_core, each_left, doing_opening, binary_core, filter_core, elements_core, parts_core, more_core, part_core, bounds_core, range_core, test_core, comparison_core, start_core, both_and, both_or}
use Rattle.sj_plain_path.specs.declared.opening.Opening.TheVariants.{Unwrapped}
use Rattle.sj_cursor.proofs.Looks.{Looking}
use Rattle.sj_cursor.proofs.Pairs.{PairingLeft, PairingsLeft}
use Rattle.sj_cursor.proofs.cells.+next.Given as goal

-- ---- the nodes of what is asked fall, and where they stay, the rank does

abbrev pub decreases-Cell::next : goal.decreases-Cell::next
decreases-Cell::next l = 16 * expr_nodes (core l.self.now) + 2

abbrev pub decreases-Operand::next : goal.decreases-Operand::next
decreases-Operand::next l = 16 * expr_nodes (operand_core l.self.now) + 3

abbrev pub decreases-Operand::look : goal.decreases-Operand::look
decreases-Operand::look l = 16 * expr_nodes (operand_core l.self.now) + 5

abbrev pub decreases-Operand::number : goal.decreases-Operand::number
decreases-Operand::number l = 16 * expr_nodes (operand_core l.self.now) + 6

abbrev pub decreases-Operand::index : goal.decreases-Operand::index
decreases-Operand::index l = 16 * expr_nodes (operand_core l.self.now) + 6

abbrev pub decreases-Operand::see_pairing : goal.decreases-Operand::see_pairing
decreases-Operand::see_pairing l = 16 * expr_nodes (operand_core l.self.now) + 5

abbrev pub decreases-Operand::see_pairing_apart : goal.decreases-Operand::see_pairing_apart
decreases-Operand::see_pairing_apart l = 16 * expr_nodes (operand_core l.self.now) + 6

abbrev pub decreases-Operand::see_pairing_by_cells : goal.decreases-Operand::see_pairing_by_cells
decreases-Operand::see_pairing_by_cells l = 16 * expr_nodes (operand_core l.self.now) + 4

abbrev pub decreases-Operand::element : goal.decreases-Operand::element
decreases-Operand::element l = 16 * expr_nodes (operand_core l.self.now) + 7

abbrev pub decreases-Operand::exists : goal.decreases-Operand::exists
decreases-Operand::exists l = 16 * expr_nodes (operand_core l.self.now) + 6

abbrev pub decreases-Each::next : goal.decreases-Each::next
decreases-Each::next l = 16 * expr_nodes (each_core l.self.now) + 1

abbrev pub decreases-Operator::next : goal.decreases-Operator::next
decreases-Operator::next l = 16 * doing_nodes (doing l.self.now) + 14

abbrev pub decreases-Operator::begin : goal.decreases-Operator::begin
decreases-Operator::begin l = 16 * doing_nodes (doing l.self.now) + 14

abbrev pub decreases-Filter::begin : goal.decreases-Filter::begin
decreases-Filter::begin l = 16 * pred_nodes (filter_core l.self.now) + 12

abbrev pub decreases-Elements::begin : goal.decreases-Elements::begin
decreases-Elements::begin l = 16 * subs_nodes (elements_core l.self.now) + 13

abbrev pub decreases-Elements::next : goal.decreases-Elements::next
decreases-Elements::next l = 16 * subs_nodes (elements_core l.self.now) + 12

abbrev pub decreases-Parts::next : goal.decreases-Parts::next
decreases-Parts::next l = 16 * subs_nodes (parts_core l.self.now) + 11

abbrev pub decreases-MoreParts::next : goal.decreases-MoreParts::next
decreases-MoreParts::next l = 16 * subs_nodes (more_core l.self.now) + 10

abbrev pub decreases-Part::next : goal.decreases-Part::next
decreases-Part::next l = 16 * sub_nodes (part_core l.self.now) + 8

abbrev pub decreases-Bounds::start : goal.decreases-Bounds::start
decreases-Bounds::start l = 16 * sub_nodes (bounds_core l.self.now) + 7

abbrev pub decreases-Range::start : goal.decreases-Range::start
decreases-Range::start l = 16 * sub_nodes (range_core l.self.now) + 6

abbrev pub decreases-Binary::number : goal.decreases-Binary::number
decreases-Binary::number l = 16 * expr_nodes (binary_core l.self.now)

abbrev pub decreases-Binary::next : goal.decreases-Binary::next
decreases-Binary::next l = 16 * expr_nodes (binary_core l.self.now) + 1

abbrev pub decreases-Test::holds : goal.decreases-Test::holds
decreases-Test::holds l = 16 * pred_nodes (test_core l.self.now) + 11

abbrev pub decreases-Test::holds_of_any : goal.decreases-Test::holds_of_any
decreases-Test::holds_of_any l = 16 * pred_nodes (test_core l.self.now) + 10

abbrev pub decreases-Both::and : goal.decreases-Both::and
decreases-Both::and l = 16 * pred_nodes (both_and l.self.now) + 9

abbrev pub decreases-Both::or : goal.decreases-Both::or
decreases-Both::or l = 16 * pred_nodes (both_or l.self.now) + 9

abbrev pub decreases-Start::holds : goal.decreases-Start::holds
decreases-Start::holds l = 16 * pred_nodes (start_core l.self.now) + 9

abbrev pub decreases-Comparison::holds : goal.decreases-Comparison::holds
decreases-Comparison::holds l = 16 * pred_nodes (comparison_core l.self.now) + 9

abbrev pub decreases-Comparison::holds_beside_any : goal.decreases-Comparison::holds_beside_any
decreases-Comparison::holds_beside_any l = 16 * pred_nodes (comparison_core l.self.now) + 8

abbrev pub decreases-Comparison::holds_pairwise : goal.decreases-Comparison::holds_pairwise
decreases-Comparison::holds_pairwise l = 16 * pred_nodes (comparison_core l.self.now) + 7

abbrev pub decreases-Comparison::see_pairings : goal.decreases-Comparison::see_pairings
decreases-Comparison::see_pairings l = 16 * pred_nodes (comparison_core l.self.now) + 6

abbrev pub decreases-Comparison::asks_right : goal.decreases-Comparison::asks_right
decreases-Comparison::asks_right l = 16 * pred_nodes (comparison_core l.self.now) + 6

-- ---- the items of an expression, opened

abbrev pub invariant-Operand::next-items : goal.invariant-Operand::next-items
invariant-Operand::next-items l = record {
  same : operand_core l.self ≡ operand_core l.initial.self;
  near : Approaches (operand_left l.how l.initial.self (env_value l.env)) l.initial.steps (operand_left l.how l.self (env_value l.env)) l.steps;
}

abbrev pub decreases-Operand::next-items : goal.decreases-Operand::next-items
decreases-Operand::next-items l = count (left l.self.cell.value (env_value l.env))

-- ---- what is done with each item

abbrev pub invariant-Each::next-items : goal.invariant-Each::next-items
invariant-Each::next-items l = record {
  same : each_core l.self ≡ each_core l.initial.self;
  near : Approaches (each_left l.initial.self (env_value l.env)) l.initial.steps (each_left l.self (env_value l.env)) l.steps;
}

abbrev pub decreases-Each::next-items : goal.decreases-Each::next-items
decreases-Each::next-items l = count (operand_left (doing_opening (doing l.self.operator)) l.self.input (env_value l.env))

-- ---- going through all items

abbrev pub invariant-Operand::look-looking : goal.invariant-Operand::look-looking
invariant-Operand::look-looking l = record {
  same : operand_core l.self ≡ operand_core l.fn.self;
  looking : Looking l.limit (operand_whole l.how (operand_core l.fn.self) (env_value l.env)) (found_value l.found) (operand_left l.how l.self (env_value l.env)) l.fn.steps l.steps;
}

abbrev pub decreases-Operand::look-looking : goal.decreases-Operand::look-looking
decreases-Operand::look-looking l = count (operand_left l.how l.self (env_value l.env))

abbrev pub invariant-Operand::see_pairing_by_cells-pairing : goal.invariant-Operand::see_pairing_by_cells-pairing
invariant-Operand::see_pairing_by_cells-pairing l = record {
  same : operand_core l.self ≡ operand_core l.fn.self;
  pairing : PairingLeft l.early (beside_truth l.beside) (operand_whole Unwrapped (operand_core l.fn.self) (env_value l.env)) (operand_left Unwrapped l.self (env_value l.env)) l.pairing.found l.pairing.doubt l.fn.steps l.steps;
}

abbrev pub decreases-Operand::see_pairing_by_cells-pairing : goal.decreases-Operand::see_pairing_by_cells-pairing
decreases-Operand::see_pairing_by_cells-pairing l = count (operand_left Unwrapped l.self (env_value l.env))

abbrev pub invariant-Comparison::see_pairings-pairings : goal.invariant-Comparison::see_pairings-pairings
invariant-Comparison::see_pairings-pairings l = record {
  same : comparison_core l.self ≡ comparison_core l.fn.self;
  op : l.self.op ≡ l.fn.self.op;
  pairings : PairingsLeft l.early (items_compare l.fn.self.op) (operand_whole Unwrapped (operand_core l.fn.self.left) (env_value l.env)) (operand_left Unwrapped l.self.left (env_value l.env)) (operand_whole Unwrapped (operand_core l.fn.self.right) (env_value l.env)) l.pairings.found l.pairings.doubt l.pairings.some l.fn.steps l.steps;
}

abbrev pub decreases-Comparison::see_pairings-pairings : goal.decreases-Comparison::see_pairings-pairings
decreases-Comparison::see_pairings-pairings l = count (operand_left Unwrapped l.self.left (env_value l.env))
