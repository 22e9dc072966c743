use Rattle.std.proofs.Common.{◌+◌, ◌*◌}
use Rattle.sj_path_tree.specs.Nodes.{expr_nodes}
use Rattle.sj_cursor.specs.Left.{core, operand_core, each_core}
use Rattle.sj_cursor.proofs.cells.+rewind.Given as goal

-- the cells below an operator change before they are rewound, and their expression does not
abbrev pub decreases-Cell::rewind : goal.decreases-Cell::rewind
decreases-Cell::rewind l = 4 * expr_nodes (core l.self.now) + 1

abbrev pub decreases-Each::rewind : goal.decreases-Each::rewind
decreases-Each::rewind l = 4 * expr_nodes (each_core l.self.now)

abbrev pub decreases-Operand::rewind : goal.decreases-Operand::rewind
decreases-Operand::rewind l = 4 * expr_nodes (operand_core l.self.now) + 2
