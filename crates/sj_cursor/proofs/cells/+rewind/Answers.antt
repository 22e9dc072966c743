use Rattle.std.proofs.Common.{◌≡◌, ap, ◌∙◌, arith, rules}
use Rattle.sj_cursor.specs.Meaning.{meaning}
use Rattle.sj_path_tree.specs.Nodes.{expr_nodes}
use Rattle.sj_cursor.specs.Cells.{env_value}
use Rattle.sj_cursor.specs.Left.{doing, doing_on, doing_opening, each_core, operand_core}
use Rattle.sj_cursor.proofs.Operators.{doing_is, doing_below}
use Rattle.sj_cursor.proofs.cells.+rewind.Goals as goal

pub Each::rewind-returns-clause-whole : goal.Each::rewind-returns-clause-whole
Each::rewind-returns-clause-whole t c =
    let each = c.rewind_to_root.new.self in
    let env = env_value c.args.env.now in
    let begun : meaning (doing_on (doing each.operator) (operand_core each.input)) env ≡ meaning (each_core c.args.self.now) env = ap (λ e. meaning e env) c.rewind_to_root.ensures.same in
    rw (c.clear.ensures.clear env, c.clear.ensures.same, c.rewind.ensures.whole (doing_opening (doing each.operator)))
    (doing_is (doing each.operator) (operand_core each.input) env ∙ begun)

pub Each::rewind-rewind-requires : goal.Each::rewind-rewind-requires
Each::rewind-rewind-requires t c =
    let each = c.rewind_to_root.new.self in
    let same : expr_nodes (each_core each) ≡ expr_nodes (each_core c.args.self.now) = ap expr_nodes c.rewind_to_root.ensures.same in
    (omega (arith, doing_below (doing each.operator) (operand_core each.input), same), search rules)
