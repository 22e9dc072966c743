use Rattle.std.proofs.Common.{ap, sym, ◌∙◌}
use Rattle.sj_cursor.specs.Cells.{env_value}
use Rattle.sj_cursor.specs.LaxNodes.{IsLaxNode}
use Rattle.sj_cursor.specs.Left.{core, operand_core}
use Rattle.sj_plain_path.specs.declared.chain.Link.TheVariants as links
use Rattle.sj_cursor.proofs.PlainPaths.{keyed_below}
use Rattle.sj_cursor.proofs.cells.Operand.keyed.Goals as goal

pub returns : goal.returns
returns c = λ how.
    let lax : IsLaxNode (core c.deref-2.result.now) (env_value c.args.env.now) c.in_ok-node.node = c.in_ok-node.ensures in
    keyed_below how (operand_core c.in-Each.each.input) (operand_core c.args.self.now) (links.Member c.in_ok-key.key) (env_value c.args.env.now) c.in_ok-node.node
    (sym (ap core c.deref.ensures) ∙ ap core c.in-Each.is ∙ c.in_ok-key.ensures)
    (rw c.deref-2.ensures at lax)
