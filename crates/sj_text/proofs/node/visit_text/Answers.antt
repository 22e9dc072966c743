use Rattle.std.proofs.Common.{option_map, ℕ, List, Bor}
use Rattle.sj_json.specs.Printing.{printed}
use Rattle.sj_doc.specs.Listed.{node_tree}
use Rattle.sj_text.specs.Rendering.{lead}
use Rattle.sj_text.proofs.Appends.{second_stopped}
use Rattle.sj_text.proofs.node.visit_text.Goals as goal

pub returns-in_ok-lead_text-in-Leaf-clause-err : goal.returns-in_ok-lead_text-in-Leaf-clause-err
returns-in_ok-lead_text-in-Leaf-clause-err c =
    let member = c.in-Leaf.member in
    rw c.in-Leaf.is
    (second_stopped c.scalar_text.result c.args.out.now (lead c.args.place (option_map {T = Bor (List ℕ)} {U = List ℕ} (λ s. s.now) member.key)) (printed (node_tree member.node))
    c.lead_text-in-Leaf.new.out c.scalar_text.new.out c.in_ok-lead_text-in-Leaf.ensures.ok c.scalar_text.ensures.err)
