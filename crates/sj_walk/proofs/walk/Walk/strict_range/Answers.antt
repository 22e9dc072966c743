use Rattle.std.proofs.Common.{◌+◌, ◌∙◌, sym, true, false, rules, to_z-of_z, SFits}
use Rattle.std.specs.Int.{w128}
use Rattle.sj_json.specs.Tree.{children}
use Rattle.sj_doc.specs.Listed.{node_id, node_tree}
use Rattle.sj_step.proofs.Ranges.{strict_range_is}
use Rattle.sj_walk.proofs.walk.Walk.strict_range.Goals as goal

pub returns-then-is_outside : goal.returns-then-is_outside
returns-then-is_outside c =
    let from_fits : SFits w128 c.args.from = c.ranges.from in
    let to_fits : SFits w128 c.args.to = c.ranges.to in
    let last_fits : SFits w128 c.last_of.result = search rules in
    c.of_fault.ensures
    ∙ sym (strict_range_is c.args.from c.args.to c.last_of.result true (node_id c.args.node + 1) (children (node_tree c.args.node))
    c.last_of.ensures.last (sym c.if-is_outside.true ∙ (simp to_z-of_z at c.is_outside.ensures.value)))

pub returns : goal.returns
returns c =
    let from_fits : SFits w128 c.args.from = c.ranges.from in
    let to_fits : SFits w128 c.args.to = c.ranges.to in
    let last_fits : SFits w128 c.last_of.result = search rules in
    (simp to_z-of_z at c.elements.ensures)
    ∙ sym (strict_range_is c.args.from c.args.to c.last_of.result false (node_id c.args.node + 1) (children (node_tree c.args.node))
    c.last_of.ensures.last (sym c.if-is_outside.false ∙ (simp to_z-of_z at c.is_outside.ensures.value)))
