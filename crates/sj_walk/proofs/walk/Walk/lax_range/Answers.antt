use Rattle.std.proofs.Common.{◌+◌, ◌∙◌, sym, ap, arith, rules, to_z-of_z, SFits}
use Rattle.std.proofs.lemmas.Int.{ints}
use Rattle.std.specs.Int.{int_min, w128}
use Rattle.sj_json.specs.Tree.{children}
use Rattle.sj_doc.specs.Listed.{node_id, node_tree}
use Rattle.sj_step.proofs.Ranges.{lax_range_stops, lax_range_goes}
use Rattle.sj_walk.proofs.walk.Walk.lax_range.Goals as goal

pub returns-then-end-start : goal.returns-then-end-start
returns-then-end-start c =
    let from_fits : SFits w128 c.args.from = c.ranges.from in
    let to_fits : SFits w128 c.args.to = c.ranges.to in
    let last_fits : SFits w128 c.last_of.result = search rules in
    let start_fits : SFits w128 c.not_below_first-start.result = search rules in
    let end_fits : SFits w128 c.not_above_last-end.result = search rules in
    c.ended.ensures
    ∙ sym (lax_range_stops c.args.from c.args.to c.not_below_first-start.result c.not_above_last-end.result (node_id c.args.node + 1) (children (node_tree c.args.node))
    (simp to_z-of_z at c.not_below_first-start.ensures) ((simp to_z-of_z at c.not_above_last-end.ensures) ∙ ap (int_min c.args.to) c.last_of.ensures.last) (omega (arith, ints)))

pub returns : goal.returns
returns c =
    let from_fits : SFits w128 c.args.from = c.ranges.from in
    let to_fits : SFits w128 c.args.to = c.ranges.to in
    let last_fits : SFits w128 c.last_of.result = search rules in
    let start_fits : SFits w128 c.not_below_first-start.result = search rules in
    let end_fits : SFits w128 c.not_above_last-end.result = search rules in
    (simp to_z-of_z at c.elements.ensures)
    ∙ sym (lax_range_goes c.args.from c.args.to c.not_below_first-start.result c.not_above_last-end.result (node_id c.args.node + 1) (children (node_tree c.args.node))
    (simp to_z-of_z at c.not_below_first-start.ensures) ((simp to_z-of_z at c.not_above_last-end.ensures) ∙ ap (int_min c.args.to) c.last_of.ensures.last) (omega (arith, ints)))
