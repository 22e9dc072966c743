use Rattle.std.proofs.Common.{◌+◌, refl, arith}
use Rattle.sj_json.specs.Tree.{children}
use Rattle.sj_doc.specs.Listed.{node_id, node_tree}
use Rattle.sj_step.proofs.Lasts.{length-numbered}
use Rattle.sj_plain_path.proofs.Chains.{element_short, element_found, ahead_from, ahead_next, ahead_here}
use Rattle.sj_plain_path.proofs.chain.element_at.Goals as goal

pub returns-then-len-from : goal.returns-then-len-from
returns-then-len-from c = (element_short c.args.index (node_id c.args.array + 1) (children (node_tree c.args.array)) (omega (arith, c.len.ensures, c.from.ensures, c.if-len-from.true)), refl)

pub elements-init : goal.elements-init
elements-init c = ahead_from _ _ _ (rw c.children-elements.ensures (rw length-numbered (omega (arith, c.len.ensures, c.from.ensures, c.if-len-from.false))))

pub returns-then-before-eq0 : goal.returns-then-before-eq0
returns-then-before-eq0 c =
    let here = ahead_here _ _ _ _ _ _ _ _ _ c.elements.invariant c.in-Some.ensures.child c.if-before-eq0.true c.in-Some.ensures.step in
    (element_found c.args.index (node_id c.args.array + 1) (children (node_tree c.args.array)) _ _ (omega (arith, c.len.ensures, c.from.ensures, c.if-len-from.false)) c.children-elements.ensures here.ahead, here.costs)

pub elements-preserved : goal.elements-preserved
elements-preserved c = ahead_next _ _ _ _ _ _ _ _ _ c.elements.invariant c.in-Some.ensures.child (omega (arith, c.if-before-eq0.false)) c.in-Some.ensures.step
