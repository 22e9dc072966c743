use Rattle.std.proofs.Common.{◌++◌, [], true, codes, rules, arith}
use Rattle.sj_text.proofs.Appends.{first_stopped, second_stopped}
use Rattle.sj_path_tree.specs.View.{expr_of, pred_of, subs_of}
use Rattle.sj_path_text.specs.Parentheses.{is_below, is_not_above}
use Rattle.sj_path_text.specs.Text as spec
use Rattle.sj_path_text.proofs.Parts.{stops_in_part}
use Rattle.sj_path_text.proofs.print.+text.Goals as goal

pub expr_text-returns-in_ok-arith_text-in-Binary-clause-err : goal.expr_text-returns-in_ok-arith_text-in-Binary-clause-err
expr_text-returns-in_ok-arith_text-in-Binary-clause-err t c =
    let r = c.operand_text-in-Binary-2.result in
    let op = c.in-Binary.op in
    let a = expr_of c.in-Binary.a.value in
    let b = expr_of c.in-Binary.b.value in
    let left = spec.enclosed (is_below op a) (spec.expr_text a) in
    let right = spec.enclosed (is_not_above op b) (spec.expr_text b) in
    rw c.in-Binary.is
    (second_stopped r c.args.out.now left (spec.arith_text op ++ right) c.operand_text-in-Binary.new.out c.operand_text-in-Binary-2.new.out (search rules)
    (second_stopped r c.operand_text-in-Binary.new.out (spec.arith_text op) right c.arith_text.new.out c.operand_text-in-Binary-2.new.out c.in_ok-arith_text-in-Binary.ensures.ok (search rules)))

pub pred_text-returns-in_err-group_text-in-IsUnknown-clause-err : goal.pred_text-returns-in_err-group_text-in-IsUnknown-clause-err
pred_text-returns-in_err-group_text-in-IsUnknown-clause-err t c =
    let inner = spec.enclosed true (spec.pred_text (pred_of c.in-IsUnknown.p.value)) in
    rw c.in-IsUnknown.is
    (first_stopped c.from_residual-in_err-group_text-in-IsUnknown.result c.args.out.now inner (codes " is unknown") c.group_text-in-IsUnknown.new.out (search rules))

pub pred_text-returns-in_ok-compare_text-in-Compare-clause-err : goal.pred_text-returns-in_ok-compare_text-in-Compare-clause-err
pred_text-returns-in_ok-compare_text-in-Compare-clause-err t c =
    let r = c.expr_text-in-Compare.result in
    let op = c.in-Compare.op in
    let left = spec.expr_text (expr_of c.in-Compare.a) in
    let right = spec.expr_text (expr_of c.in-Compare.b) in
    rw c.in-Compare.is
    (second_stopped r c.args.out.now left (spec.compare_text op ++ right) c.expr_text.new.out c.expr_text-in-Compare.new.out c.in_ok-expr_text-in-Compare.ensures.ok
    (second_stopped r c.expr_text.new.out (spec.compare_text op) right c.compare_text.new.out c.expr_text-in-Compare.new.out c.in_ok-compare_text-in-Compare.ensures.ok
    c.expr_text-in-Compare.ensures.err))

pub subs_text-returns-in_err-sub_text-clause-err : goal.subs_text-returns-in_err-sub_text-clause-err
subs_text-returns-in_err-sub_text-clause-err t c =
    stops_in_part c.from_residual-in_err-sub_text.result c.args.out.now (spec.subs_text [] (subs_of c.args.subs.now)) c.loop-sub.out c.push.new.self c.sub_text.new.out c.loop-sub.lead.now
    c.args.subs.now c.loop-sub.sub-index c.sub-item.result (omega arith) c.sub-item.is c.loop-sub.invariant c.in_ok-push.ensures.ok c.in_err-sub_text.ensures.err
