use Rattle.std.proofs.Common.{◌∷◌, subst}
use Rattle.sj_text.proofs.Appends.{Appending, at_error, grows_to, stays}
use Rattle.sj_sql_text.specs.Pieces.{doubled}
use Rattle.sj_sql_text.specs.Marks.{mark_of}
use Rattle.sj_sql_text.proofs.quoted.doubled.Goals as goal

pub returns-in_err-push-2-clause-err : goal.returns-in_err-push-2-clause-err
returns-in_err-push-2-clause-err c =
    let mark = mark_of c.args.mark in
    let old = c.args.out.now in
    let text = doubled mark c.args.text.now in
    let rest = mark ∷ doubled mark c.in-Some.behind.now in
    at_error c.from_residual-in_err-push-2.result (stays old text c.push.new.self rest c.push-in-Some.new.self
    (grows_to old text c.loop-front.out c.in-Some.front.now rest c.push.new.self (subst (Appending old text c.loop-front.out) c.in-Some.ensures.1 c.loop-front.invariant) c.in_ok-push.ensures.ok)
    c.in_err-push-2.ensures.err)
