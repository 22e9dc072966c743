use Rattle.std.proofs.Common.{◌≡◌, suc, [], ◌∷◌, ◌++◌, List, length, map, sym, ap, subst, ◌∙◌, arith, length-append}
use Rattle.std.proofs.lemmas.List.{length-map, map-append}
use Rattle.std.proofs.lemmas.List.Elements.{All-append, All-nil, All-cons}
use Rattle.sj_bound.specs.Bound.{Bound}
use Rattle.sj_bound.specs.Sound.{IsSound}
use Rattle.sj_bound.specs.View.{bound_of}
use Rattle.sj_bound.specs.declared.bound.Bound.{Bound as BoundHeld}
use Rattle.sj_file.specs.Job.{AreSound}
use Rattle.sj_file.proofs.Verdicts.{IsTakenTo, one_taken, all_taken, one_refused, bound_so, end_so}
use Rattle.sj_file.proofs.verdict.statements_of.Goals as goal

pub loop-bound-preserved : goal.loop-bound-preserved
loop-bound-preserved c =
    let rest = c.loop-bound.rest.now in
    let before = c.loop-bound.statements.items in
    let b = c.in-Ok-Statement.bound in
    let behind = c.in-Ok-Statement.behind in
    let h = bound_so c.loop-bound.number rest c.in-Ok-Statement.field-0 b behind c.in-Ok-Statement.field-0-is c.in-Ok-Statement.ensures in
    let shorter = h.0.is_first.shorter in
    let items : c.push.new.self.items ≡ before ++ b ∷ [] = c.in-Ok.ensures.items in
    let bounds : map bound_of c.push.new.self.items ≡ map bound_of before ++ bound_of b ∷ [] = ap (map bound_of) items ∙ map-append bound_of before (b ∷ []) in
    record {
      taken = subst (λ (xs : List Bound). IsTakenTo c.args.file.now xs behind.now) (sym bounds) (one_taken c.args.file.now rest behind.now (map bound_of before) (bound_of b) c.loop-bound.invariant.taken h.0);
      sound = subst AreSound (sym items) (All-append (λ (s : BoundHeld). IsSound (bound_of s)) _ _ c.loop-bound.invariant.sound (All-cons (λ (s : BoundHeld). IsSound (bound_of s)) b [] h.1 (All-nil (λ (s : BoundHeld). IsSound (bound_of s)))));
      number = omega (arith, ap length items, length-append {A = BoundHeld}, c.loop-bound.invariant.number);
      room = omega (arith, ap length items, length-append {A = BoundHeld}, c.loop-bound.invariant.room, shorter);
    }

pub returns-in-Ok-End-clause-accepted : goal.returns-in-Ok-End-clause-accepted
returns-in-Ok-End-clause-accepted c =
    let rest = c.loop-bound.rest.now in
    all_taken c.args.file.now rest (map bound_of c.loop-bound.statements.items) c.loop-bound.invariant.taken (end_so c.loop-bound.number rest c.in-Ok-End.field-0 c.in-Ok-End.field-0-is c.in-Ok-End.ensures)

pub returns-in-Err-clause-refused : goal.returns-in-Err-clause-refused
returns-in-Err-clause-refused c =
    let number : c.loop-bound.number ≡ suc (length (map bound_of c.loop-bound.statements.items)) = c.loop-bound.invariant.number ∙ ap suc (sym (length-map c.loop-bound.statements.items bound_of)) in
    one_refused c.args.file.now c.loop-bound.rest.now (map bound_of c.loop-bound.statements.items) c.loop-bound.number c.in-Err.refusal c.loop-bound.invariant.taken number c.in-Err.ensures
