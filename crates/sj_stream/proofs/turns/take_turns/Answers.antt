use Rattle.std.proofs.Common.{◌+◌, ◌≤◌, ℕ, List, [], ◌++◌, length, refl, subst, sym, arith, length-append}
use Rattle.std.proofs.lemmas.List.{append-nil}
use Rattle.sj_rows.specs.Lines.{max_input}
use Rattle.sj_stream.specs.Input.{input_at}
use Rattle.sj_stream.specs.Out.{state_at}
use Rattle.sj_stream.specs.Stream.{GoesOnWith}
use Rattle.sj_stream.proofs.Loans.{loans_stay, loans_on}
use Rattle.sj_stream.proofs.Streaming.{goes_on_same}
use Rattle.sj_stream.proofs.turns.take_turns.Goals as goal

pub loop-n-init : goal.loop-n-init
loop-n-init g c = record {
  left = c.requires.some;
  lent = loans_stay c.args.out.now;
  goes_on = λ job from to bytes fits o. ([], refl, subst (λ (l : List ℕ). GoesOnWith (g.T.TakesPieces.took c.args.taker.now) job from (input_at g.I.Source c.args.input.now c.args.out.now.steps.now) to (state_at g.O.Sink c.args.out.now) l) (sym (append-nil bytes)) o);
}

pub take_turn-requires-clause-took : goal.take_turn-requires-clause-took
take_turn-requires-clause-took g c =
    let began = c.requires.goes_on in
    let here = c.loop-n.invariant.goes_on began.0 began.1 began.2 began.3 began.4 began.5 in
    (began.0, began.3 ++ here.0, here.2.1, omega (arith, length-append began.3 here.0, here.1, began.4, c.piece_len-room.ensures.within))

pub overflow_add-taken : goal.overflow_add-taken
overflow_add-taken g c = omega (arith, c.in-More.ensures.bound.1, c.piece_len-room.ensures.within, c.loop-n.invariant.left)

pub loop-n-smaller : goal.loop-n-smaller
loop-n-smaller g c = omega (arith, c.in-More.ensures.bound.0, c.in-More.ensures.bound.1, c.piece_len-room.ensures.within, c.loop-n.invariant.left)

pub loop-n-preserved : goal.loop-n-preserved
loop-n-preserved g c = record {
  left = omega (arith, c.in-More.ensures.bound.1, c.piece_len-room.ensures.within, c.loop-n.invariant.left);
  lent = loans_on c.args.out.now c.loop-n.out c.take_turn.new.out c.loop-n.invariant.lent c.take_turn.ensures.lent;
  goes_on = λ job from to bytes fits o.
      let here = c.loop-n.invariant.goes_on job from to bytes fits o in
      let room : length (bytes ++ here.0) + c.piece_len-room.result ≤ max_input = omega (arith, length-append bytes here.0, here.1, fits, c.piece_len-room.ensures.within) in
      let t = c.in-More.ensures.turned job from to (bytes ++ here.0) room here.2 in
      (here.0 ++ t.0, omega (arith, length-append here.0 t.0, here.1, t.1), goes_on_same (g.T.TakesPieces.took c.take_turn.new.taker) job from (input_at g.I.Source c.take_turn.new.input c.take_turn.new.out.steps.now) to (state_at g.O.Sink c.take_turn.new.out) bytes here.0 t.0 t.2);
}

pub returns-in-Over-clause-turned : goal.returns-in-Over-clause-turned
returns-in-Over-clause-turned g c = λ job from to bytes fits o.
    let here = c.loop-n.invariant.goes_on job from to bytes fits o in
    let room : length (bytes ++ here.0) + c.piece_len-room.result ≤ max_input = omega (arith, length-append bytes here.0, here.1, fits, c.piece_len-room.ensures.within) in
    c.in-Over.ensures.turned job from to (bytes ++ here.0) room here.2

pub returns-in-Over-clause-lent : goal.returns-in-Over-clause-lent
returns-in-Over-clause-lent g c = loans_on c.args.out.now c.loop-n.out c.take_turn.new.out c.loop-n.invariant.lent c.take_turn.ensures.lent

pub returns-then-taken-most-clause-turned : goal.returns-then-taken-most-clause-turned
returns-then-taken-most-clause-turned g c = λ job from to bytes fits o.
    let here = c.loop-n.invariant.goes_on job from to bytes fits o in
    let room : length (bytes ++ here.0) + c.piece_len-room.result ≤ max_input = omega (arith, length-append bytes here.0, here.1, fits, c.piece_len-room.ensures.within) in
    let t = c.in-More.ensures.turned job from to (bytes ++ here.0) room here.2 in
    (here.0 ++ t.0, omega (arith, length-append here.0 t.0, here.1, t.1), goes_on_same (g.T.TakesPieces.took c.take_turn.new.taker) job from (input_at g.I.Source c.take_turn.new.input c.take_turn.new.out.steps.now) to (state_at g.O.Sink c.take_turn.new.out) bytes here.0 t.0 t.2)

pub returns-then-taken-most-clause-bound : goal.returns-then-taken-most-clause-bound
returns-then-taken-most-clause-bound g c = (omega (arith, c.in-More.ensures.bound.0), omega (arith, c.in-More.ensures.bound.1, c.piece_len-room.ensures.within, c.loop-n.invariant.left))

pub returns-then-taken-most-clause-lent : goal.returns-then-taken-most-clause-lent
returns-then-taken-most-clause-lent g c = loans_on c.args.out.now c.loop-n.out c.take_turn.new.out c.loop-n.invariant.lent c.take_turn.ensures.lent
