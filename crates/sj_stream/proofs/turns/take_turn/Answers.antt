use Rattle.std.proofs.Common.{◌≡◌, ℕ, ◌<◌, ◌≤◌, List, [], ◌++◌, length, take, refl, ap, subst, arith}
use Rattle.std.proofs.lemmas.List.{length-take}
use Rattle.sj_base.specs.Count.{raised}
use Rattle.sj_page.specs.Pages.{Printed, Stopped}
use Rattle.sj_stream.specs.LineJob.{piece_print, piece_cost}
use Rattle.sj_stream.specs.Out.{state_at}
use Rattle.sj_stream.proofs.Streaming.{read_fails, finishes, goes_on, piece_stops, end_stops, ended_otherwise}
use Rattle.sj_stream.proofs.turns.take_turn.Goals as goal

-- how long the piece is
taken_len : (b : List ℕ) (n m : ℕ) → n ≤ m → length b ≡ m → length (take n b) ≡ n
taken_len b n m le is = omega (arith, length-take n b)

none_taken : (b : List ℕ) (n : ℕ) → n ≡ 0 → take n b ≡ []
none_taken b n is = ap (λ (k : ℕ). take k b) is

pub returns-in-Err-clause-turned : goal.returns-in-Err-clause-turned
returns-in-Err-clause-turned g c = λ K from to h fits o.
    ended_otherwise (g.T.TakesPieces.ended c.args.taker.now K) K from _ to _ _ (λ done. cc done)
    (read_fails K from _ _ to _ h o.0 c.in-Err.ensures.bytes refl c.in-Err.ensures.cause.failed (omega (arith, fits)))

pub returns-in-Ok-end-clause-turned : goal.returns-in-Ok-end-clause-turned
returns-in-Ok-end-clause-turned g c = λ K from to h fits o.
    let r = c.in-Ok.ensures in
    let room : 0 < c.args.room = c.requires.some_room in
    let piece : length (take c.args.room c.args.buffer.now) ≡ c.args.room = taken_len c.args.buffer.now c.args.room _ c.requires.within refl in
    finishes (g.T.TakesPieces.ended c.end.new.taker K) K from _ _ to _ _ h (take c.in-Ok.n c.read.new.buf) o.0 r.bytes.0 (c.end.ensures.costs K h o.1) (none_taken c.read.new.buf c.in-Ok.n c.if-n-eq0.true) r.cause.kept
    (r.bytes.1 c.if-n-eq0.true (omega (arith, piece, room))) (omega (arith, fits, room)) (c.in-Ok-end.ensures.prints K h o.1) c.in-Ok-end.ensures.written (c.in-Ok-end.ensures.ended K h o.1)

pub returns-in-Err-end-clause-turned : goal.returns-in-Err-end-clause-turned
returns-in-Err-end-clause-turned g c = λ K from to h fits o.
    let r = c.in-Ok.ensures in
    let room : 0 < c.args.room = c.requires.some_room in
    let piece : length (take c.args.room c.args.buffer.now) ≡ c.args.room = taken_len c.args.buffer.now c.args.room _ c.requires.within refl in
    end_stops (g.T.TakesPieces.ended c.end.new.taker K) K from _ _ to _ _ h (take c.in-Ok.n c.read.new.buf) c.in-Err-end.stop _ c.status_of.ensures o.0 r.bytes.0 r.cause.kept (c.end.ensures.costs K h o.1) (omega (arith, fits)) (none_taken c.read.new.buf c.in-Ok.n c.if-n-eq0.true)
    (r.bytes.1 c.if-n-eq0.true (omega (arith, piece, room))) (c.in-Err-end.ensures.prints K h o.1)

pub returns-in-Ok-hand_on-clause-turned : goal.returns-in-Ok-hand_on-clause-turned
returns-in-Ok-hand_on-clause-turned g c = λ K from to h fits o.
    let r = c.in-Ok.ensures in
    let state = state_at g.O.Sink in
    let p : List ℕ = take c.in-Ok.n c.read.new.buf in
    let len : length p ≡ c.in-Ok.n = taken_len c.read.new.buf c.in-Ok.n _ r.bound c.read.auto.buf in
    let spent = subst (λ (q : List ℕ). c.hand_on.new.out.steps.now ≤ raised c.args.out.now.steps.now (piece_cost K h q)) c.front.ensures (c.hand_on.ensures.costs K h o.1) in
    let printed = subst (λ (q : List ℕ). Printed (piece_print K h q) (state c.args.out.now) (state c.hand_on.new.out)) c.front.ensures (c.in-Ok-hand_on.ensures.prints K h o.1) in (
      p,
      len,
      (goes_on K from _ _ to _ _ h p o.0 r.bytes.0 spent r.cause.kept printed c.in-Ok-hand_on.ensures.written, subst (λ (q : List ℕ). g.T.TakesPieces.took c.hand_on.new.taker K (h ++ q)) c.front.ensures (c.in-Ok-hand_on.ensures.took K h o.1)),
    )

pub returns-in-Err-hand_on-clause-turned : goal.returns-in-Err-hand_on-clause-turned
returns-in-Err-hand_on-clause-turned g c = λ K from to h fits o.
    let r = c.in-Ok.ensures in
    let state = state_at g.O.Sink in
    let piece : length (take c.args.room c.args.buffer.now) ≡ c.args.room = taken_len c.args.buffer.now c.args.room _ c.requires.within refl in
    let p : List ℕ = take c.in-Ok.n c.read.new.buf in
    let len : length p ≡ c.in-Ok.n = taken_len c.read.new.buf c.in-Ok.n _ r.bound c.read.auto.buf in
    let bound : c.in-Ok.n ≤ length (take c.args.room c.args.buffer.now) = r.bound in
    let spent = subst (λ (q : List ℕ). c.hand_on.new.out.steps.now ≤ raised c.args.out.now.steps.now (piece_cost K h q)) c.front.ensures (c.hand_on.ensures.costs K h o.1) in
    let stopped = subst (λ (q : List ℕ). Stopped (piece_print K h q) (state c.args.out.now) (state c.hand_on.new.out) c.in-Err-hand_on.stop) c.front.ensures (c.in-Err-hand_on.ensures.prints K h o.1) in
    piece_stops (g.T.TakesPieces.ended c.hand_on.new.taker K) K from _ _ to _ _ h p c.in-Err-hand_on.stop _ c.status_of-in-Err-hand_on.ensures o.0 r.bytes.0 r.cause.kept spent (omega (arith, fits, piece, len, bound)) (omega (arith, len, bound, piece, c.requires.within, c.requires.a_piece)) stopped

pub returns-in-Ok-hand_on-clause-bound : goal.returns-in-Ok-hand_on-clause-bound
returns-in-Ok-hand_on-clause-bound g c =
    let piece : length (take c.args.room c.args.buffer.now) ≡ c.args.room = taken_len c.args.buffer.now c.args.room _ c.requires.within refl in
    let bound : c.in-Ok.n ≤ length (take c.args.room c.args.buffer.now) = c.in-Ok.ensures.bound in
    (omega arith, omega (arith, piece, bound))
