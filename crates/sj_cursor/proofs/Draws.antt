-- What a draw from a part is for the whole.
use Rattle.std.proofs.Common.{◌≡◌, ℕ, zero, suc, ◌+◌, ◌≤◌, ◌<◌, arith, refl, ap, sym, ◌∙◌}
use Rattle.sj_base.specs.Count.{raised}
use Rattle.sj_base.specs.declared.state.State.{State}
use Rattle.sj_item.specs.Items.{ItemValue, PullValue, gives, ends, faults}
use Rattle.sj_step.specs.Trace.{Trace, stop, fail, visit, give, only, after_visits, join, each, first, rest, visits_to_first, count}
use Rattle.sj_step.specs.Takes.{Takes}
use Rattle.sj_step.proofs.Traces.{shape_item, shape_end, shape_fault, first-after_visits, rest-after_visits, visits_to_first-after_visits, join-after_visits, each-after_visits, count-rest_item}
use Rattle.sj_cursor.specs.Draws.{Draws, Approaches, ahead}

-- ---- what is ahead

ahead-shape : (t : Trace) → t ≡ after_visits (visits_to_first t) (ahead t)
ahead-shape stop = refl
ahead-shape (fail s) = refl
ahead-shape (visit t) = ap visit (ahead-shape t)
ahead-shape (give x t) = refl

ahead-after_visits : (n : ℕ) (t : Trace) → ahead (after_visits n t) ≡ ahead t
ahead-after_visits zero t = refl
ahead-after_visits (suc n) t = ahead-after_visits n t

first-ahead : (t : Trace) → first (ahead t) ≡ first t
first-ahead stop = refl
first-ahead (fail s) = refl
first-ahead (visit t) = first-ahead t
first-ahead (give x t) = refl

rest-ahead : (t : Trace) → rest (ahead t) ≡ rest t
rest-ahead stop = refl
rest-ahead (fail s) = refl
rest-ahead (visit t) = rest-ahead t
rest-ahead (give x t) = refl

-- ---- visits that are spent

pub paid : (n : ℕ) (t : Trace) (a b : ℕ) → b ≤ raised a n → Approaches (after_visits n t) a t b
paid n t a b h = record { same = sym (ahead-after_visits n t); costs = omega (arith, visits_to_first-after_visits n t, h) }

pub approaches_none : (t : Trace) (a : ℕ) → Approaches t a t a
approaches_none t a = record { same = refl; costs = omega arith }

pub approaches_is : (t u : Trace) (a b : ℕ) → u ≡ t → b ≤ a → Approaches t a u b
approaches_is t u a b e h = rw e (record { same = refl; costs = omega (arith, h) })

pub approaches_trans : (t u v : Trace) (a b c : ℕ) → Approaches t a u b → Approaches u b v c → Approaches t a v c
approaches_trans t u v a b c n m = record { same = m.same ∙ n.same; costs = omega (arith, n.costs, m.costs) }

pub draws_after : (t u v : Trace) (r : PullValue) (a b c : ℕ) → Approaches t a u b → Draws u r v b c → Draws t r v a c
draws_after t u v r a b c n d = record {
  answers = d.answers ∙ sym (first-ahead u) ∙ ap first n.same ∙ first-ahead t;
  leaves = d.leaves ∙ sym (rest-ahead u) ∙ ap rest n.same ∙ rest-ahead t;
  costs = omega (arith, n.costs, d.costs);
}

-- a walk's exact step is a draw
pub draws_takes : (t t' : Trace) (r : PullValue) (a b : ℕ) → Takes t r t' a b → Draws t r t' a b
draws_takes t t' r a b k = record { answers = k.answers; leaves = k.leaves; costs = omega (arith, k.costs) }

-- ---- what a trace is that is drawn from

pub draw_item : (t t' : Trace) (x : ItemValue) (a b : ℕ) → Draws t (gives x) t' a b → t ≡ after_visits (visits_to_first t) (give x t')
draw_item t t' x a b d = rw d.leaves (shape_item t x (sym d.answers))

pub draw_end : (t t' : Trace) (a b : ℕ) → Draws t ends t' a b → t ≡ after_visits (visits_to_first t) stop
draw_end t t' a b d = shape_end t (sym d.answers)

pub draw_fault : (t t' : Trace) (s : State) (a b : ℕ) → Draws t (faults s) t' a b → t ≡ after_visits (visits_to_first t) (fail s)
draw_fault t t' s a b d = shape_fault t s (sym d.answers)

pub left_end : (t t' : Trace) (a b : ℕ) → Draws t ends t' a b → t' ≡ stop
left_end t t' a b d = d.leaves ∙ ap rest (draw_end t t' a b d) ∙ rest-after_visits (visits_to_first t) stop

pub left_fault : (t t' : Trace) (s : State) (a b : ℕ) → Draws t (faults s) t' a b → t' ≡ fail s
left_fault t t' s a b d = d.leaves ∙ ap rest (draw_fault t t' s a b d) ∙ rest-after_visits (visits_to_first t) (fail s)

pub item_drawn : (n : ℕ) (t : Trace) (x : ItemValue) (a b : ℕ) → b ≤ raised a n → Draws (after_visits n (give x t)) (gives x) t a b
item_drawn n t x a b h = record { answers = sym (first-after_visits n (give x t)); leaves = sym (rest-after_visits n (give x t)); costs = omega (arith, visits_to_first-after_visits n (give x t), h) }

pub end_drawn : (n a b : ℕ) → b ≤ raised a n → Draws (after_visits n stop) ends stop a b
end_drawn n a b h = record { answers = sym (first-after_visits n stop); leaves = sym (rest-after_visits n stop); costs = omega (arith, visits_to_first-after_visits n stop, h) }

fault_drawn : (n : ℕ) (s : State) (a b : ℕ) → b ≤ raised a n → Draws (after_visits n (fail s)) (faults s) (fail s) a b
fault_drawn n s a b h = record { answers = sym (first-after_visits n (fail s)); leaves = sym (rest-after_visits n (fail s)); costs = omega (arith, visits_to_first-after_visits n (fail s), h) }

-- an item that is drawn is one fewer
pub count_draws : (t t' : Trace) (x : ItemValue) (a b : ℕ) → Draws t (gives x) t' a b → count t' < count t
count_draws t t' x a b d = rw d.leaves (omega (arith, count-rest_item t x (sym d.answers)))

-- ---- a trace before another

join_item : (t t' u : Trace) (x : ItemValue) (a b : ℕ) → Draws t (gives x) t' a b → Draws (join t u) (gives x) (join t' u) a b
join_item t t' u x a b d =
    let e : join t u ≡ after_visits (visits_to_first t) (give x (join t' u)) = ap (λ v. join v u) (draw_item t t' x a b d) ∙ join-after_visits (visits_to_first t) (give x t') u in
    rw e (item_drawn (visits_to_first t) (join t' u) x a b d.costs)

join_fault : (t t' u : Trace) (s : State) (a b : ℕ) → Draws t (faults s) t' a b → Draws (join t u) (faults s) (join t' u) a b
join_fault t t' u s a b d =
    let e : join t u ≡ after_visits (visits_to_first t) (fail s) = ap (λ v. join v u) (draw_fault t t' s a b d) ∙ join-after_visits (visits_to_first t) (fail s) u in
    rw (e, left_fault t t' s a b d) (fault_drawn (visits_to_first t) s a b d.costs)

-- the first part is at its end: the whole goes on with the second
pub join_end : (t t' u : Trace) (a b : ℕ) → Draws t ends t' a b → Approaches (join t u) a u b
join_end t t' u a b d =
    let e : join t u ≡ after_visits (visits_to_first t) u = ap (λ v. join v u) (draw_end t t' a b d) ∙ join-after_visits (visits_to_first t) stop u in
    rw e (paid (visits_to_first t) u a b d.costs)

-- an answer other than the end of the first part is that of the whole
pub join_answer : (t t' u : Trace) (r : PullValue) (a b : ℕ) → (r ≡ ends → ⊥) → Draws t r t' a b → Draws (join t u) r (join t' u) a b
join_answer t t' u (gives x) a b other d = join_item t t' u x a b d
join_answer t t' u ends a b other d = absurd (other refl)
join_answer t t' u (faults s) a b other d = join_fault t t' u s a b d

-- what is nearer in the first part is nearer in the whole
pub join_near : (t u v : Trace) (a b : ℕ) → Approaches t a u b → Approaches (join t v) a (join u v) b
join_near t u v a b n =
    let et : join t v ≡ after_visits (visits_to_first t) (join (ahead t) v) = ap (λ w. join w v) (ahead-shape t) ∙ join-after_visits (visits_to_first t) (ahead t) v in
    let eu : join u v ≡ after_visits (visits_to_first u) (join (ahead t) v) = ap (λ w. join w v) (ahead-shape u ∙ ap (after_visits (visits_to_first u)) n.same) ∙ join-after_visits (visits_to_first u) (ahead t) v in
    let w : Trace = join (ahead t) v in
    let ft : visits_to_first (join t v) ≡ visits_to_first t + visits_to_first w = ap visits_to_first et ∙ visits_to_first-after_visits (visits_to_first t) w in
    let fu : visits_to_first (join u v) ≡ visits_to_first u + visits_to_first w = ap visits_to_first eu ∙ visits_to_first-after_visits (visits_to_first u) w in
    record { same = ap ahead eu ∙ ahead-after_visits (visits_to_first u) w ∙ sym (ap ahead et ∙ ahead-after_visits (visits_to_first t) w); costs = omega (arith, ft, fu, n.costs) }

-- ---- each item of a trace

-- the input gives an item: the whole goes on with what is made of it
pub each_item : (t t' : Trace) (g : ItemValue → Trace) (x : ItemValue) (a b : ℕ) → Draws t (gives x) t' a b → Approaches (each t g) a (join (g x) (each t' g)) b
each_item t t' g x a b d =
    let e : each t g ≡ after_visits (visits_to_first t) (join (g x) (each t' g)) = ap (λ v. each v g) (draw_item t t' x a b d) ∙ each-after_visits (visits_to_first t) (give x t') g in
    rw e (paid (visits_to_first t) (join (g x) (each t' g)) a b d.costs)

each_end : (t t' : Trace) (g : ItemValue → Trace) (a b : ℕ) → Draws t ends t' a b → Draws (each t g) ends (each t' g) a b
each_end t t' g a b d =
    let e : each t g ≡ after_visits (visits_to_first t) stop = ap (λ v. each v g) (draw_end t t' a b d) ∙ each-after_visits (visits_to_first t) stop g in
    rw (e, left_end t t' a b d) (end_drawn (visits_to_first t) a b d.costs)

each_fault : (t t' : Trace) (g : ItemValue → Trace) (s : State) (a b : ℕ) → Draws t (faults s) t' a b → Draws (each t g) (faults s) (each t' g) a b
each_fault t t' g s a b d =
    let e : each t g ≡ after_visits (visits_to_first t) (fail s) = ap (λ v. each v g) (draw_fault t t' s a b d) ∙ each-after_visits (visits_to_first t) (fail s) g in
    rw (e, left_fault t t' s a b d) (fault_drawn (visits_to_first t) s a b d.costs)

-- an answer other than an item of the input is that of the whole
pub each_answer : (t t' : Trace) (g : ItemValue → Trace) (r : PullValue) (a b : ℕ) → ((x : ItemValue) → r ≡ gives x → ⊥) → Draws t r t' a b → Draws (each t g) r (each t' g) a b
each_answer t t' g (gives x) a b other d = absurd (other x refl)
each_answer t t' g ends a b other d = each_end t t' g a b d
each_answer t t' g (faults s) a b other d = each_fault t t' g s a b d

-- ---- a loop over what is left of an item, w, and the items of an input, t

-- what was left of an item is at its end, and the input gives the next one
pub turn_near : (t0 w w' t t' v : Trace) (g : ItemValue → Trace) (x : ItemValue) (a0 a b c d : ℕ)
    → Approaches t0 a0 (join w (each t g)) a → Draws w ends w' a b → Draws t (gives x) t' b c → Approaches (g x) c v d
    → Approaches t0 a0 (join v (each t' g)) d
turn_near t0 w w' t t' v g x a0 a b c d n k p q =
    let walked : Approaches t0 a0 (each t g) b = approaches_trans _ _ _ _ _ _ n (join_end w w' (each t g) a b k) in
    let drawn : Approaches t0 a0 (join (g x) (each t' g)) c = approaches_trans _ _ _ _ _ _ walked (each_item t t' g x b c p) in
    approaches_trans _ _ _ _ _ _ drawn (join_near (g x) v (each t' g) c d q)

-- what was left of an item is at its end, and the next one is given as it is
pub turn_item : (t0 w w' t t' : Trace) (g : ItemValue → Trace) (x : ItemValue) (a0 a b c : ℕ)
    → Approaches t0 a0 (join w (each t g)) a → Draws w ends w' a b → Draws t (gives x) t' b c → g x ≡ only x
    → Draws t0 (gives x) (join w' (each t' g)) a0 c
turn_item t0 w w' t t' g x a0 a b c n k p e =
    let near : Approaches t0 a0 (join (only x) (each t' g)) c = turn_near t0 w w' t t' (only x) g x a0 a b c c n k p (approaches_is _ _ _ _ (sym e) (omega arith)) in
    rw (left_end w w' a b k) (draws_after _ _ _ _ _ _ _ near (item_drawn zero (each t' g) x c c (omega arith)))

-- what was left of an item is at its end, and the next one is taken in hand, which answers
pub turn_begun : (t0 w w' t t' v : Trace) (g : ItemValue → Trace) (x : ItemValue) (r : PullValue) (a0 a b c d : ℕ)
    → Approaches t0 a0 (join w (each t g)) a → Draws w ends w' a b → Draws t (gives x) t' b c → (r ≡ ends → ⊥) → Draws (g x) r v c d
    → Draws t0 r (join v (each t' g)) a0 d
turn_begun t0 w w' t t' v g x r a0 a b c d n k p other q =
    draws_after _ _ _ _ _ _ _ (turn_near t0 w w' t t' (g x) g x a0 a b c c n k p (approaches_none (g x) c)) (join_answer (g x) v (each t' g) r c d other q)

-- what was left of an item is at its end, and the next one that is taken in hand gives nothing
pub turn_over : (t0 w w' t t' v : Trace) (g : ItemValue → Trace) (x : ItemValue) (a0 a b c d : ℕ)
    → Approaches t0 a0 (join w (each t g)) a → Draws w ends w' a b → Draws t (gives x) t' b c → Draws (g x) ends v c d
    → Approaches t0 a0 (join v (each t' g)) d
turn_over t0 w w' t t' v g x a0 a b c d n k p q =
    let near : Approaches t0 a0 (each t' g) d = approaches_trans _ _ _ _ _ _ (turn_near t0 w w' t t' (g x) g x a0 a b c c n k p (approaches_none (g x) c)) (join_end (g x) v (each t' g) c d q) in
    rw (left_end (g x) v c d q) near

-- both are at their ends, or the input has a fault
pub turn_answer : (t0 w w' t t' : Trace) (g : ItemValue → Trace) (r : PullValue) (a0 a b c : ℕ)
    → Approaches t0 a0 (join w (each t g)) a → Draws w ends w' a b → ((x : ItemValue) → r ≡ gives x → ⊥) → Draws t r t' b c
    → Draws t0 r (join w' (each t' g)) a0 c
turn_answer t0 w w' t t' g r a0 a b c n k other d =
    let here : Draws t0 r (each t' g) a0 c =
    draws_after _ _ _ _ _ _ _ (approaches_trans _ _ _ _ _ _ n (join_end w w' (each t g) a b k)) (each_answer t t' g r b c other d) in
    rw (left_end w w' a b k) here

-- the first part answers
pub loop_answer : (t0 w w' t : Trace) (r : PullValue) (a0 a b : ℕ) → Approaches t0 a0 (join w t) a → (r ≡ ends → ⊥) → Draws w r w' a b → Draws t0 r (join w' t) a0 b
loop_answer t0 w w' t r a0 a b n other d = draws_after _ _ _ _ _ _ _ n (join_answer w w' t r a b other d)

-- the first part is at its end, and the second one answers
pub join_over : (t t' u u' : Trace) (r : PullValue) (a b c : ℕ) → Draws t ends t' a b → Draws u r u' b c → Draws (join t u) r (join t' u') a c
join_over t t' u u' r a b c d e = rw (left_end t t' a b d) (draws_after _ _ _ _ _ _ _ (join_end t t' u a b d) e)
