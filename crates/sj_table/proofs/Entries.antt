-- The entries of a path, taken from its trace.
use Rattle.std.proofs.Common.{◌≡◌, ◌≤◌, ◌<◌, ℕ, zero, suc, ◌+◌, ◌*◌, None, Some, ap, sym, subst, ◌∙◌, refl, arith}
use Rattle.sj_base.specs.Count.{raised}
use Rattle.sj_base.specs.declared.state.State.{State}
use Rattle.sj_item.specs.Items.{ItemValue, gives, ends, faults}
use Rattle.sj_step.specs.Trace.{Trace, stop, fail, visit, give, after_visits, items, count, visits, fault_of, visits_to_first}
use Rattle.sj_step.proofs.Traces.{shape_item, shape_end, shape_fault, visits-after_visits, fault-after_visits, count-rest_item}
use Rattle.sj_cursor.specs.Draws.{Draws}
use Rattle.sj_value.specs.declared.clauses.TableAction.{TableAction}
use Rattle.sj_table.specs.declared.pull.RowPull.{RowPull}
use Rattle.sj_table.specs.declared.pull.RowPull.TheVariants as pulls
use Rattle.sj_table.specs.Series.{Series, more}
use Rattle.sj_table.specs.Rows.{Entry, ordinal_of, entries_from, entries_of, unless_fault}
use Rattle.sj_table.specs.Cells.{entries_to_end}
use Rattle.sj_table.specs.Takes.{Takes, Answers}

-- ---- what a trace is that is drawn from

draw_item : (t t' : Trace) (x : ItemValue) (a b : ℕ) → Draws t (gives x) t' a b → t ≡ after_visits (visits_to_first t) (give x t')
draw_item t t' x a b d = rw d.leaves (shape_item t x (sym d.answers))

draw_end : (t t' : Trace) (a b : ℕ) → Draws t ends t' a b → t ≡ after_visits (visits_to_first t) stop
draw_end t t' a b d = shape_end t (sym d.answers)

draw_fault : (t t' : Trace) (s : State) (a b : ℕ) → Draws t (faults s) t' a b → t ≡ after_visits (visits_to_first t) (fail s)
draw_fault t t' s a b d = shape_fault t s (sym d.answers)

-- an item that is drawn is one fewer
pub drawn_fewer : (t t' : Trace) (x : ItemValue) (a b : ℕ) → Draws t (gives x) t' a b → count t' < count t
drawn_fewer t t' x a b d = rw d.leaves (omega (arith, count-rest_item t x (sym d.answers)))

-- ---- the entries up to the end of a trace

entries-after_visits : (p n k : ℕ) (t : Trace) → entries_to_end p n (after_visits k t) ≡ entries_to_end p n t
entries-after_visits p n zero t = refl
entries-after_visits p n (suc k) t = entries-after_visits p n k t

-- ordinals that are given alike go on alike
entries_alike : (p m n : ℕ) (t : Trace) → ordinal_of m ≡ ordinal_of n → entries_to_end p m t ≡ entries_to_end p n t
entries_alike p m n stop e = refl
entries_alike p m n (fail s) e = refl
entries_alike p m n (visit t) e = entries_alike p m n t e
entries_alike p m n (give x t) e =
    ap (λ o. more (record { path = p; item = x; ordinal = o }) (entries_to_end p (m + 1) t)) e
    ∙ ap (more (record { path = p; item = x; ordinal = ordinal_of n })) (entries_alike p (m + 1) (n + 1) t (omega (arith, e)))

-- of a trace without a fault
entries_whole : (p n : ℕ) (t : Trace) → fault_of t ≡ None → entries_to_end p n t ≡ entries_from p n (items t)
entries_whole p n stop e = refl
entries_whole p n (fail s) e = cc
entries_whole p n (visit t) e = entries_whole p n t e
entries_whole p n (give x t) e = ap (more (record { path = p; item = x; ordinal = ordinal_of n })) (entries_whole p (n + 1) t e)

-- ---- the next entry

pub advance_item : (p o o' : ℕ) (t t' : Trace) (x : ItemValue) (a b : ℕ)
    → Draws t (gives x) t' a b → o' ≡ ordinal_of (o + 1)
    → Takes (entries_to_end p (o + 1) t) (visits t) pulls.Row (record { path = p; item = x; ordinal = o' }) (entries_to_end p (o' + 1) t') (visits t') a b
advance_item p o o' t t' x a b d e =
    let shape : t ≡ after_visits (visits_to_first t) (give x t') = draw_item t t' x a b d in
    let paid : visits t ≡ visits_to_first t + visits t' = ap visits shape ∙ visits-after_visits (visits_to_first t) (give x t') in
    record {
      answers = ap (entries_to_end p (o + 1)) shape ∙ entries-after_visits p (o + 1) (visits_to_first t) (give x t')
          ∙ ap (λ n. more (record { path = p; item = x; ordinal = n }) (entries_to_end p (o + 1 + 1) t')) (sym e)
          ∙ ap (more (record { path = p; item = x; ordinal = o' })) (entries_alike p (o + 1 + 1) (o' + 1) t' (omega (arith, e)));
      spends = record { falls = omega (arith, paid); costs = omega (arith, paid, d.costs) };
    }

pub advance_end : (p o d' : ℕ) (t t' : Trace) (x : Entry) (left : Series Entry) (a b : ℕ)
    → Draws t ends t' a b → Takes (entries_to_end p (o + 1) t) (visits t) pulls.End x left d' a b
advance_end p o d' t t' x left a b d =
    let shape : t ≡ after_visits (visits_to_first t) stop = draw_end t t' a b d in
    let paid : visits t ≡ visits_to_first t + 0 = ap visits shape ∙ visits-after_visits (visits_to_first t) stop in
    record {
      answers = ap (entries_to_end p (o + 1)) shape ∙ entries-after_visits p (o + 1) (visits_to_first t) stop;
      spends = record { falls = omega arith; costs = omega (arith, paid, d.costs) };
    }

pub advance_fault : (p o d' : ℕ) (t t' : Trace) (s : State) (x : Entry) (left : Series Entry) (a b : ℕ)
    → Draws t (faults s) t' a b → Takes (entries_to_end p (o + 1) t) (visits t) (pulls.Raised s) x left d' a b
advance_fault p o d' t t' s x left a b d =
    let shape : t ≡ after_visits (visits_to_first t) (fail s) = draw_fault t t' s a b d in
    let paid : visits t ≡ visits_to_first t + 0 = ap visits shape ∙ visits-after_visits (visits_to_first t) (fail s) in
    record {
      answers = ap (entries_to_end p (o + 1)) shape ∙ entries-after_visits p (o + 1) (visits_to_first t) (fail s);
      spends = record { falls = omega arith; costs = omega (arith, paid, d.costs) };
    }

-- ---- running a path to its end

-- what is left, t, ends as the whole does, and no more was spent than visits
pub record Running (whole : Trace) (steps : ℕ) (t : Trace) (later : ℕ) : Type 0 where
  pub fault : fault_of t ≡ fault_of whole
  pub costs : raised later (visits t) ≤ raised steps (visits whole)

pub running_from : (t : Trace) (a : ℕ) → Running t a t a
running_from t a = record { fault = refl; costs = omega arith }

pub running_on : (whole t t' : Trace) (x : ItemValue) (a b c : ℕ) → Running whole a t b → Draws t (gives x) t' b c → Running whole a t' c
running_on whole t t' x a b c r d =
    let shape : t ≡ after_visits (visits_to_first t) (give x t') = draw_item t t' x b c d in
    let paid : visits t ≡ visits_to_first t + visits t' = ap visits shape ∙ visits-after_visits (visits_to_first t) (give x t') in
    let same : fault_of t ≡ fault_of t' = ap fault_of shape ∙ fault-after_visits (visits_to_first t) (give x t') in
    record { fault = sym same ∙ r.fault; costs = omega (arith, paid, r.costs, d.costs) }

pub running_end : (whole t t' : Trace) (a b c : ℕ) → Running whole a t b → Draws t ends t' b c → None ≡ fault_of whole
running_end whole t t' a b c r d = sym (ap fault_of (draw_end t t' b c d) ∙ fault-after_visits (visits_to_first t) stop) ∙ r.fault

pub running_fault : (whole t t' : Trace) (s : State) (a b c : ℕ) → Running whole a t b → Draws t (faults s) t' b c → Some s ≡ fault_of whole
running_fault whole t t' s a b c r d = sym (ap fault_of (draw_fault t t' s b c d) ∙ fault-after_visits (visits_to_first t) (fail s)) ∙ r.fault

pub running_end_costs : (whole t t' : Trace) (a b c : ℕ) → Running whole a t b → Draws t ends t' b c → c ≤ raised a (visits whole)
running_end_costs whole t t' a b c r d =
    let shape : t ≡ after_visits (visits_to_first t) stop = draw_end t t' b c d in
    let paid : visits t ≡ visits_to_first t + 0 = ap visits shape ∙ visits-after_visits (visits_to_first t) stop in
    omega (arith, paid, r.costs, d.costs)

pub running_fault_costs : (whole t t' : Trace) (s : State) (a b c : ℕ) → Running whole a t b → Draws t (faults s) t' b c → c ≤ raised a (visits whole)
running_fault_costs whole t t' s a b c r d =
    let shape : t ≡ after_visits (visits_to_first t) (fail s) = draw_fault t t' s b c d in
    let paid : visits t ≡ visits_to_first t + 0 = ap visits shape ∙ visits-after_visits (visits_to_first t) (fail s) in
    omega (arith, paid, r.costs, d.costs)

-- ---- a path that is entered

-- it ends well: its entries are those of its trace, from the first one on
pub entered : (action : TableAction) (p : ℕ) (t : Trace) → None ≡ fault_of t → entries_to_end p 1 t ≡ entries_of action p t
entered action p t e =
    entries_whole p 1 t (sym e) ∙ ap (λ f. unless_fault action f (entries_from p 1 (items t))) e

-- its entries, and what they may take, after the path was run to its end
pub entered_takes : (action : TableAction) (p q o : ℕ) (t u : Trace) (r : RowPull) (e : Entry) (es : Series Entry) (d a b c : ℕ)
    → None ≡ fault_of t → b ≤ raised a (visits t) → q ≡ p → o ≡ 0 → u ≡ t
    → Takes (entries_to_end q (o + 1) u) (visits u) r e es d b c → Takes (entries_of action p t) (2 * visits t) r e es d a c
entered_takes action p q o t u r e es d a b c well spent hp ho ht k =
    let first : entries_to_end q (o + 1) u ≡ entries_of action p t =
    ap (λ n. entries_to_end n (o + 1) u) hp ∙ ap (λ n. entries_to_end p (n + 1) u) ho ∙ ap (entries_to_end p 1) ht ∙ entered action p t well in
    let paid : visits u ≡ visits t = ap visits ht in
    record {
      answers = subst (λ v. Answers v r e es) first k.answers;
      spends = record { falls = omega (arith, paid, k.spends.falls); costs = omega (arith, paid, spent, k.spends.falls, k.spends.costs) };
    }
