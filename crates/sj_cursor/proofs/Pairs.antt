-- Pairs, draw by draw.
use Rattle.std.proofs.Common.{◌≡◌, ℕ, zero, suc, ◌+◌, ◌≤◌, Bool, true, false, cond, ◌||◌, ◌&&◌, ap, sym, ◌∙◌, refl, arith}
use Rattle.std.specs.Prelude.{nat_lt}
use Rattle.std.proofs.lemmas.Bool.Decides.{nat_tests}
use Rattle.sj_base.specs.Count.{raised}
use Rattle.sj_base.specs.declared.state.State.{State}
use Rattle.sj_item.specs.Items.{ItemValue, gives, ends, faults}
use Rattle.sj_step.specs.Trace.{Trace, stop, fail, give, after_visits, count, visits_to_first}
use Rattle.sj_plain_path.specs.Truths.{is_unknown, is_true}
use Rattle.sj_cursor.specs.Verdicts.{has_item}
use Rattle.sj_cursor.specs.Comparisons.{PairTruth}
use Rattle.sj_plain_path.specs.Pairings.{ItemTruth, pairing_true, pairing_doubt, pairing_cost, PairingSeen}
use Rattle.sj_cursor.specs.Pairings.{pairings_true, pairings_doubt, pairings_cost}
use Rattle.sj_cursor.specs.PairingsSeen.{PairingsSeen}
use Rattle.sj_cursor.specs.Draws.{Draws}
use Rattle.sj_cursor.proofs.Draws.{draw_item, draw_end, draw_fault}

-- ---- truth values

or_assoc : (a b c : Bool) → (a || b) || c ≡ a || (b || c)
or_assoc true b c = refl
or_assoc false b c = refl

or_false : (a : Bool) → a || false ≡ a
or_false true = refl
or_false false = refl

or_true : (a : Bool) → a || true ≡ true
or_true true = refl
or_true false = refl

-- where a and what follows do not halt, neither does what follows
quiet_later : (e a b : Bool) → e && (a || b) ≡ false → e && b ≡ false
quiet_later true true b h = cc
quiet_later true false b h = h
quiet_later false a b h = refl

-- what halts and did not halt before does so by itself
halts_later : (e a b : Bool) → e && a ≡ false → e && (a || b) ≡ true → e && b ≡ true
halts_later true true b q h = cc
halts_later true false b q h = h
halts_later false a b q h = h

halt_is : (e a b : Bool) → e && (a || b) ≡ true → a || b ≡ true
halt_is true a b h = h
halt_is false a b h = cc

true_then : (a b c : Bool) → a || b ≡ true → a || (b || c) ≡ true
true_then true b c h = refl
true_then false true c h = refl
true_then false false c h = cc

no_halt : (e a b : Bool) (P : Type 0) → e && (a || b) ≡ true → e && (a || b) ≡ false → P
no_halt e a b P h k = absurd (cc)

-- ---- one pairing

pairing_true-after_visits : (p : ItemTruth) (n : ℕ) (t : Trace) → pairing_true p (after_visits n t) ≡ pairing_true p t
pairing_true-after_visits p zero t = refl
pairing_true-after_visits p (suc n) t = pairing_true-after_visits p n t

pairing_doubt-after_visits : (p : ItemTruth) (n : ℕ) (t : Trace) → pairing_doubt p (after_visits n t) ≡ pairing_doubt p t
pairing_doubt-after_visits p zero t = refl
pairing_doubt-after_visits p (suc n) t = pairing_doubt-after_visits p n t

pairing_cost-after_visits : (e : Bool) (p : ItemTruth) (n : ℕ) (t : Trace) → pairing_cost e p (after_visits n t) ≡ n + pairing_cost e p t
pairing_cost-after_visits e p zero t = omega arith
pairing_cost-after_visits e p (suc n) t = omega (arith, pairing_cost-after_visits e p n t)

-- seen so far, and left to see
pub record PairingLeft (e : Bool) (p : ItemTruth) (all left : Trace) (found doubt : Bool) (a b : ℕ) : Type 0 where
  pub finds : found || pairing_true p left ≡ pairing_true p all
  pub doubts : doubt || pairing_doubt p left ≡ pairing_doubt p all
  pub quiet : e && found ≡ false
  pub costs : raised b (pairing_cost e p left) ≤ raised a (pairing_cost e p all)

pairing_starts : (e : Bool) (p : ItemTruth) (t : Trace) (a : ℕ) → PairingLeft e p t t false false a a
pairing_starts true p t a = record { finds = refl; doubts = refl; quiet = refl; costs = omega arith }
pairing_starts false p t a = record { finds = refl; doubts = refl; quiet = refl; costs = omega arith }

pub pairing_from : (e : Bool) (p : ItemTruth) (t u : Trace) (a : ℕ) → u ≡ t → PairingLeft e p t u false false a a
pairing_from e p t u a is = rw is (pairing_starts e p t a)

pub pairing_item : (e : Bool) (p : ItemTruth) (all t t' : Trace) (y : ItemValue) (f d f' d' : Bool) (a b c : ℕ)
    → PairingLeft e p all t f d a b → Draws t (gives y) t' b c → f' ≡ f || is_true (p y) → d' ≡ d || is_unknown (p y) → e && f' ≡ false → PairingLeft e p all t' f' d' a c
pairing_item e p all t t' y f d f' d' a b c k w ef ed q =
    let shape = draw_item t t' y b c w in
    let quiet : e && (f || is_true (p y)) ≡ false = ap (λ z. e && z) (sym ef) ∙ q in
    let found : pairing_true p t ≡ is_true (p y) || pairing_true p t' = ap (pairing_true p) shape ∙ pairing_true-after_visits p (visits_to_first t) (give y t') in
    let doubt : pairing_doubt p t ≡ is_unknown (p y) || pairing_doubt p t' = ap (pairing_doubt p) shape ∙ pairing_doubt-after_visits p (visits_to_first t) (give y t') in
    let cost : pairing_cost e p t ≡ visits_to_first t + pairing_cost e p t' =
    ap (pairing_cost e p) shape ∙ pairing_cost-after_visits e p (visits_to_first t) (give y t') ∙ ap (λ z. visits_to_first t + cond z 0 (pairing_cost e p t')) (quiet_later e f (is_true (p y)) quiet) in
    record {
      finds = ap (λ z. z || pairing_true p t') ef ∙ or_assoc f (is_true (p y)) (pairing_true p t') ∙ ap (λ z. f || z) (sym found) ∙ k.finds;
      doubts = ap (λ z. z || pairing_doubt p t') ed ∙ or_assoc d (is_unknown (p y)) (pairing_doubt p t') ∙ ap (λ z. d || z) (sym doubt) ∙ k.doubts;
      quiet = q;
      costs = omega (arith, cost, w.costs, k.costs);
    }

pub pairing_stop : (e : Bool) (p : ItemTruth) (all t t' : Trace) (y : ItemValue) (f d f' d' : Bool) (a b c : ℕ)
    → PairingLeft e p all t f d a b → Draws t (gives y) t' b c → f' ≡ f || is_true (p y) → e && f' ≡ true → PairingSeen e p all f' d' a c
pairing_stop e p all t t' y f d f' d' a b c k w ef h =
    let shape = draw_item t t' y b c w in
    let halts : e && (f || is_true (p y)) ≡ true = ap (λ z. e && z) (sym ef) ∙ h in
    let found : pairing_true p t ≡ is_true (p y) || pairing_true p t' = ap (pairing_true p) shape ∙ pairing_true-after_visits p (visits_to_first t) (give y t') in
    let cost : pairing_cost e p t ≡ visits_to_first t + 0 =
    ap (pairing_cost e p) shape ∙ pairing_cost-after_visits e p (visits_to_first t) (give y t') ∙ ap (λ z. visits_to_first t + cond z 0 (pairing_cost e p t')) (halts_later e f (is_true (p y)) k.quiet halts) in
    let is : f || is_true (p y) ≡ true = halt_is e f (is_true (p y)) halts in
    record {
      finds = ef ∙ is ∙ sym (sym k.finds ∙ ap (λ z. f || z) found ∙ true_then f (is_true (p y)) (pairing_true p t') is);
      doubts = λ q. absurd (cc);
      costs = omega (arith, cost, w.costs, k.costs);
    }

pub pairing_end : (e : Bool) (p : ItemTruth) (all t t' : Trace) (f d : Bool) (a b c : ℕ) → PairingLeft e p all t f d a b → Draws t ends t' b c → PairingSeen e p all f d a c
pairing_end e p all t t' f d a b c k w =
    let shape = draw_end t t' b c w in
    let found : pairing_true p t ≡ false = ap (pairing_true p) shape ∙ pairing_true-after_visits p (visits_to_first t) stop in
    let doubt : pairing_doubt p t ≡ false = ap (pairing_doubt p) shape ∙ pairing_doubt-after_visits p (visits_to_first t) stop in
    let cost : pairing_cost e p t ≡ visits_to_first t + 0 = ap (pairing_cost e p) shape ∙ pairing_cost-after_visits e p (visits_to_first t) stop in
    record {
      finds = sym (or_false f) ∙ ap (λ z. f || z) (sym found) ∙ k.finds;
      doubts = λ q. sym (or_false d) ∙ ap (λ z. d || z) (sym doubt) ∙ k.doubts;
      costs = omega (arith, cost, w.costs, k.costs);
    }

pub pairing_fault : (e : Bool) (p : ItemTruth) (all t t' : Trace) (s : State) (f d : Bool) (a b c : ℕ) → PairingLeft e p all t f d a b → Draws t (faults s) t' b c → PairingSeen e p all f true a c
pairing_fault e p all t t' s f d a b c k w =
    let shape = draw_fault t t' s b c w in
    let found : pairing_true p t ≡ false = ap (pairing_true p) shape ∙ pairing_true-after_visits p (visits_to_first t) (fail s) in
    let doubt : pairing_doubt p t ≡ true = ap (pairing_doubt p) shape ∙ pairing_doubt-after_visits p (visits_to_first t) (fail s) in
    let cost : pairing_cost e p t ≡ visits_to_first t + 0 = ap (pairing_cost e p) shape ∙ pairing_cost-after_visits e p (visits_to_first t) (fail s) in
    record {
      finds = sym (or_false f) ∙ ap (λ z. f || z) (sym found) ∙ k.finds;
      doubts = λ q. sym (or_true d) ∙ ap (λ z. d || z) (sym doubt) ∙ k.doubts;
      costs = omega (arith, cost, w.costs, k.costs);
    }

-- ---- all pairings

pairings_true-after_visits : (p : PairTruth) (n : ℕ) (t r : Trace) → pairings_true p (after_visits n t) r ≡ pairings_true p t r
pairings_true-after_visits p zero t r = refl
pairings_true-after_visits p (suc n) t r = pairings_true-after_visits p n t r

pairings_doubt-after_visits : (p : PairTruth) (n : ℕ) (t r : Trace) → pairings_doubt p (after_visits n t) r ≡ pairings_doubt p t r
pairings_doubt-after_visits p zero t r = refl
pairings_doubt-after_visits p (suc n) t r = pairings_doubt-after_visits p n t r

pairings_cost-after_visits : (e : Bool) (p : PairTruth) (n : ℕ) (t r : Trace) → pairings_cost e p (after_visits n t) r ≡ n + pairings_cost e p t r
pairings_cost-after_visits e p zero t r = omega arith
pairings_cost-after_visits e p (suc n) t r = omega (arith, pairings_cost-after_visits e p n t r)

has_item-after_visits : (n : ℕ) (t : Trace) → has_item (after_visits n t) ≡ has_item t
has_item-after_visits zero t = refl
has_item-after_visits (suc n) t = has_item-after_visits n t

some_count : (n : ℕ) → nat_lt 0 (suc n) ≡ true
some_count n = grind (arith, nat_tests)

pub record PairingsLeft (e : Bool) (p : PairTruth) (all left right : Trace) (found doubt some : Bool) (a b : ℕ) : Type 0 where
  pub finds : found || pairings_true p left right ≡ pairings_true p all right
  pub doubts : doubt || pairings_doubt p left right ≡ pairings_doubt p all right
  pub somes : some || has_item left ≡ has_item all
  pub quiet : e && found ≡ false
  pub costs : raised b (pairings_cost e p left right) ≤ raised a (pairings_cost e p all right)

pairings_starts : (e : Bool) (p : PairTruth) (l r : Trace) (a : ℕ) → PairingsLeft e p l l r false false false a a
pairings_starts true p l r a = record { finds = refl; doubts = refl; somes = refl; quiet = refl; costs = omega arith }
pairings_starts false p l r a = record { finds = refl; doubts = refl; somes = refl; quiet = refl; costs = omega arith }

pub pairings_from : (e : Bool) (p : PairTruth) (l u r : Trace) (a : ℕ) → u ≡ l → PairingsLeft e p l u r false false false a a
pairings_from e p l u r a is = rw is (pairings_starts e p l r a)

pub pairings_item : (e : Bool) (p : PairTruth) (all t t' r : Trace) (x : ItemValue) (f d o f' d' rf rd : Bool) (a b c g : ℕ)
    → PairingsLeft e p all t r f d o a b → Draws t (gives x) t' b c → PairingSeen e (p x) r rf rd c g
    → f' ≡ f || rf → d' ≡ d || rd → e && f' ≡ false → PairingsLeft e p all t' r f' d' true a g
pairings_item e p all t t' r x f d o f' d' rf rd a b c g k w s ef ed q =
    let shape = draw_item t t' x b c w in
    let quiet : e && (f || rf) ≡ false = ap (λ z. e && z) (sym ef) ∙ q in
    let later : e && rf ≡ false = quiet_later e f rf quiet in
    let pairing : e && pairing_true (p x) r ≡ false = ap (λ z. e && z) (sym s.finds) ∙ later in
    let found : pairings_true p t r ≡ rf || pairings_true p t' r = ap (λ u. pairings_true p u r) shape ∙ pairings_true-after_visits p (visits_to_first t) (give x t') r ∙ ap (λ z. z || pairings_true p t' r) (sym s.finds) in
    let doubt : pairings_doubt p t r ≡ rd || pairings_doubt p t' r = ap (λ u. pairings_doubt p u r) shape ∙ pairings_doubt-after_visits p (visits_to_first t) (give x t') r ∙ ap (λ z. z || pairings_doubt p t' r) (sym (s.doubts later)) in
    let cost : pairings_cost e p t r ≡ visits_to_first t + (pairing_cost e (p x) r + pairings_cost e p t' r) =
    ap (λ u. pairings_cost e p u r) shape ∙ pairings_cost-after_visits e p (visits_to_first t) (give x t') r ∙ ap (λ z. visits_to_first t + (pairing_cost e (p x) r + cond z 0 (pairings_cost e p t' r))) pairing in
    let some : has_item t ≡ true = ap has_item shape ∙ has_item-after_visits (visits_to_first t) (give x t') ∙ some_count (count t') in
    record {
      finds = ap (λ z. z || pairings_true p t' r) ef ∙ or_assoc f rf (pairings_true p t' r) ∙ ap (λ z. f || z) (sym found) ∙ k.finds;
      doubts = ap (λ z. z || pairings_doubt p t' r) ed ∙ or_assoc d rd (pairings_doubt p t' r) ∙ ap (λ z. d || z) (sym doubt) ∙ k.doubts;
      somes = sym (or_true o) ∙ ap (λ z. o || z) (sym some) ∙ k.somes;
      quiet = q;
      costs = omega (arith, cost, w.costs, s.costs, k.costs);
    }

pub pairings_stop : (e : Bool) (p : PairTruth) (all t t' r : Trace) (x : ItemValue) (f d o f' d' o' rf rd : Bool) (a b c g : ℕ)
    → PairingsLeft e p all t r f d o a b → Draws t (gives x) t' b c → PairingSeen e (p x) r rf rd c g
    → f' ≡ f || rf → e && f' ≡ true → PairingsSeen e p all r f' d' o' a g
pairings_stop e p all t t' r x f d o f' d' o' rf rd a b c g k w s ef h =
    let shape = draw_item t t' x b c w in
    let halts : e && (f || rf) ≡ true = ap (λ z. e && z) (sym ef) ∙ h in
    let pairing : e && pairing_true (p x) r ≡ true = ap (λ z. e && z) (sym s.finds) ∙ halts_later e f rf k.quiet halts in
    let found : pairings_true p t r ≡ rf || pairings_true p t' r = ap (λ u. pairings_true p u r) shape ∙ pairings_true-after_visits p (visits_to_first t) (give x t') r ∙ ap (λ z. z || pairings_true p t' r) (sym s.finds) in
    let cost : pairings_cost e p t r ≡ visits_to_first t + (pairing_cost e (p x) r + 0) =
    ap (λ u. pairings_cost e p u r) shape ∙ pairings_cost-after_visits e p (visits_to_first t) (give x t') r ∙ ap (λ z. visits_to_first t + (pairing_cost e (p x) r + cond z 0 (pairings_cost e p t' r))) pairing in
    let is : f || rf ≡ true = halt_is e f rf halts in
    record {
      finds = ef ∙ is ∙ sym (sym k.finds ∙ ap (λ z. f || z) found ∙ true_then f rf (pairings_true p t' r) is);
      doubts = λ q. absurd (cc);
      somes = λ q. absurd (cc);
      costs = omega (arith, cost, w.costs, s.costs, k.costs);
    }

pub pairings_end : (e : Bool) (p : PairTruth) (all t t' r : Trace) (f d o : Bool) (a b c : ℕ) → PairingsLeft e p all t r f d o a b → Draws t ends t' b c → PairingsSeen e p all r f d o a c
pairings_end e p all t t' r f d o a b c k w =
    let shape = draw_end t t' b c w in
    let found : pairings_true p t r ≡ false = ap (λ u. pairings_true p u r) shape ∙ pairings_true-after_visits p (visits_to_first t) stop r in
    let doubt : pairings_doubt p t r ≡ false = ap (λ u. pairings_doubt p u r) shape ∙ pairings_doubt-after_visits p (visits_to_first t) stop r in
    let some : has_item t ≡ false = ap has_item shape ∙ has_item-after_visits (visits_to_first t) stop in
    let cost : pairings_cost e p t r ≡ visits_to_first t + 0 = ap (λ u. pairings_cost e p u r) shape ∙ pairings_cost-after_visits e p (visits_to_first t) stop r in
    record {
      finds = sym (or_false f) ∙ ap (λ z. f || z) (sym found) ∙ k.finds;
      doubts = λ q. sym (or_false d) ∙ ap (λ z. d || z) (sym doubt) ∙ k.doubts;
      somes = λ q. sym (or_false o) ∙ ap (λ z. o || z) (sym some) ∙ k.somes;
      costs = omega (arith, cost, w.costs, k.costs);
    }

pub pairings_fault : (e : Bool) (p : PairTruth) (all t t' r : Trace) (s : State) (f d o : Bool) (a b c : ℕ) → PairingsLeft e p all t r f d o a b → Draws t (faults s) t' b c → PairingsSeen e p all r f true o a c
pairings_fault e p all t t' r s f d o a b c k w =
    let shape = draw_fault t t' s b c w in
    let found : pairings_true p t r ≡ false = ap (λ u. pairings_true p u r) shape ∙ pairings_true-after_visits p (visits_to_first t) (fail s) r in
    let doubt : pairings_doubt p t r ≡ true = ap (λ u. pairings_doubt p u r) shape ∙ pairings_doubt-after_visits p (visits_to_first t) (fail s) r in
    let some : has_item t ≡ false = ap has_item shape ∙ has_item-after_visits (visits_to_first t) (fail s) in
    let cost : pairings_cost e p t r ≡ visits_to_first t + 0 = ap (λ u. pairings_cost e p u r) shape ∙ pairings_cost-after_visits e p (visits_to_first t) (fail s) r in
    record {
      finds = sym (or_false f) ∙ ap (λ z. f || z) (sym found) ∙ k.finds;
      doubts = λ q. sym (or_true d) ∙ ap (λ z. d || z) (sym doubt) ∙ k.doubts;
      somes = λ q. sym (or_false o) ∙ ap (λ z. o || z) (sym some) ∙ k.somes;
      costs = omega (arith, cost, w.costs, k.costs);
    }
