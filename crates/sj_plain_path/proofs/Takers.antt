-- What is taken of a trace is what is looked for in it, and what is seen of its pairing.
use Rattle.std.specs.Prelude.{if◌then◌else◌, is_some}
use Rattle.std.proofs.Common.{◌≡◌, ℕ, zero, suc, ◌+◌, ◌≤◌, Bool, true, false, ◌||◌, ◌&&◌, Option, None, ap, sym, ◌∙◌, refl, arith}
use Rattle.sj_base.specs.Count.{raised}
use Rattle.sj_base.specs.declared.state.State.{State}
use Rattle.sj_item.specs.Items.{ItemValue}
use Rattle.sj_step.specs.Trace.{Trace, stop, fail, visit, give, after_visits}
use Rattle.sj_step.proofs.Traces.{join-stop}
use Rattle.sj_plain_path.specs.Chains.{Sought}
use Rattle.sj_plain_path.specs.Truths.{is_true, is_unknown}
use Rattle.sj_plain_path.specs.Looks.{Found, none_found, Look, more, is_enough, looked, look_cost, Finds}
use Rattle.sj_plain_path.specs.Pairings.{ItemTruth, pairing_true, pairing_doubt, pairing_cost, PairingSeen}
use Rattle.sj_plain_path.specs.Takers.{Taken, looking, testing, taken_of, taking_cost}
use Rattle.sj_plain_path.specs.declared.look.Limit.{Limit}

pub taken-after_visits : (k : Taken) (n : ℕ) (t : Trace) → taken_of k (after_visits n t) ≡ taken_of k t
taken-after_visits k zero t = refl
taken-after_visits k (suc n) t = taken-after_visits k n t

pub taking-after_visits : (k : Taken) (n : ℕ) (t : Trace) → taking_cost k (after_visits n t) ≡ n + taking_cost k t
taking-after_visits k zero t = omega arith
taking-after_visits k (suc n) t = omega (arith, taking-after_visits k n t)

-- ---- what is looked for

abbrev look_taken : Limit → Look → Taken × Option State
look_taken limit l = (looking limit l.found, l.fault)

look_step : (limit : Limit) (f : Found) (b : Bool) (k : Taken × Option State) (l : Look) → k ≡ look_taken limit l
    → (if b then (looking limit f, None) else k) ≡ look_taken limit (if b then record { found = f; fault = None } else l)
look_step limit f true k l e = refl
look_step limit f false k l e = e

looks_taken : (limit : Limit) (f : Found) (t : Trace) → taken_of (looking limit f) t ≡ look_taken limit (looked limit f t)
looks_taken limit f stop = refl
looks_taken limit f (fail s) = refl
looks_taken limit f (visit t) = looks_taken limit f t
looks_taken limit f (give x t) = look_step limit (more f x) (is_enough limit (more f x)) _ _ (looks_taken limit (more f x) t)

looks_cost : (limit : Limit) (f : Found) (t : Trace) → taking_cost (looking limit f) t ≡ look_cost limit f t
looks_cost limit f stop = refl
looks_cost limit f (fail s) = refl
looks_cost limit f (visit t) = ap suc (looks_cost limit f t)
looks_cost limit f (give x t) = ap (λ n. if is_enough limit (more f x) then 0 else n) (looks_cost limit (more f x) t)

abbrev found_in : Taken → Found
found_in (looking limit f) = f
found_in (testing early test found doubt) = none_found

abbrev look_in : Taken × Option State → Look
look_in p = record { found = found_in p.0; fault = p.1 }

-- to the end, or until it was enough
whole_taken : (f g : Taken) (t : Trace) (enough : Bool) (a b : ℕ) → Sought f t g enough a b → taken_of f t ≡ (g, None)
whole_taken f g t true a b s = ap (taken_of f) (sym (join-stop t)) ∙ s.finds stop
whole_taken f g t false a b s = ap (taken_of f) (sym (join-stop t)) ∙ s.finds stop

whole_cost : (f g : Taken) (t : Trace) (enough : Bool) (a b : ℕ) → Sought f t g enough a b → b ≤ raised a (taking_cost f t)
whole_cost f g t true a b s = omega (arith, s.costs stop, ap (taking_cost f) (join-stop t))
whole_cost f g t false a b s = omega (arith, s.costs stop, ap (taking_cost f) (join-stop t))

pub look_sought : (limit : Limit) (f g : Found) (t : Trace) (enough : Bool) (a b : ℕ)
    → f ≡ none_found → Sought (looking limit f) t (looking limit g) enough a b → Finds limit t (record { found = g; fault = None }) a b
look_sought limit f g t enough a b e s =
    let here : Sought (looking limit none_found) t (looking limit g) enough a b = rw e at s in
    record {
      finds = sym (ap look_in (whole_taken _ _ _ _ _ _ here)) ∙ ap look_in (looks_taken limit none_found t);
      costs = omega (arith, whole_cost _ _ _ _ _ _ here, looks_cost limit none_found t);
    }

-- ---- what is seen of a pairing

abbrev true_in : Taken → Bool
true_in (looking limit f) = false
true_in (testing early test found doubt) = found

abbrev doubt_in : Taken → Bool
doubt_in (looking limit f) = false
doubt_in (testing early test found doubt) = doubt

or_assoc : (a b c : Bool) → (a || b) || c ≡ a || (b || c)
or_assoc true b c = refl
or_assoc false b c = refl

or_false : (a : Bool) → a || false ≡ a
or_false true = refl
or_false false = refl

or_true : (a : Bool) → a || true ≡ true
or_true true = refl
or_true false = refl

quiet_so_far : (e : Bool) → e && false ≡ false
quiet_so_far true = refl
quiet_so_far false = refl

halts_alike : (e f q : Bool) → e && f ≡ false → e && (f || q) ≡ e && q
halts_alike true true q h = cc
halts_alike true false q h = refl
halts_alike false f q h = refl

halted : (e a b : Bool) → e && a ≡ true → a ≡ a || b
halted true true b h = refl
halted true false b h = cc
halted false a b h = cc

-- what was taken of a pairing from found and doubt on
record PairingTaken (early : Bool) (test : ItemTruth) (found doubt : Bool) (t : Trace) (p : Taken × Option State) : Type 0 where
  finds : true_in p.0 ≡ found || pairing_true test t
  doubts : early && true_in p.0 ≡ false → doubt_in p.0 || is_some p.1 ≡ doubt || pairing_doubt test t

pairing_step : (early : Bool) (test : ItemTruth) (f d f' d' : Bool) (x : ItemValue) (t : Trace) (b : Bool) (p : Taken × Option State)
    → f' ≡ f || is_true (test x) → d' ≡ d || is_unknown (test x) → early && f' ≡ b
    → (early && f' ≡ false → PairingTaken early test f' d' t p)
    → PairingTaken early test f d (give x t) (if b then (testing early test f' d', None) else p)
pairing_step early test f d f' d' x t true p ef ed h k = record {
  finds = halted early f' (pairing_true test t) h ∙ ap (λ u. u || pairing_true test t) ef ∙ or_assoc f (is_true (test x)) (pairing_true test t);
  doubts = λ q. absurd (cc);
}
pairing_step early test f d f' d' x t false p ef ed h k = record {
  finds = (k h).finds ∙ ap (λ u. u || pairing_true test t) ef ∙ or_assoc f (is_true (test x)) (pairing_true test t);
  doubts = λ q. (k h).doubts q ∙ ap (λ u. u || pairing_doubt test t) ed ∙ or_assoc d (is_unknown (test x)) (pairing_doubt test t);
}

pairing_taken : (early : Bool) (test : ItemTruth) (f d : Bool) (t : Trace) → PairingTaken early test f d t (taken_of (testing early test f d) t)
pairing_taken early test f d stop = record { finds = sym (or_false f); doubts = λ q. refl }
pairing_taken early test f d (fail s) = record { finds = sym (or_false f); doubts = λ q. refl }
pairing_taken early test f d (visit t) =
    let later = pairing_taken early test f d t in
    record { finds = later.finds; doubts = later.doubts }
pairing_taken early test f d (give x t) =
    pairing_step early test f d (f || is_true (test x)) (d || is_unknown (test x)) x t (early && (f || is_true (test x))) _ refl refl refl
    (λ h. pairing_taken early test (f || is_true (test x)) (d || is_unknown (test x)) t)

price_step : (b : Bool) (m n : ℕ) → (b ≡ false → m ≡ n) → (if b then 0 else m) ≡ (if b then 0 else n)
price_step true m n k = refl
price_step false m n k = k refl

pairing_price : (early : Bool) (test : ItemTruth) (f d : Bool) (t : Trace) → early && f ≡ false → taking_cost (testing early test f d) t ≡ pairing_cost early test t
pairing_price early test f d stop q = refl
pairing_price early test f d (fail s) q = refl
pairing_price early test f d (visit t) q = ap suc (pairing_price early test f d t q)
pairing_price early test f d (give x t) q =
    price_step (early && (f || is_true (test x))) _ _ (pairing_price early test (f || is_true (test x)) (d || is_unknown (test x)) t)
    ∙ ap (λ b. if b then 0 else pairing_cost early test t) (halts_alike early f (is_true (test x)) q)

pub pairing_sought : (early : Bool) (test : ItemTruth) (found doubt : Bool) (t : Trace) (enough : Bool) (a b : ℕ)
    → Sought (testing early test false false) t (testing early test found doubt) enough a b → PairingSeen early test t found doubt a b
pairing_sought early test found doubt t enough a b s =
    let all = pairing_taken early test false false t in
    let is = whole_taken _ _ _ _ _ _ s in
    let whole : PairingTaken early test false false t (testing early test found doubt, None) = rw is at all in
    record {
      finds = whole.finds;
      doubts = λ q. sym (or_false doubt) ∙ whole.doubts q;
      costs = omega (arith, whole_cost _ _ _ _ _ _ s, pairing_price early test false false t (quiet_so_far early));
    }
