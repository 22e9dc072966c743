-- Laws of traces, for those that take a trace item by item.
use Rattle.std.proofs.Common.{◌≡◌, ℕ, zero, suc, ◌+◌, ◌∷◌, ◌++◌, length, ap, sym, ◌∙◌, refl, arith, None}
use Rattle.sj_base.specs.declared.state.State.{State}
use Rattle.sj_item.specs.Items.{ItemValue, gives, ends, faults}
use Rattle.sj_step.specs.Trace.{Trace, stop, fail, visit, give, only, after_visits, join, each, items, count, visits, fault_of, visits_before, first, rest, visits_to_first}

-- ---- shapes: a trace is its visits, and then its first item or its end

pub shape_item : (t : Trace) (x : ItemValue) → first t ≡ gives x → t ≡ after_visits (visits_to_first t) (give x (rest t))
shape_item stop x e = cc
shape_item (fail s) x e = cc
shape_item (visit t) x e = ap visit (shape_item t x e)
shape_item (give y t) x e = let same : y ≡ x = cc in ap (λ z. give z t) same

pub shape_end : (t : Trace) → first t ≡ ends → t ≡ after_visits (visits_to_first t) stop
shape_end stop e = refl
shape_end (fail s) e = cc
shape_end (visit t) e = ap visit (shape_end t e)
shape_end (give x t) e = cc

pub shape_fault : (t : Trace) (s : State) → first t ≡ faults s → t ≡ after_visits (visits_to_first t) (fail s)
shape_fault stop s e = cc
shape_fault (fail r) s e = let same : r ≡ s = cc in ap fail same
shape_fault (visit t) s e = ap visit (shape_fault t s e)
shape_fault (give x t) s e = cc

-- ---- what visits before a trace change

pub first-after_visits : (n : ℕ) (t : Trace) → first (after_visits n t) ≡ first t
first-after_visits zero t = refl
first-after_visits (suc n) t = first-after_visits n t

pub rest-after_visits : (n : ℕ) (t : Trace) → rest (after_visits n t) ≡ rest t
rest-after_visits zero t = refl
rest-after_visits (suc n) t = rest-after_visits n t

pub visits_to_first-after_visits : (n : ℕ) (t : Trace) → visits_to_first (after_visits n t) ≡ n + visits_to_first t
visits_to_first-after_visits zero t = omega arith
visits_to_first-after_visits (suc n) t = omega (arith, visits_to_first-after_visits n t)

pub items-after_visits : (n : ℕ) (t : Trace) → items (after_visits n t) ≡ items t
items-after_visits zero t = refl
items-after_visits (suc n) t = items-after_visits n t

pub count-after_visits : (n : ℕ) (t : Trace) → count (after_visits n t) ≡ count t
count-after_visits zero t = refl
count-after_visits (suc n) t = count-after_visits n t

pub visits-after_visits : (n : ℕ) (t : Trace) → visits (after_visits n t) ≡ n + visits t
visits-after_visits zero t = omega arith
visits-after_visits (suc n) t = omega (arith, visits-after_visits n t)

pub fault-after_visits : (n : ℕ) (t : Trace) → fault_of (after_visits n t) ≡ fault_of t
fault-after_visits zero t = refl
fault-after_visits (suc n) t = fault-after_visits n t

pub visits_before-after_visits : (k n : ℕ) (t : Trace) → visits_before (suc k) (after_visits n t) ≡ n + visits_before (suc k) t
visits_before-after_visits k zero t = omega arith
visits_before-after_visits k (suc n) t = omega (arith, visits_before-after_visits k n t)

pub join-after_visits : (n : ℕ) (t u : Trace) → join (after_visits n t) u ≡ after_visits n (join t u)
join-after_visits zero t u = refl
join-after_visits (suc n) t u = ap visit (join-after_visits n t u)

pub each-after_visits : (n : ℕ) (t : Trace) (g : ItemValue → Trace) → each (after_visits n t) g ≡ after_visits n (each t g)
each-after_visits zero t g = refl
each-after_visits (suc n) t g = ap visit (each-after_visits n t g)

-- ---- join and each

pub join-stop : (t : Trace) → join t stop ≡ t
join-stop stop = refl
join-stop (fail s) = refl
join-stop (visit t) = ap visit (join-stop t)
join-stop (give x t) = ap (give x) (join-stop t)

pub join_assoc : (t u w : Trace) → join (join t u) w ≡ join t (join u w)
join_assoc stop u w = refl
join_assoc (fail s) u w = refl
join_assoc (visit t) u w = ap visit (join_assoc t u w)
join_assoc (give x t) u w = ap (give x) (join_assoc t u w)

pub each-join : (t u : Trace) (g : ItemValue → Trace) → each (join t u) g ≡ join (each t g) (each u g)
each-join stop u g = refl
each-join (fail s) u g = refl
each-join (visit t) u g = ap visit (each-join t u g)
each-join (give x t) u g = ap (join (g x)) (each-join t u g) ∙ sym (join_assoc (g x) (each t g) (each u g))

pub each_assoc : (t : Trace) (g h : ItemValue → Trace) → each (each t g) h ≡ each t (λ x. each (g x) h)
each_assoc stop g h = refl
each_assoc (fail s) g h = refl
each_assoc (visit t) g h = ap visit (each_assoc t g h)
each_assoc (give x t) g h = each-join (g x) (each t g) h ∙ ap (join (each (g x) h)) (each_assoc t g h)

pub each-only : (t : Trace) → each t only ≡ t
each-only stop = refl
each-only (fail s) = refl
each-only (visit t) = ap visit (each-only t)
each-only (give x t) = ap (give x) (each-only t)

-- `each` depends on what is made of an item alone
pub each_cong : (t : Trace) (g h : ItemValue → Trace) → ((x : ItemValue) → g x ≡ h x) → each t g ≡ each t h
each_cong stop g h e = refl
each_cong (fail s) g h e = refl
each_cong (visit t) g h e = ap visit (each_cong t g h e)
each_cong (give x t) g h e = ap (λ u. join u (each t g)) (e x) ∙ ap (λ u. join (h x) u) (each_cong t g h e)

-- ---- what they have

pub visits-join_stop : (t u : Trace) → fault_of t ≡ None → visits (join t u) ≡ visits t + visits u
visits-join_stop stop u e = omega arith
visits-join_stop (fail s) u e = cc
visits-join_stop (visit t) u e = omega (arith, visits-join_stop t u e)
visits-join_stop (give x t) u e = visits-join_stop t u e

pub items-join_stop : (t u : Trace) → fault_of t ≡ None → items (join t u) ≡ items t ++ items u
items-join_stop stop u e = refl
items-join_stop (fail s) u e = cc
items-join_stop (visit t) u e = items-join_stop t u e
items-join_stop (give x t) u e = ap (λ xs. x ∷ xs) (items-join_stop t u e)

pub count_is_length : (t : Trace) → count t ≡ length (items t)
count_is_length stop = refl
count_is_length (fail s) = refl
count_is_length (visit t) = count_is_length t
count_is_length (give x t) = omega (arith, count_is_length t)

pub visits_to_first_is_before : (t : Trace) → visits_to_first t ≡ visits_before 1 t
visits_to_first_is_before stop = refl
visits_to_first_is_before (fail s) = refl
visits_to_first_is_before (visit t) = ap suc (visits_to_first_is_before t)
visits_to_first_is_before (give x t) = refl

-- an item that is taken is one fewer
pub count-rest_item : (t : Trace) (x : ItemValue) → first t ≡ gives x → suc (count (rest t)) ≡ count t
count-rest_item stop x e = cc
count-rest_item (fail s) x e = cc
count-rest_item (visit t) x e = count-rest_item t x e
count-rest_item (give y t) x e = refl

pub visits-rest_item : (t : Trace) (x : ItemValue) → first t ≡ gives x → visits_to_first t + visits (rest t) ≡ visits t
visits-rest_item stop x e = cc
visits-rest_item (fail s) x e = cc
visits-rest_item (visit t) x e = omega (arith, visits-rest_item t x e)
visits-rest_item (give y t) x e = omega arith
