-- Going through a trace until enough was found tells whether it has an item, its one item, and its fault.
use Rattle.std.proofs.Common.{◌≡◌, ℕ, zero, suc, ◌+◌, ◌≤◌, ◌∷◌, Bool, true, false, cond, Option, Some, None, Ok, ap, sym, ◌∙◌, refl, arith}
use Rattle.std.specs.Prelude.{is_some, nat_le, nat_lt}
use Rattle.std.proofs.lemmas.Bool.Decides.{nat_tests}
use Rattle.sj_base.specs.Count.{raised}
use Rattle.sj_base.specs.declared.state.State.{State}
use Rattle.sj_path_tree.specs.declared.parts.Mode.{Mode}
use Rattle.sj_path_tree.specs.declared.parts.Mode.TheVariants.{Lax, Strict}
use Rattle.sj_item.specs.Items.{ItemValue, gives, ends, faults}
use Rattle.sj_item.specs.Truths.{truth_of}
use Rattle.sj_item.specs.declared.truth.Truth.{Truth}
use Rattle.sj_step.specs.Trace.{Trace, stop, fail, visit, give, after_visits, items, count, visits, visits_before, fault_of, visits_to_first}
use Rattle.sj_cursor.specs.Single.{need, bad, of_items, unless_fault, single}
use Rattle.sj_cursor.specs.Verdicts.{exists_truth, exists_verdict, is_faulty, has_item}
use Rattle.sj_cursor.specs.Draws.{Draws}
use Rattle.sj_cursor.specs.Decides.{Decides}
use Rattle.sj_cursor.specs.Answers.{unless_faulty, exists_answer, answer_in}
use Rattle.sj_plain_path.specs.Looks.{Found, none_found, one_found, several_found, Look, more, is_enough, looked, look_cost, Finds, limit_of_exists, limit_of_single, is_found, truth_unless, exists_in}
use Rattle.sj_cursor.specs.Looks.{single_found, single_in}
use Rattle.sj_plain_path.specs.declared.look.Limit.{Limit}
use Rattle.sj_plain_path.specs.declared.look.Limit.TheVariants as limits
use Rattle.sj_cursor.proofs.Draws.{draw_item, draw_end, draw_fault}

-- ---- draw by draw

pub looked-after_visits : (limit : Limit) (f : Found) (n : ℕ) (t : Trace) → looked limit f (after_visits n t) ≡ looked limit f t
looked-after_visits limit f zero t = refl
looked-after_visits limit f (suc n) t = looked-after_visits limit f n t

pub cost-after_visits : (limit : Limit) (f : Found) (n : ℕ) (t : Trace) → look_cost limit f (after_visits n t) ≡ n + look_cost limit f t
cost-after_visits limit f zero t = omega arith
cost-after_visits limit f (suc n) t = omega (arith, cost-after_visits limit f n t)

-- what was found so far, and what is left to find
pub record Looking (limit : Limit) (all : Trace) (f : Found) (left : Trace) (a b : ℕ) : Type 0 where
  pub same : looked limit f left ≡ looked limit none_found all
  pub costs : raised b (look_cost limit f left) ≤ raised a (look_cost limit none_found all)

pub looking_from : (limit : Limit) (t u : Trace) (a : ℕ) → u ≡ t → Looking limit t none_found u a a
looking_from limit t u a e = rw e (record { same = refl; costs = omega arith })

pub looking_on : (limit : Limit) (all t t' : Trace) (f g : Found) (x : ItemValue) (a b c : ℕ)
    → Looking limit all f t a b → Draws t (gives x) t' b c → g ≡ more f x → is_enough limit g ≡ false → Looking limit all g t' a c
looking_on limit all t t' f g x a b c k d eg e =
    let shape = draw_item t t' x b c d in
    let less : is_enough limit (more f x) ≡ false = ap (is_enough limit) (sym eg) ∙ e in
    let now : looked limit f t ≡ looked limit g t' =
    ap (looked limit f) shape ∙ looked-after_visits limit f (visits_to_first t) (give x t') ∙ ap (λ q. cond q (record { found = more f x; fault = None }) (looked limit (more f x) t')) less
    ∙ ap (λ h. looked limit h t') (sym eg) in
    let cost : look_cost limit f t ≡ visits_to_first t + look_cost limit g t' =
    ap (look_cost limit f) shape ∙ cost-after_visits limit f (visits_to_first t) (give x t') ∙ ap (λ q. visits_to_first t + cond q 0 (look_cost limit (more f x) t')) less
    ∙ ap (λ h. visits_to_first t + look_cost limit h t') (sym eg) in
    record { same = sym now ∙ k.same; costs = omega (arith, cost, d.costs, k.costs) }

pub looking_enough : (limit : Limit) (all t t' : Trace) (f g : Found) (x : ItemValue) (a b c : ℕ)
    → Looking limit all f t a b → Draws t (gives x) t' b c → g ≡ more f x → is_enough limit g ≡ true → Finds limit all (record { found = g; fault = None }) a c
looking_enough limit all t t' f g x a b c k d eg e =
    let shape = draw_item t t' x b c d in
    let full : is_enough limit (more f x) ≡ true = ap (is_enough limit) (sym eg) ∙ e in
    let now : looked limit f t ≡ record { found = g; fault = None } =
    ap (looked limit f) shape ∙ looked-after_visits limit f (visits_to_first t) (give x t') ∙ ap (λ q. cond q (record { found = more f x; fault = None }) (looked limit (more f x) t')) full
    ∙ ap (λ h. record { found = h; fault = None }) (sym eg) in
    let cost : look_cost limit f t ≡ visits_to_first t + 0 =
    ap (look_cost limit f) shape ∙ cost-after_visits limit f (visits_to_first t) (give x t') ∙ ap (λ q. visits_to_first t + cond q 0 (look_cost limit (more f x) t')) full in
    record { finds = sym now ∙ k.same; costs = omega (arith, cost, d.costs, k.costs) }

pub looking_end : (limit : Limit) (all t t' : Trace) (f : Found) (a b c : ℕ) → Looking limit all f t a b → Draws t ends t' b c → Finds limit all (record { found = f; fault = None }) a c
looking_end limit all t t' f a b c k d =
    let shape = draw_end t t' b c d in
    let now : looked limit f t ≡ record { found = f; fault = None } = ap (looked limit f) shape ∙ looked-after_visits limit f (visits_to_first t) stop in
    let cost : look_cost limit f t ≡ visits_to_first t + 0 = ap (look_cost limit f) shape ∙ cost-after_visits limit f (visits_to_first t) stop in
    record { finds = sym now ∙ k.same; costs = omega (arith, cost, d.costs, k.costs) }

pub looking_fault : (limit : Limit) (all t t' : Trace) (f : Found) (s : State) (a b c : ℕ) → Looking limit all f t a b → Draws t (faults s) t' b c → Finds limit all (record { found = f; fault = Some s }) a c
looking_fault limit all t t' f s a b c k d =
    let shape = draw_fault t t' s b c d in
    let now : looked limit f t ≡ record { found = f; fault = Some s } = ap (looked limit f) shape ∙ looked-after_visits limit f (visits_to_first t) (fail s) in
    let cost : look_cost limit f t ≡ visits_to_first t + 0 = ap (look_cost limit f) shape ∙ cost-after_visits limit f (visits_to_first t) (fail s) in
    record { finds = sym now ∙ k.same; costs = omega (arith, cost, d.costs, k.costs) }

-- ---- to the end

end_fault : (f : Found) (t : Trace) → (looked limits.End f t).fault ≡ fault_of t
end_fault f stop = refl
end_fault f (fail s) = refl
end_fault f (visit t) = end_fault f t
end_fault f (give x t) = end_fault (more f x) t

end_cost : (f : Found) (t : Trace) → look_cost limits.End f t ≡ visits t
end_cost f stop = refl
end_cost f (fail s) = refl
end_cost f (visit t) = ap suc (end_cost f t)
end_cost f (give x t) = end_cost (more f x) t

several_stay : (t : Trace) → (looked limits.End several_found t).found ≡ several_found
several_stay stop = refl
several_stay (fail s) = refl
several_stay (visit t) = several_stay t
several_stay (give x t) = several_stay t

end_single_more : (s : State) (x : ItemValue) (t : Trace) → single_found s (looked limits.End (one_found x) t).found ≡ of_items s (x ∷ items t)
end_single_more s x stop = refl
end_single_more s x (fail f) = refl
end_single_more s x (visit t) = end_single_more s x t
end_single_more s x (give y t) = ap (single_found s) (several_stay t)

end_single : (s : State) (t : Trace) → single_found s (looked limits.End none_found t).found ≡ of_items s (items t)
end_single s stop = refl
end_single s (fail f) = refl
end_single s (visit t) = end_single s t
end_single s (give x t) = end_single_more s x t

end_found_more : (f : Found) (t : Trace) → is_found f ≡ true → is_found (looked limits.End f t).found ≡ true
end_found_more f stop e = e
end_found_more f (fail s) e = e
end_found_more f (visit t) e = end_found_more f t e
end_found_more none_found (give x t) e = end_found_more (one_found x) t refl
end_found_more (one_found y) (give x t) e = end_found_more several_found t refl
end_found_more several_found (give x t) e = end_found_more several_found t refl

some_count : (n : ℕ) → nat_lt 0 (suc n) ≡ true
some_count n = grind (arith, nat_tests)

end_found : (t : Trace) → is_found (looked limits.End none_found t).found ≡ has_item t
end_found stop = refl
end_found (fail s) = refl
end_found (visit t) = end_found t
end_found (give x t) = end_found_more (one_found x) t refl ∙ sym (some_count (count t))

-- ---- exists

unless_of : (o : Option State) (b : Bool) → truth_unless o b ≡ cond (is_some o) Truth.Unknown (truth_of b)
unless_of None b = refl
unless_of (Some s) b = refl

lax_exists : (t : Trace) → exists_in (looked limits.First none_found t) ≡ exists_truth Lax t
lax_exists stop = refl
lax_exists (fail s) = refl
lax_exists (visit t) = lax_exists t
lax_exists (give x t) = ap (λ b. cond b Truth.True (cond (is_faulty t) Truth.Unknown Truth.False)) (sym (some_count (count t)))

lax_exists_cost : (t : Trace) → look_cost limits.First none_found t ≡ visits_before 1 t
lax_exists_cost stop = refl
lax_exists_cost (fail s) = refl
lax_exists_cost (visit t) = ap suc (lax_exists_cost t)
lax_exists_cost (give x t) = refl

exists_is : (mode : Mode) (t : Trace) → exists_in (looked (limit_of_exists mode) none_found t) ≡ exists_truth mode t
exists_is Lax t = lax_exists t
exists_is Strict t =
    unless_of (looked limits.End none_found t).fault (is_found (looked limits.End none_found t).found)
    ∙ ap (λ o. cond (is_some o) Truth.Unknown (truth_of (is_found (looked limits.End none_found t).found))) (end_fault none_found t)
    ∙ ap (λ b. cond (is_faulty t) Truth.Unknown (truth_of b)) (end_found t)

exists_cost : (mode : Mode) (t : Trace) → look_cost (limit_of_exists mode) none_found t ≡ need mode 1 t
exists_cost Lax t = lax_exists_cost t
exists_cost Strict t = end_cost none_found t

pub exists_decides : (mode : Mode) (t : Trace) (look : Look) (truth : Truth) (a b : ℕ) → Finds (limit_of_exists mode) t look a b → truth ≡ exists_in look → Decides (exists_verdict mode t) truth a b
unfolding exists_verdict
exists_decides mode t look truth a b k e = record {
  answers = e ∙ ap exists_in k.finds ∙ exists_is mode t;
  costs = omega (arith, exists_cost mode t, k.costs);
}

-- ---- the single item

two_count : (n : ℕ) → nat_le 2 (suc (suc n)) ≡ true
two_count n = grind (arith, nat_tests)

lax_single_more : (s : State) (x : ItemValue) (t : Trace) → single_in s (looked limits.Second (one_found x) t) ≡ single Lax s (give x t)
lax_single_more s x stop = refl
lax_single_more s x (fail f) = refl
lax_single_more s x (visit t) = lax_single_more s x t
lax_single_more s x (give y t) = ap (λ b. cond b (bad s) (unless_fault (fault_of t) (bad s))) (sym (two_count (count t)))

lax_single : (s : State) (t : Trace) → single_in s (looked limits.Second none_found t) ≡ single Lax s t
lax_single s stop = refl
lax_single s (fail f) = refl
lax_single s (visit t) = lax_single s t
lax_single s (give x t) = lax_single_more s x t

lax_single_cost_more : (x : ItemValue) (t : Trace) → look_cost limits.Second (one_found x) t ≡ visits_before 1 t
lax_single_cost_more x stop = refl
lax_single_cost_more x (fail f) = refl
lax_single_cost_more x (visit t) = ap suc (lax_single_cost_more x t)
lax_single_cost_more x (give y t) = refl

lax_single_cost : (t : Trace) → look_cost limits.Second none_found t ≡ visits_before 2 t
lax_single_cost stop = refl
lax_single_cost (fail f) = refl
lax_single_cost (visit t) = ap suc (lax_single_cost t)
lax_single_cost (give x t) = lax_single_cost_more x t

single_is : (mode : Mode) (s : State) (t : Trace) → single_in s (looked (limit_of_single mode) none_found t) ≡ single mode s t
single_is Lax s t = lax_single s t
single_is Strict s t =
    ap (λ o. unless_fault o (single_found s (looked limits.End none_found t).found)) (end_fault none_found t)
    ∙ ap (unless_fault (fault_of t)) (end_single s t)

single_cost : (mode : Mode) (t : Trace) → look_cost (limit_of_single mode) none_found t ≡ need mode 2 t
single_cost Lax t = lax_single_cost t
single_cost Strict t = end_cost none_found t

pub single_answer : (mode : Mode) (s : State) (t : Trace) (look : Look) (a b : ℕ) → Finds (limit_of_single mode) t look a b → single_in s look ≡ single mode s t
single_answer mode s t look a b k = ap (single_in s) k.finds ∙ single_is mode s t

pub single_price : (mode : Mode) (t : Trace) (look : Look) (a b : ℕ) → Finds (limit_of_single mode) t look a b → b ≤ raised a (need mode 2 t)
single_price mode t look a b k = omega (arith, single_cost mode t, k.costs)

-- ---- the end

pub end_answer : (t : Trace) (look : Look) (a b : ℕ) → Finds limits.End t look a b → is_some look.fault ≡ is_faulty t
end_answer t look a b k = ap (λ l. is_some l.fault) k.finds ∙ ap is_some (end_fault none_found t)

pub end_price : (t : Trace) (look : Look) (a b : ℕ) → Finds limits.End t look a b → b ≤ raised a (visits t)
end_price t look a b k = omega (arith, end_cost none_found t, k.costs)

-- ---- whether there is an item, with the fault that leaves this open

lax_answer : (t : Trace) → answer_in (looked limits.First none_found t) ≡ exists_answer Lax t
lax_answer stop = refl
lax_answer (fail s) = refl
lax_answer (visit t) = lax_answer t
lax_answer (give x t) = ap (λ b. cond b (Ok true) (unless_faulty (fault_of t) false)) (sym (some_count (count t)))

answer_is : (mode : Mode) (t : Trace) → answer_in (looked (limit_of_exists mode) none_found t) ≡ exists_answer mode t
answer_is Lax t = lax_answer t
answer_is Strict t =
    ap (λ o. unless_faulty o (is_found (looked limits.End none_found t).found)) (end_fault none_found t)
    ∙ ap (unless_faulty (fault_of t)) (end_found t)

pub exists_answers : (mode : Mode) (t : Trace) (look : Look) (a b : ℕ) → Finds (limit_of_exists mode) t look a b → answer_in look ≡ exists_answer mode t
exists_answers mode t look a b k = ap answer_in k.finds ∙ answer_is mode t

pub exists_price : (mode : Mode) (t : Trace) (look : Look) (a b : ℕ) → Finds (limit_of_exists mode) t look a b → b ≤ raised a (need mode 1 t)
exists_price mode t look a b k = omega (arith, exists_cost mode t, k.costs)
