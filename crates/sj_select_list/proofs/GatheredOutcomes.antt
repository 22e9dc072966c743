-- Outcomes that are gathered in a loop, up to the first that raises a state.
use Rattle.std.proofs.Common.{◌≡◌, ◌≤◌, ◌<◌, ℕ, ◌+◌, List, [], ◌∷◌, ◌++◌, length, map, drop, set, get_or, Result, Ok, Err, refl, sym, ap, subst, ◌∙◌, arith, append_assoc}
use Rattle.std.specs.List.{All}
use Rattle.std.proofs.lemmas.List.Elements.{All-nil, All-append, All-cons}
use Rattle.std.proofs.lemmas.List.{append-nil, drop-map, drop-drop, drop-set-lt, drop_all, drop_more, get_or-drop, get_or-map, length-map}
use Rattle.sj_base.specs.Count.{raised}
use Rattle.sj_base.specs.declared.state.State.{State}
use Rattle.sj_value.specs.Values.{IsPrintable}
use Rattle.sj_value.specs.declared.value.SqlValue.{SqlValue}
use Rattle.sj_func.specs.Functions.{IsPrinted}
use Rattle.sj_func.specs.declared.context.Outcome.{Outcome}
use Rattle.sj_func.specs.declared.context.Outcome.TheVariants.{Value, Raised}
use Rattle.sj_select_list.specs.Values.{value_before, unless_raised, each_value, each_cost}

-- these values, and then those that are left, or their state
abbrev pub behind : List SqlValue → Result (List SqlValue) State → Result (List SqlValue) State
behind vs (Ok ws) = Ok (vs ++ ws)
behind vs (Err s) = Err s

pub behind-nil : (r : Result (List SqlValue) State) → behind [] r ≡ r
behind-nil (Ok ws) = refl
behind-nil (Err s) = refl

behind-more : (vs : List SqlValue) (v : SqlValue) (r : Result (List SqlValue) State) → behind vs (value_before (Value v) r) ≡ behind (vs ++ v ∷ []) r
behind-more vs v (Ok ws) = ap Ok (sym (append_assoc vs (v ∷ []) ws))
behind-more vs v (Err s) = refl

-- a place of a list that is seen through a function
pub place : {A B : Type 0} (seen : A → B) (xs : List A) (S : List B) (i : ℕ) (d : A) → i < length xs → map seen xs ≡ S → drop i S ≡ seen (get_or xs i d) ∷ drop (i + 1) S
place seen xs S i d within same =
    ap (drop i) (sym same) ∙ drop-map seen i xs ∙ ap (map seen) (drop_more xs i d within)
    ∙ ap (λ l. seen (get_or xs i d) ∷ l) (sym (drop-map seen (i + 1) xs) ∙ ap (drop (i + 1)) same)

-- what can be printed, and one value more
pub one_more : (vs ws : List SqlValue) (o : Outcome) (v : SqlValue) → All IsPrintable vs → IsPrinted o → o ≡ Value v → ws ≡ vs ++ v ∷ [] → All IsPrintable ws
one_more vs ws o v all printed is same =
    subst (All IsPrintable) (sym same) (All-append IsPrintable vs (v ∷ []) all (All-cons IsPrintable v [] (subst IsPrinted is printed) (All-nil IsPrintable)))

-- what holds of all that is seen holds at a place
pub held_at : {A B : Type 0} (seen : A → B) (P : B → Type 0) (xs : List A) (S : List B) (i : ℕ) (d : A) → i < length xs → map seen xs ≡ S → All P S → P (seen (get_or xs i d))
held_at seen P xs S i d within same all =
    let here : All P (map seen xs) = subst (λ l. All P l) (sym same) all in
    subst P (get_or-map seen xs i d (seen d) within) (here i (seen d) (omega (arith, length-map xs seen)))

-- ---- what is left of a list that is changed from left to right

pub left_at : {A : Type 0} (xs ys : List A) (i : ℕ) (d : A) → drop i xs ≡ drop i ys → get_or xs i d ≡ get_or ys i d
left_at xs ys i d same =
    let here : get_or xs (i + 0) d ≡ get_or ys (i + 0) d = sym (get_or-drop i xs 0 d) ∙ ap (λ l. get_or l 0 d) same ∙ get_or-drop i ys 0 d in
    let at : i + 0 ≡ i = omega arith in
    ap (λ k. get_or xs k d) (sym at) ∙ here ∙ ap (λ k. get_or ys k d) at

pub left_step : {A : Type 0} (xs ys : List A) (i : ℕ) (x : A) → drop i xs ≡ drop i ys → drop (i + 1) (set xs i x) ≡ drop (i + 1) ys
left_step xs ys i x same = drop-set-lt (i + 1) xs i x (omega arith) ∙ sym (drop-drop 1 i xs) ∙ ap (drop 1) same ∙ drop-drop 1 i ys

-- nothing is left behind the end
pub none_left : {A B : Type 0} (seen : A → B) (xs : List A) (i : ℕ) → length xs ≤ i → drop i (map seen xs) ≡ []
none_left seen xs i end = drop_all i (map seen xs) (omega (arith, end, length-map xs seen))

module _ {A : Type 0} (f : A → Outcome) where
  -- ---- the values

  pub gather_step : (S : List A) (i : ℕ) (x : A) (vs : List SqlValue) (v : SqlValue) (whole : Result (List SqlValue) State) → drop i S ≡ x ∷ drop (i + 1) S → f x ≡ Value v
      → behind vs (each_value f (drop i S)) ≡ whole → behind (vs ++ v ∷ []) (each_value f (drop (i + 1) S)) ≡ whole
  gather_step S i x vs v whole first is all =
      sym (behind-more vs v (each_value f (drop (i + 1) S))) ∙ ap (λ (o : Outcome). behind vs (value_before o (each_value f (drop (i + 1) S)))) (sym is)
      ∙ ap (λ l. behind vs (each_value f l)) (sym first) ∙ all

  pub gather_stop : (S : List A) (i : ℕ) (x : A) (vs : List SqlValue) (s : State) (whole : Result (List SqlValue) State) → drop i S ≡ x ∷ drop (i + 1) S → f x ≡ Raised s
      → behind vs (each_value f (drop i S)) ≡ whole → whole ≡ Err s
  gather_stop S i x vs s whole first is all =
      sym all ∙ ap (λ l. behind vs (each_value f l)) first ∙ ap (λ (o : Outcome). behind vs (value_before o (each_value f (drop (i + 1) S)))) is

  pub gather_end : (S : List A) (i : ℕ) (vs : List SqlValue) (whole : Result (List SqlValue) State) → drop i S ≡ [] → behind vs (each_value f (drop i S)) ≡ whole → whole ≡ Ok vs
  gather_end S i vs whole none all = sym all ∙ ap (λ l. behind vs (each_value f l)) none ∙ ap Ok (append-nil vs)

  -- ---- a state behind values that are not kept

  pub state_step : (S : List A) (i : ℕ) (x : A) (v : SqlValue) (s : State) → drop i S ≡ x ∷ drop (i + 1) S → f x ≡ Value v → each_value f (drop (i + 1) S) ≡ Err s → each_value f (drop i S) ≡ Err s
  state_step S i x v s first is later =
      ap (each_value f) first ∙ ap (λ (o : Outcome). value_before o (each_value f (drop (i + 1) S))) is ∙ ap (value_before (Value v)) later

  pub state_here : (S : List A) (i : ℕ) (x : A) (s : State) → drop i S ≡ x ∷ drop (i + 1) S → f x ≡ Raised s → each_value f (drop i S) ≡ Err s
  state_here S i x s first is = ap (each_value f) first ∙ ap (λ (o : Outcome). value_before o (each_value f (drop (i + 1) S))) is

  -- ---- the steps

  module _ (c : A → ℕ) where
    pub cost_step : (S : List A) (i : ℕ) (x : A) (v : SqlValue) (m n whole : ℕ) → drop i S ≡ x ∷ drop (i + 1) S → f x ≡ Value v → n ≤ raised m (c x)
        → raised m (each_cost f c (drop i S)) ≤ whole → raised n (each_cost f c (drop (i + 1) S)) ≤ whole
    cost_step S i x v m n whole first is spent all =
        let same : each_cost f c (drop i S) ≡ c x + each_cost f c (drop (i + 1) S) =
        ap (each_cost f c) first ∙ ap (λ (o : Outcome). c x + unless_raised o (each_cost f c (drop (i + 1) S))) is in
        omega (arith, same, spent, all)

    pub cost_stop : (S : List A) (i : ℕ) (x : A) (m n whole : ℕ) → drop i S ≡ x ∷ drop (i + 1) S → n ≤ raised m (c x) → raised m (each_cost f c (drop i S)) ≤ whole → n ≤ whole
    cost_stop S i x m n whole first spent all =
        let same : each_cost f c (drop i S) ≡ c x + unless_raised (f x) (each_cost f c (drop (i + 1) S)) = ap (each_cost f c) first in
        omega (arith, same, spent, all)
