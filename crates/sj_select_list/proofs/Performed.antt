-- The operations of a value, performed, give the value.
use Rattle.std.proofs.Common.{◌≡◌, ℕ, ◌+◌, ◌-◌, Bool, List, [], ◌∷◌, ◌++◌, length, take, drop, Result, Ok, Err, refl, sym, ap, ap₂, ◌∙◌, arith, append_assoc, add_assoc, add-zero, zero-add, length-append}
use Rattle.std.proofs.lemmas.List.{append-nil}
use Rattle.std.proofs.Math.Seq.{drop-append_seam, take-append_seam}
use Rattle.sj_base.specs.declared.state.State.{State}
use Rattle.sj_value.specs.declared.clauses.Nulls.{Nulls}
use Rattle.sj_value.specs.declared.value.SqlValue.{SqlValue}
use Rattle.sj_func.specs.Functions.{exists_outcome, exists_cost, value_outcome, value_cost, query_outcome, query_cost}
use Rattle.sj_func.specs.declared.context.Outcome.{Outcome}
use Rattle.sj_func.specs.declared.context.Outcome.TheVariants.{Value, Raised}
use Rattle.sj_build.specs.Constructors.{array_value, object_value}
use Rattle.sj_build.specs.declared.field.Field.{Field}
use Rattle.sj_bound.specs.Bound as b
use Rattle.sj_select_list.specs.Line.{Line, context}
use Rattle.sj_select_list.specs.Operations.{OperationStep, object, array, member, steps_to, steps_to_values, steps_to_members, steps_to_all, value_count, member_count}
use Rattle.sj_select_list.specs.Performing.{StackView, put, last_of, before_last, paired, member_of, Performance, after, stopped, going_on, performed}
use Rattle.sj_select_list.specs.Values.{given, given_values, given_members, cost, values_cost, members_cost, value_before, member_before, unless_raised, trace_of, outcome_of, array_outcome, object_outcome, given_list, list_cost}

-- ---- costs

after-zero : (p : Performance) → after 0 p ≡ p
after-zero p = ap (λ (n : ℕ). let q : Performance = record { end = p.end; cost = n } in q) (zero-add p.cost)

after-after : (m n : ℕ) (p : Performance) → after m (after n p) ≡ after (m + n) p
after-after m n p = ap (λ (k : ℕ). let q : Performance = record { end = p.end; cost = k } in q) (sym (add_assoc m n p.cost))

-- ---- what comes behind an outcome, and behind a list

abbrev pub outcome_then : Outcome → (SqlValue → Performance) → Performance
outcome_then (Value v) more = more v
outcome_then (Raised s) more = stopped s

abbrev pub list_then : {X : Type 0} → Result (List X) State → (List X → Performance) → Performance
list_then (Ok xs) more = more xs
list_then (Err s) more = stopped s

-- with these values, or members, behind the others
abbrev pub with_values : List SqlValue → StackView → StackView
with_values vs h = record { values = h.values ++ vs; members = h.members }

abbrev pub with_members : List Field → StackView → StackView
with_members fs h = record { values = h.values; members = h.members ++ fs }

put_then : (o : Outcome) (h : StackView) (more : StackView → Performance) → going_on (put o h) more ≡ outcome_then o (λ v. more (with_values (v ∷ []) h))
put_then (Value v) h more = refl
put_then (Raised s) h more = refl

list_then_same : {X : Type 0} (r : Result (List X) State) (f g : List X → Performance) → ((xs : List X) → f xs ≡ g xs) → list_then r f ≡ list_then r g
list_then_same (Ok xs) f g e = e xs
list_then_same (Err s) f g e = refl

-- a value, and those behind it
join_values : (o : Outcome) (r : Result (List SqlValue) State) (m n : ℕ) (f : SqlValue → Performance) (g : List SqlValue → Performance)
    → ((v : SqlValue) → f v ≡ after n (list_then r (λ vs. g (v ∷ vs)))) → after m (outcome_then o f) ≡ after (m + unless_raised o n) (list_then (value_before o r) g)
join_values (Value v) (Ok vs) m n f g e = ap (after m) (e v) ∙ after-after m n (g (v ∷ vs))
join_values (Value v) (Err s) m n f g e = ap (after m) (e v) ∙ after-after m n (stopped s)
join_values (Raised s) r m n f g e = ap (λ (k : ℕ). after k (stopped s)) (sym (add-zero m))

-- a key and its value, and the members behind them
join_member : (p : Outcome) (r : Result (List Field) State) (key : SqlValue) (m n : ℕ) (f : SqlValue → Performance) (g : List Field → Performance)
    → ((v : SqlValue) → f v ≡ after n (list_then r (λ fs. g (record { key = key; value = v } ∷ fs)))) → after m (outcome_then p f) ≡ after (m + unless_raised p n) (list_then (member_before (Value key) p r) g)
join_member (Value v) (Ok fs) key m n f g e = ap (after m) (e v) ∙ after-after m n (g (record { key = key; value = v } ∷ fs))
join_member (Value v) (Err s) key m n f g e = ap (after m) (e v) ∙ after-after m n (stopped s)
join_member (Raised s) r key m n f g e = ap (λ (k : ℕ). after k (stopped s)) (sym (add-zero m))

join_members : (o p : Outcome) (r : Result (List Field) State) (l m n : ℕ) (f : SqlValue → Performance) (g : List Field → Performance)
    → ((key : SqlValue) → f key ≡ after (m + unless_raised p n) (list_then (member_before (Value key) p r) g))
    → after l (outcome_then o f) ≡ after (l + unless_raised o (m + unless_raised p n)) (list_then (member_before o p r) g)
join_members (Value key) p r l m n f g e = ap (after l) (e key) ∙ after-after l (m + unless_raised p n) (list_then (member_before (Value key) p r) g)
join_members (Raised s) p r l m n f g e = ap (λ (k : ℕ). after k (stopped s)) (sym (add-zero l))

-- ---- the last of a list

short : {X : Type 0} (xs ys : List X) (n : ℕ) → length ys ≡ n → length (xs ++ ys) - n ≡ length xs
short xs ys n e = omega (arith, e, length-append xs ys)

last_of-append : {X : Type 0} (xs ys : List X) (n : ℕ) → length ys ≡ n → last_of n (xs ++ ys) ≡ ys
last_of-append xs ys n e = ap (λ (k : ℕ). drop k (xs ++ ys)) (short xs ys n e) ∙ drop-append_seam xs ys

before_last-append : {X : Type 0} (xs ys : List X) (n : ℕ) → length ys ≡ n → before_last n (xs ++ ys) ≡ xs
before_last-append xs ys n e = ap (λ (k : ℕ). take k (xs ++ ys)) (short xs ys n e) ∙ take-append_seam xs ys

-- a key and a value that were put on become a member
paired_is : (h : StackView) (key v : SqlValue) → paired (with_values (v ∷ []) (with_values (key ∷ []) h)) ≡ with_members (record { key = key; value = v } ∷ []) h
paired_is h key v = held_is _ _ _ _ values (ap (λ (l : List SqlValue). h.members ++ member_of l) last)
  where
    both : h.values ++ key ∷ [] ++ v ∷ [] ≡ h.values ++ (key ∷ v ∷ [])
    both = append_assoc h.values (key ∷ []) (v ∷ [])

    values : before_last 2 (h.values ++ key ∷ [] ++ v ∷ []) ≡ h.values
    values = ap (before_last 2) both ∙ before_last-append h.values (key ∷ v ∷ []) 2 refl

    last : last_of 2 (h.values ++ key ∷ [] ++ v ∷ []) ≡ key ∷ v ∷ []
    last = ap (last_of 2) both ∙ last_of-append h.values (key ∷ v ∷ []) 2 refl

    held_is : (vs ws : List SqlValue) (fs gs : List Field) → vs ≡ ws → fs ≡ gs → let h : StackView = record { values = vs; members = fs } in let k : StackView = record { values = ws; members = gs } in h ≡ k
    held_is vs ws fs gs e f = cc

more_values : (v : SqlValue) (vs : List SqlValue) (h : StackView) → with_values vs (with_values (v ∷ []) h) ≡ with_values (v ∷ vs) h
more_values v vs h = ap (λ (l : List SqlValue). let k : StackView = record { values = l; members = h.members } in k) (append_assoc h.values (v ∷ []) vs)

more_members : (f : Field) (fs : List Field) (h : StackView) → with_members fs (with_members (f ∷ []) h) ≡ with_members (f ∷ fs) h
more_members f fs h = ap (λ (l : List Field). let k : StackView = record { values = h.values; members = l } in k) (append_assoc h.members (f ∷ []) fs)

no_values : (h : StackView) → with_values [] h ≡ h
no_values h = ap (λ (l : List SqlValue). let k : StackView = record { values = l; members = h.members } in k) (append-nil h.values)

no_members : (h : StackView) → with_members [] h ≡ h
no_members h = ap (λ (l : List Field). let k : StackView = record { values = h.values; members = l } in k) (append-nil h.members)

module _ (line : Line) (columns : List SqlValue) where
  -- ---- how many values and members there are

  more_count : (o : Outcome) (r : Result (List SqlValue) State) (vs : List SqlValue) (n : ℕ) → ((ws : List SqlValue) → r ≡ Ok ws → length ws ≡ n) → value_before o r ≡ Ok vs → length vs ≡ n + 1
  more_count (Value v) (Ok ws) vs n e is =
      let same : v ∷ ws ≡ vs = cc in
      omega (arith, ap length (sym same), e ws refl)
  more_count (Value v) (Err s) vs n e is = cc
  more_count (Raised s) r vs n e is = cc

  given_count : (xs : b.Values) (vs : List SqlValue) → given_values line columns xs ≡ Ok vs → length vs ≡ value_count xs
  given_count b.NoValues vs is =
      let same : [] ≡ vs = cc in
      ap length (sym same)
  given_count (b.MoreValues x others) vs is = more_count (given line columns x) (given_values line columns others) vs (value_count others) (given_count others) is

  more_member_count : (o p : Outcome) (r : Result (List Field) State) (fs : List Field) (n : ℕ) → ((gs : List Field) → r ≡ Ok gs → length gs ≡ n) → member_before o p r ≡ Ok fs → length fs ≡ n + 1
  more_member_count (Value key) (Value v) (Ok gs) fs n e is =
      let same : record { key = key; value = v } ∷ gs ≡ fs = cc in
      omega (arith, ap length (sym same), e gs refl)
  more_member_count (Value key) (Value v) (Err s) fs n e is = cc
  more_member_count (Value key) (Raised s) r fs n e is = cc
  more_member_count (Raised s) p r fs n e is = cc

  given_member_count : (ms : b.Members) (fs : List Field) → given_members line columns ms ≡ Ok fs → length fs ≡ member_count ms
  given_member_count b.NoMembers fs is =
      let same : [] ≡ fs = cc in
      ap length (sym same)
  given_member_count (b.MoreMembers key x others) fs is =
      more_member_count (given line columns key) (given line columns x) (given_members line columns others) fs (member_count others) (given_member_count others) is

  -- ---- constructors, behind what they are made of

  array_made : (on_null : Nulls) (n : ℕ) (r : Result (List SqlValue) State) (rest : List OperationStep) (h : StackView) → ((vs : List SqlValue) → r ≡ Ok vs → length vs ≡ n)
      → list_then r (λ vs. performed line columns (array n on_null ∷ rest) (with_values vs h)) ≡ outcome_then (array_outcome on_null r) (λ v. performed line columns rest (with_values (v ∷ []) h))
  array_made on_null n (Ok vs) rest h e =
      let put_on : List SqlValue → List SqlValue → StackView = λ (xs ys : List SqlValue). record { values = xs ++ array_value on_null ys ∷ []; members = h.members } in
      after-zero _ ∙ ap (performed line columns rest) (ap₂ put_on (before_last-append h.values vs n (e vs refl)) (last_of-append h.values vs n (e vs refl)))
  array_made _ n (Err s) rest h e = refl

  object_made : (on_null : Nulls) (unique : Bool) (n : ℕ) (r : Result (List Field) State) (rest : List OperationStep) (h : StackView) → ((fs : List Field) → r ≡ Ok fs → length fs ≡ n)
      → list_then r (λ fs. performed line columns (object n on_null unique ∷ rest) (with_members fs h)) ≡ outcome_then (object_outcome on_null unique r) (λ v. performed line columns rest (with_values (v ∷ []) h))
  object_made on_null unique n (Ok fs) rest h e =
      let put_on : List Field → List Field → Performance = λ (xs ys : List Field).
      going_on (put (outcome_of (object_value on_null unique ys)) (record { values = h.values; members = xs })) (performed line columns rest) in
      after-zero _ ∙ ap₂ put_on (before_last-append h.members fs n (e fs refl)) (last_of-append h.members fs n (e fs refl))
      ∙ put_then (outcome_of (object_value on_null unique fs)) h (performed line columns rest)
  object_made _ unique n (Err s) rest h e = refl

  -- ---- values

  mutual
    -- the operations of a value put it on what is held, or raise its state, and take what it costs
    pub found : (x : b.Value) (rest : List OperationStep) (h : StackView)
        → performed line columns (steps_to x ++ rest) h ≡ after (cost line columns x) (outcome_then (given line columns x) (λ v. performed line columns rest (with_values (v ∷ []) h)))
    found (b.Lit x) rest h = refl
    found (b.Column n) rest h = refl
    found (b.Exists x on_error) rest h =
        ap (after (exists_cost x.path.mode (context line) (trace_of x))) (put_then (exists_outcome on_error x.path.mode (context line) (trace_of x)) h (performed line columns rest))
    found (b.ValueOf x clauses) rest h =
        ap (after (value_cost x.path.mode (context line) (trace_of x))) (put_then (value_outcome clauses x.path.mode (context line) (trace_of x)) h (performed line columns rest))
    found (b.Query x clauses) rest h =
        ap (after (query_cost clauses.wrapper x.path.mode (context line) (trace_of x))) (put_then (query_outcome clauses x.path.mode (context line) (trace_of x)) h (performed line columns rest))
    found (b.IsJson call) rest h = refl
    found (b.Object members on_null unique) rest h =
        ap (λ (l : List OperationStep). performed line columns l h) (append_assoc (steps_to_members members) (object (member_count members) on_null unique ∷ []) rest)
        ∙ found_members members (object (member_count members) on_null unique ∷ rest) h
        ∙ ap (after (members_cost line columns members)) (object_made on_null unique (member_count members) (given_members line columns members) rest h (given_member_count members))
    found (b.Array values on_null) rest h =
        ap (λ (l : List OperationStep). performed line columns l h) (append_assoc (steps_to_values values) (array (value_count values) on_null ∷ []) rest)
        ∙ found_values values (array (value_count values) on_null ∷ rest) h
        ∙ ap (after (values_cost line columns values)) (array_made on_null (value_count values) (given_values line columns values) rest h (given_count values))

    pub found_values : (xs : b.Values) (rest : List OperationStep) (h : StackView)
        → performed line columns (steps_to_values xs ++ rest) h ≡ after (values_cost line columns xs) (list_then (given_values line columns xs) (λ vs. performed line columns rest (with_values vs h)))
    found_values b.NoValues rest h = sym (after-zero _ ∙ ap (performed line columns rest) (no_values h))
    found_values (b.MoreValues x others) rest h =
        ap (λ (l : List OperationStep). performed line columns l h) (append_assoc (steps_to x) (steps_to_values others) rest)
        ∙ found x (steps_to_values others ++ rest) h
        ∙ join_values (given line columns x) (given_values line columns others) (cost line columns x) (values_cost line columns others)
        (λ v. performed line columns (steps_to_values others ++ rest) (with_values (v ∷ []) h)) (λ vs. performed line columns rest (with_values vs h))
        (λ v. found_values others rest (with_values (v ∷ []) h)
        ∙ ap (after (values_cost line columns others)) (list_then_same (given_values line columns others) _ _ (λ vs. ap (performed line columns rest) (more_values v vs h))))

    pub found_members : (ms : b.Members) (rest : List OperationStep) (h : StackView)
        → performed line columns (steps_to_members ms ++ rest) h ≡ after (members_cost line columns ms) (list_then (given_members line columns ms) (λ fs. performed line columns rest (with_members fs h)))
    found_members b.NoMembers rest h = sym (after-zero _ ∙ ap (performed line columns rest) (no_members h))
    found_members (b.MoreMembers key x others) rest h =
        let behind = steps_to_members others ++ rest in
        ap (λ (l : List OperationStep). performed line columns l h)
        (append_assoc (steps_to key) (steps_to x ++ (member ∷ steps_to_members others)) rest ∙ ap (λ (l : List OperationStep). steps_to key ++ l) (append_assoc (steps_to x) (member ∷ steps_to_members others) rest))
        ∙ found key (steps_to x ++ (member ∷ behind)) h
        ∙ join_members (given line columns key) (given line columns x) (given_members line columns others) (cost line columns key) (cost line columns x) (members_cost line columns others)
        (λ k. performed line columns (steps_to x ++ (member ∷ behind)) (with_values (k ∷ []) h)) (λ fs. performed line columns rest (with_members fs h))
        (λ k. found x (member ∷ behind) (with_values (k ∷ []) h)
        ∙ join_member (given line columns x) (given_members line columns others) k (cost line columns x) (members_cost line columns others)
        (λ v. performed line columns (member ∷ behind) (with_values (v ∷ []) (with_values (k ∷ []) h))) (λ fs. performed line columns rest (with_members fs h))
        (λ v. after-zero _ ∙ ap (performed line columns behind) (paired_is h k v) ∙ found_members others rest (with_members (record { key = k; value = v } ∷ []) h)
        ∙ ap (after (members_cost line columns others)) (list_then_same (given_members line columns others) _ _ (λ fs. ap (performed line columns rest) (more_members (record { key = k; value = v }) fs h)))))

  -- those of a list put all its values on, or raise its state
  pub found_all : (xs : List b.Value) (h : StackView)
      → performed line columns (steps_to_all xs) h ≡ after (list_cost line columns xs) (list_then (given_list line columns xs) (λ vs. performed line columns [] (with_values vs h)))
  found_all [] h = sym (after-zero _ ∙ ap (performed line columns []) (no_values h))
  found_all (x ∷ xs) h =
      found x (steps_to_all xs) h
      ∙ join_values (given line columns x) (given_list line columns xs) (cost line columns x) (list_cost line columns xs)
      (λ v. performed line columns (steps_to_all xs) (with_values (v ∷ []) h)) (λ vs. performed line columns [] (with_values vs h))
      (λ v. found_all xs (with_values (v ∷ []) h)
      ∙ ap (after (list_cost line columns xs)) (list_then_same (given_list line columns xs) _ _ (λ vs. ap (performed line columns []) (more_values v vs h))))

-- ---- the steps of one value

-- the value alone, or the state
abbrev pub value_end : Outcome → Result StackView State
value_end (Value v) = Ok (record { values = v ∷ []; members = [] })
value_end (Raised s) = Err s

module _ (line : Line) (columns : List SqlValue) where
  abbrev nothing_held : StackView
  nothing_held = record { values = []; members = [] }

  one_found : (x : b.Value) → performed line columns (steps_to x) nothing_held ≡ after (cost line columns x) (outcome_then (given line columns x) (λ v. performed line columns [] (with_values (v ∷ []) nothing_held)))
  one_found x = ap (λ (l : List OperationStep). performed line columns l nothing_held) (sym (append-nil (steps_to x))) ∙ found line columns x [] nothing_held

  one_ends : (n : ℕ) (o : Outcome) → (after n (outcome_then o (λ v. performed line columns [] (with_values (v ∷ []) nothing_held)))).end ≡ value_end o
  one_ends n (Value v) = refl
  one_ends n (Raised s) = refl

  one_costs : (n : ℕ) (o : Outcome) → (after n (outcome_then o (λ v. performed line columns [] (with_values (v ∷ []) nothing_held)))).cost ≡ n
  one_costs n (Value v) = add-zero n
  one_costs n (Raised s) = add-zero n

  pub one_end : (x : b.Value) → (performed line columns (steps_to x) nothing_held).end ≡ value_end (given line columns x)
  one_end x = ap (λ (p : Performance). p.end) (one_found x) ∙ one_ends (cost line columns x) (given line columns x)

  pub one_cost : (x : b.Value) → (performed line columns (steps_to x) nothing_held).cost ≡ cost line columns x
  one_cost x = ap (λ (p : Performance). p.cost) (one_found x) ∙ one_costs (cost line columns x) (given line columns x)
