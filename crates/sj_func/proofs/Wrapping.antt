-- The text of an array, put together item by item, and closed.
use Rattle.std.proofs.Common.{◌≡◌, ◌≤◌, ◌<◌, ℕ, ◌+◌, List, [], ◌∷◌, ◌++◌, Bool, true, false, cond, None, Some, ap, sym, ◌∙◌, refl, arith, append_assoc, append-nil, subst, Result, IfOk}
use Rattle.std.specs.Prelude.{remove}
use Rattle.sj_base.specs.Count.{raised}
use Rattle.sj_base.specs.declared.memory.Memory.{Memory}
use Rattle.sj_base.specs.declared.state.State.{State}
use Rattle.sj_json.specs.Tree.{Tree, array, item, no_items}
use Rattle.sj_json.specs.Printing.{printed, printed_more_items}
use Rattle.sj_doc.specs.Kinds.{kind_of}
use Rattle.sj_item.specs.Items.{ItemValue, item_tree, nodes_below, gives, ends, faults}
use Rattle.sj_step.specs.Trace.{Trace, stop, fail, give, after_visits, items, count, visits, fault_of, visits_to_first}
use Rattle.sj_step.proofs.Traces.{shape_item, shape_end, shape_fault, items-after_visits, count-after_visits, visits-after_visits, fault-after_visits}
use Rattle.sj_cursor.specs.Draws.{Draws}
use Rattle.sj_value.specs.declared.clauses.Wrapper.{Wrapper}
use Rattle.sj_value.specs.declared.clauses.Wrapper.TheVariants as wrappers
use Rattle.sj_value.specs.declared.clauses.QuerySpec.{QuerySpec}
use Rattle.sj_func.specs.Functions.{elements, wrapped, is_structured, all_below, query_error, query_empty, query_items}
use Rattle.sj_func.specs.declared.context.Outcome.{Outcome}
use Rattle.sj_func.specs.Gathering.{has_some, stays}

-- ---- draws

drawn_item : (t t' : Trace) (x : ItemValue) (a b : ℕ) → Draws t (gives x) t' a b → t ≡ after_visits (visits_to_first t) (give x t')
drawn_item t t' x a b d = rw d.leaves (shape_item t x (sym d.answers))

items_given : (t t' : Trace) (x : ItemValue) (a b : ℕ) → Draws t (gives x) t' a b → items t ≡ x ∷ items t'
items_given t t' x a b d = ap items (drawn_item t t' x a b d) ∙ items-after_visits (visits_to_first t) (give x t')

visits_given : (t t' : Trace) (x : ItemValue) (a b : ℕ) → Draws t (gives x) t' a b → visits t ≡ visits_to_first t + visits t'
visits_given t t' x a b d = ap visits (drawn_item t t' x a b d) ∙ visits-after_visits (visits_to_first t) (give x t')

fault_given : (t t' : Trace) (x : ItemValue) (a b : ℕ) → Draws t (gives x) t' a b → fault_of t ≡ fault_of t'
fault_given t t' x a b d = ap fault_of (drawn_item t t' x a b d) ∙ fault-after_visits (visits_to_first t) (give x t')

pub count_given : (t t' : Trace) (x : ItemValue) (a b : ℕ) → Draws t (gives x) t' a b → count t' < count t
count_given t t' x a b d = omega (arith, ap count (drawn_item t t' x a b d) ∙ count-after_visits (visits_to_first t) (give x t'))

pub items_ended : (t t' : Trace) (a b : ℕ) → Draws t ends t' a b → items t ≡ []
items_ended t t' a b d = ap items (shape_end t (sym d.answers)) ∙ items-after_visits (visits_to_first t) stop

pub fault_ended : (t t' : Trace) (a b : ℕ) → Draws t ends t' a b → fault_of t ≡ None
fault_ended t t' a b d = ap fault_of (shape_end t (sym d.answers)) ∙ fault-after_visits (visits_to_first t) stop

visits_ended : (t t' : Trace) (a b : ℕ) → Draws t ends t' a b → visits t ≡ visits_to_first t + 0
visits_ended t t' a b d = ap visits (shape_end t (sym d.answers)) ∙ visits-after_visits (visits_to_first t) stop

pub items_failed : (t t' : Trace) (s : State) (a b : ℕ) → Draws t (faults s) t' a b → items t ≡ []
items_failed t t' s a b d = ap items (shape_fault t s (sym d.answers)) ∙ items-after_visits (visits_to_first t) (fail s)

pub fault_failed : (t t' : Trace) (s : State) (a b : ℕ) → Draws t (faults s) t' a b → fault_of t ≡ Some s
fault_failed t t' s a b d = ap fault_of (shape_fault t s (sym d.answers)) ∙ fault-after_visits (visits_to_first t) (fail s)

visits_failed : (t t' : Trace) (s : State) (a b : ℕ) → Draws t (faults s) t' a b → visits t ≡ visits_to_first t + 0
visits_failed t t' s a b d = ap visits (shape_fault t s (sym d.answers)) ∙ visits-after_visits (visits_to_first t) (fail s)

-- ---- going through all items

-- the texts so far and those of what is left make the whole
pub record Passing (all : Trace) (old : List ℕ) (a : ℕ) (some : Bool) (left : Trace) (text : List ℕ) (b : ℕ) : Type 0 where
  pub grown : text ++ printed_more_items (elements (items left)) ≡ old ++ printed_more_items (elements (items all))
  pub somes : cond some true (has_some (items left)) ≡ has_some (items all)
  pub fault : fault_of left ≡ fault_of all
  pub costs : raised b (visits left + all_below (items left)) ≤ raised a (visits all + all_below (items all))

pub passing_from : (t : Trace) (old : List ℕ) (a : ℕ) → Passing t old a false t old a
passing_from t old a = record { grown = refl; somes = refl; fault = refl; costs = omega arith }

more_given : (xs ys : List ItemValue) (x : ItemValue) (text : List ℕ) → xs ≡ x ∷ ys
    → text ++ printed_more_items (elements xs) ≡ ((text ++ 44 ∷ []) ++ printed (item_tree x)) ++ printed_more_items (elements ys)
more_given xs ys x text e =
    ap (λ l. text ++ printed_more_items (elements l)) e
    ∙ sym (append_assoc text (44 ∷ []) (printed (item_tree x) ++ printed_more_items (elements ys)))
    ∙ sym (append_assoc (text ++ 44 ∷ []) (printed (item_tree x)) (printed_more_items (elements ys)))

some_given : (xs ys : List ItemValue) (x : ItemValue) (some : Bool) → xs ≡ x ∷ ys → cond some true (has_some xs) ≡ true
some_given xs ys x true e = refl
some_given xs ys x false e = ap has_some e

pub passing_on : (all t t' : Trace) (old text comma next : List ℕ) (a b c d : ℕ) (some : Bool) (x : ItemValue)
    → Passing all old a some t text b → Draws t (gives x) t' b c → comma ≡ text ++ 44 ∷ [] → next ≡ comma ++ printed (item_tree x) → d ≡ raised c (nodes_below x)
    → Passing all old a true t' next d
passing_on all t t' old text comma next a b c d some x k draw e1 e2 h =
    let list = items_given t t' x b c draw in
    record {
      grown = ap (λ l. l ++ printed_more_items (elements (items t'))) (e2 ∙ ap (λ l. l ++ printed (item_tree x)) e1)
          ∙ sym (more_given (items t) (items t') x text list) ∙ k.grown;
      somes = sym (some_given (items t) (items t') x some list) ∙ k.somes;
      fault = sym (fault_given t t' x b c draw) ∙ k.fault;
      costs = omega (arith, visits_given t t' x b c draw, ap all_below list, draw.costs, h, k.costs);
    }

-- where memory runs out at an item
pub passing_cost : (all t t' : Trace) (old text : List ℕ) (a b c d : ℕ) (some : Bool) (x : ItemValue)
    → Passing all old a some t text b → Draws t (gives x) t' b c → d ≤ raised c (nodes_below x) → d ≤ raised a (visits all + all_below (items all))
passing_cost all t t' old text a b c d some x k draw h =
    omega (arith, visits_given t t' x b c draw, ap all_below (items_given t t' x b c draw), draw.costs, h, k.costs)

-- and before its text
pub passing_push_cost : (all t t' : Trace) (old text : List ℕ) (a b c : ℕ) (some : Bool) (x : ItemValue)
    → Passing all old a some t text b → Draws t (gives x) t' b c → c ≤ raised a (visits all + all_below (items all))
passing_push_cost all t t' old text a b c some x k draw = passing_cost all t t' old text a b c c some x k draw (omega arith)

pub passing_end_text : (all t : Trace) (old text : List ℕ) (a b : ℕ) (some : Bool) → Passing all old a some t text b → items t ≡ []
    → text ≡ old ++ printed_more_items (elements (items all))
passing_end_text all t old text a b some k e = sym (append-nil text) ∙ sym (ap (λ l. text ++ printed_more_items (elements l)) e) ∙ k.grown

none_left : (some : Bool) (xs : List ItemValue) → xs ≡ [] → cond some true (has_some xs) ≡ some
none_left true xs e = refl
none_left false xs e = ap has_some e

pub passing_end_some : (all t : Trace) (old text : List ℕ) (a b : ℕ) (some : Bool) → Passing all old a some t text b → items t ≡ []
    → some ≡ has_some (items all)
passing_end_some all t old text a b some k e = sym (none_left some (items t) e) ∙ k.somes

pub passing_end_cost : (all t t' : Trace) (old text : List ℕ) (a b c : ℕ) (some : Bool) → Passing all old a some t text b → Draws t ends t' b c
    → c ≤ raised a (visits all + all_below (items all))
passing_end_cost all t t' old text a b c some k draw =
    omega (arith, visits_ended t t' b c draw, ap all_below (items_ended t t' b c draw), draw.costs, k.costs)

pub passing_fault_cost : (all t t' : Trace) (old text : List ℕ) (s : State) (a b c : ℕ) (some : Bool) → Passing all old a some t text b → Draws t (faults s) t' b c
    → c ≤ raised a (visits all + all_below (items all))
passing_fault_cost all t t' old text s a b c some k draw =
    omega (arith, visits_failed t t' s b c draw, ap all_below (items_failed t t' s b c draw), draw.costs, k.costs)

-- ---- the brackets

one_closed : (alone : Bool) (t : Tree) (text result : List ℕ) → text ≡ 91 ∷ (printed t ++ []) → result ≡ cond alone (remove text 0) (text ++ 93 ∷ [])
    → result ≡ printed (cond alone t (array (item t no_items)))
one_closed true t text result e r = r ∙ ap (λ l. remove l 0) e ∙ append-nil (printed t)
one_closed false t text result e r = r ∙ ap (λ l. l ++ 93 ∷ []) e

array_closed : (x : ItemValue) (xs : List ItemValue) (text result : List ℕ) → text ≡ 91 ∷ (printed (item_tree x) ++ printed_more_items (elements xs)) → result ≡ text ++ 93 ∷ []
    → result ≡ printed (array (elements (x ∷ xs)))
array_closed x xs text result e r = r ∙ ap (λ l. l ++ 93 ∷ []) e

pub wraps : (w : Wrapper) (x : ItemValue) (xs : List ItemValue) (text result : List ℕ) (alone : Bool)
    → text ≡ 91 ∷ (printed (item_tree x) ++ printed_more_items (elements xs)) → alone ≡ stays w (kind_of (item_tree x)) (has_some xs)
    → result ≡ cond alone (remove text 0) (text ++ 93 ∷ []) → result ≡ printed (wrapped w (x ∷ xs))
wraps wrappers.Conditional x [] text result alone e a r =
    one_closed (is_structured (kind_of (item_tree x))) (item_tree x) text result e (r ∙ ap (λ b. cond b (remove text 0) (text ++ 93 ∷ [])) a)
wraps wrappers.Conditional x (y ∷ ys) text result alone e a r =
    array_closed x (y ∷ ys) text result e (r ∙ ap (λ b. cond b (remove text 0) (text ++ 93 ∷ [])) a)
wraps wrappers.Unconditional x xs text result alone e a r =
    array_closed x xs text result e (r ∙ ap (λ b. cond b (remove text 0) (text ++ 93 ∷ [])) a)
wraps wrappers.Without x xs text result alone e a r =
    array_closed x xs text result e (r ∙ ap (λ b. cond b (remove text 0) (text ++ 93 ∷ [])) a)

-- ---- what is seen of all items is what JSON_QUERY gives

is_given : (r : Result Outcome Memory) (u v : Outcome) → v ≡ u → IfOk r (λ o. o ≡ u) → IfOk r (λ o. o ≡ v)
is_given r u v e k = subst (λ w. IfOk r (λ o. o ≡ w)) (sym e) k

pub items_some : (clauses : QuerySpec) (t t' : Trace) (x : ItemValue) (a b : ℕ) (r : Result Outcome Memory) → Draws t (gives x) t' a b
    → IfOk r (λ o. o ≡ query_items clauses (fault_of t') (x ∷ items t')) → IfOk r (λ o. o ≡ query_items clauses (fault_of t) (items t))
items_some clauses t t' x a b r d k =
    is_given r (query_items clauses (fault_of t') (x ∷ items t')) (query_items clauses (fault_of t) (items t))
    (ap (λ f. query_items clauses f (items t)) (fault_given t t' x a b d) ∙ ap (query_items clauses (fault_of t')) (items_given t t' x a b d)) k

pub items_none : (clauses : QuerySpec) (t t' : Trace) (a b : ℕ) (r : Result Outcome Memory) → Draws t ends t' a b
    → IfOk r (λ o. o ≡ query_empty clauses.on_empty) → IfOk r (λ o. o ≡ query_items clauses (fault_of t) (items t))
items_none clauses t t' a b r d k =
    is_given r (query_empty clauses.on_empty) (query_items clauses (fault_of t) (items t))
    (ap (λ f. query_items clauses f (items t)) (fault_ended t t' a b d) ∙ ap (query_items clauses None) (items_ended t t' a b d)) k

pub items_fault : (clauses : QuerySpec) (t t' : Trace) (s : State) (a b : ℕ) (r : Result Outcome Memory) → Draws t (faults s) t' a b
    → IfOk r (λ o. o ≡ query_error clauses.on_error s) → IfOk r (λ o. o ≡ query_items clauses (fault_of t) (items t))
items_fault clauses t t' s a b r d k =
    is_given r (query_error clauses.on_error s) (query_items clauses (fault_of t) (items t))
    (ap (λ f. query_items clauses f (items t)) (fault_failed t t' s a b d)) k

pub cost_some : (t t' : Trace) (x : ItemValue) (a b c : ℕ) → Draws t (gives x) t' a b → c ≤ raised b (nodes_below x + (visits t' + all_below (items t')))
    → c ≤ raised a (visits t + all_below (items t))
cost_some t t' x a b c d h = omega (arith, visits_given t t' x a b d, ap all_below (items_given t t' x a b d), d.costs, h)

pub cost_none : (t t' : Trace) (a b : ℕ) → Draws t ends t' a b → b ≤ raised a (visits t + all_below (items t))
cost_none t t' a b d = omega (arith, visits_ended t t' a b d, ap all_below (items_ended t t' a b d), d.costs)

pub cost_fault : (t t' : Trace) (s : State) (a b : ℕ) → Draws t (faults s) t' a b → b ≤ raised a (visits t + all_below (items t))
cost_fault t t' s a b d = omega (arith, visits_failed t t' s a b d, ap all_below (items_failed t t' s a b d), d.costs)
