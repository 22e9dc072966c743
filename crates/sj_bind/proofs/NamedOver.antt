-- A plan with names that matches the paths of its table joins each of them once.
use Rattle.std.proofs.Common.{◌≡◌, ℕ, ◌+◌, ◌==◌, ◌<◌, ◌≤◌, Bool, true, false, not, ◌&&◌, ◌||◌, if◌then◌else◌, List, [], ◌∷◌, ◌++◌, Option, Some, None, is_some, unwrap_or, length, ◌⊎◌, inl, inr, refl, sym, ap, subst, ◌∙◌, arith}
use Rattle.std.specs.Option.{option_to_list}
use Rattle.std.specs.List.{list_all, list_any, position_from}
use Rattle.std.specs.Str.{bytes_eq}
use Rattle.std.proofs.lemmas.Bool.Decides.{nat_tests}
use Rattle.std.proofs.lemmas.List.Folds.{list_any-append}
use Rattle.std.proofs.lemmas.Slice.Eq.{bytes_eq-Decides}
use Rattle.sj_sql_grammar.specs.Tree.{NamedPlan, PathOf, Outer, Inner, Union, Cross}
use Rattle.sj_value.specs.Plans.{PlanTree, path_rows, outer_join, inner_join, union_of, cross_of, one_at, times, root_of}
use Rattle.sj_bind.specs.Flat.{TablePath}
use Rattle.sj_bind.specs.Tables.{has_twice, names_of_paths}
use Rattle.sj_bind.specs.Plans.{is_same, is_under, standing, is_name, name_count, stands_once, path_named, has_nested, each_once, fits, has_root, numbered}
use Rattle.sj_bind.proofs.Lists.{neither}
use Rattle.sj_bind.proofs.NameLists.{bytes_eq-sym, twice-right}
use Rattle.sj_bind.proofs.PlanNames.{count_both}
use Rattle.sj_bind.proofs.Places.{apart, itself, turned, IsAt, at_least, at_most, found_at, AreNested, parent_at}

pub both : (a b : Bool) → (a && b) ≡ true → (a ≡ true) × (b ≡ true)
both true true h = (refl, refl)
both true false h = cc
both false b h = cc

was_true : (b : Bool) → not b ≡ true → b ≡ false
was_true true h = cc
was_true false h = refl

-- ---- names of which each is that of one path

-- the name of a path is among the names
among : (next : ℕ) (ps : List TablePath) (k : ℕ) (x : TablePath) → IsAt next ps k x → (name : List ℕ) → is_name name x.name ≡ true → list_any (bytes_eq name) (names_of_paths ps) ≡ true
unfolding IsAt
among next [] k x h name is = absurd h
among next (p ∷ ps) k x (inl h) name is = first p.name (ap (λ (y : TablePath). is_name name y.name) h.1 ∙ is)
  where
    first : (own : Option (List ℕ)) → is_name name own ≡ true → list_any (bytes_eq name) (option_to_list own ++ names_of_paths ps) ≡ true
    first None is = cc
    first (Some own) is = ap (λ (b : Bool). b || list_any (bytes_eq name) (names_of_paths ps)) (bytes_eq-sym name own ∙ is)
among next (p ∷ ps) k x (inr h) name is =
    list_any-append (bytes_eq name) (option_to_list p.name) (names_of_paths ps)
    ∙ ap (λ (b : Bool). list_any (bytes_eq name) (option_to_list p.name) || b) (among (next + 1) ps k x h name is) ∙ or_true (list_any (bytes_eq name) (option_to_list p.name))
  where
    or_true : (b : Bool) → (b || true) ≡ true
    or_true true = refl
    or_true false = refl

-- the test by which a path is found
abbrev is_it : Option ℕ → List ℕ → TablePath → Bool
is_it parent name p = is_under parent p && is_name name p.name

-- the path that is found by its name is the only one
only : (q : Option ℕ) (name : List ℕ) (next : ℕ) (ps : List TablePath) (c k : ℕ) (x : TablePath) → IsAt next ps k x → has_twice (names_of_paths ps) ≡ false
    → position_from (is_it q name) next ps ≡ Some c → one_at k c ≡ (if is_it q name x then 1 else 0)
unfolding IsAt
only q name next [] c k x at once found = absurd at
only q name next (p ∷ ps) c k x at once found = go (is_it q name p) refl found (λ h. only q name (next + 1) ps c k x h tail)
  where
    tail : has_twice (names_of_paths ps) ≡ false
    tail = twice-right (option_to_list p.name) (names_of_paths ps) once

    -- p has the name, so no other path has it
    other : (own : Option (List ℕ)) → is_name name own ≡ true → has_twice (option_to_list own ++ names_of_paths ps) ≡ false → (o : Option (List ℕ))
        → (is_name name o ≡ true → list_any (bytes_eq name) (names_of_paths ps) ≡ true) → is_name name o ≡ false
    other None is d o f = cc
    other (Some own) is d o f = no (is_name name o) refl
      where
        no : (b : Bool) → is_name name o ≡ b → b ≡ false
        no false e = refl
        no true e =
            let same : own ≡ name = (bytes_eq-Decides own name).0 is in
            let none : list_any (bytes_eq own) (names_of_paths ps) ≡ false = (neither (list_any (bytes_eq own) (names_of_paths ps)) (has_twice (names_of_paths ps)) d).0 in
            let there = f e in
            let here : list_any (bytes_eq name) (names_of_paths ps) ≡ false = subst (λ (n : List ℕ). list_any (bytes_eq n) (names_of_paths ps) ≡ false) same none in
            sym (sym here ∙ there)

    and_false : (a b : Bool) → b ≡ false → (a && b) ≡ false
    and_false true b h = h
    and_false false b h = refl

    go : (b : Bool) → is_it q name p ≡ b → (if b then Some next else position_from (is_it q name) (next + 1) ps) ≡ Some c
        → (IsAt (next + 1) ps k x → position_from (is_it q name) (next + 1) ps ≡ Some c → one_at k c ≡ (if is_it q name x then 1 else 0)) → one_at k c ≡ (if is_it q name x then 1 else 0)
    go true is e others = let same : c ≡ next = cc in by at same
      where
        by : ((k ≡ next) × (p ≡ x)) ⊎ IsAt (next + 1) ps k x → c ≡ next → one_at k c ≡ (if is_it q name x then 1 else 0)
        by (inl h) same = ap (λ n. one_at n c) (h.0 ∙ sym same) ∙ itself c ∙ sym (ap (λ (b : Bool). if b then 1 else 0) (ap (is_it q name) (sym h.1) ∙ is))
        by (inr h) same =
            let low = at_least (next + 1) ps k x h in
            let named = both (is_under q p) (is_name name p.name) is in
            let no = other p.name named.1 once x.name (among (next + 1) ps k x h name) in
            apart k c (inr (omega arith)) ∙ sym (ap (λ (b : Bool). if b then 1 else 0) (and_false (is_under q x) (is_name name x.name) no))
    go false is e others = by at
      where
        by : ((k ≡ next) × (p ≡ x)) ⊎ IsAt (next + 1) ps k x → one_at k c ≡ (if is_it q name x then 1 else 0)
        by (inl h) =
            let f = found_at (is_it q name) (next + 1) ps c e in
            let low = at_least (next + 1) ps c f.0 f.1 in let same = h.0 in
            apart k c (inl (omega arith)) ∙ sym (ap (λ (b : Bool). if b then 1 else 0) (ap (is_it q name) (sym h.1) ∙ is))
        by (inr h) = others h e

-- ---- plans that fit

-- how often the parent of a path stands in a plan
above : Option ℕ → PlanTree → ℕ
above None plan = 0
above (Some m) plan = times m plan

-- how often a path of this name stands in a list, where it is right under q
own_count : Option (List ℕ) → List (List ℕ) → ℕ
own_count None names = 0
own_count (Some own) names = name_count own names

share : Option ℕ → TablePath → List (List ℕ) → ℕ
share q x names = if is_under q x then own_count x.name names else 0

share_both : (q : Option ℕ) (x : TablePath) (xs ys : List (List ℕ)) → share q x (xs ++ ys) ≡ share q x xs + share q x ys
unfolding share own_count
share_both q x xs ys = go (is_under q x) x.name
  where
    go : (b : Bool) (own : Option (List ℕ)) → (if b then own_count own (xs ++ ys) else 0) ≡ (if b then own_count own xs else 0) + (if b then own_count own ys else 0)
    go true None = refl
    go true (Some own) = count_both own xs ys
    go false own = refl

share_one : (q : Option ℕ) (x : TablePath) (name : List ℕ) → share q x (name ∷ []) ≡ (if is_it q name x then 1 else 0)
unfolding share own_count
share_one q x name = go (is_under q x) x.name
  where
    one : (b : Bool) → (if b then 1 else 0) + 0 ≡ (if b then 1 else 0)
    one true = refl
    one false = refl

    go : (b : Bool) (own : Option (List ℕ)) → (if b then own_count own (name ∷ []) else 0) ≡ (if (b && is_name name own) then 1 else 0)
    go true None = refl
    go true (Some own) = one (bytes_eq own name)
    go false own = refl

above_both : (parent : Option ℕ) (a b : PlanTree) → above parent (union_of a b) ≡ above parent a + above parent b
unfolding above
above_both None a b = refl
above_both (Some m) a b = refl

above_cross : (parent : Option ℕ) (a b : PlanTree) → above parent (cross_of a b) ≡ above parent a + above parent b
unfolding above
above_cross None a b = refl
above_cross (Some m) a b = refl

above_join : (parent : Option ℕ) (c : ℕ) (below : PlanTree) → above parent (outer_join c below) ≡ (if is_same (Some c) parent then 1 else 0) + above parent below
unfolding above
above_join None c below = refl
above_join (Some m) c below = ap (λ n. n + times m below) (turned m c)

above_inner : (parent : Option ℕ) (c : ℕ) (below : PlanTree) → above parent (outer_join c below) ≡ above parent (inner_join c below)
unfolding above
above_inner None c below = refl
above_inner (Some m) c below = refl

above_alone : (parent : Option ℕ) (c : ℕ) → is_same (Some c) parent ≡ false → above parent (path_rows c) ≡ 0
unfolding above
above_alone None c h = refl
above_alone (Some m) c h = grind (arith, nat_tests)

module _ (paths : List TablePath) (once : has_twice (names_of_paths paths) ≡ false) where
  -- a path with nothing nested in it is no parent
  no_parent : (test : TablePath → Bool) (next : ℕ) (ps : List TablePath) (k : ℕ) (x : TablePath) → IsAt next ps k x → list_any test ps ≡ false → test x ≡ false
  unfolding IsAt
  no_parent test next [] k x h none = absurd h
  no_parent test next (p ∷ ps) k x (inl h) none = ap test (sym h.1) ∙ (neither (test p) (list_any test ps) none).0
  no_parent test next (p ∷ ps) k x (inr h) none = no_parent test (next + 1) ps k x h (neither (test p) (list_any test ps) none).1

  each_at : (test : TablePath → Bool) (next : ℕ) (ps : List TablePath) (k : ℕ) (x : TablePath) → IsAt next ps k x → list_all test ps ≡ true → test x ≡ true
  unfolding IsAt
  each_at test next [] k x h all = absurd h
  each_at test next (p ∷ ps) k x (inl h) all = ap test (sym h.1) ∙ (both (test p) (list_all test ps) all).0
  each_at test next (p ∷ ps) k x (inr h) all = each_at test (next + 1) ps k x h (both (test p) (list_all test ps) all).1

  module _ (k : ℕ) (x : TablePath) (at : IsAt 0 paths k x) where
    -- a path under the one that is a parent stands once in the plan below
    under_once : (names : List (List ℕ)) (q : Option ℕ) → each_once paths names q ≡ true → share q x names ≡ (if is_under q x then 1 else 0)
    unfolding share own_count
    under_once names q all = go (is_under q x) x.name (each_at (λ (p : TablePath). not (is_under q p) || stands_once names p.name) 0 paths k x at all)
      where
        is_one : (m : ℕ) → (m == 1) ≡ true → m ≡ 1
        is_one m h = grind (arith, nat_tests)

        go : (b : Bool) (own : Option (List ℕ)) → (not b || stands_once names own) ≡ true → (if b then own_count own names else 0) ≡ (if b then 1 else 0)
        go true None h = cc
        go true (Some own) h = is_one (name_count own names) h
        go false own h = refl

    found_once : (q : Option ℕ) (name : List ℕ) (c : ℕ) → path_named paths q name ≡ Some c → one_at k c ≡ share q x (name ∷ [])
    found_once q name c e = only q name 0 paths c k x at once e ∙ sym (share_one q x name)

    joins : (name : List ℕ) (below : NamedPlan) (q : Option ℕ) → (is_some (path_named paths q name) && (each_once paths (standing below) (path_named paths q name) && fits paths below (path_named paths q name))) ≡ true
        → ((o : Option ℕ) → fits paths below o ≡ true → times k (numbered paths below o) ≡ above x.parent (numbered paths below o) + share o x (standing below))
        → one_at k (unwrap_or (path_named paths q name) 0) + times k (numbered paths below (path_named paths q name))
        ≡ above x.parent (outer_join (unwrap_or (path_named paths q name) 0) (numbered paths below (path_named paths q name))) + share q x (name ∷ [])
    joins name below q h ih = go (path_named paths q name) refl h
      where
        go : (o : Option ℕ) → path_named paths q name ≡ o → (is_some o && (each_once paths (standing below) o && fits paths below o)) ≡ true
            → one_at k (unwrap_or o 0) + times k (numbered paths below o) ≡ above x.parent (outer_join (unwrap_or o 0) (numbered paths below o)) + share q x (name ∷ [])
        go None e f = cc
        go (Some c) e f =
            let s = both (each_once paths (standing below) (Some c)) (fits paths below (Some c)) f in
            let own = found_once q name c e in
            let rest = ih (Some c) s.1 in
            let one = under_once (standing below) (Some c) s.0 in
            let up = above_join x.parent c (numbered paths below (Some c)) in omega arith

    -- it stands in a plan as often as its parent, and as its name stands there right under q
    handed : (plan : NamedPlan) (q : Option ℕ) → fits paths plan q ≡ true → times k (numbered paths plan q) ≡ above x.parent (numbered paths plan q) + share q x (standing plan)
    handed (PathOf name) q h = go (path_named paths q name) refl h
      where
        go : (o : Option ℕ) → path_named paths q name ≡ o → (is_some o && not (has_nested paths o)) ≡ true → times k (path_rows (unwrap_or o 0)) ≡ above x.parent (path_rows (unwrap_or o 0)) + share q x (name ∷ [])
        go None e f = cc
        go (Some c) e f =
            let none = above_alone x.parent c (no_parent (is_under (Some c)) 0 paths k x at (was_true (has_nested paths (Some c)) f)) in
            let own = found_once q name c e in omega arith
    handed (Outer name below) q h = joins name below q h (handed below)
    handed (Inner name below) q h =
        joins name below q h (handed below)
        ∙ ap (λ n. n + share q x (name ∷ [])) (above_inner x.parent (unwrap_or (path_named paths q name) 0) (numbered paths below (path_named paths q name)))
    handed (Union a b) q h =
        let s = both (fits paths a q) (fits paths b q) h in let l = handed a q s.0 in let r = handed b q s.1 in
        let u = above_both x.parent (numbered paths a q) (numbered paths b q) in let w = share_both q x (standing a) (standing b) in omega arith
    handed (Cross a b) q h =
        let s = both (fits paths a q) (fits paths b q) h in let l = handed a q s.0 in let r = handed b q s.1 in
        let u = above_cross x.parent (numbered paths a q) (numbered paths b q) in let w = share_both q x (standing a) (standing b) in omega arith

  below_all : (q : Option ℕ) (name : List ℕ) (c : ℕ) → path_named paths q name ≡ Some c → c < length paths
  below_all q name c e = let f = found_at (is_it q name) 0 paths c e in let h = at_most 0 paths c f.0 f.1 in omega arith

  nowhere_joined : (k : ℕ) → length paths ≤ k → (name : List ℕ) (below : NamedPlan) (q : Option ℕ)
      → (is_some (path_named paths q name) && (each_once paths (standing below) (path_named paths q name) && fits paths below (path_named paths q name))) ≡ true
      → ((o : Option ℕ) → fits paths below o ≡ true → times k (numbered paths below o) ≡ 0)
      → one_at k (unwrap_or (path_named paths q name) 0) + times k (numbered paths below (path_named paths q name)) ≡ 0
  nowhere_joined k high name below q h ih = go (path_named paths q name) refl h
    where
      go : (o : Option ℕ) → path_named paths q name ≡ o → (is_some o && (each_once paths (standing below) o && fits paths below o)) ≡ true → one_at k (unwrap_or o 0) + times k (numbered paths below o) ≡ 0
      go None e f = cc
      go (Some c) e f =
          let s = both (each_once paths (standing below) (Some c)) (fits paths below (Some c)) f in
          let low = below_all q name c e in let a = apart k c (inr (omega arith)) in let b = ih (Some c) s.1 in omega arith

  -- a number that is that of no path stands nowhere
  nowhere : (k : ℕ) → length paths ≤ k → (plan : NamedPlan) (q : Option ℕ) → fits paths plan q ≡ true → times k (numbered paths plan q) ≡ 0
  nowhere k high (PathOf name) q h = go (path_named paths q name) refl h
    where
      go : (o : Option ℕ) → path_named paths q name ≡ o → (is_some o && not (has_nested paths o)) ≡ true → one_at k (unwrap_or o 0) ≡ 0
      go None e f = cc
      go (Some c) e f = let low = below_all q name c e in apart k c (inr (omega arith))
  nowhere k high (Outer name below) q h = nowhere_joined k high name below q h (nowhere k high below)
  nowhere k high (Inner name below) q h = nowhere_joined k high name below q h (nowhere k high below)
  nowhere k high (Union a b) q h = let s = both (fits paths a q) (fits paths b q) h in let l = nowhere k high a q s.0 in let r = nowhere k high b q s.1 in omega arith
  nowhere k high (Cross a b) q h = let s = both (fits paths a q) (fits paths b q) h in let l = nowhere k high a q s.0 in let r = nowhere k high b q s.1 in omega arith

-- ---- the root

module _ (row : TablePath) (ps : List TablePath) (alone : row.parent ≡ None) (nested : AreNested 1 ps) where
  -- the row path alone is nested in none
  row_found : (name : List ℕ) (c : ℕ) → path_named (row ∷ ps) None name ≡ Some c → (c ≡ 0) × (is_name name row.name ≡ true)
  row_found name c e = go (is_it None name row) refl e
    where
      go : (b : Bool) → is_it None name row ≡ b → (if b then Some 0 else position_from (is_it None name) 1 ps) ≡ Some c → (c ≡ 0) × (is_name name row.name ≡ true)
      go true is f = (cc, (both (is_under None row) (is_name name row.name) is).1)
      go false is f =
          let y = found_at (is_it None name) 1 ps c f in
          let up = parent_at 1 ps c y.0 nested y.1 in
          let no : is_under None y.0 ≡ false = ap (is_same None) up.1 in
          let yes = (both (is_under None y.0) (is_name name y.0.name) y.2).0 in cc

  root_name : (name : List ℕ) → is_some (path_named (row ∷ ps) None name) ≡ true → (unwrap_or (path_named (row ∷ ps) None name) 0 ≡ 0) × (is_name name row.name ≡ true)
  root_name name h = go (path_named (row ∷ ps) None name) refl h
    where
      go : (o : Option ℕ) → path_named (row ∷ ps) None name ≡ o → is_some o ≡ true → (unwrap_or o 0 ≡ 0) × (is_name name row.name ≡ true)
      go None e f = cc
      go (Some c) e f = row_found name c e

  module _ (once : has_twice (names_of_paths (row ∷ ps)) ≡ false) where
    row_once : (name : List ℕ) → is_name name row.name ≡ true → share None row (name ∷ []) ≡ 1
    row_once name is = share_one None row name ∙ ap (λ (b : Bool). if b then 1 else 0) (ap (λ (b : Bool). b && is_name name row.name) (ap (is_same None) alone) ∙ is)

    pub named-first : (plan : NamedPlan) → has_root plan ≡ true → fits (row ∷ ps) plan None ≡ true → times 0 (numbered (row ∷ ps) plan None) ≡ 1
    unfolding IsAt above
    named-first plan r h =
        handed (row ∷ ps) once 0 row (inl (refl, refl)) plan None h
        ∙ ap (λ (o : Option ℕ). above o (numbered (row ∷ ps) plan None) + share None row (standing plan)) alone ∙ root plan r h
      where
        root : (plan : NamedPlan) → has_root plan ≡ true → fits (row ∷ ps) plan None ≡ true → 0 + share None row (standing plan) ≡ 1
        root (PathOf name) r h = let s = both (is_some (path_named (row ∷ ps) None name)) _ h in let o = row_once name (root_name name s.0).1 in omega arith
        root (Outer name below) r h = let s = both (is_some (path_named (row ∷ ps) None name)) _ h in let o = row_once name (root_name name s.0).1 in omega arith
        root (Inner name below) r h = let s = both (is_some (path_named (row ∷ ps) None name)) _ h in let o = row_once name (root_name name s.0).1 in omega arith
        root (Union a b) r h = cc
        root (Cross a b) r h = cc

    pub named-step : (plan : NamedPlan) → fits (row ∷ ps) plan None ≡ true → (k m : ℕ) (x : TablePath) → IsAt 1 ps k x → x.parent ≡ Some m
        → times k (numbered (row ∷ ps) plan None) ≡ times m (numbered (row ∷ ps) plan None)
    unfolding IsAt above share
    named-step plan h k m x at is =
        handed (row ∷ ps) once k x (inr at) plan None h
        ∙ ap (λ (o : Option ℕ). above o (numbered (row ∷ ps) plan None) + (if is_same None o then own_count x.name (standing plan) else 0)) is
        ∙ plus_none (times m (numbered (row ∷ ps) plan None))
      where
        plus_none : (n : ℕ) → n + 0 ≡ n
        plus_none n = omega arith

    pub named-past : (plan : NamedPlan) → fits (row ∷ ps) plan None ≡ true → (k : ℕ) → 1 + length ps ≤ k → times k (numbered (row ∷ ps) plan None) ≡ 0
    named-past plan h k high = nowhere (row ∷ ps) once k (omega arith) plan None h

  pub named-root : (plan : NamedPlan) → has_root plan ≡ true → fits (row ∷ ps) plan None ≡ true → root_of (numbered (row ∷ ps) plan None) ≡ Some 0
  named-root (PathOf name) r h = ap Some (root_name name (both (is_some (path_named (row ∷ ps) None name)) _ h).0).0
  named-root (Outer name below) r h = ap Some (root_name name (both (is_some (path_named (row ∷ ps) None name)) _ h).0).0
  named-root (Inner name below) r h = ap Some (root_name name (both (is_some (path_named (row ∷ ps) None name)) _ h).0).0
  named-root (Union a b) r h = cc
  named-root (Cross a b) r h = cc
