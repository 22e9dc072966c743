-- PLAN DEFAULT joins each path once.
use Rattle.std.proofs.Common.{◌≡◌, ℕ, ◌+◌, ◌==◌, ◌<◌, ◌≤◌, Bool, true, false, if◌then◌else◌, List, [], ◌∷◌, Some, length, inl, inr, refl, sym, subst, ap, ◌∙◌, arith}
use Rattle.sj_sql_grammar.specs.declared.clauses.InOut.{InOut}
use Rattle.sj_sql_grammar.specs.declared.clauses.InOut.TheVariants as i
use Rattle.sj_sql_grammar.specs.declared.clauses.Siblings.{Siblings}
use Rattle.sj_sql_grammar.specs.declared.clauses.Siblings.TheVariants as s
use Rattle.sj_value.specs.Plans.{PlanTree, one_at, times, root_of}
use Rattle.sj_bind.specs.Flat.{TablePath}
use Rattle.sj_bind.specs.Plans.{is_same, is_under, joined, beside, grouped, over, default_in}
use Rattle.sj_bind.proofs.Places.{apart, itself, turned, IsAt, at_least}

-- how often a number stands in plans
total : ℕ → List PlanTree → ℕ
total k [] = 0
total k (p ∷ ps) = times k p + total k ps

times-beside : (k : ℕ) (siblings : Siblings) (a b : PlanTree) → times k (beside siblings a b) ≡ times k a + times k b
times-beside k s.Union a b = refl
times-beside k s.Cross a b = refl

times-grouped : (k : ℕ) (siblings : Siblings) (p : PlanTree) (ps : List PlanTree) → times k (grouped siblings p ps) ≡ times k p + total k ps
unfolding total
times-grouped k siblings p [] = omega arith
times-grouped k siblings p (q ∷ qs) = let h = times-grouped k siblings (beside siblings p q) qs in let e = times-beside k siblings p q in omega arith

times-joined : (k : ℕ) (in_out : InOut) (n : ℕ) (p : PlanTree) → times k (joined in_out n p) ≡ one_at k n + times k p
times-joined k i.Outer n p = refl
times-joined k i.Inner n p = refl

times-over : (k : ℕ) (in_out : InOut) (siblings : Siblings) (n : ℕ) (ps : List PlanTree) → times k (over in_out siblings n ps) ≡ one_at k n + total k ps
unfolding total
times-over k in_out siblings n [] = omega arith
times-over k in_out siblings n (p ∷ ps) = times-joined k in_out n (grouped siblings p ps) ∙ ap (λ z. one_at k n + z) (times-grouped k siblings p ps)

module _ (in_out : InOut) (siblings : Siblings) where
  abbrev plans : ℕ → ℕ → List TablePath → List PlanTree
  plans = default_in in_out siblings

  -- the plans behind a path of number n, where it is right under q, and where it is not
  abbrev picked : Bool → ℕ → ℕ → List TablePath → List PlanTree
  picked b q n ps = if b then over in_out siblings n (plans n (n + 1) ps) ∷ plans q (n + 1) ps else plans q (n + 1) ps

  -- a number that is none of theirs
  outside : (n next : ℕ) (ps : List TablePath) → ((j : ℕ) → next ≤ j → j < next + length ps → one_at n j ≡ 0) → (q : ℕ) → total n (plans q next ps) ≡ 0
  unfolding total
  outside n next [] none q = refl
  outside n next (p ∷ ps) none q = go (is_under (Some q) p) (outside n (next + 1) ps (λ j low high. none j (omega arith) (omega arith)))
    where
      go : (b : Bool) → ((m : ℕ) → total n (plans m (next + 1) ps) ≡ 0) → total n (picked b q next ps) ≡ 0
      go true rest =
          let o = times-over n in_out siblings next (plans next (next + 1) ps) in
          let own = none next (omega arith) (omega arith) in let a = rest next in let b = rest q in omega arith
      go false rest = rest q

  handed_here : (next m : ℕ) (p : TablePath) (ps : List TablePath) → p.parent ≡ Some m → m < next → (q : ℕ)
      → total next (plans q next (p ∷ ps)) ≡ total m (plans q next (p ∷ ps)) + (if q == m then 1 else 0)
  unfolding total
  handed_here next m p ps is before q =
      subst (λ (c : Bool). total next (picked (is_under (Some q) p) q next ps) ≡ total m (picked (is_under (Some q) p) q next ps) + (if c then 1 else 0)) (ap (is_same (Some q)) is) (go (is_under (Some q) p))
    where
      none : (n : ℕ) → n ≤ next → (j : ℕ) → total n (plans j (next + 1) ps) ≡ 0
      none n low j = outside n (next + 1) ps (λ i above high. apart n i (inl (omega arith))) j

      go : (b : Bool) → total next (picked b q next ps) ≡ total m (picked b q next ps) + (if b then 1 else 0)
      go true =
          let o = times-over next in_out siblings next (plans next (next + 1) ps) in
          let r = times-over m in_out siblings next (plans next (next + 1) ps) in
          let own = itself next in let no = apart m next (inl before) in
          let a = none next (omega arith) next in let b = none next (omega arith) q in let c = none m (omega arith) next in let d = none m (omega arith) q in omega arith
      go false = let b = none next (omega arith) q in let d = none m (omega arith) q in omega arith

  -- a path stands in the plans as often as its parent, and once more right under q
  handed : (next : ℕ) (ps : List TablePath) (k m : ℕ) (x : TablePath) → IsAt next ps k x → x.parent ≡ Some m → m < k → (q : ℕ)
      → total k (plans q next ps) ≡ total m (plans q next ps) + (if q == m then 1 else 0)
  unfolding IsAt total
  handed next [] k m x h is before q = absurd h
  handed next (p ∷ ps) k m x (inl h) is before q =
      let same = h.0 in
      subst (λ n. total n (plans q next (p ∷ ps)) ≡ total m (plans q next (p ∷ ps)) + (if q == m then 1 else 0)) (sym same)
      (handed_here next m p ps (ap (λ (y : TablePath). y.parent) h.1 ∙ is) (omega arith) q)
  handed next (p ∷ ps) k m x (inr h) is before q = go (is_under (Some q) p) (handed (next + 1) ps k m x h is before next) (handed (next + 1) ps k m x h is before q)
    where
      go : (b : Bool) → total k (plans next (next + 1) ps) ≡ total m (plans next (next + 1) ps) + (if next == m then 1 else 0)
          → total k (plans q (next + 1) ps) ≡ total m (plans q (next + 1) ps) + (if q == m then 1 else 0)
          → total k (picked b q next ps) ≡ total m (picked b q next ps) + (if q == m then 1 else 0)
      go true below beside =
          let low = at_least (next + 1) ps k x h in
          let o = times-over k in_out siblings next (plans next (next + 1) ps) in
          let r = times-over m in_out siblings next (plans next (next + 1) ps) in
          let no = apart k next (inr (omega arith)) in let own = turned m next in omega arith
      go false below beside = beside

  -- ---- the whole plan of paths behind the row path

  abbrev whole : List TablePath → PlanTree
  whole ps = over in_out siblings 0 (plans 0 1 ps)

  pub default-first : (ps : List TablePath) → times 0 (whole ps) ≡ 1
  default-first ps = let o = times-over 0 in_out siblings 0 (plans 0 1 ps) in let a = outside 0 1 ps (λ j low high. apart 0 j (inl (omega arith))) 0 in let b = itself 0 in omega arith

  pub default-step : (ps : List TablePath) (k m : ℕ) (x : TablePath) → IsAt 1 ps k x → x.parent ≡ Some m → m < k → times k (whole ps) ≡ times m (whole ps)
  default-step ps k m x at is before =
      let o = times-over k in_out siblings 0 (plans 0 1 ps) in let r = times-over m in_out siblings 0 (plans 0 1 ps) in
      let h = handed 1 ps k m x at is before 0 in let low = at_least 1 ps k x at in
      let a = apart k 0 (inr (omega arith)) in let b = turned m 0 in omega arith

  pub default-past : (ps : List TablePath) (k : ℕ) → 1 + length ps ≤ k → times k (whole ps) ≡ 0
  default-past ps k high =
      let o = times-over k in_out siblings 0 (plans 0 1 ps) in
      let a = outside k 1 ps (λ j low below. apart k j (inr (omega arith))) 0 in let b = apart k 0 (inr (omega arith)) in omega arith

pub default-root : (in_out : InOut) (siblings : Siblings) (ps : List PlanTree) → root_of (over in_out siblings 0 ps) ≡ Some 0
default-root in_out siblings [] = refl
default-root i.Outer siblings (p ∷ ps) = refl
default-root i.Inner siblings (p ∷ ps) = refl
