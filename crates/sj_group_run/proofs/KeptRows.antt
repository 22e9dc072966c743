-- The rows of a line, one after the other.
use Rattle.std.proofs.Common.{◌≡◌, ℕ, ◌+◌, ◌≤◌, List, [], ◌∷◌, ◌++◌, Bool, true, false, cond, Option, None, Some, Result, Ok, Err, OnOk, refl, sym, ◌∙◌, ap, subst, append_assoc}
use Rattle.std.proofs.lemmas.List.{append-nil}
use Rattle.sj_base.specs.declared.state.State.{State}
use Rattle.sj_base.specs.declared.state.State.TheVariants.{S22004}
use Rattle.sj_table.specs.Series.{Series, done, raises, more, rest, elements, end_of}
use Rattle.sj_select.specs.Seen.{Seen, Gives, turn_of, next_values}
use Rattle.sj_select.specs.declared.rows.Turn.{Turn}
use Rattle.sj_select.specs.declared.rows.Turn.TheVariants as turn
use Rattle.sj_group.specs.declared.aggregate.Aggregate.{Aggregate}
use Rattle.sj_group.specs.Grouping.{Row, takes}
use Rattle.sj_group.specs.Held.{HeldGroups, StandsForRows}
use Rattle.sj_group_run.specs.Kept.{kept}
use Rattle.sj_group_run.specs.Gathering.{Gathered}
use Rattle.sj_group_run.proofs.Fits.{EachRow}

-- ---- what comes next of the rows

module _ (a : Aggregate) where
  abbrev by_taking : Row → Series Row → Bool → Series Row
  by_taking row rows b = cond b (more row (kept a rows)) (raises S22004)

  -- a row that is taken
  pub taken : (xs : Series Row) (row : Row) → turn.Row ≡ turn_of xs → row ≡ next_values xs → takes a row ≡ true → kept a xs ≡ more row (kept a (rest xs))
  taken done row is e t = absurd (cc is)
  taken (raises s) row is e t = absurd (cc is)
  taken (more x xs) row is e t = ap (by_taking x xs) (ap (takes a) (sym e) ∙ t) ∙ ap (λ (y : Row). more y (kept a xs)) (sym e)

  -- a row that cannot be gathered ends them
  pub cut : (xs : Series Row) (row : Row) → turn.Row ≡ turn_of xs → row ≡ next_values xs → takes a row ≡ false → kept a xs ≡ raises S22004
  cut done row is e t = absurd (cc is)
  cut (raises s) row is e t = absurd (cc is)
  cut (more x xs) row is e t = ap (by_taking x xs) (ap (takes a) (sym e) ∙ t)

  pub ended : (xs : Series Row) → turn.End ≡ turn_of xs → kept a xs ≡ done
  ended done is = refl
  ended (raises s) is = absurd (cc is)
  ended (more x xs) is = absurd (cc is)

  pub raised : (xs : Series Row) (s : State) → turn.Raised s ≡ turn_of xs → kept a xs ≡ raises s
  raised done s is = absurd (cc is)
  raised (raises t) s is =
      let same : s ≡ t = cc is in
      ap raises (sym same)
  raised (more x xs) s is = absurd (cc is)

pub fits_first : (P : Row → Type 0) (xs : Series Row) (row : Row) → EachRow P xs → turn.Row ≡ turn_of xs → row ≡ next_values xs → P row
fits_first P done row f is e = absurd (cc is)
fits_first P (raises s) row f is e = absurd (cc is)
fits_first P (more x xs) row f is e = subst P (sym e) f.0

pub fits_rest : (P : Row → Type 0) (xs : Series Row) → EachRow P xs → EachRow P (rest xs)
fits_rest P done f = f
fits_rest P (raises s) f = f
fits_rest P (more x xs) f = f.1

-- ---- the rows that were gathered so far

-- They are in front of those that are left, which end as all do; the groups stand for them behind what they stood for.
pub record SoFar (a : Aggregate) (whole left : Series Row) (old now : HeldGroups) : Type 0 where
  pub gathered : List Row
  pub rows : elements (kept a whole) ≡ gathered ++ elements (kept a left)
  pub end : end_of (kept a whole) ≡ end_of (kept a left)
  pub stands : (before : List Row) → StandsForRows before old → StandsForRows (before ++ gathered) now

pub none_so_far : (a : Aggregate) (whole left : Series Row) (groups : HeldGroups) → left ≡ whole → SoFar a whole left groups groups
none_so_far a whole left groups is = record {
  gathered = [];
  rows = ap (λ (xs : Series Row). elements (kept a xs)) (sym is);
  end = ap (λ (xs : Series Row). end_of (kept a xs)) (sym is);
  stands = λ before s. subst (λ (l : List Row). StandsForRows l groups) (sym (append-nil before)) s;
}

-- one row more
pub one_more : (a : Aggregate) (whole left left' : Series Row) (row : Row) (old now new : HeldGroups) → SoFar a whole left old now → kept a left ≡ more row (kept a left')
    → ((before : List Row) → StandsForRows before now → StandsForRows (before ++ row ∷ []) new) → SoFar a whole left' old new
one_more a whole left left' row old now new f is added = record {
  gathered = f.gathered ++ row ∷ [];
  rows = f.rows ∙ ap (λ (xs : Series Row). f.gathered ++ elements xs) is ∙ sym (append_assoc f.gathered (row ∷ []) (elements (kept a left')));
  end = f.end ∙ ap end_of is;
  stands = λ before s. subst (λ (l : List Row). StandsForRows l new) (append_assoc before f.gathered (row ∷ [])) (added (before ++ f.gathered) (f.stands before s));
}

-- no row is left
pub all_gathered : {T E : Type 0} (a : Aggregate) (whole left : Series Row) (old now : HeldGroups) (result : Result T E) → SoFar a whole left old now → elements (kept a left) ≡ [] → now.aggregate ≡ old.aggregate
    → Gathered (elements (kept a whole)) old now result
all_gathered a whole left old now result f none same = record { aggregate = same; stands = λ before s. on result (stands before s) }
  where
    all : elements (kept a whole) ≡ f.gathered
    all = f.rows ∙ ap (λ (l : List Row). f.gathered ++ l) none ∙ append-nil f.gathered

    stands : (before : List Row) → StandsForRows before old → StandsForRows (before ++ elements (kept a whole)) now
    stands before s = subst (λ (l : List Row). StandsForRows (before ++ l) now) (sym all) (f.stands before s)

    on : {T E : Type 0} {A : Type 0} (r : Result T E) → A → OnOk r A
    on (Ok x) h = h
    on (Err e) h = tt

-- where it stopped, nothing is said of rows
pub gathered_no_more : {T E : Type 0} (rows : List Row) (old now : HeldGroups) (e : E) → now.aggregate ≡ old.aggregate → Gathered {T = T} rows old now (Err e)
gathered_no_more rows old now e same = record { aggregate = same; stands = λ before s. tt }

-- ---- rows that are added, some after the others

-- Those that were added stand before those that are left, behind what the groups stood for.
pub record AddedSoFar (whole left : List Row) (old now : HeldGroups) : Type 0 where
  pub gathered : List Row
  pub rows : whole ≡ gathered ++ left
  pub aggregate : now.aggregate ≡ old.aggregate
  pub stands : (before : List Row) → StandsForRows before old → StandsForRows (before ++ gathered) now

pub none_added : (whole left : List Row) (groups : HeldGroups) → left ≡ whole → AddedSoFar whole left groups groups
none_added whole left groups is = record {
  gathered = [];
  rows = sym is;
  aggregate = refl;
  stands = λ before s. subst (λ (l : List Row). StandsForRows l groups) (sym (append-nil before)) s;
}

pub more_added : {T E : Type 0} (whole left left' rows : List Row) (old now new : HeldGroups) (result : Result T E) (x : T) → AddedSoFar whole left old now → left ≡ rows ++ left' → Gathered rows now new result → result ≡ Ok x → AddedSoFar whole left' old new
more_added whole left left' rows old now new result x f is g ok = record {
  gathered = f.gathered ++ rows;
  rows = f.rows ∙ ap (λ (l : List Row). f.gathered ++ l) is ∙ sym (append_assoc f.gathered rows left');
  aggregate = g.aggregate ∙ f.aggregate;
  stands = λ before s. subst (λ (l : List Row). StandsForRows l new) (append_assoc before f.gathered rows) (of_ok result x ok (g.stands (before ++ f.gathered) (f.stands before s)));
}
  where
    of_ok : {T E : Type 0} {A : Type 0} (r : Result T E) (x : T) → r ≡ Ok x → OnOk r A → A
    of_ok (Ok y) x e h = h
    of_ok (Err y) x e h = absurd (cc e)

-- no row is left
pub all_added : {T E : Type 0} (whole left : List Row) (old now : HeldGroups) (result : Result T E) → AddedSoFar whole left old now → left ≡ [] → Gathered whole old now result
all_added whole left old now result f none = record { aggregate = f.aggregate; stands = λ before s. on result (stands before s) }
  where
    all : whole ≡ f.gathered
    all = f.rows ∙ ap (λ (l : List Row). f.gathered ++ l) none ∙ append-nil f.gathered

    stands : (before : List Row) → StandsForRows before old → StandsForRows (before ++ whole) now
    stands before s = subst (λ (l : List Row). StandsForRows (before ++ l) now) (sym all) (f.stands before s)

    on : {T E : Type 0} {A : Type 0} (r : Result T E) → A → OnOk r A
    on (Ok x) h = h
    on (Err e) h = tt
