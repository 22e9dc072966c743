-- How the logic stores a series: its elements, and the state in which it ends, if any.
use Rattle.std.specs.Prelude.{◌≡◌, List, [], ◌∷◌, Option, Some, None, refl}
use Rattle.std.specs.Coded.{Coded, code_by, coded×, coded_list, coded_option}
use Rattle.std.proofs.Common.{ap}
use Rattle.sj_base.specs.declared.state.State.{State}
use Rattle.sj_base.specs.contracts.state.State as state
use Rattle.sj_table.specs.Series.{Series, done, raises, more, elements, end_of}

abbrev pub end_series : {A : Type 0} → Option State → Series A
end_series None = done
end_series (Some s) = raises s

abbrev pub series_from : {A : Type 0} → List A → Option State → Series A
series_from [] end = end_series end
series_from (x ∷ xs) end = more x (series_from xs end)

pub series_from-elements : {A : Type 0} → (xs : Series A) → series_from (elements xs) (end_of xs) ≡ xs
series_from-elements done = refl
series_from-elements (raises s) = refl
series_from-elements (more x xs) = ap (more x) (series_from-elements xs)

abbrev pub series_code : {A : Type 0} → Coded A → Coded (Series A)
series_code {A} element =
    code_by (List A × Option State) (coded× (coded_list element) (coded_option state.the_row.coded))
    (λ xs. (elements xs, end_of xs)) (λ p. series_from p.0 p.1) series_from-elements
