-- The fields of a row, one after another.
use Rattle.std.proofs.Common.{◌≡◌, ℕ, suc, ◌<◌, List, ◌∷◌, length, drop, get_or, Result, OnErr, sym, ap, ◌∙◌, subst}
use Rattle.std.proofs.Math.Seq.{drop-cons}
use Rattle.std.specs.List.{flat_map}
use Rattle.sj_text.specs.Prefixes.{AppendsPrefix}
use Rattle.sj_text.proofs.Appends.{Appending, at_error, stops}
use Rattle.sj_value.specs.declared.value.SqlValue.{SqlValue}
use Rattle.sj_rows.specs.RowText.{tabbed}

-- the field of value i stops
pub field_stopped : {T E : Type 0} (r : Result T E) (old text out : List ℕ) (values : List SqlValue) (i : ℕ) (value : SqlValue) (last : List ℕ)
    → Appending old text out (flat_map tabbed (drop i values)) → i < length values → value ≡ get_or values i value → AppendsPrefix out (tabbed value) last → OnErr r (AppendsPrefix old text last)
field_stopped r old text out values i value last a lt is p =
    let next : drop i values ≡ value ∷ drop (suc i) values = drop-cons values i value lt ∙ ap (λ v. v ∷ drop (suc i) values) (sym is) in
    at_error r (stops old text out (tabbed value) (flat_map tabbed (drop (suc i) values)) last (subst (λ l. Appending old text out (flat_map tabbed l)) next a) p)
