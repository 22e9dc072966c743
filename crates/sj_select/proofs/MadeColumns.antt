-- The columns of a table, made one after another.
use Rattle.std.proofs.Common.{◌≡◌, ℕ, ◌+◌, ◌<◌, List, [], ◌∷◌, ◌++◌, length, map, drop, get_or, append_assoc, Result, Ok, Err, OnOk, sym, ap, ◌∙◌}
use Rattle.std.proofs.lemmas.List.{map-append, drop_more}
use Rattle.sj_path_tree.specs.Vars.{Variables}
use Rattle.sj_bound.specs.View as bound
use Rattle.sj_bound.specs.declared.bound.BoundColumn.{BoundColumn}
use Rattle.sj_select.specs.Columns.{Column, with_variables}
use Rattle.sj_select.specs.Filling.{column_of}
use Rattle.sj_select.specs.declared.columns.Column.{Column as ColumnHeld}

-- one more was made, of the first of those that were left
pub made_more : (vars : Variables) (made later : List ColumnHeld) (first : BoundColumn) (all : List BoundColumn) (i : ℕ) (whole : List Column)
    → i < length all → first ≡ get_or all i first → map column_of later ≡ map column_of made ++ with_variables vars (bound.column_of first) ∷ []
    → map column_of made ++ map (with_variables vars) (bound.columns_of (drop i all)) ≡ whole
    → map column_of later ++ map (with_variables vars) (bound.columns_of (drop (i + 1) all)) ≡ whole
made_more vars made later first all i whole within is grown so_far =
    let held = map column_of made in
    let rest = map (with_variables vars) (bound.columns_of (drop (i + 1) all)) in
    let next : drop i all ≡ first ∷ drop (i + 1) all = drop_more all i first within ∙ ap (λ (x : BoundColumn). x ∷ drop (i + 1) all) (sym is) in
    ap (λ (l : List Column). l ++ rest) grown
    ∙ append_assoc held (with_variables vars (bound.column_of first) ∷ []) rest
    ∙ sym (ap (λ (l : List BoundColumn). held ++ map (with_variables vars) (bound.columns_of l)) next)
    ∙ so_far

-- a column more, where it was appended
pub pushed_is : {T E : Type 0} (r : Result T E) (old new : List ColumnHeld) (column : ColumnHeld) (c : Column) → OnOk r (new ≡ old ++ column ∷ []) → column_of column ≡ c
    → OnOk r (map column_of new ≡ map column_of old ++ c ∷ [])
pushed_is (Ok x) old new column c more is = ap (map column_of) more ∙ map-append column_of old (column ∷ []) ∙ ap (λ (x : Column). map column_of old ++ x ∷ []) is
pushed_is (Err e) old new column c more is = tt
