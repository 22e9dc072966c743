-- A table that breaks no rule, and the columns that a list beside it names.
use Rattle.std.proofs.Common.{◌≡◌, ℕ, suc, ◌+◌, ◌<◌, Bool, true, false, cond, not, ◌||◌, List, [], ◌∷◌, ◌++◌, length, slice_get, refl, sym, ap, ◌∙◌, subst, arith}
use Rattle.std.specs.Prelude.{IsSomeAnd}
use Rattle.std.specs.List.{All, list_any, position_or_len}
use Rattle.std.specs.Str.{bytes_eq}
use Rattle.std.proofs.lemmas.List.{length-map}
use Rattle.std.proofs.lemmas.List.Elements.{All-nil, All-cons, All-head, All-tail}
use Rattle.std.proofs.lemmas.Slice.Eq.{bytes_eq-Decides}
use Rattle.sj_base.specs.Names.{is_among}
use Rattle.sj_path_tree.specs.Tree.{Path}
use Rattle.sj_path_tree.specs.Vars.{covers}
use Rattle.sj_sql_grammar.specs.declared.clauses.Passed.{Passed}
use Rattle.sj_sql_grammar.specs.Tree.{ColumnOf, Ordinality, Regular, Formatted, Existence, Nested, Table}
use Rattle.sj_bind.specs.Clauses.{passed, sql_type, names_text, default_fails}
use Rattle.sj_bind.specs.Meaning.{column_number, bound_column, bound_columns, bound_table}
use Rattle.sj_bind.specs.Flat.{TablePath, TableColumn, FlatTable, flat}
use Rattle.sj_value.specs.Plans.{IsPlanOver}
use Rattle.sj_bind.specs.Plans.{table_plan}
use Rattle.sj_bind.specs.Rules.{text_name, text_names, columns_alone, all_columns, all_paths, lacks_variable, column_lacks_variable, column_default_fails}
use Rattle.sj_bind.specs.Bindable.{IsBindableColumn, IsBindableTable}
use Rattle.sj_bound.specs.Sound.{IsTextColumn, IsSoundColumn, IsSoundTable}
use Rattle.sj_bind.specs.Tables.{column_name, names_of_columns, column_names, has_twice}
use Rattle.sj_bind.proofs.UnbrokenRules.{IsCleanTable, few_columns, few_paths}
use Rattle.sj_bind.proofs.Lists.{holds, neither}
use Rattle.sj_bind.proofs.PlansOver.{plan_over}
use Rattle.sj_bind.proofs.SoundClauses.{sound_clauses}
use Rattle.sj_bind.proofs.SoundValues.{text_type}
use Rattle.sj_bind.proofs.ColumnPaths.{columns_have_paths}

-- ---- the names of columns

-- a name that is there has a place
place_below : (names : List (List ℕ)) (name : List ℕ) → is_among names name ≡ true → position_or_len (bytes_eq name) names < length names
place_below [] name h = absurd cc
place_below (n ∷ names) name h = go (bytes_eq name n) h (place_below names name)
  where
    go : (c : Bool) → (c || is_among names name) ≡ true → (is_among names name ≡ true → position_or_len (bytes_eq name) names < length names)
        → cond (not c) (1 + position_or_len (bytes_eq name) names) 0 < suc (length names)
    go true e f = omega arith
    go false e f = omega (arith, f e)

pub length-bound_columns : (cs : List TableColumn) → length (bound_columns cs) ≡ length cs
length-bound_columns cs = length-map cs bound_column

-- ---- the columns that are texts

or_true : (c d : Bool) → d ≡ true → (c || d) ≡ true
or_true true d h = refl
or_true false d h = h

-- the name of a text column is that of a column
among_own : (cs : List (TableColumn)) (name : List ℕ) → is_among (text_names (columns_alone cs)) name ≡ true → is_among (names_of_columns cs) name ≡ true
among_own [] name h = h
among_own (c ∷ cs) name h = go c.column h (among_own cs name)
  where
    both : (r : List ℕ) (d : Bool) → (is_among (text_names (columns_alone cs)) name ≡ true → is_among (names_of_columns cs) name ≡ true) → (d || is_among (text_names (columns_alone cs)) name) ≡ true
        → (d || is_among (names_of_columns cs) name) ≡ true
    both r true f m = refl
    both r false f m = f m

    text : (r : List ℕ) (t : Bool) → (is_among (text_names (columns_alone cs)) name ≡ true → is_among (names_of_columns cs) name ≡ true)
        → is_among (cond t (r ∷ []) [] ++ text_names (columns_alone cs)) name ≡ true → (bytes_eq name r || is_among (names_of_columns cs) name) ≡ true
    text r true f k = both r (bytes_eq name r) f k
    text r false f k = or_true _ _ (f k)

    go : (column : ColumnOf Path) → is_among (text_name column ++ text_names (columns_alone cs)) name ≡ true → (is_among (text_names (columns_alone cs)) name ≡ true → is_among (names_of_columns cs) name ≡ true)
        → (bytes_eq name (column_name column) || is_among (names_of_columns cs) name) ≡ true
    go (Ordinality n) e f = or_true _ _ (f e)
    go (Regular r) e f = text r.name (names_text r.ty) f e
    go (Formatted g) e f = or_true _ _ (f e)
    go (Existence n own on_error) e f = or_true _ _ (f e)
    go (Nested p n ds) e f = or_true _ _ (f e)

-- a column has no name of another
other : (own : List ℕ) (cs : List (TableColumn)) (name : List ℕ) → bytes_eq name own ≡ true → (list_any (bytes_eq own) (names_of_columns cs) || has_twice (names_of_columns cs)) ≡ false
    → is_among (text_names (columns_alone cs)) name ≡ true → ⊥
other own cs name is once h =
    let same : name ≡ own = (bytes_eq-Decides name own).0 is in
    let there : is_among (names_of_columns cs) own ≡ true = ap (is_among (names_of_columns cs)) (sym same) ∙ among_own cs name h in
    let no = (neither (list_any (bytes_eq own) (names_of_columns cs)) (has_twice (names_of_columns cs)) once).0 in
    absurd cc

text_at : (cs : List (TableColumn)) (name : List ℕ) → has_twice (names_of_columns cs) ≡ false → is_among (text_names (columns_alone cs)) name ≡ true
    → IsSomeAnd (slice_get (bound_columns cs) (position_or_len (bytes_eq name) (names_of_columns cs))) IsTextColumn
text_at [] name once h = absurd cc
text_at (c ∷ cs) name once h = go (bytes_eq name (column_name c.column)) refl (text_at cs name)
  where
    here : (column : ColumnOf Path) → bytes_eq name (column_name column) ≡ true → (list_any (bytes_eq (column_name column)) (names_of_columns cs) || has_twice (names_of_columns cs)) ≡ false
        → is_among (text_name column ++ text_names (columns_alone cs)) name ≡ true → IsTextColumn (bound_column (record { path = c.path; column = column }))
    here (Ordinality n) is o e = absurd (other n cs name is o e)
    here (Regular r) is o e = text (names_text r.ty) refl e
      where
        text : (t : Bool) → names_text r.ty ≡ t → is_among (cond t (r.name ∷ []) [] ++ text_names (columns_alone cs)) name ≡ true
            → IsTextColumn (bound_column (record { path = c.path; column = Regular r }))
        text true k m = text_type r.ty k
        text false k m = absurd (other r.name cs name is o m)
    here (Formatted f) is o e = absurd (other f.name cs name is o e)
    here (Existence n own on_error) is o e = absurd (other n cs name is o e)
    here (Nested p n ds) is o e = absurd (other [] cs name is o e)

    rest : (column : ColumnOf Path) → bytes_eq name (column_name column) ≡ false → is_among (text_name column ++ text_names (columns_alone cs)) name ≡ true → is_among (text_names (columns_alone cs)) name ≡ true
    rest (Ordinality n) is e = e
    rest (Regular r) is e = text (names_text r.ty) e
      where
        text : (t : Bool) → is_among (cond t (r.name ∷ []) [] ++ text_names (columns_alone cs)) name ≡ true → is_among (text_names (columns_alone cs)) name ≡ true
        text true m = sym (ap (λ d. d || is_among (text_names (columns_alone cs)) name) is) ∙ m
        text false m = m
    rest (Formatted f) is e = e
    rest (Existence n own on_error) is e = e
    rest (Nested p n ds) is e = e

    go : (d : Bool) → bytes_eq name (column_name c.column) ≡ d
        → (has_twice (names_of_columns cs) ≡ false → is_among (text_names (columns_alone cs)) name ≡ true → IsSomeAnd (slice_get (bound_columns cs) (position_or_len (bytes_eq name) (names_of_columns cs))) IsTextColumn)
        → IsSomeAnd (slice_get (bound_column c ∷ bound_columns cs) (cond (not d) (1 + position_or_len (bytes_eq name) (names_of_columns cs)) 0)) IsTextColumn
    go true is f = here c.column is once h
    go false is f =
        let next : suc (position_or_len (bytes_eq name) (names_of_columns cs)) ≡ 1 + position_or_len (bytes_eq name) (names_of_columns cs) = omega arith in
        subst (λ n. IsSomeAnd (slice_get (bound_column c ∷ bound_columns cs) n) IsTextColumn) next
        (f (neither (list_any (bytes_eq (column_name c.column)) (names_of_columns cs)) (has_twice (names_of_columns cs)) once).1 (rest c.column is h))

-- ---- what the list beside a table rests on

module _ (t : FlatTable) (clean : IsCleanTable t) where
  pub placed : (name : List ℕ) → is_among (column_names t) name ≡ true → column_number (column_names t) name < length (bound_columns t.columns)
  placed name h = omega (arith, place_below (column_names t) name h, length-bound_columns t.columns, length-map t.columns (λ (c : TableColumn). column_name c.column))

  pub are_texts : (name : List ℕ) → is_among (text_names (all_columns t)) name ≡ true → IsSomeAnd (slice_get (bound_columns t.columns) (column_number (column_names t) name)) IsTextColumn
  are_texts name h = text_at t.columns name clean.columns_once h

-- ---- tables

all_covered : (passing : List Passed) (ps : List Path) → list_any (lacks_variable passing) ps ≡ false → All (λ p. covers (passed passing) p ≡ true) ps
all_covered passing [] h = All-nil (λ (p : Path). covers (passed passing) p ≡ true)
all_covered passing (p ∷ ps) h =
    let n = neither (lacks_variable passing p) (list_any (lacks_variable passing) ps) h in
    All-cons (λ (q : Path). covers (passed passing) q ≡ true) p ps (holds (covers (passed passing) p) n.0) (all_covered passing ps n.1)

sound_column : (passing : List Passed) (paths : ℕ) (c : TableColumn) → c.path < paths → IsBindableColumn c.column → column_lacks_variable passing c.column ≡ false → column_default_fails c.column ≡ false
    → IsSoundColumn (passed passing) paths (bound_column c)
sound_column passing paths c below bindable covered casts = go c.column bindable covered casts
  where
    go : (column : ColumnOf Path) → IsBindableColumn column → column_lacks_variable passing column ≡ false → column_default_fails column ≡ false
        → IsSoundColumn (passed passing) paths (bound_column (record { path = c.path; column = column }))
    go (Ordinality n) bnd cov cst = below
    go (Regular r) bnd cov cst =
        let d = neither (default_fails (sql_type r.ty) r.on_empty) (default_fails (sql_type r.ty) r.on_error) cst in
        (below, holds (covers (passed passing) r.path) cov, sound_clauses r.ty r.on_empty r.on_error bnd d.0 d.1)
    go (Formatted f) bnd cov cst = (below, holds (covers (passed passing) f.path) cov)
    go (Existence n own on_error) bnd cov cst = (below, holds (covers (passed passing) own) cov)
    go (Nested p n ds) bnd cov cst = below

sound_columns : (passing : List Passed) (paths : ℕ) (cs : List (TableColumn)) → All (λ c. c.path < paths) cs → All IsBindableColumn (columns_alone cs)
    → list_any (column_lacks_variable passing) (columns_alone cs) ≡ false → list_any column_default_fails (columns_alone cs) ≡ false
    → All (IsSoundColumn (passed passing) paths) (bound_columns cs)
sound_columns passing paths [] below bindable covered casts = All-nil (IsSoundColumn (passed passing) paths)
sound_columns passing paths (c ∷ cs) below bindable covered casts =
    let o = neither (column_lacks_variable passing c.column) (list_any (column_lacks_variable passing) (columns_alone cs)) covered in
    let d = neither (column_default_fails c.column) (list_any column_default_fails (columns_alone cs)) casts in
    All-cons (IsSoundColumn (passed passing) paths) (bound_column c) (bound_columns cs)
    (sound_column passing paths c (All-head (λ (x : TableColumn). x.path < paths) c cs below) (All-head IsBindableColumn c.column (columns_alone cs) bindable) o.0 d.0)
    (sound_columns passing paths cs (All-tail (λ (x : TableColumn). x.path < paths) c cs below) (All-tail IsBindableColumn c.column (columns_alone cs) bindable) o.1 d.1)

pub sound_table : (table : Table Path) → IsBindableTable table → IsCleanTable (flat table) → IsSoundTable (bound_table (flat table))
sound_table table bindable clean =
    let t = flat table in
    let n : length (all_paths t) ≡ length t.paths = length-map t.paths (λ (p : TablePath). p.path) in
    let o = neither (list_any (lacks_variable t.passing) (all_paths t)) (list_any (column_lacks_variable t.passing) (all_columns t)) clean.covered in
    record {
      covered = all_covered t.passing (all_paths t) o.0;
      plan = subst (λ k. IsPlanOver k (table_plan t)) (sym n) (plan_over table clean.paths_once clean.matched);
      columns = subst (λ k. All (IsSoundColumn (passed t.passing) k) (bound_columns t.columns)) (sym n)
          (sound_columns t.passing (length t.paths) t.columns (columns_have_paths table) bindable.columns o.1 clean.casts);
      few_paths = omega (arith, n, few_paths t clean.few);
      few_columns = omega (arith, length-bound_columns t.columns, few_columns t clean.few);
    }
