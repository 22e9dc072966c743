-- The tree with each path in its canonical text has the paths of the tree, and nothing in it is refused that was not before.
use Rattle.std.proofs.Common.{◌≡◌, List, [], ◌∷◌, ◌++◌, refl, sym, ap, ap₂, subst, ◌∙◌}
use mathlib.Core.Path.{fun_ext}
use Rattle.sj_path_tree.specs.Tree.{Path}
use Rattle.sj_path_grammar.specs.declared.refusal.Name.{Name}
use Rattle.sj_sql_grammar.specs.declared.refusal.FileKind.{FileKind}
use Rattle.sj_sql_grammar.specs.Tree.{PathText, Value, Lit, Column, Exists, ValueOf, Query, IsJson, Object, Array, Values, NoValues, MoreValues, Members, NoMembers, MoreMembers, Item, Single, ArrayAgg, ObjectAgg, ColumnOf, Ordinality, Regular, Formatted, Existence, Nested, Columns, Last, More, Table, Statement, Plain, All, Listed}
use Rattle.sj_sql_grammar.specs.Notes.{Notes, value_with, values_with, members_with, item_with, column_with, columns_with, common_with, table_with, plain_with, items_with, statement_with, note_value, note_values, note_members, note_item, note_column, note_columns, note_common, note_table, note_plain, note_items, note_statement}
use Rattle.sj_sql_grammar.specs.Answers.{Mark, path, unsupported, listing, marks, IsFault, IsUnsupported, Free, none, more, finishing}
use Rattle.sj_sql_grammar.proofs.Marks.{seen, noted}
use Rattle.sj_sql_text.specs.Law.{canonical}
use Rattle.sj_sql_text.proofs.PathReadings.{same_path, faultless, all_supported}

module _ {P F : Type 0} (n : Notes P F) where
  -- each path by its canonical text
  abbrev pub behind : Notes P F
  behind = record { path_of = λ q. n.path_of (canonical.path_of q); see_path = λ q. n.see_path (canonical.path_of q); see_unsupported = n.see_unsupported }

  mutual
    value_both : (x : Value PathText) → value_with n (value_with canonical x) ≡ value_with behind x
    value_both (Lit x) = refl
    value_both (Column name) = refl
    value_both (Exists c) = refl
    value_both (ValueOf c) = refl
    value_both (Query c) = refl
    value_both (IsJson c) = refl
    value_both (Object members nulls unique) = ap (λ m. Object m nulls unique) (members_both members)
    value_both (Array values nulls) = ap (λ v. Array v nulls) (values_both values)

    values_both : (xs : Values PathText) → values_with n (values_with canonical xs) ≡ values_with behind xs
    values_both NoValues = refl
    values_both (MoreValues x others) = ap₂ MoreValues (value_both x) (values_both others)

    members_both : (xs : Members PathText) → members_with n (members_with canonical xs) ≡ members_with behind xs
    members_both NoMembers = refl
    members_both (MoreMembers x y others) =
        ap (λ v. MoreMembers v (value_with n (value_with canonical y)) (members_with n (members_with canonical others))) (value_both x)
        ∙ ap₂ (MoreMembers (value_with behind x)) (value_both y) (members_both others)

  item_both : (x : Item PathText) → item_with n (item_with canonical x) ≡ item_with behind x
  item_both (Single x) = ap Single (value_both x)
  item_both (ArrayAgg x nulls) = ap (λ v. ArrayAgg v nulls) (value_both x)
  item_both (ObjectAgg x y nulls unique) = ap₂ (λ v u. ObjectAgg v u nulls unique) (value_both x) (value_both y)

  mutual
    column_both : (x : ColumnOf PathText) → column_with n (column_with canonical x) ≡ column_with behind x
    column_both (Ordinality name) = refl
    column_both (Regular c) = refl
    column_both (Formatted c) = refl
    column_both (Existence name p action) = refl
    column_both (Nested p name columns) = ap (Nested (behind.path_of p) name) (columns_both columns)

    columns_both : (xs : Columns PathText) → columns_with n (columns_with canonical xs) ≡ columns_with behind xs
    columns_both (Last x) = ap Last (column_both x)
    columns_both (More x others) = ap₂ More (column_both x) (columns_both others)

  table_both : (t : Table PathText) → table_with n (table_with canonical t) ≡ table_with behind t
  table_both t = ap (λ c. record { common = common_with behind t.common; name = t.name; columns = c; plan = t.plan; on_error = t.on_error }) (columns_both t.columns)

  plain_both : (xs : List (Value PathText)) → plain_with n (plain_with canonical xs) ≡ plain_with behind xs
  plain_both [] = refl
  plain_both (x ∷ xs) = ap₂ (λ v vs. v ∷ vs) (value_both x) (plain_both xs)

  items_both : (xs : List (Item PathText)) → items_with n (items_with canonical xs) ≡ items_with behind xs
  items_both [] = refl
  items_both (x ∷ xs) = ap₂ (λ v vs. v ∷ vs) (item_both x) (items_both xs)

  statement_both : (x : Statement PathText) → statement_with n (statement_with canonical x) ≡ statement_with behind x
  statement_both (Plain xs) = ap Plain (plain_both xs)
  statement_both (All t) = ap All (table_both t)
  statement_both (Listed xs t) = ap₂ Listed (items_both xs) (table_both t)

  -- ---- what is noted

  mutual
    value_notes : (x : Value PathText) (f : F) → note_value n (value_with canonical x) f ≡ note_value behind x f
    value_notes (Lit x) f = refl
    value_notes (Column name) f = refl
    value_notes (Exists c) f = refl
    value_notes (ValueOf c) f = refl
    value_notes (Query c) f = refl
    value_notes (IsJson c) f = refl
    value_notes (Object members _ _) f = members_notes members f
    value_notes (Array values _) f = values_notes values f

    values_notes : (xs : Values PathText) (f : F) → note_values n (values_with canonical xs) f ≡ note_values behind xs f
    values_notes NoValues f = refl
    values_notes (MoreValues x others) f = ap (note_values n (values_with canonical others)) (value_notes x f) ∙ values_notes others (note_value behind x f)

    members_notes : (xs : Members PathText) (f : F) → note_members n (members_with canonical xs) f ≡ note_members behind xs f
    members_notes NoMembers f = refl
    members_notes (MoreMembers x y others) f =
        ap (λ (g : F). note_members n (members_with canonical others) (note_value n (value_with canonical y) g)) (value_notes x f)
        ∙ ap (note_members n (members_with canonical others)) (value_notes y (note_value behind x f))
        ∙ members_notes others (note_value behind y (note_value behind x f))

  item_notes : (x : Item PathText) (f : F) → note_item n (item_with canonical x) f ≡ note_item behind x f
  item_notes (Single x) f = value_notes x f
  item_notes (ArrayAgg x _) f = value_notes x f
  item_notes (ObjectAgg x y _ _) f = ap (note_value n (value_with canonical y)) (value_notes x f) ∙ value_notes y (note_value behind x f)

  mutual
    column_notes : (x : ColumnOf PathText) (f : F) → note_column n (column_with canonical x) f ≡ note_column behind x f
    column_notes (Ordinality name) f = refl
    column_notes (Regular c) f = refl
    column_notes (Formatted c) f = refl
    column_notes (Existence name p action) f = refl
    column_notes (Nested p name columns) f = columns_notes columns (behind.see_path p f)

    columns_notes : (xs : Columns PathText) (f : F) → note_columns n (columns_with canonical xs) f ≡ note_columns behind xs f
    columns_notes (Last x) f = column_notes x f
    columns_notes (More x others) f = ap (note_columns n (columns_with canonical others)) (column_notes x f) ∙ columns_notes others (note_column behind x f)

  table_notes : (t : Table PathText) (f : F) → note_table n (table_with canonical t) f ≡ note_table behind t f
  table_notes t f = columns_notes t.columns (note_common behind t.common f)

  plain_notes : (xs : List (Value PathText)) (f : F) → note_plain n (plain_with canonical xs) f ≡ note_plain behind xs f
  plain_notes [] f = refl
  plain_notes (x ∷ xs) f = ap (note_plain n (plain_with canonical xs)) (value_notes x f) ∙ plain_notes xs (note_value behind x f)

  items_notes : (xs : List (Item PathText)) (f : F) → note_items n (items_with canonical xs) f ≡ note_items behind xs f
  items_notes [] f = refl
  items_notes (x ∷ xs) f = ap (note_items n (items_with canonical xs)) (item_notes x f) ∙ items_notes xs (note_item behind x f)

  statement_notes : (x : Statement PathText) (f : F) → note_statement n (statement_with canonical x) f ≡ note_statement behind x f
  statement_notes (Plain xs) f = plain_notes xs f
  statement_notes (All t) f = table_notes t f
  statement_notes (Listed xs t) f = ap (note_table n (table_with canonical t)) (items_notes xs f) ∙ table_notes t (note_items behind xs f)

-- ---- the paths

pub same_paths : (x : Statement PathText) → statement_with finishing (statement_with canonical x) ≡ statement_with finishing x
same_paths x =
    let one : (path_at : PathText → Path) → Statement Path = λ path_at. statement_with {F = Unit {0}} (record { path_of = path_at; see_path = λ p f. f; see_unsupported = λ name f. f }) x in
    statement_both finishing x ∙ ap one (fun_ext same_path)

-- ---- the marks

free_last : {A : Type 0} {Is : Mark → A → Type 0} {ms : List Mark} {m : Mark} → Free Is ms → ((x : A) → Is m x → ⊥) → Free Is (ms ++ m ∷ [])
free_last none h = more h none
free_last (more g free) h = more g (free_last free h)

canonical_marks : (x : Statement PathText) → marks (statement_with canonical x) ≡ seen (behind listing) (marks x) []
canonical_marks x = statement_notes listing x [] ∙ noted (behind listing) x []

no_mark_faulty : (name : Name) (k : FileKind) → IsFault (unsupported name) k → ⊥
no_mark_faulty name k f = f

faults_seen : (ms before : List Mark) → Free IsFault before → Free IsFault (seen (behind listing) ms before)
faults_seen [] before h = h
faults_seen (path q ∷ ms) before h = faults_seen ms _ (free_last h (faultless q))
faults_seen (unsupported name ∷ ms) before h = faults_seen ms _ (free_last h (no_mark_faulty name))

support_seen : {ms : List Mark} → Free IsUnsupported ms → (before : List Mark) → Free IsUnsupported before → Free IsUnsupported (seen (behind listing) ms before)
support_seen none before h = h
support_seen (more {m = path q} g free) before h = support_seen free _ (free_last h (all_supported q))
support_seen (more {m = unsupported name} g free) before h = support_seen free _ (free_last h g)

pub no_fault : (x : Statement PathText) → Free IsFault (marks (statement_with canonical x))
no_fault x = subst (Free IsFault) (sym (canonical_marks x)) (faults_seen (marks x) [] none)

pub no_unsupported : (x : Statement PathText) → Free IsUnsupported (marks x) → Free IsUnsupported (marks (statement_with canonical x))
no_unsupported x free = subst (Free IsUnsupported) (sym (canonical_marks x)) (support_seen free [] none)
