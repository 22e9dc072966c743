-- What is noted of a tree is what is noted of its marks, one by one.
use Rattle.std.proofs.Common.{◌≡◌, List, [], ◌∷◌, ◌++◌, refl, ap, ◌∙◌}
use Rattle.sj_sql_grammar.specs.declared.clauses.Encoding.{Encoding}
use Rattle.sj_sql_grammar.specs.declared.clauses.Encoding.TheVariants.{Read, Refused}
use Rattle.sj_sql_grammar.specs.declared.clauses.TypeName.{TypeName}
use Rattle.sj_sql_grammar.specs.declared.clauses.TypeName.TheVariants.{Known, Approximate, Datetime}
use Rattle.sj_path_grammar.specs.declared.refusal.Name.TheVariants as name
use Rattle.sj_sql_grammar.specs.Tree.{PathText, Common, Value, Lit, Column, Exists, ValueOf, Query, IsJson, Object, Array, Values, NoValues, MoreValues, Members, NoMembers, MoreMembers, Item, Single, ArrayAgg, ObjectAgg, ColumnOf, Ordinality, Regular, Formatted, Existence, Nested, Columns, Last, More, Table, Statement, Plain, All, Listed}
use Rattle.sj_sql_grammar.specs.Notes.{Notes, note_encoding, note_type, note_common, note_value, note_values, note_members, note_item, note_column, note_columns, note_table, note_plain, note_items, note_statement}
use Rattle.sj_sql_grammar.specs.Answers.{Mark, path, unsupported, listing, marks}

module _ {P F : Type 0} (n : Notes P F) where
  abbrev pub see : Mark → F → F
  see (path p) f = n.see_path p f
  see (unsupported x) f = n.see_unsupported x f

  abbrev pub seen : List Mark → F → F
  seen [] f = f
  seen (m ∷ ms) f = seen ms (see m f)

  seen_last : (ms : List Mark) (m : Mark) (f : F) → see m (seen ms f) ≡ seen (ms ++ m ∷ []) f
  seen_last [] m f = refl
  seen_last (x ∷ ms) m f = seen_last ms m (see x f)

  encoding_seen : (x : Encoding) (ms : List Mark) (f : F) → note_encoding n x (seen ms f) ≡ seen (note_encoding listing x ms) f
  encoding_seen Read ms f = refl
  encoding_seen Refused ms f = seen_last ms (unsupported name.Encoding) f

  type_seen : (x : TypeName) (ms : List Mark) (f : F) → note_type n x (seen ms f) ≡ seen (note_type listing x ms) f
  type_seen (Known ty) ms f = refl
  type_seen Approximate ms f = seen_last ms (unsupported name.ApproximateType) f
  type_seen Datetime ms f = seen_last ms (unsupported name.DatetimeType) f

  common_seen : (x : Common PathText) (ms : List Mark) (f : F) → note_common n x (seen ms f) ≡ seen (note_common listing x ms) f
  common_seen x ms f = ap (n.see_path x.path) (encoding_seen x.encoding ms f) ∙ seen_last (note_encoding listing x.encoding ms) (path x.path) f

  mutual
    value_seen : (x : Value PathText) (ms : List Mark) (f : F) → note_value n x (seen ms f) ≡ seen (note_value listing x ms) f
    value_seen (Lit x) ms f = refl
    value_seen (Column x) ms f = refl
    value_seen (Exists c) ms f = common_seen c.common ms f
    value_seen (ValueOf c) ms f = ap (note_type n c.ty) (common_seen c.common ms f) ∙ type_seen c.ty (note_common listing c.common ms) f
    value_seen (Query c) ms f = common_seen c.common ms f
    value_seen (IsJson c) ms f = refl
    value_seen (Object members _ _) ms f = members_seen members ms f
    value_seen (Array values _) ms f = values_seen values ms f

    values_seen : (xs : Values PathText) (ms : List Mark) (f : F) → note_values n xs (seen ms f) ≡ seen (note_values listing xs ms) f
    values_seen NoValues ms f = refl
    values_seen (MoreValues x others) ms f = ap (note_values n others) (value_seen x ms f) ∙ values_seen others (note_value listing x ms) f

    members_seen : (xs : Members PathText) (ms : List Mark) (f : F) → note_members n xs (seen ms f) ≡ seen (note_members listing xs ms) f
    members_seen NoMembers ms f = refl
    members_seen (MoreMembers x y others) ms f =
        ap (λ (g : F). note_members n others (note_value n y g)) (value_seen x ms f)
        ∙ ap (note_members n others) (value_seen y (note_value listing x ms) f)
        ∙ members_seen others (note_value listing y (note_value listing x ms)) f

  item_seen : (x : Item PathText) (ms : List Mark) (f : F) → note_item n x (seen ms f) ≡ seen (note_item listing x ms) f
  item_seen (Single x) ms f = value_seen x ms f
  item_seen (ArrayAgg x _) ms f = value_seen x ms f
  item_seen (ObjectAgg x y _ _) ms f = ap (note_value n y) (value_seen x ms f) ∙ value_seen y (note_value listing x ms) f

  mutual
    column_seen : (x : ColumnOf PathText) (ms : List Mark) (f : F) → note_column n x (seen ms f) ≡ seen (note_column listing x ms) f
    column_seen (Ordinality x) ms f = refl
    column_seen (Regular c) ms f = ap (n.see_path c.path) (type_seen c.ty ms f) ∙ seen_last (note_type listing c.ty ms) (path c.path) f
    column_seen (Formatted c) ms f = ap (n.see_path c.path) (encoding_seen c.encoding ms f) ∙ seen_last (note_encoding listing c.encoding ms) (path c.path) f
    column_seen (Existence x p action) ms f = seen_last ms (path p) f
    column_seen (Nested p x columns) ms f = ap (note_columns n columns) (seen_last ms (path p) f) ∙ columns_seen columns (ms ++ path p ∷ []) f

    columns_seen : (xs : Columns PathText) (ms : List Mark) (f : F) → note_columns n xs (seen ms f) ≡ seen (note_columns listing xs ms) f
    columns_seen (Last x) ms f = column_seen x ms f
    columns_seen (More x others) ms f = ap (note_columns n others) (column_seen x ms f) ∙ columns_seen others (note_column listing x ms) f

  table_seen : (x : Table PathText) (ms : List Mark) (f : F) → note_table n x (seen ms f) ≡ seen (note_table listing x ms) f
  table_seen x ms f = ap (note_columns n x.columns) (common_seen x.common ms f) ∙ columns_seen x.columns (note_common listing x.common ms) f

  plain_seen : (xs : List (Value PathText)) (ms : List Mark) (f : F) → note_plain n xs (seen ms f) ≡ seen (note_plain listing xs ms) f
  plain_seen [] ms f = refl
  plain_seen (x ∷ xs) ms f = ap (note_plain n xs) (value_seen x ms f) ∙ plain_seen xs (note_value listing x ms) f

  items_seen : (xs : List (Item PathText)) (ms : List Mark) (f : F) → note_items n xs (seen ms f) ≡ seen (note_items listing xs ms) f
  items_seen [] ms f = refl
  items_seen (x ∷ xs) ms f = ap (note_items n xs) (item_seen x ms f) ∙ items_seen xs (note_item listing x ms) f

  statement_seen : (x : Statement PathText) (ms : List Mark) (f : F) → note_statement n x (seen ms f) ≡ seen (note_statement listing x ms) f
  statement_seen (Plain xs) ms f = plain_seen xs ms f
  statement_seen (All t) ms f = table_seen t ms f
  statement_seen (Listed xs t) ms f = ap (note_table n t) (items_seen xs ms f) ∙ table_seen t (note_items listing xs ms) f

  -- what is noted of a tree is what is noted of its marks
  pub noted : (x : Statement PathText) (f : F) → note_statement n x f ≡ seen (marks x) f
  noted x f = statement_seen x [] f
