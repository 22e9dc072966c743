-- The rows of a statement that can be grouped fit what is made of them.
use Rattle.std.proofs.Common.{◌≡◌, inl, inr, ℕ, zero, suc, ◌++◌, List, [], ◌∷◌, length, map, get_or, slice_get, Bool, true, false, not, cond, Option, None, Some, Result, Ok, Err, IsSomeAnd, refl, sym, ◌∙◌, ap, subst, All}
use Rattle.std.specs.List.{AllByRecursion}
use Rattle.std.proofs.lemmas.List.Elements.{recursion_from_All}
use Rattle.sj_base.specs.declared.state.State.{State}
use Rattle.sj_base.specs.declared.state.State.TheVariants.{S22035}
use Rattle.sj_json.specs.Tree.{Tree, null, truth, string, number, array, object}
use Rattle.sj_path_tree.specs.declared.parts.Literal.TheVariants as literal
use Rattle.sj_path_tree.specs.declared.parts.Mode.{Mode}
use Rattle.sj_path_tree.specs.Vars.{Variables}
use Rattle.sj_item.specs.Items.{ItemValue, item_tree}
use Rattle.sj_item.specs.Scalars.{text_cast}
use Rattle.sj_step.specs.Trace.{Trace}
use Rattle.sj_cursor.specs.Single.{Single, bad, zero_items, one_item}
use Rattle.sj_value.specs.Casts.{Cast, given, text_within, scalar_cast, tree_cast, cast_of}
use Rattle.sj_value.specs.Values.{IsPrintable}
use Rattle.sj_value.specs.declared.clauses.ValueAction.{ValueAction}
use Rattle.sj_value.specs.declared.clauses.ValueAction.TheVariants as action
use Rattle.sj_value.specs.declared.clauses.ValueSpec.{ValueSpec}
use Rattle.sj_value.specs.declared.types.SqlType.{SqlType}
use Rattle.sj_value.specs.declared.types.SqlType.TheVariants as types
use Rattle.sj_value.specs.declared.value.SqlValue.{SqlValue}
use Rattle.sj_value.specs.declared.value.SqlValue.TheVariants as value
use Rattle.sj_func.specs.Functions.{ContextValue, on_item, value_error, value_cast, value_given, single_on, value_outcome}
use Rattle.sj_func.specs.declared.context.Outcome.{Outcome}
use Rattle.sj_func.specs.declared.context.Outcome.TheVariants.{Value, Raised}
use Rattle.sj_table.specs.Series.{Series, done, raises, more, chain, each}
use Rattle.sj_table.specs.Rows.{Row as TableRow, PlanRows, entry}
use Rattle.sj_bound.specs.Bound as b
use Rattle.sj_bound.specs.Sound.{is_text_type, IsTextOrNull, GivesTextOrNull, AreClauses, IsTextColumn, IsKey, IsKeyItem, IsSoundValue, IsSoundItem, IsSoundColumn, IsSoundIfAny, AreAllAlike, IsSound, is_aggregate, columns_of as sound_columns}
use Rattle.sj_select_list.specs.Line.{Line, context}
use Rattle.sj_select_list.specs.Values.{value_before, each_value, values_in, given as given_value, given_list, trace_of}
use Rattle.sj_select_list.specs.Aggregates.{Aggregate as Aggregated, aggregates_in, aggregate, aggregates}
use Rattle.sj_select.specs.Columns.{with_variables, columns_of as table_columns, regular_of, column_outcome, columns_given}
use Rattle.sj_select.specs.Rows.{StatementRows, then_values, then_rows, one_row, rows_in_error, rows_on, row_of, listed, aggregated, over_rows, rows_beside, statement_rows}
use Rattle.sj_group.specs.declared.aggregate.Aggregate.{Aggregate}
use Rattle.sj_group.specs.declared.aggregate.Aggregate.TheVariants.{Array, Object}
use Rattle.sj_group.specs.Grouping.{Row, IsRow, IsText, HasName, columns_of, takes, value_at}
use Rattle.sj_file.specs.ToGroup.{CanGroup}
use Rattle.sj_batch.specs.Given.{rows_given}

-- each row of a series, before its end
abbrev pub EachRow : (Row → Type 0) → Series Row → Type 0
EachRow P done = Unit {0}
EachRow P (raises s) = Unit {0}
EachRow P (more row rows) = P row × EachRow P rows

-- the name of a member is a text or NULL
abbrev pub MayHaveName : Aggregate → Row → Type 0
MayHaveName Array row = Unit {0}
MayHaveName Object row = IsTextOrNull (value_at 1 row)

-- a row has as many values as are taken, and a name or NULL where one is taken
pub record FitsGroup (aggregate : Aggregate) (row : Row) : Type 0 where
  pub columns : length row ≡ columns_of aggregate
  pub named : MayHaveName aggregate row

-- ---- one row

is_text : (x : SqlValue) → IsTextOrNull x → takes Object (value.Null ∷ x ∷ []) ≡ true → IsText x
is_text value.Null h t = absurd (cc t)
is_text (value.Text s) h t = record { text = s; is = refl }
is_text (value.Num d k) h t = absurd h
is_text (value.Bool x) h t = absurd h
is_text (value.Json s) h t = absurd h

has_name : (aggregate : Aggregate) (row : Row) → MayHaveName aggregate row → takes aggregate row ≡ true → HasName aggregate row
has_name Array row h t = tt
has_name Object row h t = is_text (value_at 1 row) h t

-- a row that fits and is taken can be added
pub row_is : (aggregate : Aggregate) (row : Row) → FitsGroup aggregate row → All IsPrintable row → takes aggregate row ≡ true → IsRow aggregate row
row_is aggregate row f prints t = record { columns = f.columns; printable = prints; named = has_name aggregate row f.named t }

-- ---- outcomes and casts

-- what is given, if anything is, has P
abbrev GivesIn : (SqlValue → Type 0) → Outcome → Type 0
GivesIn P (Value v) = P v
GivesIn P (Raised s) = Unit {0}

abbrev CastIn : (SqlValue → Type 0) → Cast → Type 0
CastIn P (Ok v) = P v
CastIn P (Err s) = Unit {0}

texts_given : (f : List ℕ → Cast) (r : Result (List ℕ) State) → ((s : List ℕ) → CastIn IsTextOrNull (f s)) → CastIn IsTextOrNull (given f r)
texts_given f (Ok s) h = h s
texts_given f (Err s) h = tt

chosen : (choice : Bool) (s : List ℕ) (fault : State) → CastIn IsTextOrNull (cond {A = Cast} choice (Ok (value.Text s)) (Err fault))
chosen true s fault = tt
chosen false s fault = tt

scalar_text : (t : Tree) (ty : SqlType) → is_text_type ty ≡ true → CastIn IsTextOrNull (scalar_cast t ty)
unfolding scalar_cast
scalar_text t types.Varchar h = texts_given (λ s. Ok (value.Text s)) (text_cast t) (λ s. tt)
scalar_text t (types.VarcharMax n) h = texts_given (text_within n) (text_cast t) (λ s. chosen _ s _)
scalar_text t types.Numeric h = absurd (cc h)
scalar_text t (types.NumericFixed p s) h = absurd (cc h)
scalar_text t types.Integer h = absurd (cc h)
scalar_text t types.Bigint h = absurd (cc h)
scalar_text t types.Boolean h = absurd (cc h)

tree_text : (t : Tree) (ty : SqlType) → is_text_type ty ≡ true → CastIn IsTextOrNull (tree_cast t ty)
unfolding tree_cast
tree_text null ty h = tt
tree_text (truth x) ty h = scalar_text (truth x) ty h
tree_text (string s) ty h = scalar_text (string s) ty h
tree_text (number v) ty h = scalar_text (number v) ty h
tree_text (array ts) ty h = scalar_text (array ts) ty h
tree_text (object ms) ty h = scalar_text (object ms) ty h

action_text : (a : ValueAction) (s : State) → GivesTextOrNull a → GivesIn IsTextOrNull (value_error a s)
action_text action.Error s h = tt
action_text action.Null s h = tt
action_text (action.Default x) s h = h

cast_text : (a : ValueAction) (r : Cast) → GivesTextOrNull a → CastIn IsTextOrNull r → GivesIn IsTextOrNull (value_cast a r)
cast_text a (Ok v) h g = g
cast_text a (Err s) h g = action_text a s h

single_text : (clauses : ValueSpec) (x : Single) → AreClauses clauses → is_text_type clauses.ty ≡ true → GivesIn IsTextOrNull (value_given clauses x)
single_text clauses (bad s) c h = action_text clauses.on_error s (c.error_text h)
single_text clauses zero_items c h = action_text clauses.on_empty S22035 (c.empty_text h)
single_text clauses (one_item x) c h = cast_text clauses.on_error (cast_of x clauses.ty) (c.error_text h) (tree_text (item_tree x) clauses.ty h)

-- JSON_VALUE of a text type gives a text or NULL
value_text : (clauses : ValueSpec) (mode : Mode) (x : ContextValue) (trace : ItemValue → Trace) → AreClauses clauses → is_text_type clauses.ty ≡ true → GivesIn IsTextOrNull (value_outcome clauses mode x trace)
unfolding value_outcome
value_text clauses mode x trace c h = single_text clauses (single_on mode x trace) c h

-- ---- values in a row

-- the parts of a row that is given
value_first : (o : Outcome) (r : Result (List SqlValue) State) (vs : List SqlValue) → value_before o r ≡ Ok vs → (v : SqlValue) × (others : List SqlValue) × (o ≡ Value v) × (r ≡ Ok others) × (vs ≡ v ∷ others)
value_first (Raised s) r vs e = absurd (cc e)
value_first (Value v) (Err s) vs e = absurd (cc e)
value_first (Value v) (Ok others) vs e =
    let same : v ∷ others ≡ vs = cc e in
    (v, others, refl, refl, sym same)

as_many : {A : Type 0} (f : A → Outcome) (xs : List A) (vs : List SqlValue) → each_value f xs ≡ Ok vs → length vs ≡ length xs
as_many f [] vs e =
    let same : [] ≡ vs = cc e in
    ap length (sym same)
as_many f (x ∷ xs) vs e =
    let p = value_first (f x) (each_value f xs) vs e in
    ap length p.4 ∙ ap (λ (n : ℕ). suc n) (as_many f xs p.1 p.3)

gives_so : (P : SqlValue → Type 0) (o : Outcome) (v : SqlValue) → o ≡ Value v → GivesIn P o → P v
gives_so P o v is h = subst (GivesIn P) is h

-- the second value, where it is given so
second_is : {A : Type 0} (P : SqlValue → Type 0) (f : A → Outcome) (x y : A) (xs : List A) (vs : List SqlValue) → GivesIn P (f y) → each_value f (x ∷ y ∷ xs) ≡ Ok vs → P (value_at 1 vs)
second_is P f x y xs vs h e =
    let p = value_first (f x) (each_value f (y ∷ xs)) vs e in
    let q = value_first (f y) (each_value f xs) p.1 p.3 in
    let is : value_at 1 vs ≡ q.0 = ap (value_at 1) (p.4 ∙ ap (λ (l : List SqlValue). p.0 ∷ l) q.4) in
    subst P (sym is) (gives_so P (f y) q.0 q.2 h)

-- ---- the columns of a table

module _ (vars : Variables) (row : TableRow) where
  text_column : (paths : ℕ) (c : b.ColumnOf) → IsTextColumn c → IsSoundColumn vars paths c → GivesIn IsTextOrNull (column_outcome row (with_variables vars c))
  text_column paths (b.Ordinality n) h s = absurd h
  text_column paths (b.Regular n path clauses) h s = by_entry (entry n row)
    where
      by_entry : (e : Option (ItemValue × ℕ)) → GivesIn IsTextOrNull (regular_of (record { path = path; vars = vars }) clauses e)
      by_entry None = tt
      by_entry (Some e) = value_text clauses path.mode (on_item e.0) (trace_of (record { path = path; vars = vars })) s.2 h
  text_column paths (b.Formatted n path clauses) h s = absurd h
  text_column paths (b.Existence n path _) h s = absurd h

  -- a column of this number that is a text column
  text_at : (paths : ℕ) (columns : List b.ColumnOf) (n : ℕ) (vs : List SqlValue) → IsSomeAnd (slice_get columns n) IsTextColumn → AllByRecursion (IsSoundColumn vars paths) columns
      → each_value (column_outcome row) (map (with_variables vars) columns) ≡ Ok vs → IsTextOrNull (get_or vs n value.Null)
  text_at paths [] n vs h s e = absurd h
  text_at paths (c ∷ columns) zero vs h s e =
      let p = value_first (column_outcome row (with_variables vars c)) (each_value (column_outcome row) (map (with_variables vars) columns)) vs e in
      subst (λ (l : List SqlValue). IsTextOrNull (get_or l 0 value.Null)) (sym p.4) (gives_so IsTextOrNull (column_outcome row (with_variables vars c)) p.0 p.2 (text_column paths c h s.0))
  text_at paths (c ∷ columns) (suc n) vs h s e =
      let p = value_first (column_outcome row (with_variables vars c)) (each_value (column_outcome row) (map (with_variables vars) columns)) vs e in
      subst (λ (l : List SqlValue). IsTextOrNull (get_or l (suc n) value.Null)) (sym p.4) (text_at paths columns n p.1 h s.1 p.3)

-- ---- series of rows

chain_each : (P : Row → Type 0) (xs ys : Series Row) → EachRow P xs → EachRow P ys → EachRow P (chain xs ys)
chain_each P done ys p q = q
chain_each P (raises s) ys p q = tt
chain_each P (more x xs) ys p q = (p.0, chain_each P xs ys p.1 q)

each_each : (P : Row → Type 0) (rows : PlanRows) (f : TableRow → Series Row) → ((row : TableRow) → EachRow P (f row)) → EachRow P (each rows f)
each_each P done f h = tt
each_each P (raises s) f h = tt
each_each P (more row rows) f h = chain_each P (f row) (each rows f) (h row) (each_each P rows f h)

one_each : (P : Row → Type 0) (r : Result Row State) → ((row : Row) → r ≡ Ok row → P row) → EachRow P (one_row r)
one_each P (Ok row) h = (h row refl, tt)
one_each P (Err s) h = tt

then_each : {A : Type 0} (P : Row → Type 0) (r : Result A State) (f : A → StatementRows) → ((x : A) → r ≡ Ok x → EachRow P (f x)) → EachRow P (then_rows r f)
then_each P (Ok x) f h = h x refl
then_each P (Err s) f h = tt

-- ---- the rows of a statement

-- what a list of values or of aggregates gives has P, beside the columns of some row of the table
module _ (P : Row → Type 0) (line : Line) (table : b.Table) where
  listed_each : (list : List b.Value) → ((row : TableRow) (columns vs : List SqlValue) → columns_given (table_columns table) row ≡ Ok columns → given_list line columns list ≡ Ok vs → P vs) → (rows : PlanRows) → EachRow P (listed line table list rows)
  listed_each list h rows = each_each P rows (λ row. one_row (row_of line table list row)) (λ row. one_each P (row_of line table list row) (λ vs e. by_columns row (columns_given (table_columns table) row) refl vs e))
    where
      by_columns : (row : TableRow) (r : Result (List SqlValue) State) → columns_given (table_columns table) row ≡ r → (vs : Row) → then_values r (λ columns. given_list line columns list) ≡ Ok vs → P vs
      by_columns row (Ok columns) is vs e = h row columns vs is e
      by_columns row (Err s) is vs e = absurd (cc e)

  aggregated_each : (list : List Aggregated) → ((rows : List (List SqlValue)) (vs : List SqlValue) → aggregates line list rows ≡ Ok vs → P vs) → (before : List (List SqlValue)) (rows : PlanRows) → EachRow P (aggregated line table list before rows)
  aggregated_each list h before done = one_each P (aggregates line list before) (h before)
  aggregated_each list h before (raises s) = tt
  aggregated_each list h before (more row rows) =
      then_each P (columns_given (table_columns table) row) _ (λ columns is. then_each P (aggregates line list (before ++ columns ∷ [])) _ (λ vs e. aggregated_each list h (before ++ columns ∷ []) rows))

-- ---- items

-- no aggregate among them: their values
no_aggregates : (items : List b.Item) → AllByRecursion (λ x. is_aggregate x ≡ false) items → aggregates_in items ≡ []
no_aggregates [] h = refl
no_aggregates (b.Single x ∷ items) h = no_aggregates items h.1
no_aggregates (b.ArrayAgg x _ ∷ items) h = absurd (cc h.0)
no_aggregates (b.ObjectAgg key x _ unique ∷ items) h = absurd (cc h.0)

all_values : (items : List b.Item) → AllByRecursion (λ x. is_aggregate x ≡ false) items → length (values_in items) ≡ length items
all_values [] h = refl
all_values (b.Single x ∷ items) h = ap (λ (n : ℕ). suc n) (all_values items h.1)
all_values (b.ArrayAgg x _ ∷ items) h = absurd (cc h.0)
all_values (b.ObjectAgg key x _ unique ∷ items) h = absurd (cc h.0)

-- all are aggregates
all_aggregates : (items : List b.Item) → AllByRecursion (λ x. is_aggregate x ≡ true) items → length (aggregates_in items) ≡ length items
all_aggregates [] h = refl
all_aggregates (b.Single x ∷ items) h = absurd (cc h.0)
all_aggregates (b.ArrayAgg x _ ∷ items) h = ap (λ (n : ℕ). suc n) (all_aggregates items h.1)
all_aggregates (b.ObjectAgg key x _ unique ∷ items) h = ap (λ (n : ℕ). suc n) (all_aggregates items h.1)

-- ---- as many values as items

module _ (line : Line) where
  abbrev IsWide : List b.Item → Row → Type 0
  IsWide items row = length row ≡ length items

  wide_aggregates : (table : b.Table) (items : List b.Item) (rows : PlanRows) → AllByRecursion (λ x. is_aggregate x ≡ true) items → EachRow (IsWide items) (over_rows line table (values_in items) (aggregates_in items) rows)
  wide_aggregates table [] rows h = listed_each (IsWide []) line table [] (λ row columns vs is e. as_many (given_value line columns) [] vs e) rows
  wide_aggregates table (b.Single x ∷ items) rows h = absurd (cc h.0)
  wide_aggregates table (b.ArrayAgg x nulls ∷ items) rows h =
      aggregated_each (IsWide (b.ArrayAgg x nulls ∷ items)) line table (aggregates_in (b.ArrayAgg x nulls ∷ items)) (λ columns vs e. as_many (aggregate line columns) (aggregates_in (b.ArrayAgg x nulls ∷ items)) vs e ∙ all_aggregates (b.ArrayAgg x nulls ∷ items) h) [] rows
  wide_aggregates table (b.ObjectAgg key x nulls unique ∷ items) rows h =
      aggregated_each (IsWide (b.ObjectAgg key x nulls unique ∷ items)) line table (aggregates_in (b.ObjectAgg key x nulls unique ∷ items)) (λ columns vs e. as_many (aggregate line columns) (aggregates_in (b.ObjectAgg key x nulls unique ∷ items)) vs e ∙ all_aggregates (b.ObjectAgg key x nulls unique ∷ items) h) [] rows

  wide_values : (table : b.Table) (items : List b.Item) (rows : PlanRows) → AllByRecursion (λ x. is_aggregate x ≡ false) items → EachRow (IsWide items) (over_rows line table (values_in items) (aggregates_in items) rows)
  wide_values table items rows h =
      subst (λ (l : List Aggregated). EachRow (IsWide items) (over_rows line table (values_in items) l rows)) (sym (no_aggregates items h))
      (listed_each (IsWide items) line table (values_in items) (λ row columns vs is e. as_many (given_value line columns) (values_in items) vs e ∙ all_values items h) rows)

  wide_rows : (table : Option b.Table) (items : List b.Item) → AreAllAlike items table → EachRow (IsWide items) (rows_beside table items line)
  wide_rows None items alike = one_each (IsWide items) (given_list line [] (values_in items)) (λ vs e. as_many (given_value line []) (values_in items) vs e ∙ all_values items (recursion_from_All (λ x. is_aggregate x ≡ false) items alike))
  wide_rows (Some table) items (inl none) = wide_values table items (rows_on table (context line)) (recursion_from_All (λ x. is_aggregate x ≡ false) items none)
  wide_rows (Some table) items (inr all) = wide_aggregates table items (rows_on table (context line)) (recursion_from_All (λ x. is_aggregate x ≡ true) items all)

  -- ---- a key as the second item

  -- a key gives a text or NULL, where text columns do
  key_text : (columns : List b.ColumnOf) (vs : List SqlValue) → ((n : ℕ) → IsSomeAnd (slice_get columns n) IsTextColumn → IsTextOrNull (get_or vs n value.Null)) → (x : b.Value) → IsKey columns x → IsSoundValue columns x
      → GivesIn IsTextOrNull (given_value line vs x)
  key_text columns vs known (b.Lit (literal.Text s)) h sound = tt
  key_text columns vs known (b.Lit (literal.Num d)) h sound = absurd h
  key_text columns vs known (b.Lit (literal.Bool x)) h sound = absurd h
  key_text columns vs known (b.Lit literal.Null) h sound = tt
  key_text columns vs known (b.Column n) h sound = known n h
  key_text columns vs known (b.Exists x _) h sound = absurd h
  key_text columns vs known (b.ValueOf x clauses) h sound = value_text clauses x.path.mode (context line) (trace_of x) sound.1 h
  key_text columns vs known (b.Query x clauses) h sound = absurd h
  key_text columns vs known (b.IsJson call) h sound = absurd h
  key_text columns vs known (b.Object members _ unique) h sound = absurd h
  key_text columns vs known (b.Array values _) h sound = absurd h

  abbrev IsKeyed : Row → Type 0
  IsKeyed row = IsTextOrNull (value_at 1 row)

  -- two values and more
  keyed_values : (table : Option b.Table) (x y : b.Value) (items : List b.Item) → AllByRecursion (λ i. is_aggregate i ≡ false) items → IsSoundIfAny table → IsKey (sound_columns table) y → IsSoundValue (sound_columns table) y
      → EachRow IsKeyed (rows_beside table (b.Single x ∷ b.Single y ∷ items) line)
  keyed_values None x y items none sound key value =
      one_each IsKeyed (given_list line [] (x ∷ y ∷ values_in items)) (λ vs e. second_is IsTextOrNull (given_value line []) x y (values_in items) vs (key_text [] [] (λ n h. absurd h) y key value) e)
  keyed_values (Some table) x y items none sound key value =
      subst (λ (l : List Aggregated). EachRow IsKeyed (over_rows line table (x ∷ y ∷ values_in items) l (rows_on table (context line)))) (sym (no_aggregates items none))
      (listed_each IsKeyed line table (x ∷ y ∷ values_in items) (λ row columns vs is e.
      second_is IsTextOrNull (given_value line columns) x y (values_in items) vs
      (key_text table.columns columns (λ n h. text_at table.vars row (length table.paths) table.columns n columns h (recursion_from_All (IsSoundColumn table.vars (length table.paths)) table.columns sound.columns) is) y key value) e)
      (rows_on table (context line)))

  keyed_items : (table : Option b.Table) (items : List b.Item) → AllByRecursion (λ i. is_aggregate i ≡ false) items → AllByRecursion (IsSoundItem (sound_columns table)) items → IsSoundIfAny table → IsSomeAnd (slice_get items 1) (IsKeyItem (sound_columns table))
      → EachRow IsKeyed (rows_beside table items line)
  keyed_items table [] none sounds sound h = absurd h
  keyed_items table (i ∷ []) none sounds sound h = absurd h
  keyed_items table (b.Single x ∷ b.Single y ∷ items) none sounds sound h = keyed_values table x y items none.1.1 sound h sounds.1.0
  keyed_items table (b.Single x ∷ b.ArrayAgg y _ ∷ items) none sounds sound h = absurd h
  keyed_items table (b.Single x ∷ b.ObjectAgg key y _ unique ∷ items) none sounds sound h = absurd h
  keyed_items table (b.ArrayAgg x _ ∷ j ∷ items) none sounds sound h = absurd (cc none.0)
  keyed_items table (b.ObjectAgg key x _ unique ∷ j ∷ items) none sounds sound h = absurd (cc none.0)

  -- a key is no aggregate
  key_among : (columns : List b.ColumnOf) (items : List b.Item) → AllByRecursion (λ i. is_aggregate i ≡ true) items → IsSomeAnd (slice_get items 1) (IsKeyItem columns) → ⊥
  key_among columns [] all h = h
  key_among columns (i ∷ []) all h = h
  key_among columns (i ∷ b.Single y ∷ items) all h = cc all.1.0
  key_among columns (i ∷ b.ArrayAgg y _ ∷ items) all h = h
  key_among columns (i ∷ b.ObjectAgg key y _ unique ∷ items) all h = h

  keyed_rows : (table : Option b.Table) (items : List b.Item) → AreAllAlike items table → AllByRecursion (IsSoundItem (sound_columns table)) items → IsSoundIfAny table → IsSomeAnd (slice_get items 1) (IsKeyItem (sound_columns table))
      → EachRow IsKeyed (rows_beside table items line)
  keyed_rows None items alike sounds sound h = keyed_items None items (recursion_from_All (λ i. is_aggregate i ≡ false) items alike) sounds sound h
  keyed_rows (Some table) items (inl none) sounds sound h = keyed_items (Some table) items (recursion_from_All (λ i. is_aggregate i ≡ false) items none) sounds sound h
  keyed_rows (Some table) items (inr all) sounds sound h = absurd (key_among table.columns items (recursion_from_All (λ i. is_aggregate i ≡ true) items all) h)

-- ---- THE LAW: the rows of a statement that can be grouped fit

each_mapped : (P Q : Row → Type 0) (xs : Series Row) → ((row : Row) → P row → Q row) → EachRow P xs → EachRow Q xs
each_mapped P Q done f p = tt
each_mapped P Q (raises s) f p = tt
each_mapped P Q (more x xs) f p = (f x p.0, each_mapped P Q xs f p.1)

each_both : (P Q R : Row → Type 0) (xs : Series Row) → ((row : Row) → P row → Q row → R row) → EachRow P xs → EachRow Q xs → EachRow R xs
each_both P Q R done f p q = tt
each_both P Q R (raises s) f p q = tt
each_both P Q R (more x xs) f p q = (f x p.0 q.0, each_both P Q R xs f p.1 q.1)

rows_fit : (aggregate : Aggregate) (s : b.Bound) (line : Line) → IsSound s → CanGroup aggregate s → EachRow (FitsGroup aggregate) (statement_rows s line)
rows_fit Array s line sound fits =
    each_mapped (IsWide line s.items) (FitsGroup Array) (statement_rows s line) (λ row wide. record { columns = wide ∙ fits; named = tt }) (wide_rows line s.table s.items sound.alike)
rows_fit Object s line sound fits =
    each_both (IsWide line s.items) (IsKeyed line) (FitsGroup Object) (statement_rows s line) (λ row wide key. record { columns = wide ∙ fits.0; named = key })
    (wide_rows line s.table s.items sound.alike)
    (keyed_rows line s.table s.items sound.alike (recursion_from_All (IsSoundItem (sound_columns s.table)) s.items sound.items) sound.table fits.1)

pub given_fit : (aggregate : Aggregate) (s : b.Bound) (line : Line) → IsSound s → CanGroup aggregate s → EachRow (FitsGroup aggregate) (rows_given s line)
unfolding rows_given
given_fit aggregate s line sound fits = rows_fit aggregate s line sound fits
