-- The aggregates over the rows of a table, of which one is taken after another.
use Rattle.std.proofs.Common.{◌≡◌, ◌≤◌, ℕ, ◌+◌, List, [], ◌∷◌, ◌++◌, map, IfOk, Option, None, Some, Result, Ok, Err, sym, ap, subst, ◌∙◌, arith}
use Rattle.std.specs.List.{All as Each}
use Rattle.sj_base.specs.declared.memory.Memory.{Memory}
use Rattle.sj_base.specs.declared.state.State.{State}
use Rattle.sj_value.specs.declared.value.SqlValue.{SqlValue}
use Rattle.sj_base.specs.Count.{raised}
use Rattle.sj_table.specs.Rows.{Row, PlanRows}
use Rattle.sj_table.specs.Takes.{Spends}
use Rattle.sj_table.specs.Series.{done, raises, more}
use Rattle.sj_bound.specs.Bound as b
use Rattle.sj_select_list.specs.Aggregates.{Aggregate, aggregates, inputs_cost}
use Rattle.sj_select_list.specs.Line.{Line}
use Rattle.sj_select_list.specs.Taking.{HasTaken, AllTake, IsReady, aggregate_of}
use Rattle.sj_select_list.proofs.Aggregating.{all_taken}
use Rattle.sj_select_list.specs.declared.aggregate.Aggregate.{Aggregate as AggregateHeld}
use Rattle.sj_select.specs.Columns.{columns_of, columns_given, columns_cost}
use Rattle.sj_select.specs.Rows.{StatementRows, then_values, then_rows, then_cost, one_row, aggregated, aggregated_cost}
use Rattle.sj_select.specs.Sources.{taken_end, taken_cost, TakesRow, HasTakenRow, HasTakenRows}

stop_by : (r : Result (List SqlValue) State) (f : List SqlValue → Result (List SqlValue) State) (g : List SqlValue → StatementRows) (s : State) → then_values r f ≡ Err s
    → then_rows r (λ c. then_rows (f c) (λ _. g c)) ≡ raises s
stop_by (Ok c) f g s e = ap (λ (x : Result (List SqlValue) State). then_rows x (λ _. g c)) e
stop_by (Err x) f g s e =
    let same : x ≡ s = cc in
    ap raises same

cost_by : (r : Result (List SqlValue) State) (f : List SqlValue → Result (List SqlValue) State) (c g : List SqlValue → ℕ) → then_cost r c ≤ then_cost r (λ x. c x + then_cost (f x) (λ _. g x))
cost_by (Ok x) f c g = omega arith
cost_by (Err s) f c g = omega arith

-- what the aggregates take of a row whose columns are these
pub takes_row : (line : Line) (table : b.Table) (row : Row) (before : List (List SqlValue)) (old new : List AggregateHeld) (cs : List SqlValue) (r : Result (Option State) Memory)
    → columns_given (columns_of table) row ≡ Ok cs
    → IfOk r (AllTake (aggregates line (map aggregate_of old) (before ++ cs ∷ [])) (Each (HasTaken line (before ++ cs ∷ [])) new)) → IfOk r (TakesRow line table row before old new)
takes_row line table row before old new cs (Ok None) e h = record { columns = cs; given = e; taken = h }
takes_row line table row before old new cs (Ok (Some s)) e h =
    ap (λ (x : Result (List SqlValue) State). then_values x (λ columns. aggregates line (map aggregate_of old) (before ++ columns ∷ []))) e ∙ h
takes_row line table row before old new cs (Err m) e h = tt

pub taken_cost_is : (line : Line) (table : b.Table) (list : List Aggregate) (before : List (List SqlValue)) (row : Row) (cs : List SqlValue) → columns_given (columns_of table) row ≡ Ok cs
    → taken_cost line table list before row ≡ columns_cost (columns_of table) row + inputs_cost line list (before ++ cs ∷ []) cs
taken_cost_is line table list before row cs e = ap (λ (x : Result (List SqlValue) State). columns_cost (columns_of table) row + then_cost x (λ columns. inputs_cost line list (before ++ columns ∷ []) columns)) e

module _ (line : Line) (table : b.Table) (list : List Aggregate) where
  pub aggregated_end : (before : List (List SqlValue)) (left : PlanRows) → left ≡ done → aggregated line table list before left ≡ one_row (aggregates line list before)
  aggregated_end before left e = ap (aggregated line table list before) e

  pub aggregated_raised : (before : List (List SqlValue)) (left : PlanRows) (s : State) → left ≡ raises s → aggregated line table list before left ≡ raises s
  aggregated_raised before left s e = ap (aggregated line table list before) e

  pub aggregated_stop : (before : List (List SqlValue)) (left : PlanRows) (row : Row) (others : PlanRows) (s : State) → left ≡ more row others → taken_end line table list before row ≡ Err s
      → aggregated line table list before left ≡ raises s
  aggregated_stop before left row others s e f =
      ap (aggregated line table list before) e
      ∙ stop_by (columns_given (columns_of table) row) (λ c. aggregates line list (before ++ c ∷ [])) (λ c. aggregated line table list (before ++ c ∷ []) others) s f

  pub aggregated_row : (before : List (List SqlValue)) (left : PlanRows) (row : Row) (others : PlanRows) (cs vs : List SqlValue) → left ≡ more row others → columns_given (columns_of table) row ≡ Ok cs
      → aggregates line list (before ++ cs ∷ []) ≡ Ok vs → aggregated line table list before left ≡ aggregated line table list (before ++ cs ∷ []) others
  aggregated_row before left row others cs vs e f g =
      ap (aggregated line table list before) e
      ∙ ap (λ (r : Result (List SqlValue) State). then_rows r (λ c. then_rows (aggregates line list (before ++ c ∷ [])) (λ _. aggregated line table list (before ++ c ∷ []) others))) f
      ∙ ap (λ (r : Result (List SqlValue) State). then_rows r (λ _. aggregated line table list (before ++ cs ∷ []) others)) g

  -- ---- steps

  pub taken_within : (before : List (List SqlValue)) (left : PlanRows) (row : Row) (others : PlanRows) → left ≡ more row others → taken_cost line table list before row ≤ aggregated_cost line table list before left
  taken_within before left row others e =
      let same = ap (aggregated_cost line table list before) e in
      omega (
        arith,
        same,
        cost_by (columns_given (columns_of table) row) (λ c. aggregates line list (before ++ c ∷ [])) (λ c. inputs_cost line list (before ++ c ∷ []) c)
            (λ c. aggregated_cost line table list (before ++ c ∷ []) others),
      )

  pub taken_more : (before : List (List SqlValue)) (left : PlanRows) (row : Row) (others : PlanRows) (cs vs : List SqlValue) → left ≡ more row others → columns_given (columns_of table) row ≡ Ok cs
      → aggregates line list (before ++ cs ∷ []) ≡ Ok vs
      → aggregated_cost line table list before left ≡ taken_cost line table list before row + aggregated_cost line table list (before ++ cs ∷ []) others
  taken_more before left row others cs vs e f g =
      let whole = ap (aggregated_cost line table list before) e in
      let inner = ap (λ (r : Result (List SqlValue) State). then_cost r (λ c. inputs_cost line list (before ++ c ∷ []) c + then_cost (aggregates line list (before ++ c ∷ [])) (λ _. aggregated_cost line table list (before ++ c ∷ []) others))) f in
      let later = ap (λ (r : Result (List SqlValue) State). then_cost r (λ _. aggregated_cost line table list (before ++ cs ∷ []) others)) g in
      let first = ap (λ (r : Result (List SqlValue) State). then_cost r (λ c. inputs_cost line list (before ++ c ∷ []) c)) f in
      omega (arith, whole, inner, later, first)

-- ---- how far taking has come

-- some rows were taken, and the aggregates over them and those that are left are all
pub record HasCome (line : Line) (table : b.Table) (list : List Aggregate) (whole : StatementRows) (allowed : ℕ) (held : List AggregateHeld) (left : PlanRows) (due steps : ℕ) : Type 0 where
  pub before : List (List SqlValue)
  pub taken : Each (HasTaken line before) held
  pub same : aggregated line table list before left ≡ whole
  pub costs : raised steps (due + aggregated_cost line table list before left) ≤ allowed

module _ (line : Line) (table : b.Table) (list : List Aggregate) (whole : StatementRows) (allowed : ℕ) (held : List AggregateHeld) (left : PlanRows) (due steps : ℕ) (h : HasCome line table list whole allowed held left due steps) where
  pub come_end : map aggregate_of held ≡ list → left ≡ done → HasTakenRows whole line held
  come_end calls none =
      record { rows = h.before; taken = h.taken; left = sym h.same ∙ aggregated_end line table list h.before left none ∙ ap (λ l. one_row (aggregates line l h.before)) (sym calls) }

  pub come_raised : (s : State) → left ≡ raises s → whole ≡ raises s
  come_raised s e = sym h.same ∙ aggregated_raised line table list h.before left s e

  -- the plan alone
  pub come_within : (due' later : ℕ) → Spends due due' steps later → later ≤ allowed
  come_within due' later spends = omega (arith, spends.falls, spends.costs, h.costs)

  module _ (row : Row) (others : PlanRows) (is_more : left ≡ more row others) (table' : b.Table) (same_table : table' ≡ table) where
    -- a row too
    pub come_row_within : (due' later last : ℕ) → map aggregate_of held ≡ list → Spends due due' steps later → last ≤ raised later (taken_cost line table' (map aggregate_of held) h.before row) → last ≤ allowed
    come_row_within due' later last calls spends spent =
        let here : last ≤ raised later (taken_cost line table list h.before row) =
        subst (λ l. last ≤ raised later (taken_cost line table l h.before row)) calls (subst (λ (t : b.Table). last ≤ raised later (taken_cost line t (map aggregate_of held) h.before row)) same_table spent) in
        omega (arith, spends.falls, spends.costs, h.costs, here, taken_within line table list h.before left row others is_more)

    pub come_stop : (s : State) → map aggregate_of held ≡ list → taken_end line table' (map aggregate_of held) h.before row ≡ Err s → whole ≡ raises s
    come_stop s calls e =
        sym h.same ∙ aggregated_stop line table list h.before left row others s is_more
        (subst (λ l. taken_end line table l h.before row ≡ Err s) calls (subst (λ (t : b.Table). taken_end line t (map aggregate_of held) h.before row ≡ Err s) same_table e))

    pub come_more : (held' : List AggregateHeld) (others' : PlanRows) (due' due'' later last : ℕ) → map aggregate_of held ≡ list → map aggregate_of held' ≡ list → Each IsReady held' → HasTakenRow line table' row h.before held'
        → Spends due due' steps later → last ≤ raised later (taken_cost line table' (map aggregate_of held) h.before row) → others' ≡ others → due'' ≡ due' → HasCome line table list whole allowed held' others' due'' last
    come_more held' others' due' due'' later last calls calls' ready took spends spent same_others same_due =
        let given : columns_given (columns_of table) row ≡ Ok took.columns = ap (λ (t : b.Table). columns_given (columns_of t) row) (sym same_table) ∙ took.given in
        let values = all_taken line (h.before ++ took.columns ∷ []) held' ready took.taken in
        let is : aggregates line list (h.before ++ took.columns ∷ []) ≡ Ok values.0 = ap (λ l. aggregates line l (h.before ++ took.columns ∷ [])) (sym calls') ∙ values.1 in
        let here : last ≤ raised later (taken_cost line table list h.before row) =
        subst (λ l. last ≤ raised later (taken_cost line table l h.before row)) calls (subst (λ (t : b.Table). last ≤ raised later (taken_cost line t (map aggregate_of held) h.before row)) same_table spent) in
        let later_cost : aggregated_cost line table list (h.before ++ took.columns ∷ []) others' ≡ aggregated_cost line table list (h.before ++ took.columns ∷ []) others = ap (aggregated_cost line table list (h.before ++ took.columns ∷ [])) same_others in
        record {
          before = h.before ++ took.columns ∷ [];
          taken = took.taken;
          same = ap (aggregated line table list (h.before ++ took.columns ∷ [])) same_others ∙ sym (aggregated_row line table list h.before left row others took.columns values.0 is_more given is) ∙ h.same;
          costs = omega (arith, spends.falls, spends.costs, h.costs, here, same_due, later_cost, taken_more line table list h.before left row others took.columns values.0 is_more given is);
        }
