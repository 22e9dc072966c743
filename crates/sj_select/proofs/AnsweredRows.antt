-- What is answered of the rows that are left, and printed, by what was found in the place of the next one.
use Rattle.std.proofs.Common.{◌≡◌, ◌≤◌, ℕ, List, ◌++◌, length, take, codes, Result, Ok, Err, OnErr, refl, sym, ap, ◌∙◌, arith, append_assoc, length-append}
use Rattle.std.specs.List.{flat_map}
use Rattle.std.proofs.lemmas.List.{append-nil}
use Rattle.sj_value.specs.declared.value.SqlValue.{SqlValue}
use Rattle.sj_rows.specs.RowText.{row_head, row_front, tabbed, Extends}
use Rattle.sj_rows.proofs.Extending.{extends_by, extends_more, extends_back}
use Rattle.sj_table.specs.Series.{done, rest}
use Rattle.sj_select.specs.Rows.{StatementRows}
use Rattle.sj_select.specs.Seen.{turn_of, due_behind, next_text, next_values}
use Rattle.sj_select.specs.Sources.{HasRow, Prints, FindsNext, values_found, found_due}
use Rattle.sj_select.specs.Stages.{left_at, due_at, turn_for, stage_behind, EndsText}
use Rattle.sj_select.specs.declared.source.Found.{Found}
use Rattle.sj_select.specs.declared.source.Found.TheVariants as found

-- whatever was found, its fields extend what stood there
pub prints_extends : (left left' : StatementRows) (f : Found) (old new : List ℕ) → Prints left f old new left' → Extends old new
prints_extends left left' found.Row old new p = record { behind = flat_map tabbed p.row; grown = p.grown }
prints_extends left left' found.LastRow old new p = record { behind = flat_map tabbed p.row; grown = p.grown }
prints_extends left left' found.End old new p = p.1
prints_extends left left' (found.Raised s) old new p = p.1

module _ (left left' : StatementRows) (old new : List ℕ) where
  pub turn_is : (f : Found) → Prints left f old new left' → turn_for f ≡ turn_of left
  turn_is found.Row p = ap turn_of (sym p.is)
  turn_is found.LastRow p = ap turn_of (sym p.is)
  turn_is found.End p = ap turn_of (sym p.0)
  turn_is (found.Raised s) p = ap turn_of (sym p.0)

  pub rest_is : (f : Found) → Prints left f old new left' → left_at (stage_behind f) left' ≡ rest left
  rest_is found.Row p = ap rest (sym p.is)
  rest_is found.LastRow p = ap rest (sym p.is)
  rest_is found.End p = ap rest (sym p.0)
  rest_is (found.Raised s) p = ap rest (sym p.0)

  -- ---- the text, between its front and its end

  module _ (line statement : ℕ) (before last : List ℕ) (begun : old ≡ before ++ row_front line statement) where
    row_whole : (later : StatementRows) → HasRow left later old new → last ≡ new ++ codes "\n" → last ≡ before ++ next_text line statement left
    row_whole later p ends =
        ends ∙ ap (λ (l : List ℕ). l ++ codes "\n") (p.grown ∙ ap (λ (l : List ℕ). l ++ flat_map tabbed p.row) begun)
        ∙ ap (λ (l : List ℕ). l ++ codes "\n") (append_assoc before (row_front line statement) (flat_map tabbed p.row))
        ∙ append_assoc before (row_front line statement ++ flat_map tabbed p.row) (codes "\n")
        ∙ ap (λ (l : List ℕ). before ++ l)
        (append_assoc (row_front line statement) (flat_map tabbed p.row) (codes "\n") ∙ append_assoc (row_head line statement) (codes "\tR") (flat_map tabbed p.row ++ codes "\n"))
        ∙ ap (λ (r : StatementRows). before ++ next_text line statement r) (sym p.is)

    taken_back : (start : ℕ) → start ≡ length before → Extends old new → last ≡ take start new → last ≡ before
    taken_back start at kept ends = extends_back start before new last at (extends_more before old new (extends_by before (row_front line statement) old begun) kept) ends

    pub text_is : (f : Found) (start : ℕ) → start ≡ length before → Prints left f old new left' → EndsText f start new last → last ≡ before ++ next_text line statement left
    text_is found.Row start at p ends = row_whole left' p ends
    text_is found.LastRow start at p ends = row_whole done p ends
    text_is found.End start at p ends = taken_back start at p.1 ends ∙ sym (append-nil before) ∙ ap (λ (r : StatementRows). before ++ next_text line statement r) (sym p.0)
    text_is (found.Raised s) start at p ends = taken_back start at p.1 ends ∙ sym (append-nil before) ∙ ap (λ (r : StatementRows). before ++ next_text line statement r) (sym p.0)

    -- whatever was found, what stood there before stays
    pub front_stays : (f : Found) → Prints left f old new left' → Extends before new
    front_stays f p = extends_more before old new (extends_by before (row_front line statement) old begun) (prints_extends left left' f old new p)

    pub front_stays_by : Extends old new → Extends before new
    front_stays_by kept = extends_more before old new (extends_by before (row_front line statement) old begun) kept

-- ---- the same of the values that were found

module _ (left left' : StatementRows) (values : List SqlValue) where
  pub turn_found : (f : Found) → FindsNext left f values left' → turn_for f ≡ turn_of left
  turn_found found.Row p = ap turn_of (sym p)
  turn_found found.LastRow p = ap turn_of (sym p)
  turn_found found.End p = ap turn_of (sym p)
  turn_found (found.Raised s) p = ap turn_of (sym p)

  pub rest_found : (f : Found) → FindsNext left f values left' → left_at (stage_behind f) left' ≡ rest left
  rest_found found.Row p = ap rest (sym p)
  rest_found found.LastRow p = ap rest (sym p)
  rest_found found.End p = ap rest (sym p)
  rest_found (found.Raised s) p = ap rest (sym p)

  pub values_next : (f : Found) → FindsNext left f values left' → values_found f values ≡ next_values left
  values_next found.Row p = ap next_values (sym p)
  values_next found.LastRow p = ap next_values (sym p)
  values_next found.End p = ap next_values (sym p)
  values_next (found.Raised s) p = ap next_values (sym p)

pub longer : (start : ℕ) (before new : List ℕ) → start ≡ length before → Extends before new → start ≤ length new
longer start before new at kept = omega (arith, at, ap length kept.grown, length-append before kept.behind)

pub at_error : {T E : Type 0} {P : Type 0} (r : Result T E) → P → OnErr r P
at_error (Ok x) p = tt
at_error (Err e) p = p

-- behind an end nothing is due
pub due_is : (f : Found) (due : ℕ) → due_at (stage_behind f) due ≡ due_behind (turn_for f) (due_at (stage_behind f) due)
due_is found.Row due = refl
due_is found.LastRow due = refl
due_is found.End due = refl
due_is (found.Raised s) due = refl

pub due_found : (f : Found) (due : ℕ) → found_due f due ≡ due_at (stage_behind f) due
due_found found.Row due = refl
due_found found.LastRow due = refl
due_found found.End due = refl
due_found (found.Raised s) due = refl
