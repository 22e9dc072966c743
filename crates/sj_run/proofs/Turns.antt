-- Printing the rows of a statement one by one.
use Rattle.std.proofs.Common.{◌≡◌, ℕ, ◌+◌, ◌<◌, List, [], ◌∷◌, ◌++◌, Result, drop, refl, sym, ◌∙◌, ap, subst, arith}
use Rattle.sj_base.specs.declared.state.State.{State}
use Rattle.sj_value.specs.declared.value.SqlValue.{SqlValue}
use Rattle.sj_table.specs.Series.{Series, done, raises, more, first, rest}
use Rattle.sj_bound.specs.Bound.{Bound}
use Rattle.sj_select_list.specs.Line.{Line}
use Rattle.sj_select.specs.Seen.{Seen, turn_of, next_text, Gives}
use Rattle.sj_select.specs.declared.rows.Turn.{Turn}
use Rattle.sj_select.specs.declared.rows.Turn.TheVariants as turn
use Rattle.sj_rows.specs.RowText.{row_bytes}
use Rattle.sj_page.specs.Pages.{Print, PrintState, Prints, nothing, followed_by, one_row, row_print, error_print}
use Rattle.sj_page.specs.declared.stop.Stop.{Stop}
use Rattle.sj_page.proofs.Printing.{Printing, same_print, nothing_before, printed_on, printing_starts, printing_more}
use Rattle.sj_stream.proofs.Pages.{row_counted}
use Rattle.sj_run.specs.Output.{rows_text, row_count, error_count, rows_print, asked_from, prints, cost}
use Rattle.sj_batch.specs.Given.{rows_given, cost_given}

-- ---- one answer

pub row_first : (line k : ℕ) (xs : Series (List SqlValue)) → turn.Row ≡ turn_of xs → rows_print line k xs ≡ followed_by (row_print line k (first xs)) (rows_print line k (rest xs))
row_first line k done is = absurd (cc is)
row_first line k (raises s) is = absurd (cc is)
row_first line k (more x xs) is =
    same_print (row_bytes line k x ++ rows_text line k xs) (row_bytes line k x ++ rows_text line k xs) (1 + row_count xs) (1 + row_count xs) (error_count xs) (0 + error_count xs) refl refl (omega arith)

pub row_less : (xs : Series (List SqlValue)) → turn.Row ≡ turn_of xs → row_count (rest xs) < row_count xs
row_less done is = absurd (cc is)
row_less (raises s) is = absurd (cc is)
row_less (more x xs) is = omega arith

pub none_left : (line k : ℕ) (xs : Series (List SqlValue)) → turn.End ≡ turn_of xs → rows_print line k xs ≡ nothing
none_left line k done is = refl
none_left line k (raises s) is = absurd (cc is)
none_left line k (more x xs) is = absurd (cc is)

pub state_left : (line k : ℕ) (xs : Series (List SqlValue)) (s : State) → turn.Raised s ≡ turn_of xs → rows_print line k xs ≡ error_print line k s
state_left line k done s is = absurd (cc is)
state_left line k (raises t) s is = raised_same line k t s is
  where
    raised_same : (line k : ℕ) (t s : State) → turn.Raised s ≡ turn.Raised t → rows_print line k (raises t) ≡ error_print line k s
    raised_same line k t s is =
        let same : s ≡ t = cc is in
        ap (error_print line k) (sym same)
state_left line k (more x xs) s is = absurd (cc is)

-- ---- the rows go to the next

pub turn_row : (line k : ℕ) (old new : Seen) (t : Turn) → Gives old new t → t ≡ turn.Row → rows_print line k old.left ≡ followed_by (row_print line k (first old.left)) (rows_print line k new.left)
turn_row line k old new t g is =
    row_first line k old.left (sym is ∙ g.answers) ∙ ap (λ (xs : Series (List SqlValue)). followed_by (row_print line k (first old.left)) (rows_print line k xs)) (sym g.leaves)

-- its text was appended, and then it was counted
pub row_put : (line k : ℕ) (old new : Seen) (t : Turn) (a b c : PrintState) (r : Result Unit Stop) → Gives old new t → t ≡ turn.Row → b.out ≡ a.out → b.page.text ≡ a.page.text ++ next_text line k old.left
    → b.page.rows ≡ a.page.rows → b.page.errors ≡ a.page.errors → Prints one_row b c r → Prints (row_print line k (first old.left)) a c r
row_put line k old new t a b c r g is out text rows errors counted =
    row_counted (row_bytes line k (first old.left)) a b c r out (text ∙ ap (λ (l : List ℕ). a.page.text ++ l) (row_text_is line k old.left (sym is ∙ g.answers))) rows errors counted
  where
    row_text_is : (line k : ℕ) (xs : Series (List SqlValue)) → turn.Row ≡ turn_of xs → next_text line k xs ≡ row_bytes line k (first xs)
    row_text_is line k done e = absurd (cc e)
    row_text_is line k (raises s) e = absurd (cc e)
    row_text_is line k (more x xs) e = refl

-- where a state is raised nothing is appended
pub raised_text : (line k : ℕ) (old new : Seen) (t : Turn) (s : State) → Gives old new t → t ≡ turn.Raised s → next_text line k old.left ≡ []
raised_text line k old new t s g is = no_text line k old.left s (sym is ∙ g.answers)
  where
    no_text : (line k : ℕ) (xs : Series (List SqlValue)) (s : State) → turn.Raised s ≡ turn_of xs → next_text line k xs ≡ []
    no_text line k done s e = refl
    no_text line k (raises x) s e = refl
    no_text line k (more x xs) s e = absurd (cc e)

-- the page is as it was
pub printing_same : (whole left : Print) (a b c : PrintState) → Printing whole left a b → c.out ≡ b.out → c.page.text ≡ b.page.text ++ [] → c.page.rows ≡ b.page.rows → c.page.errors ≡ b.page.errors → Printing whole left a c
printing_same whole left a b c x out text rows errors =
    printing_more whole left nothing left a b c x (sym (nothing_before left)) (printed_on nothing b c out text (omega (arith, rows)) (omega (arith, errors)))

pub turn_less : (old new : Seen) (t : Turn) → Gives old new t → t ≡ turn.Row → row_count new.left < row_count old.left
turn_less old new t g is = omega (arith, row_less old.left (sym is ∙ g.answers), ap row_count g.leaves)

pub turn_end : (line k : ℕ) (old new : Seen) (t : Turn) → Gives old new t → t ≡ turn.End → rows_print line k old.left ≡ nothing
turn_end line k old new t g is = none_left line k old.left (sym is ∙ g.answers)

pub turn_raised : (line k : ℕ) (old new : Seen) (t : Turn) (s : State) → Gives old new t → t ≡ turn.Raised s → rows_print line k old.left ≡ error_print line k s
turn_raised line k old new t s g is = state_left line k old.left s (sym is ∙ g.answers)

pub begins : (whole left : Print) (a : PrintState) → left ≡ whole → Printing whole left a a
begins whole left a is = subst (λ (p : Print). Printing whole p a a) (sym is) (printing_starts whole a)

-- ---- one statement

pub statement_first : (P : List Bound) (i n l : ℕ) (line seen : Line) (p : Bound) → drop i P ≡ p ∷ drop (i + 1) P → seen ≡ line
    → prints (asked_from n (drop i P) l line) ≡ followed_by (rows_print l n (rows_given p seen)) (prints (asked_from (n + 1) (drop (i + 1) P) l line))
statement_first P i n l line seen p is same =
    ap (λ (q : List Bound). prints (asked_from n q l line)) is ∙ ap (λ (x : Line). followed_by (rows_print l n (rows_given p x)) (prints (asked_from (n + 1) (drop (i + 1) P) l line))) (sym same)

pub statement_cost_first : (P : List Bound) (i n l : ℕ) (line seen : Line) (p : Bound) → drop i P ≡ p ∷ drop (i + 1) P → seen ≡ line
    → cost (asked_from n (drop i P) l line) ≡ cost_given p seen + cost (asked_from (n + 1) (drop (i + 1) P) l line)
statement_cost_first P i n l line seen p is same =
    ap (λ (q : List Bound). cost (asked_from n q l line)) is ∙ ap (λ (x : Line). cost_given p x + cost (asked_from (n + 1) (drop (i + 1) P) l line)) (sym same)
