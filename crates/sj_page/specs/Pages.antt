-- What is printed, and where it stands: on the page, or written.
use Rattle.std.specs.Prelude.{◌≡◌, ℕ, ◌+◌, List, [], ◌++◌, Option, Result, MatchResult}
use Rattle.sj_base.specs.Count.{Rose, raised}
use Rattle.sj_base.specs.declared.state.State.{State}
use Rattle.sj_value.specs.declared.value.SqlValue.{SqlValue}
use Rattle.sj_rows.specs.RowText.{row_bytes, error_bytes}
use Rattle.sj_page.specs.declared.page.Page.{Page}
use Rattle.sj_page.specs.declared.stop.Stop.{Stop}
use Rattle.sj_page.specs.declared.stop.Stop.TheVariants.{Memory, Output}
use Rattle.sj_page.specs.Sides.{OutputSide, output_side, Grew}

-- how many bytes of rows are kept: a page that has so many is written. How many bytes are read at once is another limit
abbrev pub max_page : ℕ
max_page = 65536

-- ---- what is printed: a text, with the number of its rows and of its error rows

pub record Print : Type 0 where
  pub text : List ℕ
  pub rows : ℕ
  pub errors : ℕ

abbrev pub nothing : Print
nothing = record { text = []; rows = 0; errors = 0 }

-- one behind the other
abbrev pub followed_by : Print → Print → Print
followed_by p q = record { text = p.text ++ q.text; rows = p.rows + q.rows; errors = p.errors + q.errors }

-- a row whose text is printed already
abbrev pub one_row : Print
one_row = record { text = []; rows = 1; errors = 0 }

abbrev pub row_print : ℕ → ℕ → List SqlValue → Print
row_print line statement fields = record { text = row_bytes line statement fields; rows = 1; errors = 0 }

abbrev pub error_print : ℕ → ℕ → State → Print
error_print line statement state = record { text = error_bytes line statement state; rows = 0; errors = 1 }

-- ---- where it stands

abbrev pub empty_page : Page
empty_page = record { text = []; rows = 0; errors = 0 }

-- a page with its sink, at one moment
pub record PrintState : Type 0 where
  pub out : OutputSide
  pub page : Page

abbrev pub print_state : {O : Type 0} → (O → Option (List ℕ)) → (O → Option ℕ) → (O → ℕ) → O → Page → PrintState
print_state taken size faults out page = record { out = output_side taken size faults out; page = page }

-- ALL WAS PRINTED: what was written, and then what the page has, is what it had and then the text.
pub record Printed (print : Print) (old new : PrintState) : Type 0 where
  pub written : List ℕ
  pub grew : Grew old.out new.out written
  pub all : written ++ new.page.text ≡ old.page.text ++ print.text
  pub rows : new.page.rows ≡ raised old.page.rows print.rows
  pub errors : new.page.errors ≡ raised old.page.errors print.errors
  pub no_fault : new.out.faults ≡ old.out.faults

-- why it was not: a failed write has raised the count of its sink, and where memory ran out no write had failed
abbrev pub IsCause : OutputSide → OutputSide → Stop → Type 0
IsCause old new Memory = new.faults ≡ old.faults
IsCause old new Output = Rose old.faults new.faults

-- A FRONT OF IT WAS WRITTEN: of what the page had and then the text.
pub record Stopped (print : Print) (old new : PrintState) (stop : Stop) : Type 0 where
  pub written : List ℕ
  pub left : List ℕ
  pub split : old.page.text ++ print.text ≡ written ++ left
  pub grew : Grew old.out new.out written
  pub cause : IsCause old.out new.out stop

abbrev pub Prints : {T : Type 0} → Print → PrintState → PrintState → Result T Stop → Type 0
Prints print old new result = MatchResult result (λ _. Printed print old new) (λ stop. Stopped print old new stop)
