-- What the reading of a string finds, against the reader of bytes. Private clauses alone cite it.
use Rattle.std.specs.Prelude.{◌≡◌, ℕ, ◌+◌, ◌-◌, ◌<◌, ◌≤◌, ◌^◌, List, [], ◌++◌, length, take, drop, get_or, Bool, true, cond, Option, None, Some, option_map, option_and_then}
use Rattle.std.specs.Char.{encode_utf8, digit_value, is_digit}
use Rattle.std.specs.Char.Utf16.{is_high_surrogate}
use Rattle.std.specs.Str.{IsUtf8}
use Rattle.sj_base.specs.ByteClasses.{letter_char}
use Rattle.sj_json.specs.Tree.{Tree}
use Rattle.sj_json.specs.Building.{State}
use Rattle.sj_json.specs.Machine as machine
use Rattle.sj_json.specs.Machine.{run, quoted, escaped, after_step, unit_done, end_quote}
use Rattle.sj_read.specs.declared.unescape.Unescaped.{Unescaped}

abbrev pub or_zero : Option ℕ → ℕ
or_zero None = 0
or_zero (Some c) = c

-- the character of an escape of one letter, or 0
abbrev pub letter_or_none : ℕ → ℕ
letter_or_none b = or_zero (letter_char b)

-- the value of a hexadecimal digit, or 16
abbrev pub digit_or_none : ℕ → ℕ
digit_or_none b = cond (is_digit b 16) (digit_value b) 16

abbrev pub IsHighUnit : ℕ → Type 0
IsHighUnit h = is_high_surrogate h ≡ true

-- where the escape e has come to the place: it is c and ends before `end`, or it is none
pub record FindsFrom (e : machine.Escape) (text : List ℕ) (from : ℕ) (c : ℕ) (end : ℕ) : Type 0 where
  pub reads : (limit : ℕ) (k : Bool) (x : List ℕ) (s : State) → run limit (escaped k x e) s (drop from text) ≡ run limit (quoted k (x ++ encode_utf8 c)) s (drop end text)
  pub later : from < end
  pub within : end ≤ length text
  pub ascii : get_or text (end - 1) 0 < 128

abbrev pub FailsFrom : machine.Escape → List ℕ → ℕ → Type 0
FailsFrom e text from = (limit : ℕ) (k : Bool) (x : List ℕ) (s : State) → run limit (escaped k x e) s (drop from text) ≡ None

-- behind a backslash at the place
abbrev pub FindsEscape : List ℕ → ℕ → ℕ → ℕ → Type 0
FindsEscape text from c end = FindsFrom machine.begun text from c end

abbrev pub NoEscape : List ℕ → ℕ → Type 0
NoEscape text from = FailsFrom machine.begun text from

-- what is read of the rest behind the four digits of a unit
abbrev pub after_unit : ℕ → Bool → List ℕ → State → Option ℕ → ℕ → List ℕ → Option Tree
after_unit limit k x s o u rest = option_and_then (λ p. run limit p.0 p.1 rest) (option_map (after_step k x s) (unit_done o u))

-- four digits at the place write the unit u, or there are none
pub record HasUnit (text : List ℕ) (from : ℕ) (u : ℕ) : Type 0 where
  pub reads : (limit : ℕ) (k : Bool) (x : List ℕ) (s : State) (o : Option ℕ) → run limit (escaped k x (machine.unit o 0 0)) s (drop from text) ≡ after_unit limit k x s o u (drop (from + 4) text)
  pub small : u < 2 ^ 16
  pub within : from + 4 ≤ length text
  pub ascii : get_or text (from + 3) 0 < 128

abbrev pub NoUnit : List ℕ → ℕ → Type 0
NoUnit text from = (o : Option ℕ) → FailsFrom (machine.unit o 0 0) text from

-- behind a quotation mark at the place: a string with the text x, whose last quotation mark is at `end`, or none
pub record FindsString (text : List ℕ) (from : ℕ) (end : ℕ) (x : List ℕ) : Type 0 where
  pub reads : (limit : ℕ) (k : Bool) (s : State) → run limit (quoted k []) s (drop from text) ≡ run limit (end_quote k x s).0 (end_quote k x s).1 (drop (end + 1) text)
  pub later : from ≤ end
  pub within : end < length text
  pub quote : get_or text end 0 ≡ 34

abbrev pub NoString : List ℕ → ℕ → Type 0
NoString text from = (limit : ℕ) (k : Bool) (s : State) → run limit (quoted k []) s (drop from text) ≡ None

-- a string whose text is the front of the buffer
pub record HoldsString (text : List ℕ) (from : ℕ) (buffer : List ℕ) (u : Unescaped) : Type 0 where
  pub found : FindsString text from u.end (take u.len buffer)
  pub utf8 : IsUtf8 (take u.len buffer)
  pub room : u.len ≤ length buffer
