-- THE TABLE OF CASTS: what a tree is as a number, as a whole number, as a truth value and as a text, and the state in
-- which it is refused. Each of the four is a column with a line for each kind of tree. The types of RETURNING and the
-- item methods that cast read these columns. The table is this project's own, and not the CAST of ISO/IEC 9075-2.
use Rattle.std.specs.Prelude.{ℕ, List, ◌&&◌, if◌then◌else◌, Bool, true, false, codes, Option, Some, None, ℤ, int_le, Result, Ok, Err}
use Rattle.std.specs.Str.{bytes_eq}
use Rattle.sj_base.specs.declared.state.State.{State}
use Rattle.sj_base.specs.declared.state.State.TheVariants.{S22003, S2203F, S2203G}
use Rattle.sj_decimal.specs.Rounding.{rounded}
use Rattle.sj_json.specs.Tree.{Number, exact, wide, Tree, null, truth, string, number, array, object}
use Rattle.sj_json.specs.Numbers.{number_of}
use Rattle.sj_json.specs.Printing.{printed_number, truth_text}

-- ---- numbers

-- a number that is not exact is out of range
abbrev pub exact_number : Number → Result (ℤ × ℕ) State
exact_number (exact d) = Ok d
exact_number (wide s) = Err S22003

-- the number that a string spells, if it spells one
abbrev pub spelled_number : Option Number → Result (ℤ × ℕ) State
spelled_number (Some n) = exact_number n
spelled_number None = Err S2203G

-- a string is the number that the whole of it spells by RFC 8259: no white space may stand round it
unfoldable pub number_cast : Tree → Result (ℤ × ℕ) State
number_cast null = Err S2203G
number_cast (truth b) = Err S2203G
number_cast (string s) = spelled_number (number_of s)
number_cast (number n) = exact_number n
number_cast (array ts) = Err S2203F
number_cast (object ms) = Err S2203F

-- ---- whole numbers

-- w, where it is from low to high
abbrev pub whole_within : ℤ → ℤ → ℤ → Result (ℤ × ℕ) State
whole_within low high w = if int_le low w && int_le w high then Ok (w, 0) else Err S22003

-- rounded half away from zero
abbrev pub whole_number : ℤ → ℤ → Result (ℤ × ℕ) State → Result (ℤ × ℕ) State
whole_number low high (Ok d) = whole_within low high (rounded 0 d)
whole_number low high (Err state) = Err state

unfoldable pub whole_cast : ℤ → ℤ → Tree → Result (ℤ × ℕ) State
whole_cast low high t = whole_number low high (number_cast t)

-- ---- truth values

-- the two words, in lower case
abbrev pub word_truth : List ℕ → Result Bool State
word_truth s = if bytes_eq s (codes "true") then Ok true else (if bytes_eq s (codes "false") then Ok false else Err S2203G)

unfoldable pub truth_cast : Tree → Result Bool State
truth_cast null = Err S2203G
truth_cast (truth b) = Ok b
truth_cast (string s) = word_truth s
truth_cast (number n) = Err S2203G
truth_cast (array ts) = Err S2203F
truth_cast (object ms) = Err S2203F

-- ---- texts

unfoldable pub text_cast : Tree → Result (List ℕ) State
text_cast null = Err S2203G
text_cast (truth b) = Ok (truth_text b)
text_cast (string s) = Ok s
text_cast (number n) = Ok (printed_number n)
text_cast (array ts) = Err S2203F
text_cast (object ms) = Err S2203F
