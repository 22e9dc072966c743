-- What may come next in a JSON text, and which containers are open: byte by byte, without a tree.
use Rattle.std.specs.Prelude.{ℕ, Bool, true, false, cond, ◌==◌, nat_lt, List, [], ◌∷◌, length, Option, Some, None, option_map, codes}
use Rattle.sj_base.specs.ByteClasses.{is_plain, is_blank}
use Rattle.sj_decimal.specs.Number.{is_number_byte, begins_number}
use Rattle.sj_scan.specs.declared.numeral.Numeral.{Numeral}
use Rattle.sj_scan.specs.declared.numeral.Numeral.TheVariants.{Nothing}
use Rattle.sj_scan.specs.declared.escape.Escape.{Escape}
use Rattle.sj_scan.specs.declared.escape.Escape.TheVariants.{Begun}
use Rattle.sj_scan.specs.declared.escape.Escaped.{Escaped}
use Rattle.sj_scan.specs.declared.escape.Escaped.TheVariants.{GoesOn, Ended}
use Rattle.sj_scan.specs.declared.mode.Container.{Container}
use Rattle.sj_scan.specs.declared.mode.Container.TheVariants.{Array, Object}
use Rattle.sj_scan.specs.Numerals.{numeral_step, may_end}
use Rattle.sj_scan.specs.Escapes.{escape_step}

pub data Mode : Type 0 where
  value : Mode
  value_or_close : Mode
  key : Mode
  key_or_close : Mode
  colon : Mode
  after_value : Mode
  -- the rest of a word
  word : List ℕ → Mode
  -- in a string: whether it is a key
  quoted : Bool → Mode
  escaped : Bool → Escape → Mode
  number : Numeral → Mode

-- the mode, and the open containers, the innermost first
abbrev pub Place : Type 0
Place = Mode × List Container

abbrev pub Advance : Type 0
Advance = Option Place

abbrev pub unless_blank : ℕ → Place → Advance → Advance
unless_blank b p t = cond (is_blank b) (Some p) t

abbrev pub first_mode : Container → Mode
first_mode Array = value_or_close
first_mode Object = key_or_close

abbrev pub open_turn : ℕ → Container → List Container → Advance
open_turn limit c cs = cond (nat_lt (length cs) limit) (Some (first_mode c, c ∷ cs)) None

-- the innermost container ends
abbrev pub close_turn : List Container → Advance
close_turn [] = None
close_turn (c ∷ cs) = Some (after_value, cs)

abbrev pub number_turn : List Container → Option Numeral → Advance
number_turn cs o = option_map (λ (q : Numeral). (number q, cs)) o

-- a value begins with the byte b
abbrev pub start : ℕ → List Container → ℕ → Advance
start limit cs b =
    cond (begins_number b) (number_turn cs (numeral_step Nothing b)) (cond (b == 34) (Some (quoted false, cs)) (cond (b == 91) (open_turn limit Array cs) (cond (b == 123) (open_turn limit Object cs)
    (cond (b == 110) (Some (word (codes "ull"), cs)) (cond (b == 116) (Some (word (codes "rue"), cs)) (cond (b == 102) (Some (word (codes "alse"), cs)) None))))))

abbrev pub separate : List Container → ℕ → Advance
separate [] b = None
separate (Array ∷ cs) b = cond (b == 44) (Some (value, Array ∷ cs)) (cond (b == 93) (Some (after_value, cs)) None)
separate (Object ∷ cs) b = cond (b == 44) (Some (key, Object ∷ cs)) (cond (b == 125) (Some (after_value, cs)) None)

abbrev pub after_value_turn : List Container → ℕ → Advance
after_value_turn cs b = unless_blank b (after_value, cs) (separate cs b)

abbrev pub first : List Container → Option Container
first [] = None
first (c ∷ cs) = Some c

-- the quotation mark before a key
abbrev pub quote_turn : List Container → ℕ → Advance
quote_turn cs b = cond (b == 34) (Some (quoted true, cs)) None

abbrev pub end_quote : Bool → Mode
end_quote false = after_value
end_quote true = colon

abbrev pub after_escape : Bool → Escaped → Mode
after_escape k (GoesOn e) = escaped k e
after_escape k Ended = quoted k

abbrev pub word_turn : List ℕ → List Container → ℕ → Advance
word_turn [] cs b = None
word_turn (x ∷ []) cs b = cond (b == x) (Some (after_value, cs)) None
word_turn (x ∷ y ∷ r) cs b = cond (b == x) (Some (word (y ∷ r), cs)) None

-- between two tokens, at a byte that is not white space
abbrev pub token_turn : ℕ → Mode → List Container → ℕ → Advance
token_turn limit value cs b = start limit cs b
token_turn limit value_or_close cs b = cond (b == 93) (close_turn cs) (start limit cs b)
token_turn limit key cs b = quote_turn cs b
token_turn limit key_or_close cs b = cond (b == 125) (close_turn cs) (quote_turn cs b)
token_turn limit colon cs b = cond (b == 58) (Some (value, cs)) None
token_turn limit after_value cs b = separate cs b
token_turn limit (number q) cs b = None
token_turn limit (word r) cs b = None
token_turn limit (quoted k) cs b = None
token_turn limit (escaped k e) cs b = None

abbrev pub between_tokens : ℕ → Mode → List Container → ℕ → Advance
between_tokens limit m cs b = unless_blank b (m, cs) (token_turn limit m cs b)

abbrev pub turn : ℕ → Mode → List Container → ℕ → Advance
turn limit value cs b = between_tokens limit value cs b
turn limit value_or_close cs b = between_tokens limit value_or_close cs b
turn limit key cs b = between_tokens limit key cs b
turn limit key_or_close cs b = between_tokens limit key_or_close cs b
turn limit colon cs b = between_tokens limit colon cs b
turn limit after_value cs b = between_tokens limit after_value cs b
turn limit (number q) cs b = cond (is_number_byte b) (number_turn cs (numeral_step q b)) (cond (may_end q) (after_value_turn cs b) None)
turn limit (word r) cs b = word_turn r cs b
turn limit (quoted k) cs b = cond (b == 34) (Some (end_quote k, cs)) (cond (is_plain b) (Some (quoted k, cs)) (cond (b == 92) (Some (escaped k Begun, cs)) None))
turn limit (escaped k e) cs b = option_map (λ (r : Escaped). (after_escape k r, cs)) (escape_step e b)

-- the text may end here
abbrev pub may_end_in : Mode → Bool
may_end_in value = false
may_end_in value_or_close = false
may_end_in key = false
may_end_in key_or_close = false
may_end_in colon = false
may_end_in after_value = true
may_end_in (number q) = may_end q
may_end_in (word r) = false
may_end_in (quoted k) = false
may_end_in (escaped k e) = false

abbrev pub none_open : List Container → Bool
none_open [] = true
none_open (c ∷ cs) = false
