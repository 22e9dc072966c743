-- A reader of one byte at a time, over the state of a document that is being built. It is no part of
-- the definitions: it is what the code does, and it accepts exactly what `Spelling` spells.
use Rattle.std.specs.Prelude.{ℕ, ◌+◌, ◌*◌, List, [], ◌∷◌, ◌++◌, length, Bool, true, false, cond, ◌==◌, nat_lt, Option, Some, None, option_map, option_and_then, codes}
use Rattle.std.specs.Char.{encode_utf8, digit_value, is_digit}
use Rattle.std.specs.Char.Utf16.{is_high_surrogate, is_low_surrogate, surrogate_pair_char}
use Rattle.sj_base.specs.ByteClasses.{is_plain, letter_char, is_blank}
use Rattle.sj_decimal.specs.Number.{is_number_byte, begins_number}
use Rattle.sj_json.specs.Tree.{Number, Tree, null, truth, string, number}
use Rattle.sj_json.specs.Building.{top, elements, pairs, State, with_value, with_key, with_open, with_close, fresh}
use Rattle.sj_json.specs.Numbers.{number_of}

-- in an escape, behind its backslash
pub data Escape : Type 0 where
  begun : Escape
  -- behind "\u", and after a high surrogate if there was one: how many digits came, and their number
  unit : Option ℕ → ℕ → ℕ → Escape
  -- behind a high surrogate
  high : ℕ → Escape
  -- and behind the next backslash
  second : ℕ → Escape

-- what a byte of an escape leads to
pub data EscapeStep : Type 0 where
  wait : Escape → EscapeStep
  -- the escape ends and is this character
  char : ℕ → EscapeStep

pub data Mode : Type 0 where
  value : Mode
  value_or_close : Mode
  key : Mode
  key_or_close : Mode
  colon : Mode
  after_value : Mode
  -- the rest of a word, and the tree that it spells
  letters : List ℕ → Tree → Mode
  -- in a string: whether it is a key, and the text so far
  quoted : Bool → List ℕ → Mode
  escaped : Bool → List ℕ → Escape → Mode
  -- in a number: its bytes so far
  digits : List ℕ → Mode

abbrev pub Advance : Type 0
Advance = Option (Mode × State)

abbrev pub first_mode : Bool → Mode
first_mode false = value_or_close
first_mode true = key_or_close

abbrev pub open_turn : ℕ → Bool → State → Advance
open_turn limit kind s = cond (nat_lt (length s.1) limit) (Some (first_mode kind, with_open kind s)) None

abbrev pub close_turn : State → Advance
close_turn s = Some (after_value, with_close s)

-- a value begins with the byte b
abbrev pub start : ℕ → State → ℕ → Advance
start limit s b =
    cond (begins_number b) (Some (digits (b ∷ []), s)) (cond (b == 34) (Some (quoted false [], s)) (cond (b == 91) (open_turn limit false s) (cond (b == 123) (open_turn limit true s)
    (cond (b == 110) (Some (letters (codes "ull") null, s)) (cond (b == 116) (Some (letters (codes "rue") (truth true), s)) (cond (b == 102) (Some (letters (codes "alse") (truth false), s)) None))))))

abbrev pub separate : State → ℕ → Advance
separate (top o, qs) b = None
separate (elements ts, qs) b = cond (b == 44) (Some (value, (elements ts, qs))) (cond (b == 93) (close_turn (elements ts, qs)) None)
separate (pairs ms k, qs) b = cond (b == 44) (Some (key, (pairs ms k, qs))) (cond (b == 125) (close_turn (pairs ms k, qs)) None)

abbrev pub end_quote : Bool → List ℕ → State → Mode × State
end_quote false x s = (after_value, with_value (string x) s)
end_quote true x s = (colon, with_key x s)

-- the number comes to its end, if the bytes are one
abbrev pub end_number : List ℕ → State → Option State
end_number a s = option_map (λ (v : Number). with_value (number v) s) (number_of a)

-- four digits came
abbrev pub unit_done : Option ℕ → ℕ → Option EscapeStep
unit_done None v = cond (is_high_surrogate v) (Some (wait (high v))) (cond (is_low_surrogate v) None (Some (char v)))
unit_done (Some h) v = cond (is_low_surrogate v) (Some (char (surrogate_pair_char h v))) None

abbrev pub unit_step : Option ℕ → ℕ → ℕ → Option EscapeStep
unit_step o n v = cond (n == 3) (unit_done o v) (Some (wait (unit o (n + 1) v)))

abbrev pub escape_step : Escape → ℕ → Option EscapeStep
escape_step begun b = cond (b == 117) (Some (wait (unit None 0 0))) (option_map char (letter_char b))
escape_step (unit o n v) b = cond (is_digit b 16) (unit_step o n (v * 16 + digit_value b)) None
escape_step (high h) b = cond (b == 92) (Some (wait (second h))) None
escape_step (second h) b = cond (b == 117) (Some (wait (unit (Some h) 0 0))) None

abbrev pub after_step : Bool → List ℕ → State → EscapeStep → Mode × State
after_step k x s (wait e) = (escaped k x e, s)
after_step k x s (char c) = (quoted k (x ++ encode_utf8 c), s)

abbrev pub unless_blank : ℕ → Mode → State → Advance → Advance
unless_blank b m s t = cond (is_blank b) (Some (m, s)) t

abbrev pub turn : ℕ → Mode → State → ℕ → Advance
turn limit value s b = unless_blank b value s (start limit s b)
turn limit value_or_close s b = unless_blank b value_or_close s (cond (b == 93) (close_turn s) (start limit s b))
turn limit key s b = unless_blank b key s (cond (b == 34) (Some (quoted true [], s)) None)
turn limit key_or_close s b = unless_blank b key_or_close s (cond (b == 125) (close_turn s) (cond (b == 34) (Some (quoted true [], s)) None))
turn limit colon s b = unless_blank b colon s (cond (b == 58) (Some (value, s)) None)
turn limit after_value s b = unless_blank b after_value s (separate s b)
turn limit (digits a) s b =
    cond (is_number_byte b) (Some (digits (a ++ b ∷ []), s)) (option_and_then (λ (t : State). unless_blank b after_value t (separate t b)) (end_number a s))
turn limit (letters [] t) s b = None
turn limit (letters (x ∷ []) t) s b = cond (b == x) (Some (after_value, with_value t s)) None
turn limit (letters (x ∷ y ∷ r) t) s b = cond (b == x) (Some (letters (y ∷ r) t, s)) None
turn limit (quoted k x) s b = cond (b == 34) (Some (end_quote k x s)) (cond (is_plain b) (Some (quoted k (x ++ b ∷ []), s)) (cond (b == 92) (Some (escaped k x begun, s)) None))
turn limit (escaped k x e) s b = option_map (after_step k x s) (escape_step e b)

abbrev pub root : State → Option Tree
root (top o, []) = o
root (top o, q ∷ qs) = None
root (elements ts, qs) = None
root (pairs ms k, qs) = None

abbrev pub ending : Mode → State → Option Tree
ending value s = None
ending value_or_close s = None
ending key s = None
ending key_or_close s = None
ending colon s = None
ending after_value s = root s
ending (letters r t) s = None
ending (quoted k x) s = None
ending (escaped k x e) s = None
ending (digits a) s = option_and_then root (end_number a s)

-- the tree of the text, which the mode and the state came before
unfoldable pub run : ℕ → Mode → State → List ℕ → Option Tree
run limit m s [] = ending m s
run limit m s (b ∷ bs) = option_and_then (λ p. run limit p.0 p.1 bs) (turn limit m s b)

abbrev pub reading : ℕ → List ℕ → Option Tree
reading limit bs = run limit value fresh bs
