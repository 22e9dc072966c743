-- The classes of bytes that JSON, paths and statements are read by. Those of ASCII stand in std: a digit is `is_ascii_digit`.
use Rattle.std.specs.Prelude.{ℕ, Bool, false, not, ◌||◌, ◌&&◌, ◌==◌, nat_le, nat_lt, cond, List, [], ◌∷◌, Option, Some, None}
use Rattle.std.specs.Char.{is_ascii_digit}

-- white space: space, TAB, LF and CR
abbrev pub is_blank : ℕ → Bool
is_blank b = b == 32 || b == 9 || b == 10 || b == 13

-- A to Z, a to z or _
abbrev pub is_letter : ℕ → Bool
is_letter b = (nat_le 65 b && nat_le b 90) || (nat_le 97 b && nat_le b 122) || b == 95

-- what may follow the first letter of a word
abbrev pub is_word_byte : ℕ → Bool
is_word_byte b = is_letter b || is_ascii_digit b

-- what stands for itself in a string: no quotation mark, no backslash and no control character
abbrev pub is_plain : ℕ → Bool
is_plain b = not ((b == 34) || (b == 92) || nat_lt b 32)

-- the character of an escape of one letter: `"`, `\`, `/`, and `b`, `f`, `n`, `r`, `t` behind a backslash
abbrev pub letter_char : ℕ → Option ℕ
letter_char c =
    cond (c == 34) (Some 34) (cond (c == 92) (Some 92) (cond (c == 47) (Some 47) (cond (c == 98) (Some 8)
    (cond (c == 102) (Some 12) (cond (c == 110) (Some 10) (cond (c == 114) (Some 13) (cond (c == 116) (Some 9) None)))))))

-- this byte stands at the front
abbrev pub next_is : ℕ → List ℕ → Bool
next_is b [] = false
next_is b (d ∷ bs) = d == b

-- a digit stands at the front
abbrev pub next_is_digit : List ℕ → Bool
next_is_digit [] = false
next_is_digit (b ∷ bs) = is_ascii_digit b
