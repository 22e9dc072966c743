-- The text of a number as it is read from the left. What it reads is what `Number` says; a proof of `parse` shows both ways.
use Rattle.std.specs.Prelude.{ℕ, Bool, true, false, ◌&&◌, ◌||◌, not, ◌==◌, nat_lt, if◌then◌else◌, List, [], ◌∷◌, length, drop, slice_index, Option, None, Some}
use Rattle.std.specs.Option.{option_map, option_and_then}
use Rattle.std.specs.List.{prefix_len, take_while}
use Rattle.std.specs.Char.{is_ascii_digit}
use Rattle.sj_decimal.specs.Number.{NumberParts}

unfoldable pub leading_digits : List ℕ → List ℕ
leading_digits b = take_while is_ascii_digit b

unfoldable pub after_digits : List ℕ → List ℕ
after_digits b = drop (prefix_len is_ascii_digit b) b

-- whether the bytes began with a minus, and what follows it
abbrev pub read_minus : List ℕ → Bool × List ℕ
read_minus [] = (false, [])
read_minus (c ∷ cs) = if c == 45 then (true, cs) else (false, c ∷ cs)

-- the same, where a plus may stand too
abbrev pub read_sign : List ℕ → Bool × List ℕ
read_sign [] = (false, [])
read_sign (c ∷ cs) = if c == 45 then (true, cs) else (if c == 43 then (false, cs) else (false, c ∷ cs))

abbrev pub is_whole : List ℕ → Bool
is_whole ds = nat_lt 0 (length ds) && ((length ds == 1) || not (slice_index ds 0 == 48))

-- the digits of the fraction, and what follows
abbrev pub read_fraction : List ℕ → Option (List ℕ × List ℕ)
read_fraction [] = Some ([], [])
read_fraction (c ∷ cs) = if c == 46 then (if length (leading_digits cs) == 0 then None else Some (leading_digits cs, after_digits cs)) else Some ([], c ∷ cs)

-- the sign and digits of the exponent, with which the text ends
abbrev pub exponent_of_digits : Bool × List ℕ → Option (Bool × List ℕ)
exponent_of_digits e = if (length e.1 == 0) || not (length (after_digits e.1) == 0) then None else Some e

abbrev pub read_exponent : List ℕ → Option (Bool × List ℕ)
read_exponent [] = Some (false, [])
read_exponent (c ∷ cs) = if (c == 101) || (c == 69) then exponent_of_digits (read_sign cs) else None

abbrev pub parts_of : Bool → List ℕ → List ℕ → Bool × List ℕ → NumberParts
parts_of negative whole fraction e = record { negative = negative; whole = whole; fraction = fraction; exponent_negative = e.0; exponent = e.1 }

-- after the sign and the whole digits
unfoldable pub read_rest : Bool → List ℕ → List ℕ → Option NumberParts
read_rest negative whole rest =
    option_and_then (λ (f : List ℕ × List ℕ). option_map (parts_of negative whole f.0) (read_exponent f.1)) (read_fraction rest)

unfoldable pub read_parts : List ℕ → Option NumberParts
read_parts b = let m = read_minus b in
    if is_whole (leading_digits m.1) then read_rest m.0 (leading_digits m.1) (after_digits m.1) else None
