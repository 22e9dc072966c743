-- How long the longest front is that has a form.
use Rattle.std.proofs.Common.{◌≡◌, ◌≢◌, ℕ, suc, ◌+◌, ◌<◌, ◌≤◌, Bool, true, false, cond, not, ◌&&◌, ◌||◌, ◌==◌, nat_le, List, [], ◌∷◌, ◌++◌, length, take, drop, Option, Some, None, option_map, refl, sym, ap, subst, ◌∙◌, arith, append_assoc, length-append, leb-true, eqb-true, eq-eqb, ne_eqb}
use Rattle.std.proofs.lemmas.List.{get_or-take, drop_at}
use Rattle.std.proofs.lemmas.List.Folds.{length-prefix_len}
use Rattle.std.proofs.lemmas.List.Sums.{prefix_len_passes}
use Rattle.std.specs.Prelude.{All}
use Rattle.std.specs.List.{take_while, prefix_len, AllPass}
use Rattle.std.specs.Char.{is_ascii_digit}
use Rattle.sj_base.specs.ByteClasses.{is_blank, is_letter, is_word_byte, next_is}
use Rattle.sj_sql_token.specs.declared.token.Token.{Token}
use Rattle.sj_sql_token.specs.declared.piece.Piece.{Piece}
use Rattle.sj_sql_token.specs.declared.piece.Piece.TheVariants as p
use Rattle.sj_sql_token.specs.Quotes.{inside_len}
use Rattle.sj_sql_token.specs.Numbers.{fraction_len}
use Rattle.sj_sql_token.specs.Tokens.{sign_of}
use Rattle.sj_sql_token.specs.Forms as f
use Rattle.sj_sql_token.specs.Forms.{PieceForm, IsSign, IsDigits, IsInside, HasForm}
use Rattle.sj_sql_token.proofs.Quotes.{two, inside_plain, inside_double}

-- ---- bytes that pass a test

run_goes_on : (test : ℕ → Bool) (b : ℕ) (bs : List ℕ) → test b ≡ true → prefix_len test (b ∷ bs) ≡ suc (prefix_len test bs)
run_goes_on test b bs h = ap (λ t. cond t (1 + prefix_len test bs) 0) h ∙ omega arith

-- what stands before the end of the run passes
pub run_passes : (test : ℕ → Bool) (bs : List ℕ) → AllPass test (take (prefix_len test bs) bs)
run_passes test bs i d below =
    let le : i < prefix_len test bs = omega (arith, below, length-prefix_len test bs) in
    subst (λ x. test x ≡ true) (sym (get_or-take (prefix_len test bs) bs i d le)) (prefix_len_passes test bs i d le)

-- what passes is in the run
run_longer : (test : ℕ → Bool) (front after : List ℕ) → AllPass test front → prefix_len test (front ++ after) ≡ length front + prefix_len test after
run_longer test [] after h = omega arith
run_longer test (b ∷ front) after h =
    let e = run_longer test front after (λ i d l. h (suc i) d (omega (arith, l))) in
    run_goes_on test b (front ++ after) (h 0 0 (omega arith)) ∙ omega (arith, e)

-- ---- the classes of bytes have none in common

-- a byte is no blank if it passes a test that no blank passes
blank_not : (test : ℕ → Bool) → test 32 ≡ false → test 9 ≡ false → test 10 ≡ false → test 13 ≡ false → (b : ℕ) → test b ≡ true → is_blank b ≡ false
blank_not test space tab line return b h = go (b == 32) (b == 9) (b == 10) (b == 13) refl refl refl refl
  where
    apart : (d : ℕ) → (b == d) ≡ true → test d ≡ false → ⊥
    apart d e n = no (sym h ∙ ap test (eqb-true b d e) ∙ n)
      where
        no : true ≡ false → ⊥
        no q = cc

    go : (x y z w : Bool) → (b == 32) ≡ x → (b == 9) ≡ y → (b == 10) ≡ z → (b == 13) ≡ w → (x || y || z || w) ≡ false
    go true y z w p q r s = absurd (apart 32 p space)
    go false true z w p q r s = absurd (apart 9 q tab)
    go false false true w p q r s = absurd (apart 10 r line)
    go false false false true p q r s = absurd (apart 13 s return)
    go false false false false p q r s = refl

letter_not_blank : (b : ℕ) → is_letter b ≡ true → is_blank b ≡ false
letter_not_blank = blank_not is_letter refl refl refl refl

digit_not_blank : (b : ℕ) → is_ascii_digit b ≡ true → is_blank b ≡ false
digit_not_blank = blank_not is_ascii_digit refl refl refl refl

digit_not_letter : (b : ℕ) → is_ascii_digit b ≡ true → is_letter b ≡ false
digit_not_letter b h = go (nat_le 48 b) (nat_le b 57) refl refl h
  where
    below : b ≤ 57 → is_letter b ≡ false
    below le = letters (nat_le 65 b) (nat_le 97 b) (b == 95) refl refl refl
      where
        letters : (x y z : Bool) → nat_le 65 b ≡ x → nat_le 97 b ≡ y → (b == 95) ≡ z → ((x && nat_le b 90) || (y && nat_le b 122) || z) ≡ false
        letters true y z p q r = absurd (omega (arith, leb-true 65 b p))
        letters false true z p q r = absurd (omega (arith, leb-true 97 b q))
        letters false false true p q r = absurd (omega (arith, eqb-true b 95 r))
        letters false false false p q r = refl

    go : (x y : Bool) → nat_le 48 b ≡ x → nat_le b 57 ≡ y → (x && y) ≡ true → is_letter b ≡ false
    go true true p q _ = below (leb-true b 57 q)
    go true false p q e = absurd cc
    go false y p q e = absurd cc

-- ---- the size of the longest front that has a form

-- the bytes of a piece; none of a broken one
abbrev pub size_of : Piece → ℕ
size_of (p.Token t n) = n + 1
size_of (p.Passed n) = n + 1
size_of p.Broken = 0

-- of a string or a name with n bytes behind its first mark, and how many of these are inside, if it is closed
abbrev pub marked_size : ℕ → Option ℕ → ℕ
marked_size n None = n + 1
marked_size n (Some m) = m + 2

abbrev pub number_size : List ℕ → ℕ
number_size bs = prefix_len is_ascii_digit bs + fraction_len (drop (prefix_len is_ascii_digit bs) bs) + 1

abbrev pub size_at : ℕ → List ℕ → ℕ
size_at b bs =
    cond (is_blank b) 1
    (cond (is_letter b) (prefix_len is_word_byte bs + 1)
    (cond (is_ascii_digit b) (number_size bs)
    (cond (b == 39) (marked_size (length bs) (inside_len 39 bs))
    (cond (b == 34) (marked_size (length bs) (inside_len 34 bs))
    (cond (b == 45 && next_is 45 bs) (prefix_len (λ c. not (c == 10)) bs + 1)
    (size_of (sign_of b)))))))

abbrev pub size : List ℕ → ℕ
size [] = 0
size (b ∷ bs) = size_at b bs

blank_size : (b : ℕ) (bs : List ℕ) → is_blank b ≡ true → size_at b bs ≡ 1
blank_size b bs h = on (is_blank b) _ _ h
  where
    on : (x : Bool) (m n : ℕ) → x ≡ true → cond x m n ≡ m
    on x m n e = ap (λ y. cond y m n) e

letter_size : (b : ℕ) (bs : List ℕ) → is_letter b ≡ true → size_at b bs ≡ prefix_len is_word_byte bs + 1
letter_size b bs h = second (is_blank b) (is_letter b) _ _ _ (letter_not_blank b h) h
  where
    second : (x y : Bool) (l m n : ℕ) → x ≡ false → y ≡ true → cond x l (cond y m n) ≡ m
    second x y l m n d e = ap (λ z. cond z l (cond y m n)) d ∙ ap (λ z. cond z m n) e

digit_size : (b : ℕ) (bs : List ℕ) → is_ascii_digit b ≡ true → size_at b bs ≡ number_size bs
digit_size b bs h = third (is_blank b) (is_letter b) (is_ascii_digit b) _ _ _ _ (digit_not_blank b h) (digit_not_letter b h) h
  where
    third : (x y z : Bool) (k l m n : ℕ) → x ≡ false → y ≡ false → z ≡ true → cond x k (cond y l (cond z m n)) ≡ m
    third x y z k l m n c d e = ap (λ w. cond w k (cond y l (cond z m n))) c ∙ ap (λ w. cond w l (cond z m n)) d ∙ ap (λ w. cond w m n) e

-- ---- no front that has a form is longer

sign_within : {bs : List ℕ} {t : Token} → IsSign bs t → (after : List ℕ) → length bs ≤ size (bs ++ after)
sign_within f.open_parenthesis after = omega arith
sign_within f.close_parenthesis after = omega arith
sign_within f.comma after = omega arith
sign_within f.semicolon after = omega arith
sign_within f.colon after = omega arith
sign_within f.star after = omega arith
sign_within f.plus after = omega arith
sign_within f.minus after = go (next_is 45 after)
  where
    go : (x : Bool) → 1 ≤ cond x (prefix_len (λ c. not (c == 10)) after + 1) 1
    go true = omega arith
    go false = omega arith

word_within : (b : ℕ) (bs after : List ℕ) → is_letter b ≡ true → AllPass is_word_byte bs → suc (length bs) ≤ size_at b (bs ++ after)
word_within b bs after h d = omega (arith, letter_size b (bs ++ after) h, run_longer is_word_byte bs after d)

whole_within : (digits after : List ℕ) → IsDigits digits → length digits ≤ size (digits ++ after)
whole_within [] after d = absurd (omega (arith, d.0))
whole_within (b ∷ bs) after d =
    omega (arith, digit_size b (bs ++ after) (d.1 0 0 (omega arith)), run_longer is_ascii_digit bs after (λ i e l. d.1 (suc i) e (omega (arith, l))))

-- behind a point the digits are part of the number
fraction_least : (behind after : List ℕ) → IsDigits behind → suc (length behind) ≤ fraction_len (46 ∷ behind ++ after)
fraction_least [] after d = absurd (omega (arith, d.0))
fraction_least (c ∷ cs) after d = by (is_ascii_digit c) (d.1 0 0 (omega arith))
  where
    run : length (take_while is_ascii_digit (c ∷ cs ++ after)) ≡ suc (length cs) + prefix_len is_ascii_digit after
    run = length-prefix_len is_ascii_digit (c ∷ cs ++ after) ∙ run_longer is_ascii_digit (c ∷ cs) after d.1

    some : (n : ℕ) → n ≡ suc (length cs) + prefix_len is_ascii_digit after → suc (suc (length cs)) ≤ cond (n == 0) 0 (suc n)
    some n e =
        let ne : (n == 0) ≡ false = ne_eqb n 0 (λ q. absurd (omega (arith, q, e))) in
        omega (arith, e, ap (λ x. cond x 0 (suc n)) ne)

    by : (x : Bool) → x ≡ true
        → suc (suc (length cs)) ≤ cond (length (cond x (take_while is_ascii_digit (c ∷ cs ++ after)) []) == 0) 0 (suc (length (cond x (take_while is_ascii_digit (c ∷ cs ++ after)) [])))
    by true e = some (length (take_while is_ascii_digit (c ∷ cs ++ after))) run
    by false e = absurd cc

fraction_within : (digits behind after : List ℕ) → IsDigits digits → IsDigits behind → length (digits ++ 46 ∷ behind) ≤ size ((digits ++ 46 ∷ behind) ++ after)
fraction_within [] behind after d e = absurd (omega (arith, d.0))
fraction_within (b ∷ bs) behind after d e =
    let rest : List ℕ = 46 ∷ behind ++ after in
    let same : (bs ++ 46 ∷ behind) ++ after ≡ bs ++ rest = append_assoc bs (46 ∷ behind) after in
    let run : prefix_len is_ascii_digit (bs ++ rest) ≡ length bs = run_longer is_ascii_digit bs rest (λ i c l. d.1 (suc i) c (omega (arith, l))) ∙ omega arith in
    let left : drop (prefix_len is_ascii_digit (bs ++ rest)) (bs ++ rest) ≡ rest = drop_at bs rest (prefix_len is_ascii_digit (bs ++ rest)) (sym run) in
    let all : size_at b (bs ++ rest) ≡ number_size (bs ++ rest) = digit_size b (bs ++ rest) (d.1 0 0 (omega arith)) in
    subst (λ x. length (b ∷ bs ++ 46 ∷ behind) ≤ size_at b x) (sym same)
    (omega (arith, all, run, ap fraction_len left, fraction_least behind after e, length-append bs (46 ∷ behind)))

-- a part of the inside is passed
inside_passed : {m : ℕ} {inside text : List ℕ} → IsInside m inside text → (rest : List ℕ) → inside_len m (inside ++ rest) ≡ option_map (λ n. n + length inside) (inside_len m rest)
inside_passed {m} f.end rest = go (inside_len m rest)
  where
    go : (o : Option ℕ) → o ≡ option_map (λ n. n + 0) o
    go None = refl
    go (Some n) = ap Some (omega arith)
inside_passed {m} (f.plain {b = b} {bs = bs} h d) rest =
    inside_plain m b (bs ++ rest) (ne_eqb b m h) ∙ ap (option_map (λ n. n + 1)) (inside_passed d rest) ∙ two 1 (length bs) (suc (length bs)) (inside_len m rest) (omega arith)
inside_passed {m} (f.twice {bs = bs} d) rest =
    inside_double m m m (bs ++ rest) (eq-eqb m m refl) (eq-eqb m m refl)
    ∙ ap (option_map (λ n. n + 2)) (inside_passed d rest) ∙ two 2 (length bs) (suc (suc (length bs))) (inside_len m rest) (omega arith)

-- the first mark, the inside and i bytes behind it
inside_within : {m : ℕ} {inside text : List ℕ} → IsInside m inside text → (rest : List ℕ) (i : ℕ) → i ≤ 1 → i ≤ length rest
    → suc (length inside) + i ≤ marked_size (length (inside ++ rest)) (inside_len m (inside ++ rest))
inside_within {m} {inside} d rest i one le =
    subst (λ o. suc (length inside) + i ≤ marked_size (length (inside ++ rest)) o) (sym (inside_passed d rest)) (go (inside_len m rest))
  where
    go : (o : Option ℕ) → suc (length inside) + i ≤ marked_size (length (inside ++ rest)) (option_map (λ n. n + length inside) o)
    go None = omega (arith, le, length-append inside rest)
    go (Some n) = omega (arith, one)

closed_within : {m : ℕ} {inside text : List ℕ} → IsInside m inside text → (after : List ℕ)
    → length (m ∷ inside ++ m ∷ []) ≤ marked_size (length ((inside ++ m ∷ []) ++ after)) (inside_len m ((inside ++ m ∷ []) ++ after))
closed_within {m} {inside} d after =
    let same : (inside ++ m ∷ []) ++ after ≡ inside ++ m ∷ after = append_assoc inside (m ∷ []) after in
    subst (λ x. length (m ∷ inside ++ m ∷ []) ≤ marked_size (length x) (inside_len m x)) (sym same)
    (omega (arith, length-append inside (m ∷ []), inside_within d (m ∷ after) 1 (omega arith) (omega arith)))

open_within : {m : ℕ} {inside text : List ℕ} → IsInside m inside text → (after : List ℕ)
    → length (m ∷ inside) ≤ marked_size (length (inside ++ after)) (inside_len m (inside ++ after))
open_within d after = omega (arith, inside_within d after 0 (omega arith) (omega arith))

comment_within : (text after : List ℕ) → All (λ b. b ≢ 10) text → length (45 ∷ 45 ∷ text) ≤ size (45 ∷ 45 ∷ text ++ after)
comment_within text after h =
    omega (arith, run_longer (λ c. not (c == 10)) text after (λ i d l. ap not (ne_eqb _ 10 (h i d l))))

pub form_within : {front : List ℕ} {u : PieceForm} → HasForm front u → (after : List ℕ) → length front ≤ size (front ++ after)
form_within (f.sign s) after = sign_within s after
form_within (f.word {b = b} {bs = bs} h d) after = word_within b bs after h d
form_within (f.whole {digits = digits} d) after = whole_within digits after d
form_within (f.fraction digits behind d e) after = fraction_within digits behind after d e
form_within (f.string d) after = closed_within d after
form_within (f.name some d) after = closed_within d after
form_within f.empty_name after = closed_within {m = 34} f.end after
form_within (f.open_string d) after = open_within d after
form_within (f.open_name d) after = open_within d after
form_within (f.blank {b = b} h) after = omega (arith, blank_size b after h)
form_within (f.comment {text = text} h) after = comment_within text after h

pub form_takes : {front : List ℕ} {u : PieceForm} → HasForm front u → 0 < length front
form_takes (f.sign f.open_parenthesis) = omega arith
form_takes (f.sign f.close_parenthesis) = omega arith
form_takes (f.sign f.comma) = omega arith
form_takes (f.sign f.semicolon) = omega arith
form_takes (f.sign f.colon) = omega arith
form_takes (f.sign f.star) = omega arith
form_takes (f.sign f.plus) = omega arith
form_takes (f.sign f.minus) = omega arith
form_takes (f.word h d) = omega arith
form_takes (f.whole d) = d.0
form_takes (f.fraction digits behind d e) = omega (arith, d.0, length-append digits (46 ∷ behind))
form_takes (f.string d) = omega arith
form_takes (f.name some d) = omega arith
form_takes f.empty_name = omega arith
form_takes (f.open_string d) = omega arith
form_takes (f.open_name d) = omega arith
form_takes (f.blank h) = omega arith
form_takes (f.comment h) = omega arith
