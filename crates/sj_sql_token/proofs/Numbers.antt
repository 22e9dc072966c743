-- What numbers stand for.
use Rattle.std.proofs.Common.{◌≡◌, ◌≢◌, ℕ, zero, suc, ◌+◌, ◌*◌, ◌^◌, ◌<◌, ◌≤◌, inl, inr, Bool, true, false, cond, ◌&&◌, ◌==◌, List, [], ◌∷◌, ◌++◌, length, get_or, take, drop, Option, Some, None, ℤ, pos, negsuc, ◌-ℤ◌, refl, sym, ap, subst, ◌∙◌, arith, ◌-◌, length-drop, length-take-le, take-add, eqb-true, ne_eqb}
use Rattle.std.proofs.lemmas.List.{append-nil}
use Rattle.std.proofs.lemmas.Int.{ints}
use Rattle.std.specs.List.{take_while, prefix_len}
use Rattle.std.specs.Str.Parse.{AllDigits, digits_value}
use Rattle.std.specs.Char.{is_ascii_digit}
use Rattle.sj_base.specs.ByteClasses.{next_is_digit}
use Rattle.sj_decimal.specs.declared.parsing.Parsed.{Parsed}
use Rattle.sj_decimal.specs.declared.parsing.Parsed.TheVariants.{Exact, Wide, NotNumber}
use Rattle.sj_decimal.specs.Parses.{ParsesAs}
use Rattle.sj_decimal.specs.Normal.{normal, IsExact}
use Rattle.sj_decimal.specs.Number.{NumberParts, IsWhole, IsFraction, IsNumberOf, value_of as value_of_parts, shifted}
use Rattle.sj_decimal.proofs.Digits.{digit_passed}
use Rattle.sj_decimal.proofs.Readings.{read_parts_full}
use Rattle.sj_decimal.proofs.Exactness.{exact_true, exact_false}
use Rattle.sj_sql_token.specs.declared.piece.Piece.TheVariants as p
use Rattle.sj_sql_token.specs.declared.token.Token.TheVariants as k
use Rattle.sj_sql_token.specs.Numbers.{value_of, exact_of, pointed, fraction_of, fraction_len}
use Rattle.sj_sql_token.specs.Tokens.{number_piece, number_at}
use Rattle.sj_sql_token.proofs.Quotes.{slice_from}

some_is : {A : Type 0} {a b : A} → Some a ≡ Some b → a ≡ b
some_is e = cc

-- ---- zeros at the front

zeros_value : (n : ℕ) (w f : List ℕ) → n ≤ prefix_len (λ b. b == 48) w → digits_value 10 (drop n w ++ f) ≡ digits_value 10 (w ++ f)
zeros_value zero w f le = refl
zeros_value (suc n) [] f le = refl
zeros_value (suc n) (b ∷ w) f le = go (b == 48) refl le (zeros_value n w f)
  where
    go : (t : Bool) → (b == 48) ≡ t → suc n ≤ cond t (1 + prefix_len (λ b. b == 48) w) 0
        → (n ≤ prefix_len (λ b. b == 48) w → digits_value 10 (drop n w ++ f) ≡ digits_value 10 (w ++ f))
        → digits_value 10 (drop n w ++ f) ≡ digits_value 10 (b ∷ (w ++ f))
    go true e le more = more (omega arith) ∙ ap (λ c. digits_value 10 (c ∷ (w ++ f))) (sym (eqb-true b 48 e))
    go false e le more = absurd (omega arith)

zeros_of_front : (n : ℕ) (w : List ℕ) → prefix_len (λ b. b == 48) (take n w) ≤ prefix_len (λ b. b == 48) w
zeros_of_front zero w = omega arith
zeros_of_front (suc n) [] = omega arith
zeros_of_front (suc n) (b ∷ w) = go (b == 48) (zeros_of_front n w)
  where
    go : (t : Bool) → prefix_len (λ b. b == 48) (take n w) ≤ prefix_len (λ b. b == 48) w
        → cond t (1 + prefix_len (λ b. b == 48) (take n w)) 0 ≤ cond t (1 + prefix_len (λ b. b == 48) w) 0
    go true more = omega (arith, more)
    go false more = omega arith

zeros_within : (n : ℕ) (w : List ℕ) → prefix_len (λ b. b == 48) (take n w) ≤ n
zeros_within zero w = omega arith
zeros_within (suc n) [] = omega arith
zeros_within (suc n) (b ∷ w) = go (b == 48) (zeros_within n w)
  where
    go : (t : Bool) → prefix_len (λ b. b == 48) (take n w) ≤ n → cond t (1 + prefix_len (λ b. b == 48) (take n w)) 0 ≤ suc n
    go true more = omega (arith, more)
    go false more = omega arith

-- what is left begins with no zero, unless it is one digit
no_zero : (n : ℕ) (w : List ℕ) → n < length w → 1 < length (drop (prefix_len (λ b. b == 48) (take n w)) w)
    → length w ≡ n + 1 → get_or (drop (prefix_len (λ b. b == 48) (take n w)) w) 0 0 ≢ 48
no_zero zero [] below more len = absurd (omega arith)
no_zero zero (b ∷ w) below more len = absurd (omega (arith, more))
no_zero (suc n) [] below more len = absurd (omega arith)
no_zero (suc n) (b ∷ w) below more len = go (b == 48) refl more (no_zero n w)
  where
    apart : false ≡ true → ⊥
    apart q = cc

    go : (t : Bool) → (b == 48) ≡ t → 1 < length (drop (cond t (1 + prefix_len (λ b. b == 48) (take n w)) 0) (b ∷ w))
        → (n < length w → 1 < length (drop (prefix_len (λ b. b == 48) (take n w)) w) → length w ≡ n + 1 → get_or (drop (prefix_len (λ b. b == 48) (take n w)) w) 0 0 ≢ 48)
        → get_or (drop (cond t (1 + prefix_len (λ b. b == 48) (take n w)) 0) (b ∷ w)) 0 0 ≢ 48
    go true e more next =
        let one : 1 + prefix_len (λ b. b == 48) (take n w) ≡ suc (prefix_len (λ b. b == 48) (take n w)) = omega arith in
        subst (λ k. get_or (drop k (b ∷ w)) 0 0 ≢ 48) (sym one) (next (omega (arith, below)) (subst (λ k. 1 < length (drop k (b ∷ w))) one more) (omega (arith, len)))
    go false e more next = λ q. apart (sym e ∙ ap (λ c. c == 48) q)

digits_after : (n : ℕ) (w : List ℕ) → AllDigits 10 w → AllDigits 10 (drop n w)
digits_after zero w h = h
digits_after (suc n) [] h = h
digits_after (suc n) (b ∷ w) h = digits_after n w h.1

drop_front : (n : ℕ) (w after : List ℕ) → n ≤ length w → drop n (w ++ after) ≡ drop n w ++ after
drop_front zero w after le = refl
drop_front (suc n) [] after le = absurd (omega arith)
drop_front (suc n) (b ∷ w) after le = drop_front n w after (omega arith)

-- ---- the number that digits spell

abbrev parts_of : List ℕ → List ℕ → NumberParts
parts_of w f = record { negative = false; whole = w; fraction = f; exponent_negative = false; exponent = [] }

is_fraction : (f : List ℕ) → AllDigits 10 f → IsFraction f (pointed f)
is_fraction [] h = inl (refl, refl)
is_fraction (b ∷ f) h = inr ((omega arith, h), refl)

spells : (w f : List ℕ) → IsWhole w → AllDigits 10 f → IsNumberOf (parts_of w f) (w ++ pointed f)
spells w f whole fraction = record {
  fraction_text = pointed f;
  exponent_text = [];
  whole = whole;
  fraction = is_fraction f fraction;
  exponent = inl (refl, refl, refl);
  text = ap (λ x. w ++ x) (sym (append-nil (pointed f)));
}

abbrev pair : ℤ → ℕ → ℤ × ℕ
pair c s = (c, s)

parts_value : (w f : List ℕ) → value_of_parts (parts_of w f) ≡ value_of w f
parts_value w [] = ap (λ n. pair (pos n) 0) (let m = digits_value 10 (w ++ []) in times_one m)
  where
    times_one : (m : ℕ) → m * 10 ^ 0 ≡ m
    times_one m = omega arith
parts_value w (b ∷ f) = decimals (digits_value 10 (w ++ b ∷ f)) (length f) (pos 0 -ℤ pos (suc (length f))) refl
  where
    decimals : (m n : ℕ) (e : ℤ) → e ≡ pos 0 -ℤ pos (suc n) → shifted false m e ≡ pair (pos m) (suc n)
    decimals m n (pos e) h = absurd (omega (arith, ints, h))
    decimals m n (negsuc e) h = ap (λ k. pair (pos m) (suc k)) (omega (arith, ints, h))

whole_is : (n : ℕ) (w : List ℕ) → length w ≡ n + 1 → AllDigits 10 w → IsWhole (drop (prefix_len (λ b. b == 48) (take n w)) w)
whole_is n w len digits =
    let z = prefix_len (λ b. b == 48) (take n w) in
    ((omega (arith, length-drop z w, len, zeros_within n w), digits_after z w digits), λ more. no_zero n w (omega (arith, len)) more len)

abbrev pub option_of : Parsed → Option (ℤ × ℕ)
option_of (Exact d) = Some d
option_of Wide = None
option_of NotNumber = None

-- a number is parsed as what it spells
parsed : (b : List ℕ) (q : NumberParts) (r : Parsed) → IsNumberOf q b → ParsesAs b r → option_of r ≡ exact_of (value_of_parts q)
parsed b q (Exact d) h s =
    let same : s.spells.parts ≡ q = some_is (sym (read_parts_full s.spells.parts b s.spells.number) ∙ read_parts_full q b h) in
    let v : s.value ≡ value_of_parts q = s.spells.value ∙ ap value_of_parts same in
    ap Some (s.normal_form ∙ ap normal v) ∙ sym (ap (λ t. cond t (Some (normal (value_of_parts q))) None) (exact_true (value_of_parts q) (subst IsExact v s.exact)))
parsed b q Wide h s =
    let same : s.spells.parts ≡ q = some_is (sym (read_parts_full s.spells.parts b s.spells.number) ∙ read_parts_full q b h) in
    let v : s.value ≡ value_of_parts q = s.spells.value ∙ ap value_of_parts same in
    sym (ap (λ t. cond t (Some (normal (value_of_parts q))) None) (exact_false (value_of_parts q) (λ e. s.wide (subst IsExact (sym v) e))))
parsed b q NotNumber h s = absurd (s (value_of_parts q, record { parts = q; number = h; value = refl }))

-- digits without their first zeros are parsed as the number that they stand for
pub number_is : (digits w f : List ℕ) (n z : ℕ) (r : Parsed) → z ≡ prefix_len (λ b. b == 48) (take n digits) → digits ≡ w ++ pointed f → length w ≡ n + 1
    → AllDigits 10 w → AllDigits 10 f → ParsesAs (drop z digits) r → option_of r ≡ exact_of (value_of w f)
number_is digits w f n z r zeros split len whole fraction parse =
    let k = prefix_len (λ b. b == 48) (take n w) in
    let front : take n digits ≡ take n w = ap (take n) split ∙ take_front n w (pointed f) (omega (arith, len)) in
    let same : z ≡ k = zeros ∙ ap (prefix_len (λ b. b == 48)) front in
    let rest : drop z digits ≡ drop k w ++ pointed f =
    ap (λ x. drop z x) split ∙ ap (λ x. drop x (w ++ pointed f)) same ∙ drop_front k w (pointed f) (omega (arith, zeros_within n w, len)) in
    parsed (drop k w ++ pointed f) (parts_of (drop k w) f) r (spells (drop k w) f (whole_is n w len whole) fraction) (subst (λ x. ParsesAs x r) rest parse)
    ∙ ap exact_of (parts_value (drop k w) f ∙ ap (λ m. pair (pos m) (length f)) (zeros_value k w f (zeros_of_front n w)))
  where
    take_front : (n : ℕ) (w after : List ℕ) → n ≤ length w → take n (w ++ after) ≡ take n w
    take_front zero w after le = refl
    take_front (suc n) [] after le = absurd (omega arith)
    take_front (suc n) (b ∷ w) after le = ap (λ x. b ∷ x) (take_front n w after (omega arith))

-- ---- the digits at the front

passes : (bs : List ℕ) → AllDigits 10 (take_while is_ascii_digit bs)
passes [] = tt
passes (b ∷ bs) = go (is_ascii_digit b) refl (passes bs)
  where
    go : (t : Bool) → is_ascii_digit b ≡ t → AllDigits 10 (take_while is_ascii_digit bs) → AllDigits 10 (take (cond t (1 + prefix_len is_ascii_digit bs) 0) (b ∷ bs))
    go true e more = let one : 1 + prefix_len is_ascii_digit bs ≡ suc (prefix_len is_ascii_digit bs) = omega arith in
        subst (λ n. AllDigits 10 (take n (b ∷ bs))) (sym one) (digit_passed b e, more)
    go false e more = tt

pub whole_digits : (b : ℕ) (bs : List ℕ) → is_ascii_digit b ≡ true → AllDigits 10 (b ∷ take_while is_ascii_digit bs)
whole_digits b bs e = (digit_passed b e, passes bs)

pub fraction_digits : (bs : List ℕ) → AllDigits 10 (fraction_of bs)
fraction_digits [] = tt
fraction_digits (b ∷ bs) = go (b == 46 && next_is_digit bs)
  where
    go : (t : Bool) → AllDigits 10 (cond t (take_while is_ascii_digit bs) [])
    go true = passes bs
    go false = tt

run_some : (b : ℕ) (bs : List ℕ) → next_is_digit (b ∷ bs) ≡ true → prefix_len is_ascii_digit (b ∷ bs) ≡ suc (prefix_len is_ascii_digit bs)
run_some b bs h = ap (λ t. cond t (1 + prefix_len is_ascii_digit bs) 0) h ∙ omega arith

-- a point and the digits behind it
fraction_text : (bs : List ℕ) → take (fraction_len bs) bs ≡ pointed (fraction_of bs)
fraction_text [] = refl
fraction_text (b ∷ bs) = go (b == 46) (next_is_digit bs) refl refl
  where
    by : (c : ℕ) (cs : List ℕ) → next_is_digit (c ∷ cs) ≡ true → b ≡ 46
        → take (cond (length (take_while is_ascii_digit (c ∷ cs)) == 0) 0 (suc (length (take_while is_ascii_digit (c ∷ cs))))) (b ∷ c ∷ cs) ≡ pointed (take_while is_ascii_digit (c ∷ cs))
    by c cs h point =
        let n : prefix_len is_ascii_digit (c ∷ cs) ≡ suc (prefix_len is_ascii_digit cs) = run_some c cs h in
        let len : length (take (prefix_len is_ascii_digit cs) cs) ≡ prefix_len is_ascii_digit cs = length_take_while cs in
        subst (λ m. take (cond (length (take m (c ∷ cs)) == 0) 0 (suc (length (take m (c ∷ cs))))) (b ∷ c ∷ cs) ≡ pointed (take m (c ∷ cs))) (sym n)
        (joined (length (take (prefix_len is_ascii_digit cs) cs)) len ∙ ap (λ x. x ∷ c ∷ take (prefix_len is_ascii_digit cs) cs) point)
      where
        joined : (n : ℕ) → n ≡ prefix_len is_ascii_digit cs → take (cond (suc n == 0) 0 (suc (suc n))) (b ∷ c ∷ cs) ≡ b ∷ c ∷ take (prefix_len is_ascii_digit cs) cs
        joined n e = ap (λ t. take (cond t 0 (suc (suc n))) (b ∷ c ∷ cs)) (ne_eqb (suc n) 0 (λ q. absurd (omega arith))) ∙ ap (λ m. b ∷ c ∷ take m cs) e

        length_take_while : (cs : List ℕ) → length (take (prefix_len is_ascii_digit cs) cs) ≡ prefix_len is_ascii_digit cs
        length_take_while [] = refl
        length_take_while (c ∷ cs) = turn (is_ascii_digit c) (length_take_while cs)
          where
            turn : (t : Bool) → length (take (prefix_len is_ascii_digit cs) cs) ≡ prefix_len is_ascii_digit cs
                → length (take (cond t (1 + prefix_len is_ascii_digit cs) 0) (c ∷ cs)) ≡ cond t (1 + prefix_len is_ascii_digit cs) 0
            turn true e = let one : 1 + prefix_len is_ascii_digit cs ≡ suc (prefix_len is_ascii_digit cs) = omega arith in
                subst (λ m. length (take m (c ∷ cs)) ≡ m) (sym one) (ap suc e)
            turn false e = refl

    some : (bs : List ℕ) → next_is_digit bs ≡ true → b ≡ 46
        → take (cond (length (take_while is_ascii_digit bs) == 0) 0 (suc (length (take_while is_ascii_digit bs)))) (b ∷ bs) ≡ pointed (take_while is_ascii_digit bs)
    some [] h point = absurd cc
    some (c ∷ cs) h point = by c cs h point

    go : (s t : Bool) → (b == 46) ≡ s → next_is_digit bs ≡ t
        → take (cond (length (cond (s && t) (take_while is_ascii_digit bs) []) == 0) 0 (suc (length (cond (s && t) (take_while is_ascii_digit bs) [])))) (b ∷ bs)
        ≡ pointed (cond (s && t) (take_while is_ascii_digit bs) [])
    go true true e f = some bs f (eqb-true b 46 e)
    go true false e f = refl
    go false t e f = refl

pub number_text : (b : ℕ) (bs : List ℕ) → take (prefix_len is_ascii_digit bs + fraction_len (drop (prefix_len is_ascii_digit bs) bs) + 1) (b ∷ bs)
    ≡ (b ∷ take_while is_ascii_digit bs) ++ pointed (fraction_of (drop (prefix_len is_ascii_digit bs) bs))
number_text b bs =
    let n = prefix_len is_ascii_digit bs in
    let m = fraction_len (drop n bs) in
    let one : n + m + 1 ≡ suc (n + m) = omega arith in
    ap (λ k. take k (b ∷ bs)) one ∙ ap (λ x. b ∷ x) (take-add n m bs ∙ ap (λ x. take n bs ++ x) (fraction_text (drop n bs)))

-- ---- the token of a number

pub number_found : (b : ℕ) (bs bytes : List ℕ) (n m : ℕ) (r : Option (ℤ × ℕ)) → is_ascii_digit b ≡ true → bytes ≡ b ∷ bs → n ≡ prefix_len is_ascii_digit bs → n ≤ length bs
    → m ≡ fraction_len (take (length bs - n) (drop n bs))
    → ((w f : List ℕ) → take (n + m + 1) bytes ≡ w ++ pointed f → length w ≡ n + 1 → AllDigits 10 w → AllDigits 10 f → r ≡ exact_of (value_of w f))
    → (number_piece r (fraction_of (drop n bs)) (n + m) ≡ number_at b bs) × (m ≡ fraction_len (drop n bs))
number_found b bs bytes n m r digit split len within fraction read =
    let w = b ∷ take_while is_ascii_digit bs in
    let f = fraction_of (drop n bs) in
    let rest : m ≡ fraction_len (drop n bs) = fraction ∙ ap fraction_len (slice_from bs n) in
    let text : take (n + m + 1) bytes ≡ w ++ pointed f =
    ap (take (n + m + 1)) split ∙ ap (λ k. take (n + k + 1) (b ∷ bs)) rest ∙ ap (λ k. take (k + fraction_len (drop k bs) + 1) (b ∷ bs)) len ∙ number_text b bs
    ∙ ap (λ k. w ++ pointed (fraction_of (drop k bs))) (sym len) in
    let size : length w ≡ n + 1 = omega (arith, len, ap (λ k. length (take k bs)) (sym len), length-take-le n bs within) in
    let value : r ≡ exact_of (value_of w f) = read w f text size (whole_digits b bs digit) (fraction_digits (drop n bs)) in (
      ap (λ x. number_piece x f (n + m)) value ∙ ap (λ k. number_piece (exact_of (value_of w f)) f (n + k)) rest
          ∙ ap (λ k. number_piece (exact_of (value_of w (fraction_of (drop k bs)))) (fraction_of (drop k bs)) (k + fraction_len (drop k bs))) len,
      rest,
    )

pub whole_piece : (bs : List ℕ) (d : ℤ × ℕ) (m n : ℕ) → m ≡ fraction_len bs → m ≡ 0 → number_piece (Some d) (fraction_of bs) n ≡ p.Token (k.Whole d) n
whole_piece bs d m n len none = go (fraction_of bs) (sym len ∙ none)
  where
    go : (f : List ℕ) → cond (length f == 0) 0 (suc (length f)) ≡ 0 → number_piece (Some d) f n ≡ p.Token (k.Whole d) n
    go [] e = refl
    go (c ∷ f) e = absurd (none_some (length f) (sym (ap (λ t. cond t 0 (suc (suc (length f)))) (ne_eqb (suc (length f)) 0 (λ q. absurd (omega arith)))) ∙ e))
      where
        none_some : (x : ℕ) → suc (suc x) ≡ 0 → ⊥
        none_some x q = omega arith

pub fraction_piece : (bs : List ℕ) (d : ℤ × ℕ) (m n : ℕ) → m ≡ fraction_len bs → (m ≡ 0 → ⊥) → number_piece (Some d) (fraction_of bs) n ≡ p.Token (k.Fraction d) n
fraction_piece bs d m n len some = go (fraction_of bs) (λ e. some (len ∙ e))
  where
    go : (f : List ℕ) → (cond (length f == 0) 0 (suc (length f)) ≡ 0 → ⊥) → number_piece (Some d) f n ≡ p.Token (k.Fraction d) n
    go [] e = absurd (e refl)
    go (c ∷ f) e = refl
