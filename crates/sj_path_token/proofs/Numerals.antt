-- The longest number at the front of a text, and what it stands for.
use Rattle.std.proofs.Common.{◌≡◌, ◌≢◌, ℕ, zero, suc, ◌+◌, ◌<◌, ◌≤◌, ◌⊎◌, inl, inr, Bool, true, false, cond, ◌&&◌, ◌||◌, ◌==◌, nat_le, List, [], ◌∷◌, ◌++◌, length, take, drop, Option, Some, None, ℤ, refl, sym, ap, subst, ◌∙◌, arith, append_assoc, length-append, length-drop, take-add, take_at, drop_at, eqb-true, leb-true, eq-eqb}
use Rattle.std.specs.Str.Parse.{AllDigits, IsNumeral as IsDigits}
use Rattle.std.specs.List.{prefix_len}
use Rattle.std.proofs.lemmas.List.Sums.{prefix_len-le-length}
use Rattle.std.specs.Char.{is_ascii_digit}
use Rattle.sj_base.specs.ByteClasses.{is_letter, next_is, next_is_digit}
use Rattle.sj_base.specs.Options.{◌>>=◌}
use Rattle.sj_decimal.specs.Exact.{is_exact}
use Rattle.sj_decimal.specs.Number.{NumberParts, IsWhole, IsFraction, IsExponentSign, IsWrittenExponent, IsExponent, IsNumberOf, value_of, SpellsNumber, IsNumber, SpellsExact, SpellsWide}
use Rattle.sj_decimal.specs.Reading.{read_parts}
use Rattle.sj_decimal.proofs.Digits.{digit_passes, digit_passed}
use Rattle.sj_decimal.proofs.Readings.{read_parts_full, read_parts_sound}
use Rattle.sj_decimal.proofs.Exactness.{exact_is, exact_true, exact_false}
use Rattle.sj_path_token.specs.declared.token.Token.{Token}
use Rattle.sj_path_token.specs.declared.token.Token.TheVariants as k
use Rattle.sj_path_token.specs.Words as w
use Rattle.sj_path_token.specs.Words.{AllPass}
use Rattle.sj_path_token.specs.Numbers as n
use Rattle.sj_path_token.specs.Numbers.{NoMinus, IsNumeral}
use Rattle.sj_path_token.specs.Reading.{whole_len, fraction_len, sign_len, digits_len, exponent_len, rest_len, number_len, exact_number, number_token, number_at, exact, exactly}
use Rattle.sj_path_token.proofs.Runs.{run_goes_on, run_ends, run_passes, run_longer}
use Rattle.sj_path_token.proofs.Cuts.{IfCut, here, cond_on, cond_off}

-- ---- what a number stands for

token_of : (digits : List ℕ) (v : ℤ × ℕ) → SpellsNumber digits v → number_token digits ≡ exact_number v
unfolding number_token
token_of digits v s =
    ap (λ (o : Option NumberParts). o >>= λ p. exact_number (value_of p)) (read_parts_full s.parts digits s.number) ∙ ap exact_number (sym s.value)

pub token_exact : (digits : List ℕ) (d : ℤ × ℕ) → SpellsExact digits d → number_token digits ≡ Some (k.Number d)
token_exact digits d s =
    token_of digits s.value s.spells ∙ cond_on (is_exact s.value) _ _ (exact_true s.value s.exact) (ap (λ x. Some (k.Number x)) (sym s.normal_form))

pub token_wide : (digits : List ℕ) → SpellsWide digits → number_token digits ≡ None
token_wide digits s = token_of digits s.value s.spells ∙ cond_off (is_exact s.value) _ _ (exact_false s.value s.wide) refl

-- a number has the token that it stands for
token_sound : (digits : List ℕ) (v : ℤ × ℕ) → NoMinus digits → SpellsNumber digits v → IsNumeral digits (number_token digits)
token_sound digits v m s = go (is_exact v) refl
  where
    apart : false ≡ true → ⊥
    apart q = cc

    go : (b : Bool) → is_exact v ≡ b → IsNumeral digits (number_token digits)
    go true e = subst (IsNumeral digits) (sym (token_of digits v s ∙ cond_on (is_exact v) _ _ e refl)) (n.exact m (record { value = v; spells = s; exact = exact_is v e; normal_form = refl }))
    go false e = subst (IsNumeral digits) (sym (token_of digits v s ∙ cond_off (is_exact v) _ _ e refl)) (n.inexact m (record { value = v; spells = s; wide = λ x. absurd (apart (sym e ∙ exact_true v x)) }))

-- ---- digits

digits_pass : (ds : List ℕ) → AllDigits 10 ds → AllPass is_ascii_digit ds
digits_pass [] h = w.none
digits_pass (c ∷ cs) h = w.more (digit_passes c h.0) (digits_pass cs h.1)

passed_digits : {ds : List ℕ} → AllPass is_ascii_digit ds → AllDigits 10 ds
passed_digits w.none = tt
passed_digits (w.more {b = b} h p) = (digit_passed b h, passed_digits p)

-- a run of digits that begins with one
run_digits : (bs : List ℕ) → next_is_digit bs ≡ true → IsDigits 10 (take (prefix_len is_ascii_digit bs) bs)
run_digits [] h = absurd cc
run_digits (b ∷ bs) h =
    (subst (λ n. 0 < length (take n (b ∷ bs))) (sym (run_goes_on is_ascii_digit b bs h)) (omega arith), passed_digits (run_passes is_ascii_digit (b ∷ bs)))

run_none : (bs : List ℕ) → next_is_digit bs ≡ false → prefix_len is_ascii_digit bs ≡ 0
run_none [] h = refl
run_none (b ∷ bs) h = run_ends is_ascii_digit b bs h

-- digits, and what follows them
run_least : (ds : List ℕ) → AllDigits 10 ds → (after : List ℕ) → length ds ≤ prefix_len is_ascii_digit (ds ++ after)
run_least ds h after = let e = run_longer (digits_pass ds h) after in omega arith

run_exactly : (ds : List ℕ) → AllDigits 10 ds → (after : List ℕ) → next_is_digit after ≡ false → prefix_len is_ascii_digit (ds ++ after) ≡ length ds
run_exactly ds h after ends = let e = run_longer (digits_pass ds h) after in let f = run_none after ends in omega arith

next_digit : (ds : List ℕ) → IsDigits 10 ds → (after : List ℕ) → next_is_digit (ds ++ after) ≡ true
next_digit [] h after = absurd (omega (arith, h.0))
next_digit (c ∷ cs) h after = digit_passes c h.1.0

digit_is_not : (c d : ℕ) → is_ascii_digit c ≡ true → is_ascii_digit d ≡ false → (c == d) ≡ false
digit_is_not c d h ends = go (c == d) refl
  where
    apart : true ≡ false → ⊥
    apart q = cc

    go : (b : Bool) → (c == d) ≡ b → (c == d) ≡ false
    go true e = absurd (apart (sym h ∙ ap is_ascii_digit (eqb-true c d e) ∙ ends))
    go false e = e

-- ---- what is read is a number

whole_sound : (b : ℕ) (bs : List ℕ) → is_ascii_digit b ≡ true → IsWhole (take (whole_len (b ∷ bs)) (b ∷ bs))
whole_sound b bs h = go (b == 48) refl
  where
    apart : true ≡ false → ⊥
    apart q = cc

    not_zero : (b == 48) ≡ false → b ≢ 48
    not_zero e q = absurd (apart (sym (ap (λ x. x == 48) q) ∙ e))

    many : (b == 48) ≡ false → IsWhole (b ∷ take (prefix_len is_ascii_digit bs) bs)
    many e = ((omega arith, (digit_passed b h, passed_digits (run_passes is_ascii_digit bs))), λ _. not_zero e)

    go : (x : Bool) → (b == 48) ≡ x → IsWhole (take (cond x 1 (prefix_len is_ascii_digit (b ∷ bs))) (b ∷ bs))
    go true e = ((omega arith, (digit_passed b h, tt)), λ l. absurd (omega arith))
    go false e = subst (λ n. IsWhole (take n (b ∷ bs))) (sym (run_goes_on is_ascii_digit b bs h)) (many e)

fraction_sound : (bs : List ℕ) → (ds : List ℕ) × IsFraction ds (take (fraction_len bs) bs)
fraction_sound [] = ([], inl (refl, refl))
fraction_sound (b ∷ bs) = go (b == 46) (next_is_digit bs) refl refl
  where
    front : b ≡ 46 → take (prefix_len is_ascii_digit bs + 1) (b ∷ bs) ≡ 46 ∷ take (prefix_len is_ascii_digit bs) bs
    front q = let e : prefix_len is_ascii_digit bs + 1 ≡ suc (prefix_len is_ascii_digit bs) = omega arith in ap (λ n. take n (b ∷ bs)) e ∙ ap (λ x. x ∷ take (prefix_len is_ascii_digit bs) bs) q

    go : (x y : Bool) → (b == 46) ≡ x → next_is_digit bs ≡ y → (ds : List ℕ) × IsFraction ds (take (cond (x && y) (prefix_len is_ascii_digit bs + 1) 0) (b ∷ bs))
    go true true e f = (take (prefix_len is_ascii_digit bs) bs, inr (run_digits bs f, front (eqb-true b 46 e)))
    go true false e f = ([], inl (refl, refl))
    go false y e f = ([], inl (refl, refl))

sign_sound : (bs : List ℕ) → (negative : Bool) × IsExponentSign negative (take (sign_len bs) bs)
sign_sound [] = (false, inl refl)
sign_sound (b ∷ bs) = go (b == 43) (b == 45) refl refl
  where
    go : (x y : Bool) → (b == 43) ≡ x → (b == 45) ≡ y → (negative : Bool) × IsExponentSign negative (take (cond (x || y) 1 0) (b ∷ bs))
    go true y e f = (false, inr (ap (λ x. x ∷ []) (eqb-true b 43 e)))
    go false true e f = (true, ap (λ x. x ∷ []) (eqb-true b 45 f))
    go false false e f = (false, inl refl)

abbrev HasExponent : List ℕ → Type 0
HasExponent bs = (negative : Bool) × (ds : List ℕ) × IsExponent negative ds bs

mark_of : (b : ℕ) → (b == 101 || b == 69) ≡ true → (b ≡ 101) ⊎ (b ≡ 69)
mark_of b h = go (b == 101) (b == 69) refl refl h
  where
    go : (x y : Bool) → (b == 101) ≡ x → (b == 69) ≡ y → (x || y) ≡ true → (b ≡ 101) ⊎ (b ≡ 69)
    go true y e f _ = inl (eqb-true b 101 e)
    go false true e f _ = inr (eqb-true b 69 f)
    go false false e f q = absurd cc

exponent_sound : (bs : List ℕ) → HasExponent (take (exponent_len bs) bs)
exponent_sound [] = (false, [], inl (refl, refl, refl))
exponent_sound (b ∷ bs) = go (b == 101 || b == 69) (next_is_digit (drop (sign_len bs) bs)) refl refl
  where
    none : HasExponent []
    none = (false, [], inl (refl, refl, refl))

    front : take (sign_len bs + 1 + prefix_len is_ascii_digit (drop (sign_len bs) bs)) (b ∷ bs) ≡ b ∷ (take (sign_len bs) bs ++ take (prefix_len is_ascii_digit (drop (sign_len bs) bs)) (drop (sign_len bs) bs))
    front = let e : sign_len bs + 1 + prefix_len is_ascii_digit (drop (sign_len bs) bs) ≡ suc (sign_len bs + prefix_len is_ascii_digit (drop (sign_len bs) bs)) = omega arith in
        ap (λ n. take n (b ∷ bs)) e ∙ ap (λ x. b ∷ x) (take-add (sign_len bs) (prefix_len is_ascii_digit (drop (sign_len bs) bs)) bs)

    go : (x y : Bool) → (b == 101 || b == 69) ≡ x → next_is_digit (drop (sign_len bs) bs) ≡ y
        → HasExponent (take (cond x (cond y (sign_len bs + 1 + prefix_len is_ascii_digit (drop (sign_len bs) bs)) 0) 0) (b ∷ bs))
    go true true e f = let s = sign_sound bs in (
      s.0,
      take (prefix_len is_ascii_digit (drop (sign_len bs) bs)) (drop (sign_len bs) bs),
      inr (record {
        mark = b;
        sign = take (sign_len bs) bs;
        is_mark = mark_of b e;
        is_sign = s.1;
        digits = run_digits (drop (sign_len bs) bs) f;
        text = front;
      }),
    )
    go true false e f = none
    go false y e f = none

-- the parts of the number at the front
number_sound : (b : ℕ) (bs : List ℕ) → is_ascii_digit b ≡ true → (p : NumberParts) × IsNumberOf p (take (number_len (b ∷ bs)) (b ∷ bs))
unfolding number_len
number_sound b bs h =
    let rest : List ℕ = drop (whole_len (b ∷ bs)) (b ∷ bs) in
    let f = fraction_sound rest in
    let e = exponent_sound (drop (fraction_len rest) rest) in (
      record { negative = false; whole = take (whole_len (b ∷ bs)) (b ∷ bs); fraction = f.0; exponent_negative = e.0; exponent = e.1 },
      record {
        fraction_text = take (fraction_len rest) rest;
        exponent_text = take (exponent_len (drop (fraction_len rest) rest)) (drop (fraction_len rest) rest);
        whole = whole_sound b bs h;
        fraction = f.1;
        exponent = e.2;
        text = take-add (whole_len (b ∷ bs)) (rest_len rest) (b ∷ bs) ∙ ap (λ x. take (whole_len (b ∷ bs)) (b ∷ bs) ++ x) (take-add (fraction_len rest) (exponent_len (drop (fraction_len rest) rest)) rest);
      },
    )

whole_within : (b : ℕ) (bs : List ℕ) → whole_len (b ∷ bs) ≤ length (b ∷ bs)
whole_within b bs = go (b == 48)
  where
    go : (x : Bool) → cond x 1 (prefix_len is_ascii_digit (b ∷ bs)) ≤ length (b ∷ bs)
    go true = omega arith
    go false = prefix_len-le-length is_ascii_digit (b ∷ bs)

fraction_within : (bs : List ℕ) → fraction_len bs ≤ length bs
fraction_within [] = omega arith
fraction_within (b ∷ bs) = go (b == 46 && next_is_digit bs)
  where
    go : (x : Bool) → cond x (prefix_len is_ascii_digit bs + 1) 0 ≤ length (b ∷ bs)
    go true = omega (arith, prefix_len-le-length is_ascii_digit bs)
    go false = omega arith

sign_within : (bs : List ℕ) → sign_len bs ≤ length bs
sign_within [] = omega arith
sign_within (b ∷ bs) = go (b == 43 || b == 45)
  where
    go : (x : Bool) → cond x 1 0 ≤ length (b ∷ bs)
    go true = omega arith
    go false = omega arith

exponent_within : (bs : List ℕ) → exponent_len bs ≤ length bs
exponent_within [] = omega arith
exponent_within (b ∷ bs) = go (b == 101 || b == 69) (next_is_digit (drop (sign_len bs) bs))
  where
    go : (x y : Bool) → cond x (cond y (sign_len bs + 1 + prefix_len is_ascii_digit (drop (sign_len bs) bs)) 0) 0 ≤ length (b ∷ bs)
    go true true = omega (arith, prefix_len-le-length is_ascii_digit (drop (sign_len bs) bs), length-drop (sign_len bs) bs, sign_within bs)
    go true false = omega arith
    go false y = omega arith

number_within : (b : ℕ) (bs : List ℕ) → number_len (b ∷ bs) ≤ length (b ∷ bs)
unfolding number_len
number_within b bs =
    let rest : List ℕ = drop (whole_len (b ∷ bs)) (b ∷ bs) in
    let le : rest_len rest ≤ length rest = omega (arith, fraction_within rest, exponent_within (drop (fraction_len rest) rest), length-drop (fraction_len rest) rest) in
    omega (arith, le, whole_within b bs, length-drop (whole_len (b ∷ bs)) (b ∷ bs))

no_minus : (n b : ℕ) (bs : List ℕ) → is_ascii_digit b ≡ true → NoMinus (take n (b ∷ bs))
no_minus zero b bs h = tt
no_minus (suc n) b bs h = λ q. absurd (apart (sym (ap is_ascii_digit q) ∙ h))
  where
    apart : false ≡ true → ⊥
    apart q = cc

pub record NumeralFront (text : List ℕ) (o : Option Token) (n : ℕ) : Type 0 where
  pub within : n ≤ length text
  pub fits : IsNumeral (take n text) o

pub numeral_sound : (b : ℕ) (bs : List ℕ) → is_ascii_digit b ≡ true → IfCut (NumeralFront (b ∷ bs)) (number_at (b ∷ bs))
unfolding number_at
numeral_sound b bs h =
    let p = number_sound b bs h in
    here (record {
      within = number_within b bs;
      fits = token_sound (take (number_len (b ∷ bs)) (b ∷ bs)) (value_of p.0) (no_minus (number_len (b ∷ bs)) b bs h) (record { parts = p.0; number = p.1; value = refl });
    })

-- ---- each number is read

whole_least : (ds after : List ℕ) → IsWhole ds → length ds ≤ whole_len (ds ++ after)
whole_least [] after h = absurd (omega (arith, h.0.0))
whole_least (c ∷ cs) after h = go (c == 48) refl
  where
    go : (x : Bool) → (c == 48) ≡ x → length (c ∷ cs) ≤ cond x 1 (prefix_len is_ascii_digit ((c ∷ cs) ++ after))
    go true e = single cs h.1
      where
        single : (cs : List ℕ) → (1 < length (c ∷ cs) → c ≢ 48) → length (c ∷ cs) ≤ 1
        single [] n = omega arith
        single (d ∷ ds) n = absurd (n (omega arith) (eqb-true c 48 e))
    go false e = run_least (c ∷ cs) h.0.1 after

whole_exactly : (ds after : List ℕ) → IsWhole ds → next_is_digit after ≡ false → whole_len (ds ++ after) ≡ length ds
whole_exactly [] after h ends = absurd (omega (arith, h.0.0))
whole_exactly (c ∷ cs) after h ends = go (c == 48) refl
  where
    go : (x : Bool) → (c == 48) ≡ x → cond x 1 (prefix_len is_ascii_digit ((c ∷ cs) ++ after)) ≡ length (c ∷ cs)
    go true e = single cs h.1
      where
        single : (cs : List ℕ) → (1 < length (c ∷ cs) → c ≢ 48) → 1 ≡ length (c ∷ cs)
        single [] n = refl
        single (d ∷ ds) n = absurd (n (omega arith) (eqb-true c 48 e))
    go false e = run_exactly (c ∷ cs) h.0.1 after ends

point_read : (ds after : List ℕ) → IsDigits 10 ds → fraction_len (46 ∷ (ds ++ after)) ≡ prefix_len is_ascii_digit (ds ++ after) + 1
point_read ds after h = ap (λ x. cond x (prefix_len is_ascii_digit (ds ++ after) + 1) 0) (next_digit ds h after)

fraction_least : (ds f after : List ℕ) → IsFraction ds f → length f ≤ fraction_len (f ++ after)
fraction_least ds f after (inl h) = subst (λ x. length x ≤ fraction_len (x ++ after)) (sym h.1) (omega arith)
fraction_least ds f after (inr h) = subst (λ x. length x ≤ fraction_len (x ++ after)) (sym h.1) (omega (arith, point_read ds after h.0, run_least ds h.0.1 after))

fraction_none : (after : List ℕ) → next_is 46 after ≡ false → fraction_len after ≡ 0
fraction_none [] h = refl
fraction_none (b ∷ bs) h = ap (λ x. cond (x && next_is_digit bs) (prefix_len is_ascii_digit bs + 1) 0) h

fraction_exactly : (ds f after : List ℕ) → IsFraction ds f → next_is_digit after ≡ false → next_is 46 after ≡ false → fraction_len (f ++ after) ≡ length f
fraction_exactly ds f after (inl h) ends point = subst (λ x. fraction_len (x ++ after) ≡ length x) (sym h.1) (fraction_none after point)
fraction_exactly ds f after (inr h) ends point =
    subst (λ x. fraction_len (x ++ after) ≡ length x) (sym h.1) (let e = run_exactly ds h.0.1 after ends in omega (arith, point_read ds after h.0, e))

-- the exponent behind its mark, where the sign has this length
marked : (m s : ℕ) (bs ds after : List ℕ) → (m ≡ 101) ⊎ (m ≡ 69) → sign_len bs ≡ s → drop s bs ≡ ds ++ after → IsDigits 10 ds → s + 1 + length ds ≤ exponent_len (m ∷ bs)
marked m s bs ds after mark sign rest h =
    subst (λ n. s + 1 + length ds ≤ n) (sym total) (omega (arith, run_least ds h.1 after))
  where
    is_mark : (m ≡ 101) ⊎ (m ≡ 69) → (m == 101 || m == 69) ≡ true
    is_mark (inl e) = ap (λ x. x == 101 || x == 69) e
    is_mark (inr e) = ap (λ x. x == 101 || x == 69) e

    total : exponent_len (m ∷ bs) ≡ s + 1 + prefix_len is_ascii_digit (ds ++ after)
    total = cond_on _ _ _ (is_mark mark) (ap (λ n. digits_len (n + 1) (drop n bs)) sign ∙ ap (digits_len (s + 1)) rest
        ∙ ap (λ x. cond x (s + 1 + prefix_len is_ascii_digit (ds ++ after)) 0) (next_digit ds h after))

written_least : (negative : Bool) (ds e after : List ℕ) → IsWrittenExponent negative ds e → length e ≤ exponent_len (e ++ after)
written_least negative ds e after h = subst (λ x. length x ≤ exponent_len (x ++ after)) (sym h.text) (go negative h.sign h.is_sign)
  where
    unsigned : (ds : List ℕ) → IsDigits 10 ds → sign_len (ds ++ after) ≡ 0
    unsigned [] d = absurd (omega (arith, d.0))
    unsigned (c ∷ cs) d = ap (λ x. cond (x || c == 45) 1 0) (digit_is_not c 43 (digit_passes c d.1.0) refl) ∙ ap (λ x. cond x 1 0) (digit_is_not c 45 (digit_passes c d.1.0) refl)

    go : (negative : Bool) (sign : List ℕ) → IsExponentSign negative sign → length (h.mark ∷ (sign ++ ds)) ≤ exponent_len (h.mark ∷ ((sign ++ ds) ++ after))
    go true sign q = subst (λ x. length (h.mark ∷ (x ++ ds)) ≤ exponent_len (h.mark ∷ ((x ++ ds) ++ after))) (sym q)
        (let le = marked h.mark 1 (45 ∷ (ds ++ after)) ds after h.is_mark refl refl h.digits in omega (arith, le))
    go false sign (inl q) = subst (λ x. length (h.mark ∷ (x ++ ds)) ≤ exponent_len (h.mark ∷ ((x ++ ds) ++ after))) (sym q)
        (let le = marked h.mark 0 (ds ++ after) ds after h.is_mark (unsigned ds h.digits) refl h.digits in omega (arith, le))
    go false sign (inr q) = subst (λ x. length (h.mark ∷ (x ++ ds)) ≤ exponent_len (h.mark ∷ ((x ++ ds) ++ after))) (sym q)
        (let le = marked h.mark 1 (43 ∷ (ds ++ after)) ds after h.is_mark refl refl h.digits in omega (arith, le))

mark_stops : (negative : Bool) (ds e after : List ℕ) → IsWrittenExponent negative ds e → (next_is_digit (e ++ after) ≡ false) × (next_is 46 (e ++ after) ≡ false)
mark_stops negative ds e after h = subst (λ x. (next_is_digit (x ++ after) ≡ false) × (next_is 46 (x ++ after) ≡ false)) (sym h.text) (go h.mark h.is_mark)
  where
    go : (m : ℕ) → (m ≡ 101) ⊎ (m ≡ 69) → (is_ascii_digit m ≡ false) × ((m == 46) ≡ false)
    go m (inl q) = (ap is_ascii_digit q, ap (λ x. x == 46) q)
    go m (inr q) = (ap is_ascii_digit q, ap (λ x. x == 46) q)

rest_least : (negative : Bool) (fs es f e after : List ℕ) → IsFraction fs f → IsExponent negative es e → length f + length e ≤ rest_len (f ++ (e ++ after))
rest_least negative fs es f e after a (inl h) = omega (arith, ap length h.2, fraction_least fs f (e ++ after) a)
rest_least negative fs es f e after a (inr h) =
    let stops = mark_stops negative es e after h in
    let n = fraction_exactly fs f (e ++ after) a stops.0 stops.1 in
    let rest : drop (fraction_len (f ++ (e ++ after))) (f ++ (e ++ after)) ≡ e ++ after = drop_at f (e ++ after) (fraction_len (f ++ (e ++ after))) (sym n) in
    omega (arith, n, ap exponent_len rest, written_least negative es e after h)

number_least : (p : NumberParts) (w f e after : List ℕ) → IsWhole w → IsFraction p.fraction f → IsExponent p.exponent_negative p.exponent e
    → length w + (length f + length e) ≤ number_len (w ++ (f ++ (e ++ after)))
unfolding number_len
number_least p w f e after a b c = go b c
  where
    exactly : next_is_digit (f ++ (e ++ after)) ≡ false → length w + (length f + length e) ≤ whole_len (w ++ (f ++ (e ++ after))) + rest_len (drop (whole_len (w ++ (f ++ (e ++ after)))) (w ++ (f ++ (e ++ after))))
    exactly ends =
        let n = whole_exactly w (f ++ (e ++ after)) a ends in
        let rest : drop (whole_len (w ++ (f ++ (e ++ after)))) (w ++ (f ++ (e ++ after))) ≡ f ++ (e ++ after) = drop_at w (f ++ (e ++ after)) (whole_len (w ++ (f ++ (e ++ after)))) (sym n) in
        omega (arith, n, ap rest_len rest, rest_least p.exponent_negative p.fraction p.exponent f e after b c)

    go : IsFraction p.fraction f → IsExponent p.exponent_negative p.exponent e
        → length w + (length f + length e) ≤ whole_len (w ++ (f ++ (e ++ after))) + rest_len (drop (whole_len (w ++ (f ++ (e ++ after)))) (w ++ (f ++ (e ++ after))))
    go (inr h) x = exactly (ap (λ y. next_is_digit (y ++ (e ++ after))) h.1)
    go (inl h) (inr x) = exactly (ap (λ y. next_is_digit (y ++ (e ++ after))) h.1 ∙ (mark_stops p.exponent_negative p.exponent e after x).0)
    go (inl h) (inl x) = omega (arith, ap length h.1, ap length x.2, whole_least w (f ++ (e ++ after)) a)

-- without a minus sign
plain : (p : NumberParts) (digits : List ℕ) → NoMinus digits → (h : IsNumberOf p digits) → digits ≡ p.whole ++ (h.fraction_text ++ h.exponent_text)
plain p digits m h = go p.negative h.text
  where
    go : (n : Bool) → digits ≡ cond n (45 ∷ []) [] ++ (p.whole ++ (h.fraction_text ++ h.exponent_text)) → digits ≡ p.whole ++ (h.fraction_text ++ h.exponent_text)
    go true e = absurd (minus 45 (subst NoMinus e m))
      where
        minus : (c : ℕ) → c ≢ c → ⊥
        minus c q = q refl
    go false e = e

longest : (digits : List ℕ) (v : ℤ × ℕ) → NoMinus digits → SpellsNumber digits v → (after : List ℕ) → length digits ≤ number_len (digits ++ after)
longest digits v m s after =
    let h = s.number in
    let e = plain s.parts digits m h in
    let shape : digits ++ after ≡ s.parts.whole ++ (h.fraction_text ++ (h.exponent_text ++ after)) =
    ap (λ x. x ++ after) e ∙ append_assoc s.parts.whole (h.fraction_text ++ h.exponent_text) after ∙ ap (λ x. s.parts.whole ++ x) (append_assoc h.fraction_text h.exponent_text after) in
    omega (
      arith,
      ap length e,
      length-append s.parts.whole (h.fraction_text ++ h.exponent_text),
      length-append h.fraction_text h.exponent_text,
      ap number_len shape,
      number_least s.parts s.parts.whole h.fraction_text h.exponent_text after h.whole h.fraction h.exponent,
    )

no_letter : (c : ℕ) → is_ascii_digit c ≡ true → is_letter c ≡ false
no_letter c h = go (nat_le 48 c) (nat_le c 57) refl refl h
  where
    below : c ≤ 57 → is_letter c ≡ false
    below le = letters (nat_le 65 c) (nat_le 97 c) (c == 95) refl refl refl
      where
        letters : (x y z : Bool) → nat_le 65 c ≡ x → nat_le 97 c ≡ y → (c == 95) ≡ z → ((x && nat_le c 90) || (y && nat_le c 122) || z) ≡ false
        letters true y z p q r = absurd (omega (arith, leb-true 65 c p))
        letters false true z p q r = absurd (omega (arith, leb-true 97 c q))
        letters false false true p q r = absurd (omega (arith, eqb-true c 95 r))
        letters false false false p q r = refl

    go : (x y : Bool) → nat_le 48 c ≡ x → nat_le c 57 ≡ y → (x && y) ≡ true → is_letter c ≡ false
    go true true p q _ = below (leb-true c 57 q)
    go true false p q e = absurd cc
    go false y p q e = absurd cc

first_digit : (digits : List ℕ) (v : ℤ × ℕ) → NoMinus digits → SpellsNumber digits v → (b : ℕ) × (bs : List ℕ) × (digits ≡ b ∷ bs) × (is_letter b ≡ false) × (is_ascii_digit b ≡ true)
first_digit digits v m s = go s.parts.whole (s.number.fraction_text ++ s.number.exponent_text) s.number.whole (plain s.parts digits m s.number)
  where
    go : (w rest : List ℕ) → IsWhole w → digits ≡ w ++ rest → (b : ℕ) × (bs : List ℕ) × (digits ≡ b ∷ bs) × (is_letter b ≡ false) × (is_ascii_digit b ≡ true)
    go [] rest h e = absurd (omega (arith, h.0.0))
    go (c ∷ cs) rest h e = (c, cs ++ rest, e, no_letter c (digit_passes c h.0.1.0), digit_passes c h.0.1.0)

pub numeral_digit : {digits : List ℕ} {o : Option Token} → IsNumeral digits o → (b : ℕ) × (bs : List ℕ) × (digits ≡ b ∷ bs) × (is_letter b ≡ false) × (is_ascii_digit b ≡ true)
numeral_digit (n.exact {digits = digits} m s) = first_digit digits s.value m s.spells
numeral_digit (n.inexact {digits = digits} m s) = first_digit digits s.value m s.spells

abbrev Reads : List ℕ → List ℕ → Option Token → Type 0
Reads digits after o = (number_at (digits ++ after) ≡ Some (o, length digits)) ⊎ ((u : Option Token) × (m : ℕ) × (number_at (digits ++ after) ≡ Some (u, m)) × (length digits < m))

reads : (digits after : List ℕ) (o : Option Token) → length digits ≤ number_len (digits ++ after) → number_token digits ≡ o → Reads digits after o
unfolding number_at
reads digits after o le e = go (number_len (digits ++ after) == length digits) refl
  where
    both : {a b : Option Token} {m n : ℕ} → a ≡ b → m ≡ n → ◌≡◌ {A = Option (Option Token × ℕ)} (Some (a, m)) (Some (b, n))
    both p q = cc

    go : (b : Bool) → (number_len (digits ++ after) == length digits) ≡ b → Reads digits after o
    go true q = let n = eqb-true (number_len (digits ++ after)) (length digits) q in
        inl (both (ap number_token (take_at digits after (number_len (digits ++ after)) (sym n)) ∙ e) n)
    go false q = inr (number_token (take (number_len (digits ++ after)) (digits ++ after)), number_len (digits ++ after), refl, omega (arith, le, apart q))
      where
        clash : true ≡ false → ⊥
        clash q = cc

        apart : (number_len (digits ++ after) == length digits) ≡ false → number_len (digits ++ after) ≢ length digits
        apart q n = absurd (clash (sym (eq-eqb _ _ n) ∙ q))

pub numeral_full : {digits : List ℕ} {o : Option Token} → IsNumeral digits o → (after : List ℕ)
    → (number_at (digits ++ after) ≡ Some (o, length digits)) ⊎ ((u : Option Token) × (m : ℕ) × (number_at (digits ++ after) ≡ Some (u, m)) × (length digits < m))
numeral_full (n.exact {digits = digits} {d = d} m s) after = reads digits after (Some (k.Number d)) (longest digits s.value m s.spells after) (token_exact digits d s)
numeral_full (n.inexact {digits = digits} m s) after = reads digits after None (longest digits s.value m s.spells after) (token_wide digits s)

-- ---- what the code answers

number_read : (bs : List ℕ) (n : ℕ) (o : Option Token) → n ≡ number_len bs → number_token (take n bs) ≡ o → exactly (number_at bs) ≡ exact (o, n)
unfolding number_at
number_read bs n o e h = ap (λ m. exact (number_token (take m bs), m)) (sym e) ∙ ap (λ x. exact (x, n)) h

pub number_exact : (bs : List ℕ) (n : ℕ) (d : ℤ × ℕ) → n ≡ number_len bs → SpellsExact (take n bs) d → exactly (number_at bs) ≡ Some (k.Number d, n)
number_exact bs n d e s = number_read bs n (Some (k.Number d)) e (token_exact (take n bs) d s)

pub number_wide : (bs : List ℕ) (n : ℕ) → n ≡ number_len bs → SpellsWide (take n bs) → exactly (number_at bs) ≡ None
number_wide bs n e s = number_read bs n None e (token_wide (take n bs) s)

token_none : (digits : List ℕ) → (IsNumber digits → ⊥) → number_token digits ≡ None
unfolding number_token
token_none digits h = go (read_parts digits) refl
  where
    go : (o : Option NumberParts) → read_parts digits ≡ o → (o >>= λ p. exact_number (value_of p)) ≡ None
    go None q = refl
    go (Some p) q = absurd (h (value_of p, record { parts = p; number = read_parts_sound digits p q; value = refl }))

pub number_none : (bs : List ℕ) (n : ℕ) → n ≡ number_len bs → (IsNumber (take n bs) → ⊥) → exactly (number_at bs) ≡ None
number_none bs n e h = number_read bs n None e (token_none (take n bs) h)
