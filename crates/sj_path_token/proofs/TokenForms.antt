-- What is read at the front of a text has the form of a token, and nothing longer there has one.
use Rattle.std.proofs.Common.{◌≡◌, ℕ, zero, suc, ◌+◌, ◌<◌, ◌≤◌, ◌⊎◌, inl, inr, Bool, true, false, cond, ◌||◌, List, [], ◌∷◌, ◌++◌, length, take, Option, Some, refl, sym, ap, subst, ◌∙◌, arith, length-append, take_at, eqb-true, ◌==◌}
use Rattle.std.specs.List.{prefix_len}
use Rattle.std.proofs.lemmas.List.Sums.{prefix_len-le-length}
use Rattle.std.specs.Char.{is_ascii_digit}
use Rattle.sj_base.specs.ByteClasses.{is_letter, is_word_byte, next_is}
use Rattle.sj_base.specs.Options.{◌>>=◌}
use Rattle.sj_decimal.specs.declared.comparing.Compare.TheVariants as c
use Rattle.sj_path_token.specs.declared.token.Token.{Token}
use Rattle.sj_path_token.specs.declared.token.Token.TheVariants as k
use Rattle.sj_path_token.specs.Words as w
use Rattle.sj_path_token.specs.Words.{AllPass, IsWord, keyword_of}
use Rattle.sj_path_token.specs.Strings.{IsInside}
use Rattle.sj_path_token.specs.Tokens as t
use Rattle.sj_path_token.specs.Tokens.{IsSign, IsForm}
use Rattle.sj_path_token.specs.Numbers.{IsNumeral}
use Rattle.sj_path_token.specs.Reading.{single_sign, one, longer, sign_at, word_at, dollar_at, string_at, number_at, whole, form_from, form_at}
use Rattle.sj_path_token.proofs.Runs.{run_goes_on, run_passes, run_longer}
use Rattle.sj_path_token.proofs.Cuts.{IfCut, nothing, here, then, given, chosen, some_is, bind_is, cond_on, cond_off}
use Rattle.sj_path_token.proofs.StringInsides.{InsideFront, inside_sound, inside_full}
use Rattle.sj_path_token.proofs.Numerals.{NumeralFront, numeral_sound, numeral_digit, numeral_full}

-- the first n bytes have the form of a token
pub record FormFront (text : List ℕ) (o : Option Token) (n : ℕ) : Type 0 where
  pub within : n ≤ length text
  pub fits : IsForm (take n text) o

-- ---- signs

abbrev SignFront : ℕ → List ℕ → Token → ℕ → Type 0
SignFront b bs u n = (n ≤ length (b ∷ bs)) × IsSign (take n (b ∷ bs)) u

two_front : (b x : ℕ) (bs : List ℕ) (u : Token) → IsSign (b ∷ x ∷ []) u → next_is x bs ≡ true → SignFront b bs u 2
two_front b x [] u s h = absurd cc
two_front b x (d ∷ bs) u s h = (omega arith, subst (λ y. IsSign (b ∷ y ∷ []) u) (sym (eqb-true d x h)) s)

longer_sound : (b x : ℕ) (bs : List ℕ) (two : Token) (other : Option (Token × ℕ)) → IsSign (b ∷ x ∷ []) two → IfCut (SignFront b bs) other → IfCut (SignFront b bs) (longer x two other bs)
longer_sound b x bs two other s p = chosen _ _ _ (λ h. here (two_front b x bs two s h)) (λ _. p)

one_front : (b : ℕ) (bs : List ℕ) (u : Token) → IsSign (b ∷ []) u → SignFront b bs u 1
one_front b bs u s = (omega arith, s)

one_sound : (b : ℕ) (bs : List ℕ) (u : Token) → IsSign (b ∷ []) u → IfCut (SignFront b bs) (one u)
one_sound b bs u s = here (one_front b bs u s)

-- where the first byte is told
at : (b d : ℕ) (bs : List ℕ) (o : Option (Token × ℕ)) → (b == d) ≡ true → IfCut (SignFront d bs) o → IfCut (SignFront b bs) o
at b d bs o h p = subst (λ x. IfCut (SignFront x bs) o) (sym (eqb-true b d h)) p

pick : (b d : ℕ) (u v : Token) (o : Option Token) → IsSign (d ∷ []) u → (o ≡ Some v → IsSign (b ∷ []) v) → cond (b == d) (Some u) o ≡ Some v → IsSign (b ∷ []) v
pick b d u v o s p e = go (b == d) refl e
  where
    go : (x : Bool) → (b == d) ≡ x → cond x (Some u) o ≡ Some v → IsSign (b ∷ []) v
    go true h e = subst (λ y. IsSign (y ∷ []) v) (sym (eqb-true b d h)) (subst (λ z. IsSign (d ∷ []) z) (some_is e) s)
    go false h e = p e

single_is : (b : ℕ) (v : Token) → single_sign b ≡ Some v → IsSign (b ∷ []) v
single_is b v = pick b 46 _ v _ t.dot (pick b 42 _ v _ t.star (pick b 91 _ v _ t.open_bracket (pick b 93 _ v _ t.close_bracket
    (pick b 40 _ v _ t.open_parenthesis (pick b 41 _ v _ t.close_parenthesis (pick b 44 _ v _ t.comma (pick b 63 _ v _ t.question
    (pick b 43 _ v _ t.plus (pick b 45 _ v _ t.minus (pick b 47 _ v _ t.slash (pick b 37 _ v _ t.percent (pick b 64 _ v _ t.at
    (λ e. absurd cc)))))))))))))

sign_sound : (b : ℕ) (bs : List ℕ) → IfCut (SignFront b bs) (sign_at b bs)
sign_sound b bs =
    chosen (b == 61) _ _ (λ h. at b 61 bs _ h (longer_sound 61 61 bs _ _ t.equal nothing)) (λ _.
    chosen (b == 33) _ _ (λ h. at b 33 bs _ h (longer_sound 33 61 bs _ _ t.not_equal (one_sound 33 bs _ t.not))) (λ _.
    chosen (b == 60) _ _ (λ h. at b 60 bs _ h (longer_sound 60 62 bs _ _ t.less_or_greater (longer_sound 60 61 bs _ _ t.less_equal (one_sound 60 bs _ t.less)))) (λ _.
    chosen (b == 62) _ _ (λ h. at b 62 bs _ h (longer_sound 62 61 bs _ _ t.greater_equal (one_sound 62 bs _ t.greater))) (λ _.
    chosen (b == 38) _ _ (λ h. at b 38 bs _ h (longer_sound 38 38 bs _ _ t.and nothing)) (λ _.
    chosen (b == 124) _ _ (λ h. at b 124 bs _ h (longer_sound 124 124 bs _ _ t.or nothing)) (λ _.
    given _ _ (λ u h. one_sound b bs u (single_is b u h))))))))

-- ---- words

letter_is_word_byte : (b : ℕ) → is_letter b ≡ true → is_word_byte b ≡ true
letter_is_word_byte b h = ap (λ x. x || is_ascii_digit b) h

-- a letter and what may follow it
word_front : (b : ℕ) (bs : List ℕ) → is_letter b ≡ true → IsWord (take (prefix_len is_word_byte (b ∷ bs)) (b ∷ bs))
word_front b bs h = subst (λ n. IsWord (take n (b ∷ bs))) (sym (run_goes_on is_word_byte b bs (letter_is_word_byte b h))) (w.word h (run_passes is_word_byte bs))

word_sound : (b : ℕ) (bs : List ℕ) → is_letter b ≡ true → IfCut (FormFront (b ∷ bs)) (word_at (b ∷ bs))
unfolding word_at
word_sound b bs h = here (record { within = prefix_len-le-length is_word_byte (b ∷ bs); fits = t.word (word_front b bs h) })

dollar_sound : (bs : List ℕ) → IfCut (FormFront (36 ∷ bs)) (dollar_at bs)
unfolding dollar_at
dollar_sound [] = here {a = Some k.Root} {n = 1} (record { within = omega arith; fits = t.root })
dollar_sound (b ∷ bs) = chosen _ _ _ (λ h. here (named h)) (λ _. here {a = Some k.Root} {n = 1} (record { within = omega arith; fits = t.root }))
  where
    n : ℕ
    n = prefix_len is_word_byte (b ∷ bs)

    named : is_letter b ≡ true → FormFront (36 ∷ b ∷ bs) (Some (k.Variable (take (prefix_len is_word_byte (b ∷ bs)) (b ∷ bs)))) (prefix_len is_word_byte (b ∷ bs) + 1)
    named h =
        let le = prefix_len-le-length is_word_byte (b ∷ bs) in
        let e : suc (prefix_len is_word_byte (b ∷ bs)) ≡ prefix_len is_word_byte (b ∷ bs) + 1 = omega arith in
        record {
          within = omega arith;
          fits = subst (λ m. IsForm (take m (36 ∷ b ∷ bs)) (Some (k.Variable (take (prefix_len is_word_byte (b ∷ bs)) (b ∷ bs))))) e (t.variable (word_front b bs h));
        }

-- ---- strings

string_sound : (bs : List ℕ) → IfCut (FormFront (34 ∷ bs)) (string_at bs)
unfolding string_at
string_sound bs = then _ _ (inside_sound (length bs) bs) (λ text n _ p. here (front text n p))
  where
    front : (text : List ℕ) (n : ℕ) → InsideFront bs text n → FormFront (34 ∷ bs) (Some (k.Quoted text)) (n + 1)
    front text n p =
        let e : suc n ≡ n + 1 = omega arith in
        record { within = omega (arith, p.within); fits = subst (λ m. IsForm (take m (34 ∷ bs)) (Some (k.Quoted text))) e (t.string p.fits) }

-- ---- all forms

pub form_sound : (text : List ℕ) → IfCut (FormFront text) (form_at text)
unfolding form_from
form_sound [] = nothing
form_sound (b ∷ bs) =
    chosen (is_letter b) _ _ (λ h. word_sound b bs h) (λ _.
    chosen (is_ascii_digit b) _ _ (λ h. number (number_at (b ∷ bs)) (numeral_sound b bs h)) (λ _.
    chosen (b == 34) _ _ (λ h. subst (λ x. IfCut (FormFront (x ∷ bs)) (string_at bs)) (sym (eqb-true b 34 h)) (string_sound bs)) (λ _.
    chosen (b == 36) _ _ (λ h. subst (λ x. IfCut (FormFront (x ∷ bs)) (dollar_at bs)) (sym (eqb-true b 36 h)) (dollar_sound bs)) (λ _.
    then _ _ (sign_sound b bs) (λ u n _ p. here (record { within = p.0; fits = t.sign p.1 }))))))
  where
    number : (o : Option (Option Token × ℕ)) → IfCut (NumeralFront (b ∷ bs)) o → IfCut (FormFront (b ∷ bs)) o
    number o p = record { holds = λ u n e. record { within = (p.holds u n e).within; fits = t.number (p.holds u n e).fits } }

-- a longest form was found: this one, or a longer one
abbrev pub Found : Option (Option Token × ℕ) → Option Token → ℕ → Type 0
Found r o n = (r ≡ Some (o, n)) ⊎ ((u : Option Token) × (m : ℕ) × (r ≡ Some (u, m)) × (n < m))

one_or_two : (b : Bool) (two u : Token) → Found (cond b (Some (two, 2)) (one u) >>= whole) (Some u) 1
one_or_two true two u = inr (Some two, 2, refl, omega arith)
one_or_two false two u = inl refl

one_or_either : (a b : Bool) (x y u : Token) → Found (cond a (Some (x, 2)) (cond b (Some (y, 2)) (one u)) >>= whole) (Some u) 1
one_or_either true b x y u = inr (Some x, 2, refl, omega arith)
one_or_either false b x y u = one_or_two b y u

sign_full : {bs : List ℕ} {u : Token} → IsSign bs u → (after : List ℕ) → Found (form_at (bs ++ after)) (Some u) (length bs)
unfolding form_from
sign_full t.dot after = inl refl
sign_full t.star after = inl refl
sign_full t.open_bracket after = inl refl
sign_full t.close_bracket after = inl refl
sign_full t.open_parenthesis after = inl refl
sign_full t.close_parenthesis after = inl refl
sign_full t.comma after = inl refl
sign_full t.question after = inl refl
sign_full t.plus after = inl refl
sign_full t.minus after = inl refl
sign_full t.slash after = inl refl
sign_full t.percent after = inl refl
sign_full t.equal after = inl refl
sign_full t.not_equal after = inl refl
sign_full t.less_or_greater after = inl refl
sign_full t.less after = one_or_either (next_is 62 after) (next_is 61 after) (k.Compare c.Ne) (k.Compare c.Le) (k.Compare c.Lt)
sign_full t.less_equal after = inl refl
sign_full t.greater after = one_or_two (next_is 61 after) (k.Compare c.Ge) (k.Compare c.Gt)
sign_full t.greater_equal after = inl refl
sign_full t.and after = inl refl
sign_full t.or after = inl refl
sign_full t.not after = one_or_two (next_is 61 after) (k.Compare c.Ne) k.Not
sign_full t.at after = inl refl

root_full : (after : List ℕ) → Found (dollar_at after) (Some k.Root) 1
unfolding dollar_at
root_full [] = inl refl
root_full (b ∷ bs) = go (is_letter b) refl
  where
    long : is_letter b ≡ true → 1 < prefix_len is_word_byte (b ∷ bs) + 1
    long h = let e = run_goes_on is_word_byte b bs (letter_is_word_byte b h) in omega (arith, e)

    go : (x : Bool) → is_letter b ≡ x → Found (cond x (Some (Some (k.Variable (take (prefix_len is_word_byte (b ∷ bs)) (b ∷ bs))), prefix_len is_word_byte (b ∷ bs) + 1)) (Some (Some k.Root, 1))) (Some k.Root) 1
    go true h = inr (Some (k.Variable (take (prefix_len is_word_byte (b ∷ bs)) (b ∷ bs))), prefix_len is_word_byte (b ∷ bs) + 1, refl, long h)
    go false h = inl refl

-- a word is read, or a longer one
word_run : {name : List ℕ} → AllPass is_word_byte name → (after : List ℕ) (make : List ℕ → Token)
    → Found (Some (Some (make (take (prefix_len is_word_byte (name ++ after)) (name ++ after))), prefix_len is_word_byte (name ++ after))) (Some (make name)) (length name)
word_run {name} p after make = go (prefix_len is_word_byte after) refl
  where
    total : prefix_len is_word_byte (name ++ after) ≡ length name + prefix_len is_word_byte after
    total = run_longer p after

    both : {a d : List ℕ} {m n : ℕ} → a ≡ d → m ≡ n → ◌≡◌ {A = Option (Option Token × ℕ)} (Some (Some (make a), m)) (Some (Some (make d), n))
    both p q = cc

    go : (j : ℕ) → prefix_len is_word_byte after ≡ j → Found (Some (Some (make (take (prefix_len is_word_byte (name ++ after)) (name ++ after))), prefix_len is_word_byte (name ++ after))) (Some (make name)) (length name)
    go zero e =
        let n : length name ≡ prefix_len is_word_byte (name ++ after) = omega (arith, total) in
        inl (both (take_at name after (prefix_len is_word_byte (name ++ after)) n) (sym n))
    go (suc j) e = inr (Some (make (take (prefix_len is_word_byte (name ++ after)) (name ++ after))), prefix_len is_word_byte (name ++ after), refl, omega (arith, total))

make_word : List ℕ → Token
make_word text = k.Word (keyword_of text) text

letter_read : (b : ℕ) (bs : List ℕ) → is_letter b ≡ true → form_at (b ∷ bs) ≡ word_at (b ∷ bs)
unfolding form_from
letter_read b bs h =
    cond_on (is_letter b) (word_at (b ∷ bs)) (cond (is_ascii_digit b) (number_at (b ∷ bs)) (cond (b == 34) (string_at bs) (cond (b == 36) (dollar_at bs) (sign_at b bs >>= whole)))) h refl

word_full : {text : List ℕ} → IsWord text → (after : List ℕ) → Found (form_at (text ++ after)) (Some (k.Word (keyword_of text) text)) (length text)
unfolding word_at make_word
word_full (w.word {b = b} {bs = bs} h p) after =
    subst (λ r. Found r (Some (k.Word (keyword_of (b ∷ bs)) (b ∷ bs))) (length (b ∷ bs))) (sym (letter_read b (bs ++ after) h))
    (word_run {name = b ∷ bs} (w.more {b = b} (letter_is_word_byte b h) p) after make_word)

variable_run : {name : List ℕ} → AllPass is_word_byte name → (after : List ℕ)
    → Found (Some (Some (k.Variable (take (prefix_len is_word_byte (name ++ after)) (name ++ after))), prefix_len is_word_byte (name ++ after) + 1)) (Some (k.Variable name)) (suc (length name))
variable_run {name} p after = go (prefix_len is_word_byte after) refl
  where
    total : prefix_len is_word_byte (name ++ after) ≡ length name + prefix_len is_word_byte after
    total = run_longer p after

    both : {a d : List ℕ} {m n : ℕ} → a ≡ d → m ≡ n → ◌≡◌ {A = Option (Option Token × ℕ)} (Some (Some (k.Variable a), m)) (Some (Some (k.Variable d), n))
    both p q = cc

    go : (j : ℕ) → prefix_len is_word_byte after ≡ j → Found (Some (Some (k.Variable (take (prefix_len is_word_byte (name ++ after)) (name ++ after))), prefix_len is_word_byte (name ++ after) + 1)) (Some (k.Variable name)) (suc (length name))
    go zero e =
        let n : length name ≡ prefix_len is_word_byte (name ++ after) = omega (arith, total) in
        inl (both (take_at name after (prefix_len is_word_byte (name ++ after)) n) (omega arith))
    go (suc j) e = inr (Some (k.Variable (take (prefix_len is_word_byte (name ++ after)) (name ++ after))), prefix_len is_word_byte (name ++ after) + 1, refl, omega (arith, total))

variable_full : {name : List ℕ} → IsWord name → (after : List ℕ) → Found (dollar_at (name ++ after)) (Some (k.Variable name)) (suc (length name))
unfolding dollar_at
variable_full (w.word {b = b} {bs = bs} h p) after =
    subst (λ r. Found r (Some (k.Variable (b ∷ bs))) (suc (length (b ∷ bs)))) (sym (cond_on (is_letter b) _ _ h refl))
    (variable_run (w.more (letter_is_word_byte b h) p) after)

string_full : {inside text : List ℕ} → IsInside inside text → (after : List ℕ) → Found (string_at (inside ++ after)) (Some (k.Quoted text)) (suc (length inside))
unfolding string_at
string_full {inside} {text} d after =
    inl (bind_is _ _ (inside_full d after (length (inside ++ after)) (omega (arith, length-append inside after))) (both (omega arith)))
  where
    both : {m n : ℕ} → m ≡ n → ◌≡◌ {A = Option (Option Token × ℕ)} (Some (Some (k.Quoted text), m)) (Some (Some (k.Quoted text), n))
    both q = cc

number_full : {digits : List ℕ} {o : Option Token} → IsNumeral digits o → (after : List ℕ) → Found (form_at (digits ++ after)) o (length digits)
unfolding form_from
number_full {digits} {o} d after = go digits refl (numeral_digit d)
  where
    go : (ds : List ℕ) → digits ≡ ds → (b : ℕ) × (bs : List ℕ) × (ds ≡ b ∷ bs) × (is_letter b ≡ false) × (is_ascii_digit b ≡ true) → Found (form_at (digits ++ after)) o (length digits)
    go ds e q = subst (λ (r : Option (Option Token × ℕ)). Found r o (length digits))
        (sym (ap (λ x. form_at (x ++ after)) (e ∙ q.2) ∙ cond_off (is_letter q.0) _ _ q.3 (cond_on (is_ascii_digit q.0) _ _ q.4 (ap (λ x. number_at (x ++ after)) (sym (e ∙ q.2))))))
        (numeral_full d after)

pub form_full : {front : List ℕ} {o : Option Token} → IsForm front o → (after : List ℕ) → Found (form_at (front ++ after)) o (length front)
unfolding form_from
form_full (t.sign s) after = sign_full s after
form_full t.root after = root_full after
form_full (t.variable d) after = variable_full d after
form_full (t.word d) after = word_full d after
form_full (t.string d) after = string_full d after
form_full (t.number d) after = number_full d after
