-- Where a text may be cut: behind plain bytes, an escape, a word, a blank and a token.
use Rattle.std.proofs.Common.{◌≡◌, ℕ, suc, ◌+◌, ◌-◌, ◌<◌, ◌≤◌, inl, inr, Bool, true, false, cond, ◌&&◌, ◌||◌, ◌==◌, nat_le, nat_lt, not, List, [], ◌∷◌, ◌++◌, length, get_or, take, drop, Option, Some, None, refl, sym, ap, subst, ◌∙◌, arith, length-drop, get_or-drop, leb-true, ltb-true, eqb-true, ne_eqb, leb-false, length-take-le, get_or-take}
use Rattle.std.proofs.lemmas.List.{append-nil}
use Rattle.std.specs.Str.{IsUtf8, IsCharBoundary}
use Rattle.std.proofs.lemmas.Str.{IsCharBoundary-after_ascii}
use Rattle.std.specs.List.{prefix_len}
use Rattle.std.proofs.lemmas.List.Sums.{prefix_len-le-length, prefix_len_stops}
use Rattle.std.specs.Char.{digit_value, is_ascii_digit}
use Rattle.std.specs.Fmt.{sign_text}
use Rattle.std.specs.Str.Parse.{AllDigits, IsNumeral as IsDigits}
use Rattle.sj_base.specs.ByteClasses.{is_blank, is_word_byte, is_plain, letter_char}
use Rattle.sj_base.specs.Options.{◌>>=◌}
use Rattle.sj_base.proofs.ByteClasses.{word_ascii}
use Rattle.sj_decimal.specs.Number.{NumberParts, IsFraction, IsExponent, IsNumberOf}
use Rattle.sj_decimal.proofs.Digits.{digit_byte}
use Rattle.sj_path_token.specs.declared.token.Token.{Token}
use Rattle.sj_path_token.specs.Words as w
use Rattle.sj_path_token.specs.Words.{AllPass, IsWord}
use Rattle.sj_path_token.specs.Numbers as n
use Rattle.sj_path_token.specs.Numbers.{IsNumeral}
use Rattle.sj_path_token.specs.Tokens as t
use Rattle.sj_path_token.specs.Tokens.{IsSign, IsForm}
use Rattle.sj_path_token.specs.Strings as s
use Rattle.sj_path_token.specs.Strings.{IsEscape, IsInside, hex_digit, unit_of}
use Rattle.sj_path_token.specs.Reading.{escape_at, form_from, form_at, exactly, token_at}
use Rattle.sj_path_token.proofs.Runs.{run_boundary}
use Rattle.sj_path_token.proofs.Cuts.{cond_off}
use Rattle.sj_path_token.proofs.StringInsides.{escape_sound}
use Rattle.sj_path_token.proofs.TokenForms.{form_sound}
use Rattle.sj_path_token.proofs.Texts.{token_sound}

-- ---- behind a part of a string

-- the end of a run of plain bytes is a place where a text may be cut
pub plain_boundary : (bs : List ℕ) (n : ℕ) → n ≡ prefix_len is_plain bs → IsCharBoundary bs n
plain_boundary bs n e = subst (IsCharBoundary bs) (sym e) (prefix_len-le-length is_plain bs, λ l h. absurd (apart (sym (passes (get_or bs (prefix_len is_plain bs) 0) h) ∙ prefix_len_stops is_plain bs 0 l)))
  where
    apart : true ≡ false → ⊥
    apart q = cc

    above : (b : ℕ) → 128 ≤ b → (x : Bool) → nat_lt b 32 ≡ x → x ≡ false
    above b h true e = absurd (omega (arith, ltb-true b 32 e))
    above b h false e = refl

    passes : (b : ℕ) → 128 ≤ b → is_plain b ≡ true
    passes b h =
        ap (λ x. not (x || (b == 92) || nat_lt b 32)) (ne_eqb b 34 (λ q. absurd (omega arith)))
        ∙ ap (λ x. not (x || nat_lt b 32)) (ne_eqb b 92 (λ q. absurd (omega arith)))
        ∙ ap not (above b h (nat_lt b 32) refl)

some_none : {A : Type 0} {a : A} → None ≡ Some a → ⊥
some_none e = cc

hex_ascii : (b n : ℕ) → hex_digit b ≡ Some n → b < 128
hex_ascii b n h = go (nat_le 48 b) (nat_le b 57) (nat_le 65 b) (nat_le b 70) (nat_le 97 b) (nat_le b 102) refl refl refl refl refl refl h
  where
    go : (a c d e f g : Bool) → nat_le 48 b ≡ a → nat_le b 57 ≡ c → nat_le 65 b ≡ d → nat_le b 70 ≡ e → nat_le 97 b ≡ f → nat_le b 102 ≡ g
        → cond (a && c) (Some (b - 48)) (cond (d && e) (Some (b - 55)) (cond (f && g) (Some (b - 87)) None)) ≡ Some n → b < 128
    go a true d e f g p q r t u v h = omega (arith, leb-true b 57 q)
    go a false d true f g p q r t u v h = omega (arith, leb-true b 70 t)
    go a false d false f true p q r t u v h = omega (arith, leb-true b 102 v)
    go true false true false true false p q r t u v h = absurd cc
    go true false true false false false p q r t u v h = absurd cc
    go true false false false true false p q r t u v h = absurd cc
    go true false false false false false p q r t u v h = absurd cc
    go false false true false true false p q r t u v h = absurd cc
    go false false true false false false p q r t u v h = absurd cc
    go false false false false true false p q r t u v h = absurd cc
    go false false false false false false p q r t u v h = absurd cc

-- what was bound was there
bound : {A B : Type 0} (o : Option A) (f : A → Option B) (r : B) → (o >>= f) ≡ Some r → (a : A) × (o ≡ Some a) × (f a ≡ Some r)
bound None f r e = absurd cc
bound (Some a) f r e = (a, refl, e)

unit_ascii : (a b c d n : ℕ) → unit_of a b c d ≡ Some n → d < 128
unit_ascii a b c d n h =
    let p = bound (hex_digit a) _ n h in
    let q = bound (hex_digit b) _ n p.2 in
    let r = bound (hex_digit c) _ n q.2 in
    let t = bound (hex_digit d) _ n r.2 in
    hex_ascii d t.0 t.1

short_ascii : (e c : ℕ) → letter_char e ≡ Some c → e < 128
short_ascii e c h = go (nat_le 128 e) refl
  where
    other : (d : ℕ) → d < 128 → 128 ≤ e → (e == d) ≡ false
    other d below above = ne_eqb e d (λ q. absurd (omega arith))

    none : 128 ≤ e → letter_char e ≡ None
    none above =
        cond_off (e == 34) _ _ (other 34 (omega arith) above) (cond_off (e == 92) _ _ (other 92 (omega arith) above) (cond_off (e == 47) _ _ (other 47 (omega arith) above)
        (cond_off (e == 98) _ _ (other 98 (omega arith) above) (cond_off (e == 102) _ _ (other 102 (omega arith) above) (cond_off (e == 110) _ _ (other 110 (omega arith) above)
        (cond_off (e == 114) _ _ (other 114 (omega arith) above) (cond_off (e == 116) _ _ (other 116 (omega arith) above) refl)))))))

    go : (x : Bool) → nat_le 128 e ≡ x → e < 128
    go true q = absurd (some_none (sym (none (leb-true 128 e q)) ∙ h))
    go false q = omega (arith, leb-false 128 e q)

-- the last byte of an escape
escape_last : {es : List ℕ} {c : ℕ} → IsEscape es c → (0 < length es) × (get_or es (length es - 1) 0 < 128)
escape_last (s.short {e = e} {c = c} h) = (omega arith, short_ascii e c h)
escape_last (s.unit {a = a} {b = b} {c = c} {d = d} {n = n} p high low) = (omega arith, unit_ascii a b c d n p)
escape_last (s.pair {e = e} {f = f} {g = g} {h = h} {low = low} p high q l) = (omega arith, unit_ascii e f g h low q)

pub record EscapeEnd (bs : List ℕ) (n : ℕ) : Type 0 where
  pub some : 0 < n
  pub within : n ≤ length bs
  pub ascii : get_or bs (n - 1) 0 < 128

pub escape_end : (bs : List ℕ) (c n : ℕ) → escape_at bs ≡ Some (c, n) → EscapeEnd bs n
escape_end bs c n e =
    let p = (escape_sound bs).holds c n e in
    let l = escape_last p.fits in
    let len = length-take-le n bs p.within in
    let at = get_or-take n bs (n - 1) 0 (omega (arith, l.0, len)) in
    record {
      some = omega (arith, l.0, len);
      within = p.within;
      ascii = subst (λ x. x < 128) at (subst (λ m. get_or (take n bs) (m - 1) 0 < 128) len l.1);
    }

-- behind an escape a text may be cut
pub escape_boundary : (rest after : List ℕ) (len m c k : ℕ) → IsUtf8 rest → drop len rest ≡ m ∷ after → escape_at after ≡ Some (c, k) → IsCharBoundary rest (len + (1 + k))
escape_boundary rest after len m c k text split e =
    let p = escape_end after c k e in
    let n : length (drop len rest) ≡ suc (length after) = ap length split in
    let below : len + k < length rest = omega (arith, p.within, n, length-drop len rest) in
    let at : get_or rest (len + k) 0 ≡ get_or (m ∷ after) k 0 = sym (get_or-drop len rest k 0) ∙ ap (λ x. get_or x k 0) split in
    let one : k ≡ suc (k - 1) = omega (arith, p.some) in
    let last : get_or (m ∷ after) k 0 ≡ get_or after (k - 1) 0 = ap (λ j. get_or (m ∷ after) j 0) one in
    subst (IsCharBoundary rest) {x = len + k + 1} {y = len + (1 + k)} (omega arith)
    (IsCharBoundary-after_ascii rest (len + k) text below (omega (arith, at, last, p.ascii)))

-- ---- behind a word and an ASCII byte

-- the end of a word is a place where a text may be cut
pub word_boundary : (bs : List ℕ) (n : ℕ) → n ≡ prefix_len is_word_byte bs → IsUtf8 bs → IsCharBoundary bs n
word_boundary bs n e text = subst (IsCharBoundary bs) (sym e) (run_boundary is_word_byte bs word_ascii text)

-- behind an ASCII byte at the front a text may be cut
pub first_boundary : (text after : List ℕ) (b : ℕ) → IsUtf8 text → text ≡ b ∷ after → b < 128 → IsCharBoundary text 1
first_boundary text after b u e below =
    IsCharBoundary-after_ascii text 0 u (omega (arith, ap length e)) (subst (λ x. x < 128) (sym (ap (λ x. get_or x 0 0) e)) below)

-- ---- behind a token

pub data EndsAscii : List ℕ → Type 0 where
  last : {b : ℕ} → b < 128 → EndsAscii (b ∷ [])
  more : {b : ℕ} {bs : List ℕ} → EndsAscii bs → EndsAscii (b ∷ bs)

ends_behind : (xs : List ℕ) {ys : List ℕ} → EndsAscii ys → EndsAscii (xs ++ ys)
ends_behind [] e = e
ends_behind (x ∷ xs) e = more (ends_behind xs e)

ends_pass : {test : ℕ → Bool} {b : ℕ} {bs : List ℕ} → ((b : ℕ) → test b ≡ true → b < 128) → b < 128 → AllPass test bs → EndsAscii (b ∷ bs)
ends_pass ascii h w.none = last h
ends_pass ascii h (w.more {b = c} p q) = more (ends_pass ascii (ascii c p) q)

ends_escape : {es : List ℕ} {c : ℕ} → IsEscape es c → EndsAscii es
ends_escape (s.short {e = e} {c = c} h) = last (short_ascii e c h)
ends_escape (s.unit {a = a} {b = b} {c = c} {d = d} {n = n} p high low) = more (more (more (more (last (unit_ascii a b c d n p)))))
ends_escape (s.pair {e = e} {f = f} {g = g} {h = h} {low = low} p high q l) = more (more (more (more (more (more (more (more (more (more (last (unit_ascii e f g h low q)))))))))))

ends_inside : {bs text : List ℕ} → IsInside bs text → EndsAscii bs
ends_inside s.end = last (omega arith)
ends_inside (s.plain h d) = more (ends_inside d)
ends_inside (s.escape {es = es} e d) = more (ends_behind es (ends_inside d))

digits_end : (ds : List ℕ) → IsDigits 10 ds → EndsAscii ds
digits_end [] h = absurd (omega (arith, h.0))
digits_end (c ∷ cs) h = go c cs h.1
  where
    low : (c : ℕ) → digit_value c < 10 → c < 128
    low c h = omega (arith, (digit_byte c h).high)

    go : (c : ℕ) (cs : List ℕ) → AllDigits 10 (c ∷ cs) → EndsAscii (c ∷ cs)
    go c [] h = last (low c h.0)
    go c (d ∷ ds) h = more (go d ds h.1)

number_ends : (p : NumberParts) (digits : List ℕ) → IsNumberOf p digits → EndsAscii digits
number_ends p digits h = subst EndsAscii (sym h.text) (ends_behind (sign_text p.negative) (go h.fraction h.exponent))
  where
    point : (ds f : List ℕ) → IsDigits 10 ds → f ≡ 46 ∷ ds → EndsAscii f
    point ds f d e = subst EndsAscii (sym e) (more (digits_end ds d))

    go : IsFraction p.fraction h.fraction_text → IsExponent p.exponent_negative p.exponent h.exponent_text → EndsAscii (p.whole ++ (h.fraction_text ++ h.exponent_text))
    go f (inr e) = ends_behind p.whole (ends_behind h.fraction_text (subst EndsAscii (sym e.text) (more (ends_behind e.sign (digits_end p.exponent e.digits)))))
    go (inr f) (inl e) = ends_behind p.whole (subst EndsAscii (sym (ap (λ x. h.fraction_text ++ x) e.2 ∙ append-nil h.fraction_text)) (point p.fraction h.fraction_text f.0 f.1))
    go (inl f) (inl e) =
        subst EndsAscii (sym (ap (λ x. p.whole ++ (x ++ h.exponent_text)) f.1 ∙ ap (λ x. p.whole ++ x) e.2 ∙ append-nil p.whole)) (digits_end p.whole h.whole.0)

sign_ends : {bs : List ℕ} {u : Token} → IsSign bs u → EndsAscii bs
sign_ends t.dot = last (omega arith)
sign_ends t.star = last (omega arith)
sign_ends t.open_bracket = last (omega arith)
sign_ends t.close_bracket = last (omega arith)
sign_ends t.open_parenthesis = last (omega arith)
sign_ends t.close_parenthesis = last (omega arith)
sign_ends t.comma = last (omega arith)
sign_ends t.question = last (omega arith)
sign_ends t.plus = last (omega arith)
sign_ends t.minus = last (omega arith)
sign_ends t.slash = last (omega arith)
sign_ends t.percent = last (omega arith)
sign_ends t.equal = more (last (omega arith))
sign_ends t.not_equal = more (last (omega arith))
sign_ends t.less_or_greater = more (last (omega arith))
sign_ends t.less = last (omega arith)
sign_ends t.less_equal = more (last (omega arith))
sign_ends t.greater = last (omega arith)
sign_ends t.greater_equal = more (last (omega arith))
sign_ends t.and = more (last (omega arith))
sign_ends t.or = more (last (omega arith))
sign_ends t.not = last (omega arith)
sign_ends t.at = last (omega arith)

word_ends : {name : List ℕ} → IsWord name → EndsAscii name
word_ends (w.word {b = b} h p) = ends_pass word_ascii (word_ascii b (ap (λ x. x || is_ascii_digit b) h)) p

numeral_ends : {digits : List ℕ} {o : Option Token} → IsNumeral digits o → EndsAscii digits
numeral_ends (n.exact {digits = digits} m s) = number_ends s.spells.parts digits s.spells.number
numeral_ends (n.inexact {digits = digits} m s) = number_ends s.spells.parts digits s.spells.number

form_ends : {front : List ℕ} {o : Option Token} → IsForm front o → EndsAscii front
form_ends (t.sign d) = sign_ends d
form_ends t.root = last (omega arith)
form_ends (t.variable d) = more (word_ends d)
form_ends (t.word d) = word_ends d
form_ends (t.string d) = more (ends_inside d)
form_ends (t.number d) = numeral_ends d

last_byte : {front : List ℕ} → EndsAscii front → (0 < length front) × (get_or front (length front - 1) 0 < 128)
last_byte (last h) = (omega arith, h)
last_byte (more {b = b} {bs = bs} e) =
    let p = last_byte e in
    let one : suc (length bs) - 1 ≡ suc (length bs - 1) = omega (arith, p.0) in
    (omega arith, subst (λ m. get_or (b ∷ bs) m 0 < 128) (sym one) p.1)

-- behind a token a text may be cut
pub token_boundary : (text after : List ℕ) (first len : ℕ) (u : Token) → IsUtf8 text → text ≡ first ∷ after → exactly (form_from first after) ≡ Some (u, len) → IsCharBoundary text len
unfolding token_at
token_boundary text after first len u utf8 split e =
    let f = ap form_at split ∙ token_sound (first ∷ after) u len e in
    let p = (form_sound text).holds (Some u) len f in
    let size = length-take-le len text p.within in
    let l = last_byte (form_ends p.fits) in
    let at = get_or-take len text (len - 1) 0 (omega (arith, l.0, size)) in
    subst (IsCharBoundary text) {x = len - 1 + 1} {y = len} (omega (arith, l.0, size))
    (IsCharBoundary-after_ascii text (len - 1) utf8 (omega (arith, l.0, size, p.within)) (subst (λ x. x < 128) at (subst (λ m. get_or (take len text) (m - 1) 0 < 128) size l.1)))

pub blank_ascii : (b : ℕ) → is_blank b ≡ true → b < 128
blank_ascii b h = go (b == 32) (b == 9) (b == 10) (b == 13) refl refl refl refl h
  where
    go : (p q r s : Bool) → (b == 32) ≡ p → (b == 9) ≡ q → (b == 10) ≡ r → (b == 13) ≡ s → (p || q || r || s) ≡ true → b < 128
    go true q r s e f g h _ = omega (arith, eqb-true b 32 e)
    go false true r s e f g h _ = omega (arith, eqb-true b 9 f)
    go false false true s e f g h _ = omega (arith, eqb-true b 10 g)
    go false false false true e f g h _ = omega (arith, eqb-true b 13 h)
    go false false false false e f g h x = absurd cc
