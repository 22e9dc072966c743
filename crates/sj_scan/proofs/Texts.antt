-- The bytes that are taken one by one are well-formed UTF-8 exactly if they are some characters.
use Rattle.std.proofs.Common.{◌≡◌, ◌≢◌, ℕ, zero, suc, ◌+◌, ◌-◌, ◌*◌, ◌/◌, ◌%◌, ◌<◌, ◌≤◌, ◌⊎◌, inl, inr, ⊎_elim, Bool, true, false, cond, eqb, ltb, leb, List, [], ◌∷◌, ◌++◌, length, Option, Some, None, refl, sym, ap, ◌∙◌, subst, arith, ne_eqb, lt-ltb}
use Rattle.std.specs.Prelude.{IsUtf8}
use Rattle.std.specs.Char.{IsScalar}
use Rattle.std.proofs.lemmas.Bool.{cond-true, cond-false, and_parts, and_from, le-ltb, le-leb, cases_lt as order}
use Rattle.std.proofs.lemmas.Str.{IsUtf8-append, IsUtf8-encode, encode_ascii}
use lib.Utf8.{scalar, scalars, next, encode, encodes, scalar_cases}
use Rattle.sj_scan.specs.declared.utf8.Utf8.{Utf8}
use Rattle.sj_scan.specs.declared.utf8.Utf8.TheVariants.{Between, OneMore, TwoMore, AfterE0, AfterEd, ThreeMore, AfterF0, AfterF4}
use Rattle.sj_scan.specs.Utf8.{lead_step, within, utf8_step, utf8_after}
use Rattle.sj_scan.specs.Scanning.{is_between}

abbrev pub ended : Option Utf8 → Bool
ended None = false
ended (Some u) = is_between u

two : (c : ℕ) → 128 ≤ c → c < 2048 → encode c ≡ (192 + c / 64) ∷ next c ∷ []
unfolding encode
two c low high = cond-false _ _ _ (le-ltb c 128 low) ∙ cond-true _ _ _ (lt-ltb c 2048 high)

three : (c : ℕ) → 2048 ≤ c → c < 65536 → encode c ≡ (224 + c / 4096) ∷ next (c / 64) ∷ next c ∷ []
unfolding encode
three c low high = cond-false _ _ _ (le-ltb c 128 (omega arith)) ∙ cond-false _ _ _ (le-ltb c 2048 low) ∙ cond-true _ _ _ (lt-ltb c 65536 high)

four : (c : ℕ) → 65536 ≤ c → encode c ≡ (240 + c / 262144) ∷ next (c / 4096) ∷ next (c / 64) ∷ next c ∷ []
unfolding encode
four c low = cond-false _ _ _ (le-ltb c 128 (omega arith)) ∙ cond-false _ _ _ (le-ltb c 2048 (omega arith)) ∙ cond-false _ _ _ (le-ltb c 65536 low)

-- ---- which byte may begin a character

pub data Lead (b : ℕ) : Type 0 where
  ascii : b < 128 → lead_step b ≡ Some Between → Lead b
  of_two : 194 ≤ b → b < 224 → lead_step b ≡ Some OneMore → Lead b
  e0 : b ≡ 224 → lead_step b ≡ Some AfterE0 → Lead b
  ed : b ≡ 237 → lead_step b ≡ Some AfterEd → Lead b
  of_three : 224 < b → b < 240 → b ≢ 237 → lead_step b ≡ Some TwoMore → Lead b
  f0 : b ≡ 240 → lead_step b ≡ Some AfterF0 → Lead b
  of_four : 240 < b → b < 244 → lead_step b ≡ Some ThreeMore → Lead b
  f4 : b ≡ 244 → lead_step b ≡ Some AfterF4 → Lead b
  too_low : 128 ≤ b → b < 194 → lead_step b ≡ None → Lead b
  too_high : 244 < b → lead_step b ≡ None → Lead b

under : {A : Type 0} (b n : ℕ) (x y : A) → b < n → cond (ltb b n) x y ≡ x
under b n x y h = cond-true (ltb b n) x y (lt-ltb b n h)

above : {A : Type 0} (b n : ℕ) (x y : A) → n ≤ b → cond (ltb b n) x y ≡ y
above b n x y h = cond-false (ltb b n) x y (le-ltb b n h)

other : {A : Type 0} (b n : ℕ) (x y : A) → b ≢ n → cond (eqb b n) x y ≡ y
other b n x y h = cond-false (eqb b n) x y (ne_eqb b n h)

lead_two : (b : ℕ) → 194 ≤ b → b < 224 → lead_step b ≡ Some OneMore
lead_two b l h = above b 128 _ _ (omega arith) ∙ above b 194 _ _ l ∙ under b 224 _ _ h

lead_three : (b : ℕ) → 224 < b → b < 240 → b ≢ 237 → lead_step b ≡ Some TwoMore
lead_three b l h ne =
    above b 128 _ _ (omega arith) ∙ above b 194 _ _ (omega arith) ∙ above b 224 _ _ (omega arith) ∙ other b 224 _ _ (λ e. omega (arith, e)) ∙ other b 237 _ _ ne
    ∙ under b 240 _ _ h

lead_four : (b : ℕ) → 240 < b → b < 244 → lead_step b ≡ Some ThreeMore
lead_four b l h =
    above b 128 _ _ (omega arith) ∙ above b 194 _ _ (omega arith) ∙ above b 224 _ _ (omega arith) ∙ other b 224 _ _ (λ e. omega (arith, e)) ∙ other b 237 _ _ (λ e. omega (arith, e))
    ∙ above b 240 _ _ (omega arith) ∙ other b 240 _ _ (λ e. omega (arith, e)) ∙ under b 244 _ _ h

lead_none : (b : ℕ) → 244 < b → lead_step b ≡ None
lead_none b l =
    above b 128 _ _ (omega arith) ∙ above b 194 _ _ (omega arith) ∙ above b 224 _ _ (omega arith) ∙ other b 224 _ _ (λ e. omega (arith, e)) ∙ other b 237 _ _ (λ e. omega (arith, e))
    ∙ above b 240 _ _ (omega arith) ∙ other b 240 _ _ (λ e. omega (arith, e)) ∙ above b 244 _ _ (omega arith) ∙ other b 244 _ _ (λ e. omega (arith, e))

same_or : (b n : ℕ) → (b ≡ n) ⊎ (b ≢ n)
same_or b n = ⊎_elim (λ lt. inr (λ e. omega (arith, e, lt))) (λ le. ⊎_elim (λ gt. inr (λ e. omega (arith, e, gt))) (λ ge. inl (omega (arith, le, ge))) (order n b)) (order b n)

pub lead : (b : ℕ) → Lead b
lead b = by (order b 128) (order b 194) (order b 224) (order b 240) (order b 244) (same_or b 224) (same_or b 237) (same_or b 240) (same_or b 244)
  where
    by : (b < 128) ⊎ (128 ≤ b) → (b < 194) ⊎ (194 ≤ b) → (b < 224) ⊎ (224 ≤ b) → (b < 240) ⊎ (240 ≤ b) → (b < 244) ⊎ (244 ≤ b) → (b ≡ 224) ⊎ (b ≢ 224) → (b ≡ 237) ⊎ (b ≢ 237) → (b ≡ 240) ⊎ (b ≢ 240)
        → (b ≡ 244) ⊎ (b ≢ 244) → Lead b
    by (inl h) _ _ _ _ _ _ _ _ = ascii h (under b 128 _ _ h)
    by (inr l) (inl h) _ _ _ _ _ _ _ = too_low l h (above b 128 _ _ l ∙ under b 194 _ _ h)
    by (inr _) (inr l) (inl h) _ _ _ _ _ _ = of_two l h (lead_two b l h)
    by (inr _) (inr _) (inr l) _ _ (inl e) _ _ _ = e0 e (ap lead_step e)
    by (inr _) (inr _) (inr l) _ _ (inr _) (inl e) _ _ = ed e (ap lead_step e)
    by (inr _) (inr _) (inr l) (inl h) _ (inr n) (inr m) _ _ = let gt : 224 < b = omega (arith, n) in of_three gt h m (lead_three b gt h m)
    by (inr _) (inr _) (inr _) (inr l) _ (inr _) (inr _) (inl e) _ = f0 e (ap lead_step e)
    by (inr _) (inr _) (inr _) (inr l) (inl h) (inr _) (inr _) (inr n) _ = let gt : 240 < b = omega (arith, n) in of_four gt h (lead_four b gt h)
    by (inr _) (inr _) (inr _) (inr _) (inr l) (inr _) (inr _) (inr _) (inl e) = f4 e (ap lead_step e)
    by (inr _) (inr _) (inr _) (inr _) (inr l) (inr _) (inr _) (inr _) (inr n) = let gt : 244 < b = omega (arith, n) in too_high gt (lead_none b gt)

-- ---- each character is taken

pub taken_within : (from to : ℕ) (u : Utf8) (b : ℕ) → from ≤ b → b ≤ to → within from to u b ≡ Some u
taken_within from to u b l h = above b from _ _ l ∙ above to b _ _ h

-- two, three and four bytes
module _ (rest : List ℕ) where
  abbrev after : Option Utf8 → Option Utf8
  after o = utf8_after o rest

  last : (b : ℕ) → 128 ≤ b → b ≤ 191 → utf8_after (Some OneMore) (b ∷ rest) ≡ after (Some Between)
  last b l h = ap after (taken_within 128 191 Between b l h)

  last_two : (u : Utf8) (from to b d : ℕ) → ((x : ℕ) → utf8_step u x ≡ within from to OneMore x) → from ≤ b → b ≤ to → 128 ≤ d → d ≤ 191 → utf8_after (Some u) (b ∷ d ∷ rest) ≡ after (Some Between)
  last_two u from to b d is l h m k = ap (λ (o : Option Utf8). utf8_after o (d ∷ rest)) (is b ∙ taken_within from to OneMore b l h) ∙ last d m k

  last_three : (u : Utf8) (from to b d e : ℕ) → ((x : ℕ) → utf8_step u x ≡ within from to TwoMore x) → from ≤ b → b ≤ to → 128 ≤ d → d ≤ 191 → 128 ≤ e → e ≤ 191
      → utf8_after (Some u) (b ∷ d ∷ e ∷ rest) ≡ after (Some Between)
  last_three u from to b d e is l h m k i j =
      ap (λ (o : Option Utf8). utf8_after o (d ∷ e ∷ rest)) (is b ∙ taken_within from to TwoMore b l h) ∙ last_two TwoMore 128 191 d e (λ x. refl) m k i j

  led : (a : ℕ) (u : Utf8) (bs : List ℕ) → lead_step a ≡ Some u → utf8_after (Some Between) (a ∷ bs) ≡ utf8_after (Some u) bs
  led a u bs e = ap (λ (o : Option Utf8). utf8_after o bs) e

  follows : (x : ℕ) → (128 ≤ next x) × (next x ≤ 191)
  follows x = (omega arith, omega arith)

  of_two_bytes : (c : ℕ) → 128 ≤ c → c < 2048 → utf8_after (Some Between) ((192 + c / 64) ∷ next c ∷ rest) ≡ after (Some Between)
  of_two_bytes c l h = led (192 + c / 64) OneMore (next c ∷ rest) (lead_two (192 + c / 64) (omega arith) (omega arith)) ∙ last (next c) (follows c).0 (follows c).1

  of_three_bytes : (c : ℕ) → 2048 ≤ c → c < 65536 → (c < 55296) ⊎ ((57344 ≤ c) × (c < 1114112)) → Lead (224 + c / 4096)
      → utf8_after (Some Between) ((224 + c / 4096) ∷ next (c / 64) ∷ next c ∷ rest) ≡ after (Some Between)
  of_three_bytes c l h s (ascii a e) = absurd (omega arith)
  of_three_bytes c l h s (of_two a b e) = absurd (omega arith)
  of_three_bytes c l h s (e0 a e) =
      led (224 + c / 4096) AfterE0 (next (c / 64) ∷ next c ∷ rest) e
      ∙ last_two AfterE0 160 191 (next (c / 64)) (next c) (λ x. refl) (omega (arith, a)) (follows (c / 64)).1 (follows c).0 (follows c).1
  of_three_bytes c l h (inl s) (ed a e) =
      led (224 + c / 4096) AfterEd (next (c / 64) ∷ next c ∷ rest) e
      ∙ last_two AfterEd 128 159 (next (c / 64)) (next c) (λ x. refl) (follows (c / 64)).0 (omega (arith, a)) (follows c).0 (follows c).1
  of_three_bytes c l h (inr s) (ed a e) = absurd (omega (arith, a, s.0))
  of_three_bytes c l h s (of_three a b n e) =
      led (224 + c / 4096) TwoMore (next (c / 64) ∷ next c ∷ rest) e
      ∙ last_two TwoMore 128 191 (next (c / 64)) (next c) (λ x. refl) (follows (c / 64)).0 (follows (c / 64)).1 (follows c).0 (follows c).1
  of_three_bytes c l h s (f0 a e) = absurd (omega (arith, a))
  of_three_bytes c l h s (of_four a b e) = absurd (omega arith)
  of_three_bytes c l h s (f4 a e) = absurd (omega (arith, a))
  of_three_bytes c l h s (too_low a b e) = absurd (omega arith)
  of_three_bytes c l h s (too_high a e) = absurd (omega arith)

  of_four_bytes : (c : ℕ) → 65536 ≤ c → c < 1114112 → Lead (240 + c / 262144)
      → utf8_after (Some Between) ((240 + c / 262144) ∷ next (c / 4096) ∷ next (c / 64) ∷ next c ∷ rest) ≡ after (Some Between)
  of_four_bytes c l h (ascii a e) = absurd (omega arith)
  of_four_bytes c l h (of_two a b e) = absurd (omega arith)
  of_four_bytes c l h (e0 a e) = absurd (omega (arith, a))
  of_four_bytes c l h (ed a e) = absurd (omega (arith, a))
  of_four_bytes c l h (of_three a b n e) = absurd (omega arith)
  of_four_bytes c l h (f0 a e) =
      led (240 + c / 262144) AfterF0 (next (c / 4096) ∷ next (c / 64) ∷ next c ∷ rest) e
      ∙ last_three AfterF0 144 191 (next (c / 4096)) (next (c / 64)) (next c) (λ x. refl) (omega (arith, a)) (follows (c / 4096)).1 (follows (c / 64)).0 (follows (c / 64)).1 (follows c).0 (follows c).1
  of_four_bytes c l h (of_four a b e) =
      led (240 + c / 262144) ThreeMore (next (c / 4096) ∷ next (c / 64) ∷ next c ∷ rest) e
      ∙ last_three ThreeMore 128 191 (next (c / 4096)) (next (c / 64)) (next c) (λ x. refl) (follows (c / 4096)).0 (follows (c / 4096)).1 (follows (c / 64)).0 (follows (c / 64)).1 (follows c).0 (follows c).1
  of_four_bytes c l h (f4 a e) =
      led (240 + c / 262144) AfterF4 (next (c / 4096) ∷ next (c / 64) ∷ next c ∷ rest) e
      ∙ last_three AfterF4 128 143 (next (c / 4096)) (next (c / 64)) (next c) (λ x. refl) (follows (c / 4096)).0 (omega (arith, a)) (follows (c / 64)).0 (follows (c / 64)).1 (follows c).0 (follows c).1
  of_four_bytes c l h (too_low a b e) = absurd (omega arith)
  of_four_bytes c l h (too_high a e) = absurd (omega arith)

  one_char : (c : ℕ) → (c < 55296) ⊎ ((57344 ≤ c) × (c < 1114112)) → (c < 128) ⊎ (128 ≤ c) → (c < 2048) ⊎ (2048 ≤ c) → (c < 65536) ⊎ (65536 ≤ c)
      → utf8_after (Some Between) (encode c ++ rest) ≡ after (Some Between)
  one_char c s (inl h) _ _ = ap (λ (x : List ℕ). utf8_after (Some Between) (x ++ rest)) (encode_ascii c h) ∙ ap after (under c 128 _ _ h)
  one_char c s (inr l) (inl h) _ = ap (λ (x : List ℕ). utf8_after (Some Between) (x ++ rest)) (two c l h) ∙ of_two_bytes c l h
  one_char c s (inr _) (inr l) (inl h) = ap (λ (x : List ℕ). utf8_after (Some Between) (x ++ rest)) (three c l h) ∙ of_three_bytes c l h s (lead (224 + c / 4096))
  one_char c s (inr _) (inr _) (inr l) =
      ap (λ (x : List ℕ). utf8_after (Some Between) (x ++ rest)) (four c l) ∙ of_four_bytes c l (⊎_elim (λ lt. omega (arith, l, lt)) (λ w. w.1) s) (lead (240 + c / 262144))

utf8_full : (cs : List ℕ) → scalars cs ≡ true → utf8_after (Some Between) (encodes cs) ≡ Some Between
utf8_full [] h = refl
utf8_full (c ∷ cs) h =
    let both : (scalar c ≡ true) × (scalars cs ≡ true) = and_parts (scalar c) (scalars cs) h in
    one_char (encodes cs) c (scalar_cases c both.0) (order c 128) (order c 2048) (order c 65536) ∙ utf8_full cs both.1

-- well-formed text is taken
pub text_taken : (bs : List ℕ) → IsUtf8 bs → utf8_after (Some Between) bs ≡ Some Between
text_taken bs h = subst (λ (x : List ℕ). utf8_after (Some Between) x ≡ Some Between) h.1.1 (utf8_full h.0 h.1.0)

-- ---- what is taken is well-formed

none_after : (bs : List ℕ) → ended (utf8_after None bs) ≡ true → ⊥
none_after [] h = cc
none_after (b ∷ bs) h = none_after bs h

-- a byte of this range came next
record Came (from to : ℕ) (next : Utf8) (bs : List ℕ) : Type 0 where
  byte : ℕ
  rest : List ℕ
  is : bs ≡ byte ∷ rest
  low : from ≤ byte
  high : byte ≤ to
  goes_on : ended (utf8_after (Some next) rest) ≡ true

came : (u next : Utf8) (from to : ℕ) → ((b : ℕ) → utf8_step u b ≡ within from to next b) → is_between u ≡ false → (bs : List ℕ) → ended (utf8_after (Some u) bs) ≡ true → Came from to next bs
came u next from to step not_ended [] h = let e : true ≡ false = sym h ∙ not_ended in cc
came u next from to step not_ended (b ∷ bs) h =
    ⊎_elim
    (λ lt. absurd (none_after bs (sym (ap (λ (o : Option Utf8). ended (utf8_after o bs)) (step b ∙ under b from _ _ lt)) ∙ h)))
    (λ le. ⊎_elim
    (λ lt. absurd (none_after bs (sym (ap (λ (o : Option Utf8). ended (utf8_after o bs)) (step b ∙ above b from _ _ le ∙ under to b _ _ lt)) ∙ h)))
    (λ ge. record { byte = b; rest = bs; is = refl; low = le; high = ge; goes_on = sym (ap (λ (o : Option Utf8). ended (utf8_after o bs)) (step b ∙ above b from _ _ le ∙ above to b _ _ ge)) ∙ h })
    (order to b))
    (order b from)

encoded : (c : ℕ) (bs : List ℕ) → IsScalar c → encode c ≡ bs → IsUtf8 bs
encoded c bs s e = subst IsUtf8 e (IsUtf8-encode c s)

low_scalar : (c : ℕ) → c < 55296 → scalar c ≡ true
low_scalar c h = under c 55296 true _ h

high_scalar : (c : ℕ) → 57344 ≤ c → c < 1114112 → scalar c ≡ true
high_scalar c l h = above c 55296 true _ (omega arith) ∙ and_from (leb 57344 c) (ltb c 1114112) (le-leb 57344 c l) (lt-ltb c 1114112 h)

list2 : {a b x y : ℕ} → a ≡ x → b ≡ y → a ∷ b ∷ [] ≡ x ∷ y ∷ []
list2 p q = cc

list3 : {a b c x y z : ℕ} → a ≡ x → b ≡ y → c ≡ z → a ∷ b ∷ c ∷ [] ≡ x ∷ y ∷ z ∷ []
list3 p q r = cc

list4 : {a b c d x y z w : ℕ} → a ≡ x → b ≡ y → c ≡ z → d ≡ w → a ∷ b ∷ c ∷ d ∷ [] ≡ x ∷ y ∷ z ∷ w ∷ []
list4 p q r s = cc

ascii_text : (b : ℕ) → b < 128 → IsUtf8 (b ∷ [])
ascii_text b h = encoded b (b ∷ []) (low_scalar b (omega arith)) (encode_ascii b h)

two_text : (a b : ℕ) → 194 ≤ a → a < 224 → 128 ≤ b → b ≤ 191 → IsUtf8 (a ∷ b ∷ [])
two_text a b l h m k =
    let c : ℕ = (a - 192) * 64 + (b - 128) in
    let d : c / 64 ≡ a - 192 = div64 (a - 192) (b - 128) (omega arith) in
    let r : c % 64 ≡ b - 128 = mod64 (a - 192) (b - 128) (omega arith) in
    encoded c (a ∷ b ∷ []) (low_scalar c (omega arith)) (two c (omega arith) (omega arith) ∙ list2 (omega (arith, d)) (omega (arith, r)))
  where
    div64 : (q r : ℕ) → r < 64 → (q * 64 + r) / 64 ≡ q
    div64 q r h = omega arith

    mod64 : (q r : ℕ) → r < 64 → (q * 64 + r) % 64 ≡ r
    mod64 q r h = omega arith

three_text : (a b d : ℕ) → 224 ≤ a → a < 240 → 128 ≤ b → b ≤ 191 → 128 ≤ d → d ≤ 191 → (a ≡ 224 → 160 ≤ b) → (a ≡ 237 → b ≤ 159) → IsUtf8 (a ∷ b ∷ d ∷ [])
three_text a b d l h m k i j first surrogate =
    let c : ℕ = ((a - 224) * 64 + (b - 128)) * 64 + (d - 128) in
    let low : 2048 ≤ c = ⊎_elim (λ e. let f : 160 ≤ b = first e in omega (arith, e, f)) (λ n. omega (arith, n)) (same_or a 224) in
    let fits : scalar c ≡ true = ⊎_elim
    (λ e. let f : b ≤ 159 = surrogate e in low_scalar c (omega (arith, e, f)))
    (λ n. ⊎_elim (λ lt. low_scalar c (omega (arith, lt))) (λ ge. let gt : 237 < a = omega (arith, n, ge) in high_scalar c (omega (arith, gt)) (omega arith)) (order a 237))
    (same_or a 237) in
    encoded c (a ∷ b ∷ d ∷ []) fits (three c low (omega arith) ∙ list3 (omega arith) (omega arith) (omega arith))

four_text : (a b d e : ℕ) → 240 ≤ a → a < 245 → 128 ≤ b → b ≤ 191 → 128 ≤ d → d ≤ 191 → 128 ≤ e → e ≤ 191 → (a ≡ 240 → 144 ≤ b) → (a ≡ 244 → b ≤ 143) → IsUtf8 (a ∷ b ∷ d ∷ e ∷ [])
four_text a b d e l h m k i j u v first end =
    let c : ℕ = (((a - 240) * 64 + (b - 128)) * 64 + (d - 128)) * 64 + (e - 128) in
    let low : 65536 ≤ c = ⊎_elim (λ is. let f : 144 ≤ b = first is in omega (arith, is, f)) (λ n. omega (arith, n)) (same_or a 240) in
    let high : c < 1114112 = ⊎_elim (λ is. let f : b ≤ 143 = end is in omega (arith, is, f)) (λ n. omega (arith, n)) (same_or a 244) in
    encoded c (a ∷ b ∷ d ∷ e ∷ []) (high_scalar c (omega (arith, low)) high) (four c low ∙ list4 (omega arith) (omega arith) (omega arith) (omega arith))

joined : (front rest bs : List ℕ) → bs ≡ front ++ rest → IsUtf8 front → IsUtf8 rest → IsUtf8 bs
joined front rest bs e h k = subst IsUtf8 (sym e) (IsUtf8-append front rest h k)

-- by the number of bytes
abbrev Taken : ℕ → Type 0
Taken n = (bs : List ℕ) → length bs ≤ n → ended (utf8_after (Some Between) bs) ≡ true → IsUtf8 bs

module _ (n : ℕ) (ih : Taken n) where
  end_two : (a : ℕ) (bs : List ℕ) → length bs ≤ n → 194 ≤ a → a < 224 → Came 128 191 Between bs → IsUtf8 (a ∷ bs)
  end_two a bs le l h c =
      joined (a ∷ c.byte ∷ []) c.rest (a ∷ bs) (ap (λ (x : List ℕ). a ∷ x) c.is) (two_text a c.byte l h c.low c.high)
      (ih c.rest (omega (arith, ap length c.is, le)) c.goes_on)

  end_three : (a from to : ℕ) (bs : List ℕ) → length bs ≤ n → 224 ≤ a → a < 240 → 128 ≤ from → to ≤ 191 → (a ≡ 224 → 160 ≤ from) → (a ≡ 237 → to ≤ 159) → Came from to OneMore bs → IsUtf8 (a ∷ bs)
  end_three a from to bs le l h m k first end c =
      let d : Came 128 191 Between c.rest = came OneMore Between 128 191 (λ x. refl) refl c.rest c.goes_on in
      let s = ap length c.is in
      let t = ap length d.is in
      joined (a ∷ c.byte ∷ d.byte ∷ []) d.rest (a ∷ bs) (ap (λ (x : List ℕ). a ∷ x) c.is ∙ ap (λ (x : List ℕ). a ∷ c.byte ∷ x) d.is)
      (three_text a c.byte d.byte l h (omega (arith, c.low, m)) (omega (arith, c.high, k)) d.low d.high
      (λ e. let f : 160 ≤ from = first e in omega (arith, f, c.low)) (λ e. let f : to ≤ 159 = end e in omega (arith, f, c.high)))
      (ih d.rest (omega (arith, s, t, le)) d.goes_on)

  end_four : (a from to : ℕ) (bs : List ℕ) → length bs ≤ n → 240 ≤ a → a < 245 → 128 ≤ from → to ≤ 191 → (a ≡ 240 → 144 ≤ from) → (a ≡ 244 → to ≤ 143) → Came from to TwoMore bs → IsUtf8 (a ∷ bs)
  end_four a from to bs le l h m k first end c =
      let d : Came 128 191 OneMore c.rest = came TwoMore OneMore 128 191 (λ x. refl) refl c.rest c.goes_on in
      let e : Came 128 191 Between d.rest = came OneMore Between 128 191 (λ x. refl) refl d.rest d.goes_on in
      let s = ap length c.is in
      let t = ap length d.is in
      let u = ap length e.is in
      joined (a ∷ c.byte ∷ d.byte ∷ e.byte ∷ []) e.rest (a ∷ bs) (ap (λ (x : List ℕ). a ∷ x) c.is ∙ ap (λ (x : List ℕ). a ∷ c.byte ∷ x) d.is ∙ ap (λ (x : List ℕ). a ∷ c.byte ∷ d.byte ∷ x) e.is)
      (four_text a c.byte d.byte e.byte l h (omega (arith, c.low, m)) (omega (arith, c.high, k)) d.low d.high e.low e.high
      (λ is. let f : 144 ≤ from = first is in omega (arith, f, c.low)) (λ is. let f : to ≤ 143 = end is in omega (arith, f, c.high)))
      (ih e.rest (omega (arith, s, t, u, le)) e.goes_on)

  behind : (a : ℕ) (bs : List ℕ) (u : Utf8) → lead_step a ≡ Some u → ended (utf8_after (lead_step a) bs) ≡ true → ended (utf8_after (Some u) bs) ≡ true
  behind a bs u e h = sym (ap (λ (o : Option Utf8). ended (utf8_after o bs)) e) ∙ h

  one_more : (a : ℕ) (bs : List ℕ) → length bs ≤ n → ended (utf8_after (lead_step a) bs) ≡ true → Lead a → IsUtf8 (a ∷ bs)
  one_more a bs le h (ascii lt e) = joined (a ∷ []) bs (a ∷ bs) refl (ascii_text a lt) (ih bs le (behind a bs Between e h))
  one_more a bs le h (of_two l m e) = end_two a bs le l m (came OneMore Between 128 191 (λ x. refl) refl bs (behind a bs OneMore e h))
  one_more a bs le h (e0 is e) =
      end_three a 160 191 bs le (omega (arith, is)) (omega (arith, is)) (omega arith) (omega arith) (λ _. omega arith) (λ f. absurd (omega (arith, is, f)))
      (came AfterE0 OneMore 160 191 (λ x. refl) refl bs (behind a bs AfterE0 e h))
  one_more a bs le h (ed is e) =
      end_three a 128 159 bs le (omega (arith, is)) (omega (arith, is)) (omega arith) (omega arith) (λ f. absurd (omega (arith, is, f))) (λ _. omega arith)
      (came AfterEd OneMore 128 159 (λ x. refl) refl bs (behind a bs AfterEd e h))
  one_more a bs le h (of_three l m ne e) =
      end_three a 128 191 bs le (omega arith) m (omega arith) (omega arith) (λ f. absurd (omega (arith, l, f))) (λ f. absurd (ne f))
      (came TwoMore OneMore 128 191 (λ x. refl) refl bs (behind a bs TwoMore e h))
  one_more a bs le h (f0 is e) =
      end_four a 144 191 bs le (omega (arith, is)) (omega (arith, is)) (omega arith) (omega arith) (λ _. omega arith) (λ f. absurd (omega (arith, is, f)))
      (came AfterF0 TwoMore 144 191 (λ x. refl) refl bs (behind a bs AfterF0 e h))
  one_more a bs le h (of_four l m e) =
      end_four a 128 191 bs le (omega arith) (omega arith) (omega arith) (omega arith) (λ f. absurd (omega (arith, l, f))) (λ f. absurd (omega (arith, m, f)))
      (came ThreeMore TwoMore 128 191 (λ x. refl) refl bs (behind a bs ThreeMore e h))
  one_more a bs le h (f4 is e) =
      end_four a 128 143 bs le (omega (arith, is)) (omega (arith, is)) (omega arith) (omega arith) (λ f. absurd (omega (arith, is, f))) (λ _. omega arith)
      (came AfterF4 TwoMore 128 143 (λ x. refl) refl bs (behind a bs AfterF4 e h))
  one_more a bs le h (too_low l m e) = absurd (none_after bs (sym (ap (λ (o : Option Utf8). ended (utf8_after o bs)) e) ∙ h))
  one_more a bs le h (too_high l e) = absurd (none_after bs (sym (ap (λ (o : Option Utf8). ended (utf8_after o bs)) e) ∙ h))

no_bytes : IsUtf8 []
no_bytes = ([], (refl, refl))

taken_texts : (n : ℕ) → Taken n
taken_texts n [] le h = no_bytes
taken_texts zero (b ∷ bs) le h = absurd (omega (arith, le))
taken_texts (suc n) (b ∷ bs) le h = one_more n (taken_texts n) b bs (omega (arith, le)) h (lead b)

-- what is taken to its end is well-formed
pub taken_text : (bs : List ℕ) → ended (utf8_after (Some Between) bs) ≡ true → IsUtf8 bs
taken_text bs h = taken_texts (length bs) bs (omega arith) h
