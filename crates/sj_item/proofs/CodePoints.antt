-- In UTF-8 the bytes of two texts stand in the order of their code points, and begin with each other as these do.
use Rattle.std.proofs.Common.{◌≡◌, ◌≢◌, ℕ, zero, suc, ◌+◌, ◌/◌, ◌%◌, ◌<◌, ◌≤◌, ◌⊎◌, inl, inr, true, false, ◌&&◌, nat_eq, List, [], ◌∷◌, ◌++◌, length, take, drop, IsUtf8, refl, sym, ap, ap₂, ◌∙◌, arith, append_assoc, take-append-drop, length-append, zero-add, eq-eqb}
use Rattle.std.proofs.Math.Nat.{div-div-eq-div-mul}
use Rattle.std.proofs.Math.Utf8.{encode}
use Rattle.std.proofs.lemmas.Bool.{cases_lt, cases_eq, cases_order, le-ltb, lt-ltb, ne_eqb, false_from_ne_true}
use Rattle.std.proofs.lemmas.Str.{encode_same, length-encode, len_utf8_bounds, encodes-chars}
use Rattle.std.proofs.lemmas.Cmp.{nat_list_cmp_total}
use Rattle.std.specs.Ordering.{nat_cmp, ordering_then, ordering_reverse}
use Rattle.std.specs.Cmp.{nat_cmp_is}
use Rattle.std.specs.declared.cmp.Ordering.TheVariants.{Less, Equal, Greater}
use Rattle.std.specs.Cmp.Lexicographic.{slice_cmp, pointwise, bytes_decides}
use Rattle.std.specs.List.{starts_with}
use Rattle.std.specs.Str.{chars, encode_utf8_all}
use Rattle.sj_item.specs.Orders.{text_cmp, begins_with}

-- ---- lists of numbers

cmp_below : (x y : ℕ) → x < y → nat_cmp x y ≡ Less
cmp_below x y h = sym (nat_cmp_is x y Less h)

cmp_same : (x : ℕ) → nat_cmp x x ≡ Equal
cmp_same x = sym (nat_cmp_is x x Equal refl)

cmp_above : (x y : ℕ) → y < x → nat_cmp x y ≡ Greater
cmp_above x y h = sym (nat_cmp_is x y Greater h)

less_at : (x y : ℕ) (xs ys : List ℕ) → x < y → slice_cmp nat_cmp (x ∷ xs) (y ∷ ys) ≡ Less
less_at x y xs ys h = ap (λ o. ordering_then o (slice_cmp nat_cmp xs ys)) (cmp_below x y h)

common_start : (front xs ys : List ℕ) → slice_cmp nat_cmp (front ++ xs) (front ++ ys) ≡ slice_cmp nat_cmp xs ys
common_start [] xs ys = refl
common_start (a ∷ front) xs ys = ap (λ o. ordering_then o (slice_cmp nat_cmp (front ++ xs) (front ++ ys))) (cmp_same a) ∙ common_start front xs ys

before_some : (xs : List ℕ) → 0 < length xs → slice_cmp nat_cmp [] xs ≡ Less
before_some [] h = absurd (omega arith)
before_some (x ∷ xs) h = refl

turned : (xs ys : List ℕ) → slice_cmp nat_cmp xs ys ≡ Less → slice_cmp nat_cmp ys xs ≡ Greater
turned xs ys h = nat_list_cmp_total.antisymm ys xs ∙ ap ordering_reverse h

-- ---- one character

-- the bytes of a character after which n more come, of which the first holds the bits above them over `base`
abbrev bytes_over : ℕ → ℕ → ℕ → List ℕ
bytes_over zero base c = (base + c) ∷ []
bytes_over (suc n) base c = bytes_over n base (c / 64) ++ (128 + c % 64) ∷ []

-- the bits above the last six, or else these
split_six : (c d : ℕ) → c < d → (c / 64 < d / 64) ⊎ ((c / 64 ≡ d / 64) × (c % 64 < d % 64))
split_six c d h = elim (cases_lt (c / 64) (d / 64)) [
  | inl above ↦ inl above
  | inr not_above ↦ inr (omega (arith, h, not_above), omega (arith, h, not_above))
]

bytes_in_order : (n base c d : ℕ) (xs ys : List ℕ) → c < d → slice_cmp nat_cmp (bytes_over n base c ++ xs) (bytes_over n base d ++ ys) ≡ Less
bytes_in_order zero base c d xs ys h = less_at (base + c) (base + d) xs ys (omega arith)
bytes_in_order (suc n) base c d xs ys h =
    rw (append_assoc (bytes_over n base (c / 64)), append_assoc (bytes_over n base (d / 64)))
    (elim (split_six c d h) [
      | inl above ↦ bytes_in_order n base (c / 64) (d / 64) ((128 + c % 64) ∷ xs) ((128 + d % 64) ∷ ys) above
      | inr last ↦ rw last.0 (common_start (bytes_over n base (d / 64)) ((128 + c % 64) ∷ xs) ((128 + d % 64) ∷ ys) ∙ less_at (128 + c % 64) (128 + d % 64) xs ys (omega (arith, last.1)))
    ])

-- the first byte
abbrev lead : ℕ → ℕ → ℕ → ℕ
lead zero base c = base + c
lead (suc n) base c = lead n base (c / 64)

lead_below : (n m base end c d : ℕ) (xs ys : List ℕ) → lead n base c < lead m end d → slice_cmp nat_cmp (bytes_over n base c ++ xs) (bytes_over m end d ++ ys) ≡ Less
lead_below zero zero base end c d xs ys h = less_at (base + c) (end + d) xs ys h
lead_below zero (suc m) base end c d xs ys h = rw (append_assoc (bytes_over m end (d / 64))) (lead_below zero m base end c (d / 64) xs ((128 + d % 64) ∷ ys) h)
lead_below (suc n) m base end c d xs ys h = rw (append_assoc (bytes_over n base (c / 64))) (lead_below n m base end (c / 64) d ((128 + c % 64) ∷ xs) ys h)

encode_one : (c : ℕ) → c < 128 → encode c ≡ bytes_over 0 0 c
unfolding encode
encode_one c h = rw (lt-ltb c 128 h) (ap (λ x. x ∷ []) (sym (zero-add c)))

encode_two : (c : ℕ) → 128 ≤ c → c < 2048 → encode c ≡ bytes_over 1 192 c
unfolding encode
encode_two c l h = rw (le-ltb c 128 l, lt-ltb c 2048 h) refl

encode_three : (c : ℕ) → 2048 ≤ c → c < 65536 → encode c ≡ bytes_over 2 224 c
unfolding encode
encode_three c l h =
    let low : 128 ≤ c = omega arith in
    rw (le-ltb c 128 low, le-ltb c 2048 l, lt-ltb c 65536 h) (ap (λ x. (224 + x) ∷ (128 + c / 64 % 64) ∷ (128 + c % 64) ∷ []) (sym (div-div-eq-div-mul c 64 64)))

encode_four : (c : ℕ) → 65536 ≤ c → encode c ≡ bytes_over 3 240 c
unfolding encode
encode_four c l =
    let low : 128 ≤ c = omega arith in
    let middle : 2048 ≤ c = omega arith in
    rw (le-ltb c 128 low, le-ltb c 2048 middle, le-ltb c 65536 l)
    (ap₂ (λ x y. (240 + x) ∷ (128 + y % 64) ∷ (128 + c / 64 % 64) ∷ (128 + c % 64) ∷ [])
    (sym (ap (λ x. x / 64) (div-div-eq-div-mul c 64 64) ∙ div-div-eq-div-mul c 4096 64)) (sym (div-div-eq-div-mul c 64 64)))

data Class (c : ℕ) : Type 0 where
  one : c < 128 → Class c
  two : 128 ≤ c → c < 2048 → Class c
  three : 2048 ≤ c → c < 65536 → Class c
  four : 65536 ≤ c → Class c

class_of : (c : ℕ) → Class c
class_of c = elim (cases_lt c 128) [
  | inl h ↦ one h
  | inr l ↦ elim (cases_lt c 2048) [
    | inl h ↦ two l h
    | inr m ↦ elim (cases_lt c 65536) [ inl h ↦ three m h | inr n ↦ four n ]
  ]
]

encodes_in_order : (c d : ℕ) (xs ys : List ℕ) → c < d → slice_cmp nat_cmp (encode c ++ xs) (encode d ++ ys) ≡ Less
encodes_in_order c d xs ys h = by (class_of c) (class_of d)
  where
    by : Class c → Class d → slice_cmp nat_cmp (encode c ++ xs) (encode d ++ ys) ≡ Less
    by (one c1) (one d1) = rw (encode_one c c1, encode_one d d1) (bytes_in_order 0 0 c d xs ys h)
    by (one c1) (two d1 d2) = rw (encode_one c c1, encode_two d d1 d2) (lead_below 0 1 0 192 c d xs ys (omega arith))
    by (one c1) (three d1 d2) = rw (encode_one c c1, encode_three d d1 d2) (lead_below 0 2 0 224 c d xs ys (omega arith))
    by (one c1) (four d1) = rw (encode_one c c1, encode_four d d1) (lead_below 0 3 0 240 c d xs ys (omega arith))
    by (two c1 c2) (one d1) = absurd (omega arith)
    by (two c1 c2) (two d1 d2) = rw (encode_two c c1 c2, encode_two d d1 d2) (bytes_in_order 1 192 c d xs ys h)
    by (two c1 c2) (three d1 d2) = rw (encode_two c c1 c2, encode_three d d1 d2) (lead_below 1 2 192 224 c d xs ys (omega arith))
    by (two c1 c2) (four d1) = rw (encode_two c c1 c2, encode_four d d1) (lead_below 1 3 192 240 c d xs ys (omega arith))
    by (three c1 c2) (one d1) = absurd (omega arith)
    by (three c1 c2) (two d1 d2) = absurd (omega arith)
    by (three c1 c2) (three d1 d2) = rw (encode_three c c1 c2, encode_three d d1 d2) (bytes_in_order 2 224 c d xs ys h)
    by (three c1 c2) (four d1) = rw (encode_three c c1 c2, encode_four d d1) (lead_below 2 3 224 240 c d xs ys (omega arith))
    by (four c1) (one d1) = absurd (omega arith)
    by (four c1) (two d1 d2) = absurd (omega arith)
    by (four c1) (three d1 d2) = absurd (omega arith)
    by (four c1) (four d1) = rw (encode_four c c1, encode_four d d1) (bytes_in_order 3 240 c d xs ys h)

length-encode_pos : (c : ℕ) (xs : List ℕ) → 0 < length (encode c ++ xs)
length-encode_pos c xs = omega (arith, length-append (encode c) xs, length-encode c, (len_utf8_bounds c).0)

-- ---- texts

pub encodes_cmp : (cs ds : List ℕ) → slice_cmp nat_cmp (encode_utf8_all cs) (encode_utf8_all ds) ≡ slice_cmp nat_cmp cs ds
encodes_cmp [] [] = refl
encodes_cmp [] (d ∷ ds) = before_some (encode d ++ encode_utf8_all ds) (length-encode_pos d (encode_utf8_all ds))
encodes_cmp (c ∷ cs) [] = turned [] (encode c ++ encode_utf8_all cs) (before_some (encode c ++ encode_utf8_all cs) (length-encode_pos c (encode_utf8_all cs)))
encodes_cmp (c ∷ cs) (d ∷ ds) = elim (cases_order c d) [
  | inl same ↦
      rw same (common_start (encode d) (encode_utf8_all cs) (encode_utf8_all ds) ∙ encodes_cmp cs ds
      ∙ ap (λ o. ordering_then o (slice_cmp nat_cmp cs ds)) (sym (cmp_same d)))
  | inr other ↦ elim other [
    | inl below ↦ encodes_in_order c d (encode_utf8_all cs) (encode_utf8_all ds) below ∙ sym (less_at c d cs ds below)
    | inr above ↦
        turned (encode d ++ encode_utf8_all ds) (encode c ++ encode_utf8_all cs) (encodes_in_order d c (encode_utf8_all ds) (encode_utf8_all cs) above)
        ∙ sym (turned (d ∷ ds) (c ∷ cs) (less_at d c ds cs above))
  ]
]

pub text_cmp-bytes : (s t : List ℕ) → IsUtf8 s → IsUtf8 t → slice_cmp nat_cmp s t ≡ text_cmp s t
unfolding text_cmp
text_cmp-bytes s t u v = ap₂ (λ a b. slice_cmp nat_cmp a b) (sym (encodes-chars s u)) (sym (encodes-chars t v)) ∙ encodes_cmp (chars s) (chars t)

-- ---- one text at the start of another

starts_parts : (xs start : List ℕ) → starts_with nat_eq xs start ≡ true → xs ≡ start ++ drop (length start) xs
starts_parts xs start h = sym (ap (λ l. l ++ drop (length start) xs) ((bytes_decides start (take (length start) xs)).0 h) ∙ take-append-drop (length start) xs)

starts_common : (front xs ys : List ℕ) → starts_with nat_eq (front ++ xs) (front ++ ys) ≡ starts_with nat_eq xs ys
starts_common [] xs ys = refl
starts_common (a ∷ front) xs ys = ap (λ b. b && starts_with nat_eq (front ++ xs) (front ++ ys)) (eq-eqb a a refl) ∙ starts_common front xs ys

starts_apart : (c d : ℕ) (xs ys : List ℕ) → c ≢ d → starts_with nat_eq (encode c ++ xs) (encode d ++ ys) ≡ false
starts_apart c d xs ys other = false_from_ne_true (starts_with nat_eq (encode c ++ xs) (encode d ++ ys)) (λ h.
    let rest : List ℕ = drop (length (encode d ++ ys)) (encode c ++ xs) in
    other (encode_same c d xs (ys ++ rest) (starts_parts (encode c ++ xs) (encode d ++ ys) h ∙ append_assoc (encode d) ys rest)).0)

starts_of_none : (start : List ℕ) → 0 < length start → starts_with nat_eq [] start ≡ false
starts_of_none [] h = absurd (omega arith)
starts_of_none (y ∷ ys) h = refl

first_apart : (c d : ℕ) (cs ds : List ℕ) → c ≢ d → starts_with nat_eq (c ∷ cs) (d ∷ ds) ≡ false
first_apart c d cs ds other = ap (λ b. b && pointwise nat_eq ds (take (length ds) cs)) (ne_eqb d c (λ e. other (sym e)))

pub encodes_starts : (cs ds : List ℕ) → starts_with nat_eq (encode_utf8_all cs) (encode_utf8_all ds) ≡ starts_with nat_eq cs ds
encodes_starts cs [] = refl
encodes_starts [] (d ∷ ds) = starts_of_none (encode d ++ encode_utf8_all ds) (length-encode_pos d (encode_utf8_all ds))
encodes_starts (c ∷ cs) (d ∷ ds) = elim (cases_eq c d) [
  | inl same ↦
      rw same (starts_common (encode d) (encode_utf8_all cs) (encode_utf8_all ds) ∙ encodes_starts cs ds
      ∙ ap (λ b. b && starts_with nat_eq cs ds) (sym (eq-eqb d d refl)))
  | inr other ↦ starts_apart c d (encode_utf8_all cs) (encode_utf8_all ds) other ∙ sym (first_apart c d cs ds other)
]

pub begins_with-bytes : (s t : List ℕ) → IsUtf8 s → IsUtf8 t → starts_with nat_eq s t ≡ begins_with s t
unfolding begins_with
begins_with-bytes s t u v = ap₂ (λ a b. starts_with nat_eq a b) (sym (encodes-chars s u)) (sym (encodes-chars t v)) ∙ encodes_starts (chars s) (chars t)
