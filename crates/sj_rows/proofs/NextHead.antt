-- The head of the next line, where it differs in the last digit of the line's number alone.
use Rattle.std.proofs.Common.{◌≡◌, ℕ, ◌+◌, ◌/◌, ◌%◌, ◌^◌, ◌<◌, ◌≤◌, List, [], ◌∷◌, ◌++◌, length, drop, get_or, set, replicate, decimal, codes, sym, ap, ap₂, refl, ◌∙◌, ⊎_elim, arith, append_assoc}
use Rattle.std.proofs.lemmas.Bool.{cases_lt}
use Rattle.std.proofs.lemmas.Fmt.{decimal_digit, decimal_step}
use Rattle.std.proofs.lemmas.List.{drop-set-add, get_or-drop, get_or_at, length_push, set_at}
use Rattle.sj_rows.specs.RowHead.{IsHead, lettered}
use Rattle.sj_rows.specs.RowText.{row_head}
use Rattle.sj_rows.specs.declared.row.HeadText.{HeadText}
use Rattle.sj_rows.proofs.Heads.{length_head}

-- the digits before the last one, which the next number has too where the last one is below 9
record HasTens (n : ℕ) : Type 0 where
  tens : List ℕ
  now : decimal n ≡ tens ++ (48 + n % 10) ∷ []
  next : n % 10 < 9 → decimal (n + 1) ≡ tens ++ (48 + n % 10 + 1) ∷ []

no_tens : (n : ℕ) → n < 10 → HasTens n
no_tens n small = record {
  tens = [];
  now = decimal_digit n small ∙ ap (λ (d : ℕ). (48 + d) ∷ []) (omega arith);
  next = λ h. decimal_digit (n + 1) (omega arith) ∙ ap (λ (d : ℕ). d ∷ []) (omega arith);
}

some_tens : (n : ℕ) → 10 ≤ n → n + 1 < 2 ^ 64 → HasTens n
some_tens n large small = record {
  tens = decimal (n / 10);
  now = decimal_step n large (omega arith);
  next = λ h.
      let same : (n + 1) / 10 ≡ n / 10 = omega (arith, h) in
      let raised : 48 + (n + 1) % 10 ≡ 48 + n % 10 + 1 = omega (arith, h) in
      decimal_step (n + 1) (omega arith) small ∙ ap₂ (λ (q d : ℕ). decimal q ++ d ∷ []) same raised;
}

has_tens : (n : ℕ) → n + 1 < 2 ^ 64 → HasTens n
has_tens n small = ⊎_elim (no_tens n) (λ large. some_tens n large small) (cases_lt n 10)

-- its last digit alone
abbrev EndsIn : ℕ → Type 0
EndsIn n = (tens : List ℕ) × (decimal n ≡ tens ++ (48 + n % 10) ∷ [])

ends_in_one : (n : ℕ) → n < 10 → EndsIn n
ends_in_one n h = ([], decimal_digit n h ∙ ap (λ (d : ℕ). (48 + d) ∷ []) (omega arith))

ends_in : (n : ℕ) → n < 2 ^ 64 → EndsIn n
ends_in n small = ⊎_elim (ends_in_one n) (λ h. (decimal (n / 10), decimal_step n h small)) (cases_lt n 10)

digit_at : (bytes behind : List ℕ) (first last line : ℕ) → line < 2 ^ 64 → drop first bytes ≡ decimal line ++ behind → last + 1 ≡ first + length (decimal line)
    → get_or bytes last 0 ≡ 48 + line % 10
digit_at bytes behind first last line small written at =
    let units = ends_in line small in
    let count : ℕ = length units.0 in
    let place : last ≡ first + count = omega (arith, at, ap length units.1 ∙ length_push units.0 (48 + line % 10)) in
    ap (λ (k : ℕ). get_or bytes k 0) place ∙ sym (get_or-drop first bytes count 0)
    ∙ ap (λ (l : List ℕ). get_or l count 0) (written ∙ ap (λ (l : List ℕ). l ++ behind) units.1 ∙ append_assoc units.0 ((48 + line % 10) ∷ []) behind)
    ∙ get_or_at units.0 (48 + line % 10) behind 0 count refl

-- the number whose last digit was raised is the next one, and as long
record IsRaised (bytes new behind : List ℕ) (first line : ℕ) : Type 0 where
  written : drop first new ≡ decimal (line + 1) ++ behind
  long : length (decimal (line + 1)) ≡ length (decimal line)

raised : (bytes behind : List ℕ) (first last line : ℕ) → line + 1 < 2 ^ 64 → drop first bytes ≡ decimal line ++ behind → last + 1 ≡ first + length (decimal line)
    → get_or bytes last 0 < 57 → IsRaised bytes (set bytes last (get_or bytes last 0 + 1)) behind first line
raised bytes behind first last line small written at below =
    let units = has_tens line small in
    let digit : ℕ = 48 + line % 10 in
    let count : ℕ = length units.tens in
    let long : length (decimal line) ≡ count + 1 = ap length units.now ∙ length_push units.tens digit in
    let place : last ≡ first + count = omega (arith, at, long) in
    let split : drop first bytes ≡ units.tens ++ digit ∷ behind = written ∙ ap (λ (l : List ℕ). l ++ behind) units.now ∙ append_assoc units.tens (digit ∷ []) behind in
    let is : get_or bytes last 0 ≡ digit = digit_at bytes behind first last line (omega (arith, small)) written at in
    let next : decimal (line + 1) ≡ units.tens ++ (digit + 1) ∷ [] = units.next (omega (arith, below, is)) in
    record {
      written = ap₂ (λ (k d : ℕ). drop first (set bytes k (d + 1))) place is ∙ drop-set-add first bytes count (digit + 1) ∙ ap (λ (l : List ℕ). set l count (digit + 1)) split
          ∙ set_at units.tens digit behind (digit + 1) count refl ∙ sym (append_assoc units.tens ((digit + 1) ∷ []) behind) ∙ ap (λ (l : List ℕ). l ++ behind) (sym next);
      long = ap length next ∙ length_push units.tens (digit + 1) ∙ sym long;
    }

-- what stands behind the line's number
abbrev after : ℕ → ℕ → List ℕ
after statement letter = (codes "\t" ++ decimal statement) ++ (9 ∷ letter ∷ [] ++ replicate 33 9)

parts : (line statement letter : ℕ) → lettered line statement letter ++ replicate 33 9 ≡ decimal line ++ after statement letter
parts line statement letter =
    append_assoc (row_head line statement) (9 ∷ letter ∷ []) (replicate 33 9) ∙ append_assoc (decimal line) (codes "\t" ++ decimal statement) (9 ∷ letter ∷ [] ++ replicate 33 9)

pub next_head : (text : HeadText) (line statement letter : ℕ) → IsHead text line statement letter → line + 1 < 2 ^ 64 → get_or text.bytes text.last 0 < 57
    → IsHead (record { bytes = set text.bytes text.last (get_or text.bytes text.last 0 + 1); first = text.first; last = text.last }) (line + 1) statement letter
next_head text line statement letter is small below =
    let now = raised text.bytes (after statement letter) text.first text.last line small (is.written ∙ parts line statement letter) is.last below in
    record {
      written = now.written ∙ sym (parts (line + 1) statement letter);
      ends = omega (arith, is.ends, now.long, length_head line statement letter, length_head (line + 1) statement letter);
      last = omega (arith, is.last, now.long);
    }

-- where the last digit stands
pub last_digit : (text : HeadText) (line statement letter : ℕ) → IsHead text line statement letter → line < 2 ^ 64 → get_or text.bytes text.last 0 ≡ 48 + line % 10
last_digit text line statement letter is small = digit_at text.bytes (after statement letter) text.first text.last line small (is.written ∙ parts line statement letter) is.last
