-- A numeral is the text of a decimal, digit by digit.
use Rattle.std.proofs.Common.{◌≡◌, ◌≢◌, ℕ, zero, suc, ◌+◌, ◌*◌, ◌-◌, ◌/◌, ◌%◌, ◌^◌, ◌<◌, ◌≤◌, true, List, [], ◌∷◌, ◌++◌, take, length, get_or, pos, decimal, refl, sym, ap, ap₂, ◌∙◌, subst, arith, pow-suc, append_assoc, append-nil, leb, leb-true, nat_eq, false, lit<}
use Rattle.std.specs.Prelude.{not}
use Rattle.std.specs.Bool.{◌==◌}
use Rattle.std.specs.Char.{is_ascii_digit}
use Rattle.std.proofs.lemmas.Bool.{and_parts, false≢true}
use Rattle.std.proofs.lemmas.List.{take_more, take_all}
use Rattle.std.proofs.lemmas.Fmt.{decimal_digit, decimal_step_wide}
use Rattle.std.proofs.Math.Nat.{div-div-eq-div-mul, pow-succ'}
use Rattle.sj_decimal.specs.Limits.{magnitude_limit}
use Rattle.sj_decimal.specs.Number.{SpellsExact}
use Rattle.sj_decimal.specs.Text.{decimal_text, last_digits}
use Rattle.sj_decimal.proofs.Laws.{decimal_text_spells}
use Rattle.sj_decimal.proofs.Powers.{power_le}
use Rattle.sj_decimal.proofs.Texts.{last_digits_none, last_digits_more, decimals_text-positive}
use Rattle.sj_json.specs.Tree.{number}
use Rattle.sj_json.specs.Printing.{printed, printed_number}
use Rattle.sj_doc.specs.Nodes.{spelled}
use Rattle.sj_doc.proofs.Numerals.{spelled_exact}
use Rattle.sj_text.specs.Numerals.{IsWholeText, IsDecimalText}

-- a text of a decimal spells that decimal, and is printed as it is
pub printed_as_spelled : (b : List ℕ) → IsDecimalText b → printed (number (spelled b)) ≡ b
printed_as_spelled b h =
    let spells : SpellsExact b h.value = subst (λ l. SpellsExact l h.value) h.text (decimal_text_spells h.value h.made) in
    ap printed_number (spelled_exact b h.value spells) ∙ h.text

-- ---- the tests of the code

pub some_bytes : (n : ℕ) → (n == 0) ≡ false → 0 < n
some_bytes zero h = absurd (false≢true (sym h))
some_bytes (suc n) h = omega arith

pub other_byte : (c : ℕ) → not (nat_eq c 48) ≡ true → c ≢ 48
other_byte c h is = false≢true (subst (λ (x : ℕ). not (nat_eq x 48) ≡ true) is h)

digit_range : (c : ℕ) → is_ascii_digit c ≡ true → (48 ≤ c) × (c ≤ 57)
digit_range c h =
    let both : (leb 48 c ≡ true) × (leb c 57 ≡ true) = and_parts (leb 48 c) (leb c 57) h in
    (leb-true 48 c both.0, leb-true c 57 both.1)

-- ---- a whole number

-- the first k bytes are the text of a number that is not 0
pub record IsGrown (k : ℕ) (b : List ℕ) : Type 0 where
  pub number : ℕ
  pub text : take k b ≡ decimal number
  pub some : 0 < number
  pub small : number < 10 ^ k

-- a digit stands behind them
one_more : (n k c : ℕ) → 0 < n → n < 10 ^ k → k ≤ 60 → 48 ≤ c → c ≤ 57 → decimal (n * 10 + (c - 48)) ≡ decimal n ++ c ∷ []
one_more n k c some small few low high =
    let m : ℕ = n * 10 + (c - 48) in
    let bound : 10 ^ k ≤ 10 ^ 60 = power_le k 60 few in
    let two : 10 ≤ m = omega (arith, some) in
    let wide : m < 10 ^ 64 = omega (arith, bound, small, high) in
    let quotient : m / 10 ≡ n = omega (arith, low, high) in
    let last : 48 + m % 10 ≡ c = omega (arith, low, high) in
    decimal_step_wide m two wide ∙ ap₂ (λ (q r : ℕ). decimal q ++ r ∷ []) quotient last

more_small : (n k c : ℕ) → n < 10 ^ k → 48 ≤ c → c ≤ 57 → n * 10 + (c - 48) < 10 ^ (k + 1)
more_small n k c small low high =
    let power : 10 ^ suc k ≡ 10 ^ k * 10 = pow-suc 10 k in
    let same : k + 1 ≡ suc k = omega arith in
    rw same (omega (arith, power, small, low, high))

pub first_grown : (b : List ℕ) → 0 < length b → is_ascii_digit (get_or b 0 0) ≡ true → get_or b 0 0 ≢ 48 → IsGrown 1 b
first_grown b some digit no_zero =
    let c : ℕ = get_or b 0 0 in
    let range = digit_range c digit in
    let low : 48 ≤ c = range.0 in
    let high : c ≤ 57 = range.1 in
    let one : 48 + (c - 48) ≡ c = omega (arith, low) in
    record {
      number = c - 48;
      text = take_more b 0 0 some ∙ ap (λ (x : ℕ). x ∷ []) (sym one) ∙ sym (decimal_digit (c - 48) (omega (arith, low, high)));
      some = omega (arith, low, no_zero);
      small = omega (arith, low, high);
    }

pub grows_more : (k : ℕ) (b : List ℕ) → IsGrown k b → k < length b → k ≤ 60 → is_ascii_digit (get_or b k 0) ≡ true → IsGrown (k + 1) b
grows_more k b g within few digit =
    let c : ℕ = get_or b k 0 in
    let range = digit_range c digit in
    let low : 48 ≤ c = range.0 in
    let high : c ≤ 57 = range.1 in
    record {
      number = g.number * 10 + (c - 48);
      text = take_more b k 0 within ∙ ap (λ (l : List ℕ). l ++ c ∷ []) g.text ∙ sym (one_more g.number k c g.some g.small few low high);
      some = omega (arith, g.some);
      small = more_small g.number k c g.small low high;
    }

pub grown_whole : (k : ℕ) (b : List ℕ) → IsGrown k b → IsWholeText k (take k b)
grown_whole k b g = record { number = g.number; text = g.text; small = g.small }

pub zero_whole : (b : List ℕ) → 0 < length b → get_or b 0 0 ≡ 48 → IsWholeText 1 (take 1 b)
zero_whole b some is =
    record {
      number = 0;
      text = take_more b 0 0 some ∙ ap (λ (x : ℕ). x ∷ []) is ∙ sym (decimal_digit 0 (lit< tt));
      small = omega arith;
    }

text_of_whole : (n : ℕ) → decimal_text (pos n, 0) ≡ decimal n
text_of_whole n = append-nil (decimal (n / 10 ^ 0)) ∙ ap decimal (omega arith)

below_limit : (n k : ℕ) → n < 10 ^ k → k ≤ 19 → n < magnitude_limit
below_limit n k small few =
    let bound : 10 ^ k ≤ 10 ^ 19 = power_le k 19 few in
    omega (arith, bound, small)

pub whole_is_decimal : (k : ℕ) (b : List ℕ) → IsWholeText k (take k b) → k ≡ length b → length b ≤ 19 → IsDecimalText b
whole_is_decimal k b w all few =
    record {
      value = (pos w.number, 0);
      made = record {
        normal = λ some. absurd (omega arith);
        limits = record { coefficient = below_limit w.number k w.small (omega (arith, all, few)); scale = omega arith };
      };
      text = text_of_whole w.number ∙ sym w.text ∙ take_all k b (omega (arith, all));
    }

-- ---- decimals behind the point

-- up to an end the bytes are the text of a number with so many decimals, the last of which is `last` if there are some
pub record IsPointed (point end last : ℕ) (b : List ℕ) : Type 0 where
  pub number : ℕ
  pub places : ℕ
  pub at : end ≡ point + 1 + places
  pub text : take end b ≡ decimal (number / 10 ^ places) ++ 46 ∷ last_digits places number
  pub small : number < 10 ^ end
  pub decimals : last ≢ 48 → (0 < places) × (number % 10 ≢ 0)

pub at_the_point : (point : ℕ) (b : List ℕ) → IsWholeText point (take point b) → point < length b → get_or b point 0 ≡ 46 → IsPointed point (point + 1) 48 b
at_the_point point b w within is =
    let whole : decimal w.number ≡ decimal (w.number / 10 ^ 0) = ap decimal (omega arith) in
    let power : 10 ^ suc point ≡ 10 ^ point * 10 = pow-suc 10 point in
    let same : point + 1 ≡ suc point = omega arith in
    record {
      number = w.number;
      places = 0;
      at = omega arith;
      text = take_more b point 0 within ∙ ap₂ (λ (l : List ℕ) (c : ℕ). l ++ c ∷ []) (w.text ∙ whole) is ∙ ap (λ (l : List ℕ). decimal (w.number / 10 ^ 0) ++ 46 ∷ l) (sym (last_digits_none w.number));
      small = rw same (omega (arith, power, w.small));
      decimals = λ other. absurd (other refl);
    }

-- one more of the decimals
longer : (n k c : ℕ) → 48 ≤ c → c ≤ 57 → (decimal (n / 10 ^ k) ++ 46 ∷ last_digits k n) ++ c ∷ [] ≡ decimal ((n * 10 + (c - 48)) / 10 ^ suc k) ++ 46 ∷ last_digits (suc k) (n * 10 + (c - 48))
longer n k c low high =
    let m : ℕ = n * 10 + (c - 48) in
    let tenth : n ≡ m / 10 = omega (arith, low, high) in
    let last : c ≡ 48 + m % 10 = omega (arith, low, high) in
    let quotient : n / 10 ^ k ≡ m / 10 ^ suc k = ap (λ (x : ℕ). x / 10 ^ k) tenth ∙ div-div-eq-div-mul m 10 (10 ^ k) ∙ ap (λ (p : ℕ). m / p) (sym (pow-succ' 10 k)) in
    append_assoc (decimal (n / 10 ^ k)) (46 ∷ last_digits k n) (c ∷ [])
    ∙ ap₂ (λ (q : ℕ) (l : List ℕ). decimal q ++ 46 ∷ l) quotient (ap₂ (λ (x y : ℕ). last_digits k x ++ y ∷ []) tenth last ∙ sym (last_digits_more k m))

last_decimal : (n c : ℕ) → 48 ≤ c → c ≤ 57 → c ≢ 48 → (n * 10 + (c - 48)) % 10 ≢ 0
last_decimal n c low high no_zero none = absurd (no_zero (omega (arith, low, high, none)))

pub goes_on : (point end last : ℕ) (b : List ℕ) → IsPointed point end last b → end < length b → is_ascii_digit (get_or b end 0) ≡ true → IsPointed point (end + 1) (get_or b end 0) b
goes_on point end last b p within digit =
    let c : ℕ = get_or b end 0 in
    let range = digit_range c digit in
    let low : 48 ≤ c = range.0 in
    let high : c ≤ 57 = range.1 in
    record {
      number = p.number * 10 + (c - 48);
      places = suc p.places;
      at = omega (arith, p.at);
      text = take_more b end 0 within ∙ ap (λ (l : List ℕ). l ++ c ∷ []) p.text ∙ longer p.number p.places c low high;
      small = more_small p.number end c p.small low high;
      decimals = λ other. (omega arith, last_decimal p.number c low high other);
    }

text_of_pointed : (n k : ℕ) → 0 < k → decimal_text (pos n, k) ≡ decimal (n / 10 ^ k) ++ 46 ∷ last_digits k n
text_of_pointed n k some = ap (λ (l : List ℕ). decimal (n / 10 ^ k) ++ l) (decimals_text-positive k n some)

pub pointed_is_decimal : (point end last : ℕ) (b : List ℕ) → IsPointed point end last b → last ≢ 48 → end ≡ length b → length b ≤ 19 → IsDecimalText b
pointed_is_decimal point end last b p other all few =
    let decimals = p.decimals other in
    record {
      value = (pos p.number, p.places);
      made = record {
        normal = λ _. decimals.1;
        limits = record { coefficient = below_limit p.number end p.small (omega (arith, all, few)); scale = omega (arith, p.at, all, few) };
      };
      text = text_of_pointed p.number p.places decimals.0 ∙ sym p.text ∙ take_all end b (omega (arith, all));
    }
