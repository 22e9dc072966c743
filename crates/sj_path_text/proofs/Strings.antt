-- A printed string is one token.
use Rattle.std.proofs.Common.{◌≡◌, ℕ, suc, ◌/◌, ◌%◌, ◌<◌, Bool, true, false, not, ◌||◌, ◌==◌, nat_lt, cond, List, [], ◌∷◌, ◌++◌, length, codes, Option, Some, refl, sym, ap, subst, ◌∙◌, arith, append_assoc, length-append, eqb-true}
use Rattle.std.specs.List.{flat_map}
use Rattle.std.specs.Char.{digit_char}
use Rattle.std.proofs.lemmas.Bool.{ltb-true}
use Rattle.std.proofs.lemmas.Str.{encode_ascii}
use Rattle.std.proofs.lemmas.Bool.Decides.{nat_tests}
use Rattle.std.specs.Char.Utf16.{is_high_surrogate, is_low_surrogate}
use Rattle.sj_base.specs.ByteClasses.{is_plain, letter_char}
use Rattle.sj_json.specs.Printing.{printed_byte, printed_string}
use Rattle.sj_path_token.specs.declared.token.Token.{Token}
use Rattle.sj_path_token.specs.declared.token.Token.TheVariants as k
use Rattle.sj_path_token.specs.Strings as s
use Rattle.sj_path_token.specs.Strings.{IsInside, hex_digit, unit_of}
use Rattle.sj_path_token.specs.Reading.{form_from, string_at}
use Rattle.sj_path_token.proofs.Cuts.{bind_is}
use Rattle.sj_path_token.proofs.StringInsides.{inside_full}
use Rattle.sj_path_text.proofs.Lexing.{Lexes, token_lexes}

-- ---- how a byte is printed

choose : (Q : List ℕ → Type 0) (x : Bool) (y z : List ℕ) → (x ≡ true → Q y) → (x ≡ false → Q z) → Q (cond x y z)
choose Q true y z f g = f refl
choose Q false y z f g = g refl

-- the byte b is printed as these bytes: itself, a backslash and a letter, or by its number
pub data Printed (b : ℕ) : List ℕ → Type 0 where
  itself : is_plain b ≡ true → Printed b (b ∷ [])
  letter : {c : ℕ} → letter_char c ≡ Some b → c < 128 → b < 128 → Printed b (92 ∷ c ∷ [])
  number : b < 32 → Printed b (codes "\\u00" ++ digit_char (b / 16) ∷ digit_char (b % 16) ∷ [])

by_letter : (b c v : ℕ) → (b == v) ≡ true → letter_char c ≡ Some v → c < 128 → v < 128 → Printed b (92 ∷ c ∷ [])
by_letter b c v e is low small = let same = eqb-true b v e in letter {c = c} (is ∙ ap Some (sym same)) low (omega arith)

stands : (p q r : Bool) → p ≡ false → q ≡ false → r ≡ false → not (p || q || r) ≡ true
stands false false false a b c = refl
stands true q r a b c = cc
stands false true r a b c = cc
stands false false true a b c = cc

pub printed : (b : ℕ) → Printed b (printed_byte b)
printed b =
    choose (Printed b) (b == 34) _ _ (λ e. by_letter b 34 34 e refl (omega arith) (omega arith))
    (λ n. choose (Printed b) (b == 92) _ _ (λ e. by_letter b 92 92 e refl (omega arith) (omega arith))
    (λ m. choose (Printed b) (b == 8) _ _ (λ e. by_letter b 98 8 e refl (omega arith) (omega arith))
    (λ _. choose (Printed b) (b == 9) _ _ (λ e. by_letter b 116 9 e refl (omega arith) (omega arith))
    (λ _. choose (Printed b) (b == 10) _ _ (λ e. by_letter b 110 10 e refl (omega arith) (omega arith))
    (λ _. choose (Printed b) (b == 12) _ _ (λ e. by_letter b 102 12 e refl (omega arith) (omega arith))
    (λ _. choose (Printed b) (b == 13) _ _ (λ e. by_letter b 114 13 e refl (omega arith) (omega arith))
    (λ _. choose (Printed b) (nat_lt b 32) _ _ (λ e. number (ltb-true b 32 e))
    (λ l. itself (stands (b == 34) (b == 92) (nat_lt b 32) n m l)))))))))

-- ---- and how it is read

-- before the inside of a string these bytes stand for the byte b
abbrev Prints : ℕ → List ℕ → Type 0
Prints b bytes = (bs text : List ℕ) → IsInside bs text → IsInside (bytes ++ bs) (b ∷ text)

-- the digits of a control character
hex_is : (v : ℕ) → v < 16 → hex_digit (digit_char v) ≡ Some v
hex_is v h = grind (arith, nat_tests)

no_high : (b : ℕ) → b < 32 → is_high_surrogate b ≡ false
no_high b h = grind (arith, nat_tests)

no_low : (b : ℕ) → b < 32 → is_low_surrogate b ≡ false
no_low b h = grind (arith, nat_tests)

unit_is : (b : ℕ) → b < 32 → unit_of 48 48 (digit_char (b / 16)) (digit_char (b % 16)) ≡ Some b
unit_is b h = bind_is (hex_digit (digit_char (b / 16))) _ (hex_is (b / 16) (omega (arith, h))) (bind_is (hex_digit (digit_char (b % 16))) _ (hex_is (b % 16) (omega arith)) (ap Some (omega arith)))

reads : {b : ℕ} {bytes : List ℕ} → Printed b bytes → Prints b bytes
reads (itself h) = λ bs text d. s.plain h d
reads {b} (letter {c = c} is low small) = λ bs text d. subst (λ (l : List ℕ). IsInside (92 ∷ c ∷ bs) (l ++ text)) (encode_ascii b small) (s.escape (s.short is) d)
reads {b} (number h) = λ bs text d. subst (λ (l : List ℕ). IsInside (codes "\\u00" ++ digit_char (b / 16) ∷ digit_char (b % 16) ∷ bs) (l ++ text)) (encode_ascii b (omega (arith, h)))
    (s.escape (s.unit (unit_is b h) (no_high b h) (no_low b h)) d)

inside : (text : List ℕ) → IsInside (flat_map printed_byte text ++ 34 ∷ []) text
inside [] = s.end
inside (b ∷ text) = subst (λ (l : List ℕ). IsInside l (b ∷ text)) (sym (append_assoc (printed_byte b) (flat_map printed_byte text) (34 ∷ []))) (reads (printed b) _ text (inside text))

same_string : (text : List ℕ) {m n : ℕ} → m ≡ n → ◌≡◌ {A = Option (Option Token × ℕ)} (Some (Some (k.Quoted text), m)) (Some (Some (k.Quoted text), n))
same_string text q = cc

string_read : {bs text : List ℕ} → IsInside bs text → (rest : List ℕ) → string_at (bs ++ rest) ≡ Some (Some (k.Quoted text), suc (length bs))
unfolding string_at
string_read {bs} {text} d rest = bind_is _ _ (inside_full d rest (length (bs ++ rest)) (omega (arith, length-append bs rest))) (same_string text (omega arith))

pub string_lexes : (text : List ℕ) → Lexes (printed_string text) (λ ts. k.Quoted text ∷ ts)
unfolding form_from
string_lexes text = token_lexes (printed_string text) (k.Quoted text) (λ rest _. string_read (inside text) rest)
