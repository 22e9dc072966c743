-- Casts whose field has the bytes of the document.
use Rattle.std.proofs.Common.{◌≡◌, ℕ, ◌+◌, ◌-◌, ◌*◌, ◌/◌, ◌^◌, ◌<◌, ◌≤◌, true, false, List, [], ◌∷◌, ◌++◌, length, IsUtf8, Option, Some, None, IfSome, Result, Ok, Err, ℤ, pos, negsuc, refl, sym, ap, ap₂, ◌∙◌, subst, arith, le-leb, nat_le, mul_assoc, pow-add, eqb, ne_eqb, ⊎_elim}
use Rattle.std.proofs.Math.Nat.{eq_of_mul-eq-mul_right}
use Rattle.std.specs.Str.{chars}
use Rattle.std.proofs.lemmas.Bool.{and_parts, cases_eq, cond-true, cond-false}
use Rattle.std.proofs.lemmas.Bool.Decides.{nat_tests}
use Rattle.std.specs.List.{list_all}
use Rattle.sj_base.specs.declared.state.State.{State}
use Rattle.sj_base.specs.declared.state.State.TheVariants.{S22001, S22003}
use Rattle.sj_decimal.specs.Limits.{max_digits, max_scale, magnitude_limit}
use Rattle.sj_decimal.specs.Normal.{reduced, normal}
use Rattle.sj_decimal.specs.Number.{SpellsNumber, SpellsExact, is_number_byte}
use Rattle.sj_decimal.specs.Rounding.{rounded, rounded_within}
use Rattle.sj_decimal.specs.Text.{decimal_text, with_places}
use Rattle.sj_decimal.proofs.Laws.{text_spells, decimal_text_spells}
use Rattle.sj_decimal.proofs.NumberBytes.{number_bytes}
use Rattle.sj_decimal.proofs.NormalForm.{normal_same, normal-signed, exact_small}
use Rattle.sj_decimal.proofs.Powers.{power_pos, power_small}
use Rattle.sj_decimal.proofs.Reduced.{reduced_le, reduced_value}
use Rattle.sj_decimal.proofs.Roundings.{rounded_more, rounded_within_digits}
use Rattle.sj_json.specs.Tree.{Number, string, number, exact}
use Rattle.sj_doc.specs.Nodes.{spelled}
use Rattle.sj_doc.proofs.Numerals.{spelled_exact, numeral_text}
use Rattle.sj_item.specs.Bounds.{integer_low, integer_high, bigint_low, bigint_high}
use Rattle.sj_item.specs.Scalars.{number_cast, whole_cast, whole_within, text_cast}
use Rattle.sj_text.specs.Numerals.{IsDecimalText}
use Rattle.sj_value.specs.declared.types.SqlType.{SqlType}
use Rattle.sj_value.specs.declared.types.SqlType.TheVariants.{Varchar, VarcharMax, Numeric, NumericFixed, Integer, Bigint}
use Rattle.sj_value.specs.declared.value.SqlValue.TheVariants.{Text, Num}
use Rattle.sj_value.specs.Casts.{Cast, given, text_within, fixed, scalar_cast, tree_cast}
use Rattle.sj_value.specs.Types.{AreDigits}
use Rattle.sj_value.proofs.Counts.{length-chars-le}
use Rattle.sj_rows.specs.RowText.{escaped, stands, number_field}
use Rattle.sj_rows.specs.Numerals.{HasDigits, IsTextOf, GivesField}
use Rattle.sj_rows.proofs.Escapes.{stands_alone}

-- ---- strings

pub string_as_it_stands : (s : List ℕ) → tree_cast (string s) Varchar ≡ Ok (Text s)
unfolding tree_cast scalar_cast text_cast
string_as_it_stands s = refl

-- a text of few bytes has few characters
text_fits : (n : ℕ) (s : List ℕ) → IsUtf8 s → length s ≤ n → text_within n s ≡ Ok (Text s)
text_fits n s text few =
    let fewer : length (chars s) ≤ length s = length-chars-le s text in
    cond-true (nat_le (length (chars s)) n) (Ok (Text s)) (Err S22001) (le-leb (length (chars s)) n (omega (arith, fewer, few)))

pub string_within : (n : ℕ) (s : List ℕ) → IsUtf8 s → length s ≤ n → tree_cast (string s) (VarcharMax n) ≡ Ok (Text s)
unfolding tree_cast scalar_cast text_cast
string_within n s text few = text_fits n s text few

-- ---- whole numbers

-- the number that the text of a number spells
spelled_text : (digits places : ℕ) (b : List ℕ) (t : IsTextOf digits places b) → digits ≤ max_digits → places ≤ max_scale → spelled b ≡ exact (normal (pos t.number, places))
spelled_text digits places b t few short =
    let v : ℤ × ℕ = (pos t.number, places) in
    let bound : 10 ^ digits ≤ magnitude_limit = power_small digits few in
    let small : t.number < magnitude_limit = omega (arith, bound, t.small) in
    spelled_exact b (normal v) (record {
      value = v;
      spells = subst (λ (l : List ℕ). SpellsNumber l v) (sym t.text) (text_spells v (omega (arith, small)));
      exact = exact_small false t.number places small short;
      normal_form = refl;
    })

whole_stays : (n : ℕ) → normal (pos n, 0) ≡ (pos n, 0)
whole_stays n = normal_same (pos n, 0) (λ some. absurd (omega arith))

spelled_whole : (digits : ℕ) (b : List ℕ) (t : IsTextOf digits 0 b) → digits ≤ 18 → spelled b ≡ exact (pos t.number, 0)
spelled_whole digits b t few = spelled_text digits 0 b t (omega (arith, few)) (omega arith) ∙ ap exact (whole_stays t.number)

rounded_whole : (n : ℕ) → rounded 0 (pos n, 0) ≡ pos n
rounded_whole n = ap pos (omega arith)

-- a whole number in the bounds of a type
in_bounds : (low n high : ℕ) → n ≤ high → whole_within (negsuc low) (pos high) (pos n) ≡ Ok (pos n, 0)
in_bounds low n high within = cond-true (nat_le n high) (Ok (pos n, 0)) (Err S22003) (le-leb n high within)

abbrev printed : Result (ℤ × ℕ) State → Cast
printed cell = given (λ d. Ok (Num d 0)) cell

whole_integer : (n : ℕ) → n < 10 ^ 9 → tree_cast (number (exact (pos n, 0))) Integer ≡ Ok (Num (pos n, 0) 0)
unfolding tree_cast scalar_cast whole_cast number_cast
whole_integer n small =
    ap (λ (w : ℤ). printed (whole_within integer_low integer_high w)) (rounded_whole n) ∙ ap printed (in_bounds (2 ^ 31 - 1) n (2 ^ 31 - 1) (omega (arith, small)))

whole_bigint : (n : ℕ) → n < 10 ^ 18 → tree_cast (number (exact (pos n, 0))) Bigint ≡ Ok (Num (pos n, 0) 0)
unfolding tree_cast scalar_cast whole_cast number_cast
whole_bigint n small =
    ap (λ (w : ℤ). printed (whole_within bigint_low bigint_high w)) (rounded_whole n) ∙ ap printed (in_bounds (2 ^ 63 - 1) n (2 ^ 63 - 1) (omega (arith, small)))

-- a whole number is printed as it is spelled
whole_printed : (ty : SqlType) (digits : ℕ) (b : List ℕ) (t : IsTextOf digits 0 b) → digits ≤ 18 → tree_cast (number (exact (pos t.number, 0))) ty ≡ Ok (Num (pos t.number, 0) 0)
    → GivesField (tree_cast (number (spelled b)) ty) b
whole_printed ty digits b t few is =
    record {
      value = Num (pos t.number, 0) 0;
      is = ap (λ (v : Number). tree_cast (number v) ty) (spelled_whole digits b t few) ∙ is;
      printed = sym t.text;
    }

pub integer_printed : (b : List ℕ) → IsTextOf 9 0 b → GivesField (tree_cast (number (spelled b)) Integer) b
integer_printed b t = whole_printed Integer 9 b t (omega arith) (whole_integer t.number t.small)

pub bigint_printed : (b : List ℕ) → IsTextOf 18 0 b → GivesField (tree_cast (number (spelled b)) Bigint) b
bigint_printed b t = whole_printed Bigint 18 b t (omega arith) (whole_bigint t.number t.small)

-- ---- numbers in full

number_stands : (c : ℕ) → is_number_byte c ≡ true → stands c ≡ true
number_stands c h = grind (arith, nat_tests)

escaped_bytes : (b : List ℕ) → list_all is_number_byte b ≡ true → escaped b ≡ b
escaped_bytes [] h = refl
escaped_bytes (c ∷ cs) h =
    let both = and_parts (is_number_byte c) (list_all is_number_byte cs) h in
    ap₂ (λ (x y : List ℕ). x ++ y) (stands_alone c (number_stands c both.0)) (escaped_bytes cs both.1)

-- the text of a decimal spells it
spells_plain : (b : List ℕ) (h : IsDecimalText b) → SpellsExact b h.value
spells_plain b h = subst (λ (l : List ℕ). SpellsExact l h.value) h.text (decimal_text_spells h.value h.made)

spelled_plain : (b : List ℕ) (h : IsDecimalText b) (ty : SqlType) → tree_cast (number (spelled b)) ty ≡ tree_cast (number (exact h.value)) ty
spelled_plain b h ty = ap (λ (v : Number). tree_cast (number v) ty) (spelled_exact b h.value (spells_plain b h))

plain_numeric : (d : ℤ × ℕ) → tree_cast (number (exact d)) Numeric ≡ Ok (Num d 0)
unfolding tree_cast scalar_cast number_cast
plain_numeric d = refl

plain_varchar : (d : ℤ × ℕ) → tree_cast (number (exact d)) Varchar ≡ Ok (Text (decimal_text d))
unfolding tree_cast scalar_cast text_cast
plain_varchar d = refl

plain_varchar_within : (most : ℕ) (d : ℤ × ℕ) → IsUtf8 (decimal_text d) → length (decimal_text d) ≤ most → tree_cast (number (exact d)) (VarcharMax most) ≡ Ok (Text (decimal_text d))
unfolding tree_cast scalar_cast text_cast
plain_varchar_within most d text few = text_fits most (decimal_text d) text few

pub numeric_printed : (b : List ℕ) → IsDecimalText b → GivesField (tree_cast (number (spelled b)) Numeric) b
numeric_printed b h = record { value = Num h.value 0; is = spelled_plain b h Numeric ∙ plain_numeric h.value; printed = h.text }

plain_text : (ty : SqlType) (b : List ℕ) (h : IsDecimalText b) → tree_cast (number (exact h.value)) ty ≡ Ok (Text (decimal_text h.value)) → GivesField (tree_cast (number (spelled b)) ty) b
plain_text ty b h is =
    record {
      value = Text (decimal_text h.value);
      is = spelled_plain b h ty ∙ is;
      printed = ap escaped h.text ∙ escaped_bytes b (number_bytes b (spells_plain b h).value (spells_plain b h).spells);
    }

pub varchar_printed : (b : List ℕ) → IsDecimalText b → GivesField (tree_cast (number (spelled b)) Varchar) b
varchar_printed b h = plain_text Varchar b h (plain_varchar h.value)

pub varchar_within_printed : (most : ℕ) (b : List ℕ) → length b ≤ most → IsDecimalText b → GivesField (tree_cast (number (spelled b)) (VarcharMax most)) b
varchar_within_printed most b few h =
    let text : IsUtf8 b = numeral_text b ((spells_plain b h).value, (spells_plain b h).spells) in
    plain_text (VarcharMax most) b h (plain_varchar_within most h.value (subst IsUtf8 (sym h.text) text) (subst (λ (l : List ℕ). length l ≤ most) (sym h.text) few))

-- ---- numbers with decimals

-- the normal form with its zeros again
zeros_again : (n s : ℕ) → (reduced n s).0 * 10 ^ (s - (reduced n s).1) ≡ n
zeros_again n s =
    let m : ℕ = (reduced n s).0 in
    let k : ℕ = (reduced n s).1 in
    let fewer : k ≤ s = (reduced_le n s).1 in
    let parts : s - k + k ≡ s = omega (arith, fewer) in
    let split : 10 ^ (s - k) * 10 ^ k ≡ 10 ^ s = sym (pow-add 10 (s - k) k) ∙ ap (λ (e : ℕ). 10 ^ e) parts in
    eq_of_mul-eq-mul_right (10 ^ k) (power_pos k) (m * 10 ^ (s - k)) n (mul_assoc m (10 ^ (s - k)) (10 ^ k) ∙ ap (λ (e : ℕ). m * e) split ∙ reduced_value n s)

-- a number of s decimals is its own rounding
rounded_same : (p s n : ℕ) → n < 10 ^ p → rounded_within p s (normal (pos n, s)) ≡ Ok (normal (pos n, s))
rounded_same p s n few =
    let m : ℕ = (reduced n s).0 in
    let k : ℕ = (reduced n s).1 in
    let is : n ≡ (2 * (m * 10 ^ s) + 10 ^ k) / (2 * 10 ^ k) = sym (rounded_more m k s (reduced_le n s).1 ∙ zeros_again n s) in
    ap (rounded_within p s) (normal-signed false n s) ∙ rounded_within_digits false m k p s n (λ _. refl) is few

in_full : (n s : ℕ) → with_places s (normal (pos n, s)) ≡ (pos n, s)
in_full n s = ap (with_places s) (normal-signed false n s) ∙ ap (λ (c : ℕ). (pos c, s)) (zeros_again n s)

number_in_full : (n s : ℕ) → number_field (normal (pos n, s)) s ≡ decimal_text (pos n, s)
number_in_full n s =
    let d : ℤ × ℕ = normal (pos n, s) in
    ⊎_elim
    (λ none. rw none (ap decimal_text (whole_stays n)))
    (λ some. cond-false (eqb s 0) (decimal_text d) (decimal_text (with_places s d)) (ne_eqb s 0 some) ∙ ap decimal_text (in_full n s))
    (cases_eq s 0)

fixed_numeric : (p s n : ℕ) → n < 10 ^ p → tree_cast (number (exact (normal (pos n, s)))) (NumericFixed p s) ≡ Ok (Num (normal (pos n, s)) s)
unfolding tree_cast scalar_cast number_cast
fixed_numeric p s n few = ap (fixed s) (rounded_same p s n few)

pub fixed_printed : (p s : ℕ) (b : List ℕ) → AreDigits p s → IsTextOf p s b → GivesField (tree_cast (number (spelled b)) (NumericFixed p s)) b
fixed_printed p s b are t =
    record {
      value = Num (normal (pos t.number, s)) s;
      is = ap (λ (v : Number). tree_cast (number v) (NumericFixed p s)) (spelled_text p s b t are.few (omega (arith, are.few, are.decimals))) ∙ fixed_numeric p s t.number t.small;
      printed = number_in_full t.number s ∙ sym t.text;
    }

-- ---- the arms of the code

-- what is so at a type is so at the type that an arm found
pub at_type : (P : Type 0) (ty other : SqlType) (b : List ℕ) (o : Option ℕ) → IfSome o (λ point. HasDigits point b → P) → (P → GivesField (tree_cast (number (spelled b)) other) b) → ty ≡ other
    → IfSome o (λ point. HasDigits point b → GivesField (tree_cast (number (spelled b)) ty) b)
at_type P ty other b None text printed is = tt
at_type P ty other b (Some point) text printed is =
    λ are. subst (λ (t : SqlType). GivesField (tree_cast (number (spelled b)) t) b) (sym is) (printed (text are))

-- ---- numbers that a path made

pub made_fixed : (d : ℤ × ℕ) (digits places : ℕ) → tree_cast (number (exact d)) (NumericFixed digits places) ≡ fixed places (rounded_within digits places d)
unfolding tree_cast scalar_cast number_cast
made_fixed d digits places = refl
