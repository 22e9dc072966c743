-- The number that a numeral spells.
use Rattle.std.proofs.Common.{◌≡◌, ◌<◌, ℕ, ℤ, List, [], ◌∷◌, true, Some, unwrap_or, refl, sym, ap, ◌∙◌, subst, arith, IsUtf8}
use Rattle.std.specs.List.{list_all}
use Rattle.std.specs.Str.{IsAscii}
use Rattle.std.proofs.lemmas.Bool.{and_parts}
use Rattle.std.proofs.lemmas.Bool.Decides.{nat_tests}
use Rattle.std.proofs.lemmas.Str.{IsUtf8-from_ascii}
use Rattle.std.proofs.lemmas.Str.Ascii.{IsAscii-nil, IsAscii-cons}
use Rattle.sj_decimal.specs.Number.{IsNumber, SpellsExact, SpellsWide, is_number_byte}
use Rattle.sj_decimal.proofs.NumberBytes.{number_bytes}
use Rattle.sj_decimal.proofs.Laws.{IsDecimal-spelled}
use Rattle.sj_json.specs.Tree.{Number, exact, wide}
use Rattle.sj_json.specs.Spelling.{SpellsNumber}
use Rattle.sj_json.specs.Printing.{IsWellMade}
use Rattle.sj_json.specs.Numbers.{number_of}
use Rattle.sj_json.proofs.Numbers.{number_sound, number_complete, number_some}
use Rattle.sj_doc.specs.Nodes.{spelled}

pub spelled_as : (b : List ℕ) (v : Number) → number_of b ≡ Some v → spelled b ≡ v
spelled_as b v e = ap (λ o. unwrap_or o (wide b)) e

pub spelled_exact : (b : List ℕ) (d : ℤ × ℕ) → SpellsExact b d → spelled b ≡ exact d
spelled_exact b d h = spelled_as b (exact d) (number_complete (exact d) b h)

pub spelled_wide : (b : List ℕ) → SpellsWide b → spelled b ≡ wide b
spelled_wide b h = spelled_as b (wide b) (number_complete (wide b) b (h, refl))

made : (v : Number) (b : List ℕ) → SpellsNumber v b → IsWellMade v
made (exact d) b h = IsDecimal-spelled b d h
made (wide s) b h = subst SpellsWide h.1 h.0

pub spelled_made : (b : List ℕ) → IsNumber b → IsWellMade (spelled b)
spelled_made b h =
    let some = number_some b h in
    subst IsWellMade (sym (spelled_as b some.0 some.1)) (made some.0 b (number_sound b some.0 some.1))

pub number_spelled : (b : List ℕ) → IsNumber b → number_of b ≡ Some (spelled b)
number_spelled b h =
    let some = number_some b h in
    some.1 ∙ ap Some (sym (spelled_as b some.0 some.1))

-- ---- it is text

number_byte_ascii : (k : ℕ) → is_number_byte k ≡ true → k < 128
number_byte_ascii k h = grind (arith, nat_tests)

bytes_ascii : (b : List ℕ) → list_all is_number_byte b ≡ true → IsAscii b
bytes_ascii [] h = IsAscii-nil
bytes_ascii (c ∷ cs) h =
    let both = and_parts (is_number_byte c) (list_all is_number_byte cs) h in
    IsAscii-cons c cs (number_byte_ascii c both.0) (bytes_ascii cs both.1)

pub numeral_text : (b : List ℕ) → IsNumber b → IsUtf8 b
numeral_text b h = IsUtf8-from_ascii b (bytes_ascii b (number_bytes b h.0 h.1))
