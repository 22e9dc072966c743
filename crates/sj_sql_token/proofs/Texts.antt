-- Bytes that are a text.
use Rattle.std.proofs.Common.{◌≡◌, ℕ, zero, suc, ◌+◌, ◌<◌, ◌≤◌, Bool, true, false, cond, ◌&&◌, ◌||◌, ◌==◌, nat_le, List, [], ◌∷◌, get_or, take, Option, Some, None, refl, sym, ap, subst, ◌∙◌, arith, leb-true, leb-false, ne_eqb}
use Rattle.std.specs.List.{take_while, prefix_len}
use Rattle.std.specs.Str.{is_utf8, IsUtf8, IsAscii}
use Rattle.std.proofs.lemmas.Str.{IsUtf8-from_is_utf8, is_utf8-from_IsUtf8, IsUtf8-from_ascii}
use Rattle.std.specs.Char.{is_ascii_digit}
use Rattle.sj_base.specs.ByteClasses.{is_letter, is_word_byte}
use Rattle.sj_base.proofs.ByteClasses.{word_ascii, letter_ascii}

pub is_text : (bs : List ℕ) → IsUtf8 bs → ◌≡◌ {A = Option (List ℕ)} (Some bs) (cond (is_utf8 bs) (Some bs) None)
is_text bs u = ap (λ b. cond {A = Option (List ℕ)} b (Some bs) None) (sym (is_utf8-from_IsUtf8 bs u))

pub no_text : (bs : List ℕ) → (IsUtf8 bs → ⊥) → ◌≡◌ {A = Option (List ℕ)} None (cond (is_utf8 bs) (Some bs) None)
no_text bs u = go (is_utf8 bs) refl
  where
    go : (b : Bool) → is_utf8 bs ≡ b → ◌≡◌ {A = Option (List ℕ)} None (cond b (Some bs) None)
    go true e = absurd (u (IsUtf8-from_is_utf8 bs e))
    go false e = refl

-- ---- words

-- the bytes at the front that pass a test that no byte above 127 passes
run_ascii : (test : ℕ → Bool) → ((b : ℕ) → test b ≡ true → b < 128) → (bs : List ℕ) → IsAscii (take_while test bs)
run_ascii test ascii [] = λ i. omega arith
run_ascii test ascii (b ∷ bs) = go (test b) refl (run_ascii test ascii bs)
  where
    go : (t : Bool) → test b ≡ t → IsAscii (take_while test bs) → IsAscii (take (cond t (1 + prefix_len test bs) 0) (b ∷ bs))
    go true h more = λ i. at i
      where
        one : 1 + prefix_len test bs ≡ suc (prefix_len test bs)
        one = omega arith

        at : (i : ℕ) → get_or (take (1 + prefix_len test bs) (b ∷ bs)) i 0 < 128
        at zero = subst (λ n. get_or (take n (b ∷ bs)) 0 0 < 128) (sym one) (ascii b h)
        at (suc i) = subst (λ n. get_or (take n (b ∷ bs)) (suc i) 0 < 128) (sym one) (more i)
    go false h more = λ i. omega arith

-- a word is a text
pub word_text : (b : ℕ) (bs : List ℕ) → is_letter b ≡ true → IsUtf8 (b ∷ take_while is_word_byte bs)
word_text b bs h = IsUtf8-from_ascii (b ∷ take_while is_word_byte bs) (λ i. at i)
  where
    at : (i : ℕ) → get_or (b ∷ take_while is_word_byte bs) i 0 < 128
    at zero = letter_ascii b h
    at (suc i) = run_ascii is_word_byte word_ascii bs i
