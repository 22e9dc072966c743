-- What stands at the front of a file.
use Rattle.std.proofs.Common.{◌≡◌, ℕ, zero, suc, ◌+◌, ◌-◌, ◌<◌, ◌≤◌, Bool, true, false, cond, List, [], ◌∷◌, length, take, drop, Option, Some, None, refl, sym, ap, ◌∙◌, arith, length-drop}
use Rattle.std.specs.List.{take_while, prefix_len}
use Rattle.std.specs.Str.{is_utf8}
use Rattle.std.proofs.lemmas.Str.{is_utf8-from_IsUtf8}
use Rattle.sj_base.specs.ByteClasses.{is_letter, is_word_byte}
use Rattle.sj_sql_token.specs.declared.token.Token.{Token}
use Rattle.sj_sql_token.specs.declared.token.Token.TheVariants as k
use Rattle.sj_sql_token.specs.declared.piece.Piece.{Piece}
use Rattle.sj_sql_token.specs.declared.piece.Piece.TheVariants as p
use Rattle.sj_sql_token.specs.Quotes.{undoubled, inside_len}
use Rattle.sj_sql_token.specs.Tokens.{end, fault, next, behind_piece, piece_at, lexed_behind, lexed, string_piece, string_end, name_piece, name_end}
use Rattle.sj_sql_token.proofs.Texts.{word_text}
use Rattle.sj_sql_token.proofs.Quotes.{slice_from}

-- ---- words, strings and names

pub word_is_text : (b n : ℕ) (bs bytes : List ℕ) → is_letter b ≡ true → bytes ≡ b ∷ bs → n ≡ prefix_len is_word_byte bs
    → ◌≡◌ {A = Option (List ℕ)} None (cond (is_utf8 (take (n + 1) bytes)) (Some (take (n + 1) bytes)) None) → ⊥
word_is_text b n bs bytes letter split len none =
    let one : n + 1 ≡ suc n = omega arith in
    let word : take (n + 1) bytes ≡ b ∷ take_while is_word_byte bs = ap (take (n + 1)) split ∙ ap (λ m. take m (b ∷ bs)) one ∙ ap (λ m. b ∷ take m bs) len in
    let text : is_utf8 (take (n + 1) bytes) ≡ true = ap is_utf8 word ∙ is_utf8-from_IsUtf8 (b ∷ take_while is_word_byte bs) (word_text b bs letter) in
    apart (none ∙ ap (λ t. cond {A = Option (List ℕ)} t (Some (take (n + 1) bytes)) None) text)
  where
    apart : {x : List ℕ} → None ≡ Some x → ⊥
    apart q = cc

-- bytes that were found to be a text
found : (bs inside : List ℕ) → ◌≡◌ {A = Option (List ℕ)} (Some inside) (cond (is_utf8 bs) (Some bs) None) → (is_utf8 bs ≡ true) × (inside ≡ bs)
found bs inside e = go (is_utf8 bs) refl e
  where
    some_is : {a b : List ℕ} → Some a ≡ Some b → a ≡ b
    some_is q = cc

    go : (t : Bool) → is_utf8 bs ≡ t → ◌≡◌ {A = Option (List ℕ)} (Some inside) (cond t (Some bs) None) → (is_utf8 bs ≡ true) × (inside ≡ bs)
    go true h q = (h, some_is q)
    go false h q = absurd cc

pub string_found : (bs inside : List ℕ) (n : ℕ) → Some n ≡ inside_len 39 bs → ◌≡◌ {A = Option (List ℕ)} (Some inside) (cond (is_utf8 (take n bs)) (Some (take n bs)) None)
    → p.Token (k.String (undoubled 39 inside)) (n + 1) ≡ string_piece bs (string_end bs)
string_found bs inside n len text =
    let f = found (take n bs) inside text in
    ap (λ x. p.Token (k.String (undoubled 39 x)) (n + 1)) f.1 ∙ sym (ap (λ t. cond t (p.Token (k.String (undoubled 39 (take n bs))) (n + 1)) p.Broken) f.0) ∙ ap (string_piece bs) len

pub name_found : (bs inside : List ℕ) (n : ℕ) → Some n ≡ inside_len 34 bs → (n ≡ 0 → ⊥) → ◌≡◌ {A = Option (List ℕ)} (Some inside) (cond (is_utf8 (take n bs)) (Some (take n bs)) None)
    → p.Token (k.Quoted (undoubled 34 inside)) (n + 1) ≡ name_piece bs (name_end bs)
name_found bs inside zero len some text = absurd (some refl)
name_found bs inside (suc n) len some text =
    let f = found (take (suc n) bs) inside text in
    ap (λ x. p.Token (k.Quoted (undoubled 34 x)) (suc n + 1)) f.1 ∙ sym (ap (λ t. cond t (p.Token (k.Quoted (undoubled 34 (take (suc n) bs))) (suc n + 1)) p.Broken) f.0) ∙ ap (name_piece bs) len

-- ---- the next piece

lexed_drop : (n : ℕ) (bs : List ℕ) → lexed_behind n bs ≡ lexed (drop n bs)
unfolding lexed_behind lexed
lexed_drop zero [] = refl
lexed_drop zero (b ∷ bs) = refl
lexed_drop (suc n) [] = refl
lexed_drop (suc n) (b ∷ bs) = lexed_drop n bs

lexed_cons : (b : ℕ) (bs : List ℕ) (x : Piece) → x ≡ piece_at b bs → lexed (b ∷ bs) ≡ behind_piece x (λ n. lexed_behind n bs)
unfolding lexed_behind lexed
lexed_cons b bs x e = ap (λ y. behind_piece y (λ n. lexed_behind n bs)) (sym e)

sliced : (n : ℕ) (bs : List ℕ) → lexed_behind n bs ≡ lexed (take (length bs - n) (drop n bs))
sliced n bs = lexed_drop n bs ∙ ap lexed (sym (slice_from bs n))

pub token_next : (file rest after : List ℕ) (b n : ℕ) (t : Token) → lexed file ≡ lexed rest → rest ≡ b ∷ after → p.Token t n ≡ piece_at b after
    → lexed file ≡ next t (lexed (take (length after - n) (drop n after)))
token_next file rest after b n t read split piece = read ∙ ap lexed split ∙ lexed_cons b after (p.Token t n) piece ∙ ap (next t) (sliced n after)

pub passed_next : (file rest after : List ℕ) (b n : ℕ) → lexed file ≡ lexed rest → rest ≡ b ∷ after → p.Passed n ≡ piece_at b after
    → lexed file ≡ lexed (take (length after - n) (drop n after))
passed_next file rest after b n read split piece = read ∙ ap lexed split ∙ lexed_cons b after (p.Passed n) piece ∙ sliced n after

pub broken_next : (file rest after : List ℕ) (b : ℕ) → lexed file ≡ lexed rest → rest ≡ b ∷ after → p.Broken ≡ piece_at b after → lexed file ≡ fault
broken_next file rest after b read split piece = read ∙ ap lexed split ∙ lexed_cons b after p.Broken piece

pub end_next : (file rest : List ℕ) → lexed file ≡ lexed rest → length rest ≡ 0 → lexed file ≡ end
unfolding lexed_behind lexed
end_next file [] read none = read
end_next file (b ∷ rest) read none = absurd (omega arith)

pub shorter : (file rest after : List ℕ) (b n : ℕ) → length rest ≤ length file → rest ≡ b ∷ after → length (take (length after - n) (drop n after)) < length file
shorter file rest after b n within split = omega (arith, within, ap length split, ap length (slice_from after n), length-drop n after)
