-- What stands at the front of a text is one token, where what follows it is no part of it.
use Rattle.std.proofs.Common.{◌≡◌, ℕ, ◌<◌, Bool, true, false, ◌&&◌, ◌==◌, List, [], ◌∷◌, ◌++◌, length, take, codes, refl, sym, ap, ◌∙◌, arith, append_assoc, take_at}
use Rattle.std.specs.List.{prefix_len}
use Rattle.std.specs.Char.{is_ascii_digit}
use Rattle.std.proofs.lemmas.Bool.{agree_below, agree_below_at, or_parts, or_right}
use Rattle.sj_base.specs.ByteClasses.{is_blank, is_letter, is_word_byte, next_is, next_is_digit}
use Rattle.sj_base.proofs.ByteClasses.{word_ascii, letter_ascii}
use Rattle.sj_path_token.specs.Words as w
use Rattle.sj_path_token.specs.Words.{AllPass, IsWord}
use Rattle.sj_path_token.proofs.Boundaries.{blank_ascii}
use Rattle.sj_path_token.proofs.Cuts.{cond_on, cond_off}
use Rattle.sj_path_token.proofs.Runs.{run_ends, run_longer}
use Rattle.sj_path_text.proofs.Lexing.{word_is}
use Rattle.sj_sql_token.specs.declared.token.Token.{Token}
use Rattle.sj_sql_token.specs.declared.token.Token.TheVariants as k
use Rattle.sj_sql_token.specs.declared.piece.Piece.{Piece}
use Rattle.sj_sql_token.specs.declared.piece.Piece.TheVariants as p
use Rattle.sj_sql_token.specs.Tokens.{Lexed, next, piece_at, behind_piece, lexed_behind, lexed}
use Rattle.sj_sql_text.specs.Printable.{is_word}
use Rattle.sj_sql_text.specs.Tokens.{word_token}

-- ---- classes of bytes

-- a byte that passes the first test fails the second, where this is so for each ASCII byte
pub apart : (f g : ℕ → Bool) → agree_below (λ b. f b && g b) (λ b. false) 128 ≡ true → (b : ℕ) → b < 128 → f b ≡ true → g b ≡ false
apart f g none b low h = sym (ap (λ (x : Bool). x && g b) h) ∙ agree_below_at (λ b. f b && g b) (λ b. false) 128 b none low

letter_not_blank : (b : ℕ) → is_letter b ≡ true → is_blank b ≡ false
letter_not_blank b h = apart is_letter is_blank refl b (letter_ascii b h) h

pub digit_ascii : (b : ℕ) → is_ascii_digit b ≡ true → b < 128
digit_ascii b h = word_ascii b (or_right (is_letter b) (is_ascii_digit b) h)

pub digit_not_blank : (b : ℕ) → is_ascii_digit b ≡ true → is_blank b ≡ false
digit_not_blank b h = apart is_ascii_digit is_blank refl b (digit_ascii b h) h

pub digit_not_letter : (b : ℕ) → is_ascii_digit b ≡ true → is_letter b ≡ false
digit_not_letter b h = apart is_ascii_digit is_letter refl b (digit_ascii b h) h

-- ---- what may follow a token

-- with this byte no word, no number and no text between quotation marks goes on
pub record Stops (b : ℕ) : Type 0 where
  pub word : is_word_byte b ≡ false
  pub name : (b == 34) ≡ false
  pub string : (b == 39) ≡ false
  pub point : (b == 46) ≡ false

pub stops : (b : ℕ) → is_word_byte b ≡ false → (b == 34) ≡ false → (b == 39) ≡ false → (b == 46) ≡ false → Stops b
stops b word name string point = record { word = word; name = name; string = string; point = point }

pub blank_stops : (b : ℕ) → is_blank b ≡ true → Stops b
blank_stops b h =
    let low : b < 128 = blank_ascii b h in
    stops b (apart is_blank is_word_byte refl b low h) (apart is_blank (λ c. c == 34) refl b low h)
    (apart is_blank (λ c. c == 39) refl b low h) (apart is_blank (λ c. c == 46) refl b low h)

-- behind an opening parenthesis anything may follow
abbrev pub MayFollow : Bool → List ℕ → Type 0
MayFollow true rest = Unit {0}
MayFollow false [] = Unit {0}
MayFollow false (b ∷ bs) = Stops b

pub no_digit : (rest : List ℕ) → MayFollow false rest → next_is_digit rest ≡ false
no_digit [] h = refl
no_digit (b ∷ bs) h = (or_parts (is_letter b) (is_ascii_digit b) h.word).1

pub no_name : (rest : List ℕ) → MayFollow false rest → next_is 34 rest ≡ false
no_name [] h = refl
no_name (b ∷ bs) h = h.name

pub no_string : (rest : List ℕ) → MayFollow false rest → next_is 39 rest ≡ false
no_string [] h = refl
no_string (b ∷ bs) h = h.string

-- before what may follow it, the text breaks into what `on` puts before the rest; the flag says that it ends in an opening parenthesis
pub record Reads (opens : Bool) (text : List ℕ) (on : Lexed → Lexed) : Type 0 where
  pub reads : (rest : List ℕ) → MayFollow opens rest → lexed (text ++ rest) ≡ on (lexed rest)

-- ---- one token

behind : (bs rest : List ℕ) → lexed_behind (length bs) (bs ++ rest) ≡ lexed rest
unfolding lexed_behind lexed
behind [] rest = refl
behind (b ∷ bs) rest = behind bs rest

pub one_token : (b : ℕ) (bs rest : List ℕ) (t : Token) (n : ℕ) → piece_at b (bs ++ rest) ≡ p.Token t n → n ≡ length bs → lexed (b ∷ (bs ++ rest)) ≡ next t (lexed rest)
unfolding lexed_behind lexed
one_token b bs rest t n is len =
    ap (λ (x : Piece). behind_piece x (λ m. lexed_behind m (bs ++ rest))) is
    ∙ ap (λ (m : ℕ). next t (lexed_behind m (bs ++ rest))) len
    ∙ ap (next t) (behind bs rest)

pub blank_passed : (rest : List ℕ) → lexed (32 ∷ rest) ≡ lexed rest
unfolding piece_at lexed_behind lexed
blank_passed rest = refl

-- one text and then another, which may follow it
pub both : {opens : Bool} {a b : List ℕ} {f g : Lexed → Lexed} → Reads false a f → Reads opens b g → ((rest : List ℕ) → MayFollow opens rest → MayFollow false (b ++ rest)) → Reads opens (a ++ b) (λ more. f (g more))
both {opens} {a} {b} {f} {g} x y may = record {
  reads = λ rest h. ap lexed (append_assoc a b rest) ∙ x.reads (b ++ rest) (may rest h) ∙ ap f (y.reads rest h);
}

-- a sign of one byte
pub sign : (opens : Bool) (b : ℕ) (t : Token) → ((rest : List ℕ) → piece_at b rest ≡ p.Token t 0) → Reads opens (b ∷ []) (next t)
sign opens b t is = record { reads = λ rest h. one_token b [] rest t 0 (is rest) refl }

pub open_parenthesis : Reads true (codes "(") (next k.Open)
unfolding piece_at
open_parenthesis = sign true 40 k.Open (λ rest. refl)

-- ---- words

word_ends : (rest : List ℕ) → MayFollow false rest → prefix_len is_word_byte rest ≡ 0
word_ends [] h = refl
word_ends (b ∷ bs) h = run_ends is_word_byte b bs h.word

word_piece : (b : ℕ) (bs rest : List ℕ) → is_letter b ≡ true → prefix_len is_word_byte (bs ++ rest) ≡ length bs → piece_at b (bs ++ rest) ≡ p.Token (word_token (b ∷ bs)) (length bs)
unfolding piece_at
word_piece b bs rest letter run =
    cond_off (is_blank b) _ _ (letter_not_blank b letter) (cond_on (is_letter b) _ _ letter
    (ap (λ (n : ℕ). p.Token (word_token (b ∷ take n (bs ++ rest))) n) run
    ∙ ap (λ (text : List ℕ). p.Token (word_token (b ∷ text)) (length bs)) (take_at bs rest (length bs) refl)))

letters_read : {text : List ℕ} → IsWord text → Reads false text (next (word_token text))
letters_read (w.word {b = b} {bs = bs} letter pass) = record {
  reads = λ rest h. one_token b bs rest (word_token (b ∷ bs)) (length bs) (word_piece b bs rest letter (run rest h)) refl;
}
  where
    run : (rest : List ℕ) → MayFollow false rest → prefix_len is_word_byte (bs ++ rest) ≡ length bs
    run rest h = let e = run_longer pass rest in let f = word_ends rest h in omega (arith, e, f)

pub word_reads : (text : List ℕ) → is_word text ≡ true → Reads false text (next (word_token text))
word_reads [] h = absurd cc
word_reads (b ∷ bs) h = letters_read (word_is (b ∷ bs) h)
