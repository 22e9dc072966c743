-- How a text breaks into tokens, piece by piece.
use Rattle.std.proofs.Common.{◌≡◌, ℕ, suc, Bool, true, false, not, ◌&&◌, ◌||◌, ◌==◌, List, [], ◌∷◌, ◌++◌, length, Option, Some, refl, sym, ap, subst, ◌∙◌, arith, append_assoc, take_at, drop_at}
use Rattle.std.specs.List.{prefix_len, list_all}
use Rattle.std.specs.Char.{is_ascii_digit}
use Rattle.sj_base.specs.ByteClasses.{is_letter, is_word_byte, next_is_digit}
use Rattle.sj_path_token.specs.declared.token.Token.{Token}
use Rattle.sj_path_token.specs.declared.token.Token.TheVariants as k
use Rattle.sj_path_token.specs.Words as w
use Rattle.sj_path_token.specs.Words.{AllPass, IsWord, keyword_of}
use Rattle.sj_path_token.specs.Tokens as t
use Rattle.sj_path_token.specs.Tokens.{BeginsWith, HasTokens}
use Rattle.sj_path_token.specs.Reading.{next_is_letter, form_from, form_at, word_at, dollar_at}
use Rattle.sj_path_token.proofs.Runs.{run_longer, run_ends}
use Rattle.sj_path_token.proofs.Cuts.{cond_on, cond_off}
use Rattle.sj_path_token.proofs.Texts.{begins}
use Rattle.sj_path_grammar.specs.Grammar.{Tokens}
use Rattle.sj_path_text.specs.Tokens.{word}

-- What may follow an expression: no byte of a word, and no point that decimals follow.
abbrev pub stops : List ℕ → Bool
stops [] = true
stops (b ∷ bs) = not (is_word_byte b || (b == 46 && next_is_digit bs))

-- before what may follow an expression, the text is the tokens that are put before the others
pub record Lexes (text : List ℕ) (on : Tokens → Tokens) : Type 0 where
  pub lexes : (rest : List ℕ) (ts : Tokens) → stops rest ≡ true → HasTokens rest ts → HasTokens (text ++ rest) (on ts)

pub nothing : Lexes [] (λ ts. ts)
nothing = record { lexes = λ rest ts s d. d }

-- one text and then another, which begins with what may follow an expression
pub then : {a b : List ℕ} {f g : Tokens → Tokens} → Lexes a f → Lexes b g → ((rest : List ℕ) → stops rest ≡ true → stops (b ++ rest) ≡ true) → Lexes (a ++ b) (λ ts. f (g ts))
then {a} {b} {f} {g} x y stop = record {
  lexes = λ rest ts s d. subst (λ (text : List ℕ). HasTokens text (f (g ts))) (sym (append_assoc a b rest)) (x.lexes (b ++ rest) (g ts) (stop rest s) (y.lexes rest ts s d));
}

pub blank_before : {text : List ℕ} {f : Tokens → Tokens} → Lexes text f → Lexes (32 ∷ text) f
blank_before x = record { lexes = λ rest ts s d. t.blank refl (x.lexes rest ts s d) }

-- a sign of one byte, or of two
pub sign_before : (b : ℕ) (u : Token) {text : List ℕ} {f : Tokens → Tokens} → ((rest : List ℕ) → form_at (b ∷ (text ++ rest)) ≡ Some (Some u, 1)) → Lexes text f → Lexes (b ∷ text) (λ ts. u ∷ f ts)
sign_before b u {text} is x = record { lexes = λ rest ts s d. t.token (begins (b ∷ (text ++ rest)) (Some u) 1 (is rest)) (x.lexes rest ts s d) }

pub signs_before : (b c : ℕ) (u : Token) {text : List ℕ} {f : Tokens → Tokens} → ((rest : List ℕ) → form_at (b ∷ c ∷ (text ++ rest)) ≡ Some (Some u, 2)) → Lexes text f → Lexes (b ∷ c ∷ text) (λ ts. u ∷ f ts)
signs_before b c u {text} is x = record { lexes = λ rest ts s d. t.token (begins (b ∷ c ∷ (text ++ rest)) (Some u) 2 (is rest)) (x.lexes rest ts s d) }

-- a token that is read whole before what may follow an expression
pub token_lexes : (front : List ℕ) (u : Token) → ((rest : List ℕ) → stops rest ≡ true → form_at (front ++ rest) ≡ Some (Some u, length front)) → Lexes front (λ ts. u ∷ ts)
token_lexes front u is = record {
  lexes = λ rest ts s d. t.token (subst (λ (l : List ℕ). BeginsWith (front ++ rest) (Some u) l) (drop_at front rest (length front) refl) (begins (front ++ rest) (Some u) (length front) (is rest s))) d;
}

-- ---- what may follow

or_left : (a b : Bool) → not (a || b) ≡ true → a ≡ false
or_left true b h = cc
or_left false b h = refl

or_right : (a b : Bool) → not (a || b) ≡ true → b ≡ false
or_right true b h = cc
or_right false true h = cc
or_right false false h = refl

pub no_word : (b : ℕ) (bs : List ℕ) → stops (b ∷ bs) ≡ true → is_word_byte b ≡ false
no_word b bs s = or_left (is_word_byte b) (b == 46 && next_is_digit bs) s

pub no_decimals : (b : ℕ) (bs : List ℕ) → stops (b ∷ bs) ≡ true → (b == 46 && next_is_digit bs) ≡ false
no_decimals b bs s = or_right (is_word_byte b) (b == 46 && next_is_digit bs) s

word_run_ends : (rest : List ℕ) → stops rest ≡ true → prefix_len is_word_byte rest ≡ 0
word_run_ends [] s = refl
word_run_ends (b ∷ bs) s = run_ends is_word_byte b bs (no_word b bs s)

either_false : (a b : Bool) → a || b ≡ false → a ≡ false
either_false true b h = cc
either_false false b h = refl

no_letter : (rest : List ℕ) → stops rest ≡ true → next_is_letter rest ≡ false
no_letter [] s = refl
no_letter (b ∷ bs) s = either_false (is_letter b) _ (no_word b bs s)

-- ---- words and variables

letter_first : (b : ℕ) → is_letter b ≡ true → is_word_byte b ≡ true
letter_first b h = ap (λ x. x || is_ascii_digit b) h

word_passes : {text : List ℕ} → IsWord text → AllPass is_word_byte text
word_passes (w.word {b = b} h p) = w.more {b = b} (letter_first b h) p

run_is : {text : List ℕ} → IsWord text → (rest : List ℕ) → stops rest ≡ true → prefix_len is_word_byte (text ++ rest) ≡ length text
run_is {text} d rest s = let e = run_longer (word_passes d) rest in let f = word_run_ends rest s in omega (arith, e, f)

word_read : {text : List ℕ} → IsWord text → (rest : List ℕ) → form_at (text ++ rest) ≡ word_at (text ++ rest)
unfolding form_from
word_read (w.word {b = b} {bs = bs} h p) rest = cond_on (is_letter b) _ _ h refl

same_word : {a b : List ℕ} {m n : ℕ} → a ≡ b → m ≡ n → ◌≡◌ {A = Option (Option Token × ℕ)} (Some (Some (k.Word (keyword_of a) a), m)) (Some (Some (k.Word (keyword_of b) b), n))
same_word p q = cc

whole_word : (text rest : List ℕ) → prefix_len is_word_byte (text ++ rest) ≡ length text → word_at (text ++ rest) ≡ Some (Some (word text), length text)
unfolding word_at
whole_word text rest n = same_word (take_at text rest (prefix_len is_word_byte (text ++ rest)) (sym n)) n

pub word_lexes : (text : List ℕ) → IsWord text → Lexes text (λ ts. word text ∷ ts)
word_lexes text d = token_lexes text (word text) (λ rest s. word_read d rest ∙ whole_word text rest (run_is d rest s))

all_pass : (test : ℕ → Bool) (bs : List ℕ) → list_all test bs ≡ true → AllPass test bs
all_pass test [] h = w.none
all_pass test (b ∷ bs) h = go (test b) refl h (all_pass test bs)
  where
    go : (x : Bool) → test b ≡ x → (x && list_all test bs) ≡ true → (list_all test bs ≡ true → AllPass test bs) → AllPass test (b ∷ bs)
    go true e h more = w.more e (more h)
    go false e h more = absurd cc

-- a word that is written out
abbrev pub is_word : List ℕ → Bool
is_word [] = false
is_word (b ∷ bs) = is_letter b && list_all is_word_byte bs

pub word_is : (text : List ℕ) → is_word text ≡ true → IsWord text
word_is [] h = absurd cc
word_is (b ∷ bs) h = go (is_letter b) refl h
  where
    go : (x : Bool) → is_letter b ≡ x → (x && list_all is_word_byte bs) ≡ true → IsWord (b ∷ bs)
    go true e h = w.word e (all_pass is_word_byte bs h)
    go false e h = absurd cc

pub keyword_lexes : (text : List ℕ) → is_word text ≡ true → Lexes text (λ ts. word text ∷ ts)
keyword_lexes text h = word_lexes text (word_is text h)

pub root_lexes : Lexes (36 ∷ []) (λ ts. k.Root ∷ ts)
unfolding form_from dollar_at
root_lexes = token_lexes (36 ∷ []) k.Root (λ rest s. cond_off (next_is_letter rest) _ _ (no_letter rest s) refl)

same_variable : {a b : List ℕ} {m n : ℕ} → a ≡ b → m ≡ n → ◌≡◌ {A = Option (Option Token × ℕ)} (Some (Some (k.Variable a), m)) (Some (Some (k.Variable b), n))
same_variable p q = cc

variable_read : {name : List ℕ} → IsWord name → (rest : List ℕ) → stops rest ≡ true → dollar_at (name ++ rest) ≡ Some (Some (k.Variable name), suc (length name))
unfolding dollar_at
variable_read (w.word {b = b} {bs = bs} h p) rest s =
    let n = run_is (w.word {b = b} {bs = bs} h p) rest s in
    cond_on (is_letter b) _ _ h (same_variable (take_at (b ∷ bs) rest (prefix_len is_word_byte (b ∷ (bs ++ rest))) (sym n)) (omega (arith, n)))

pub variable_lexes : (name : List ℕ) → IsWord name → Lexes (36 ∷ name) (λ ts. k.Variable name ∷ ts)
unfolding form_from
variable_lexes name d = token_lexes (36 ∷ name) (k.Variable name) (λ rest s. variable_read d rest s)
