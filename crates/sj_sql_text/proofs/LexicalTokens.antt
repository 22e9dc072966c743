-- What a file breaks into are lexical tokens.
use Rattle.std.proofs.Common.{◌≡◌, ◌≢◌, ℕ, zero, suc, ◌<◌, Bool, true, false, cond, ◌&&◌, ℤ, List, [], ◌∷◌, ◌++◌, Some, None, refl, sym, ap, subst, ◌∙◌, arith, append_assoc, IsUtf8}
use Rattle.std.specs.Bool.{⊤}
use Rattle.std.specs.List.{AllPass, AllByRecursion, list_all}
use Rattle.std.specs.Str.{is_utf8}
use Rattle.std.proofs.lemmas.Str.{IsUtf8-append, IsUtf8-from_is_utf8}
use Rattle.sj_base.specs.ByteClasses.{is_word_byte}
use Rattle.sj_decimal.specs.Exact.{is_exact}
use Rattle.sj_decimal.specs.Normal.{normal, IsDecimal}
use Rattle.sj_decimal.proofs.Exactness.{exact_is}
use Rattle.sj_decimal.proofs.NormalForm.{IsDecimal-normal}
use Rattle.sj_path_text.proofs.Utf8.{one_more}
use Rattle.sj_sql_token.specs.declared.token.Token.{Token}
use Rattle.sj_sql_token.specs.declared.token.Token.TheVariants as k
use Rattle.sj_sql_token.specs.declared.piece.Piece.{Piece}
use Rattle.sj_sql_token.specs.declared.piece.Piece.TheVariants as p
use Rattle.sj_sql_token.specs.Numbers.{exact_of, value_of}
use Rattle.sj_sql_token.specs.Tokens.{Lexed, end, fault, next, piece_at, behind_piece, lexed_behind, lexed}
use Rattle.sj_sql_token.specs.Forms as f
use Rattle.sj_sql_token.specs.Forms.{PieceForm, IsSign, IsInside, HasForm, number_form, text_form}
use Rattle.sj_sql_token.proofs.Longest.{token_longest}
use Rattle.sj_sql_grammar.specs.Phrases.{Tokens}
use Rattle.sj_sql_grammar.specs.Answers.{Ending, before, pieces}
use Rattle.sj_sql_text.proofs.Inner.{IsLexical, AreLexical}
use Rattle.sj_sql_text.proofs.QuotedTexts.{cut}

-- ---- words

letters_pass : (bs : List ℕ) → AllPass is_word_byte bs → list_all is_word_byte bs ≡ true
letters_pass [] pass = refl
letters_pass (b ∷ bs) pass =
    ap (λ (x : Bool). x && list_all is_word_byte bs) (pass 0 0 (omega arith)) ∙ letters_pass bs (λ i d l. pass (suc i) d (omega (arith, l)))

-- ---- what is between marks

inside_utf8 : {m : ℕ} {inside text : List ℕ} → m < 128 → IsInside m inside text → (front : List ℕ) → IsUtf8 (front ++ inside) → IsUtf8 (front ++ text)
inside_utf8 low f.end front u = u
inside_utf8 low (f.plain {b = b} {bs = bs} {text = text} other is) front u =
    subst (λ (l : List ℕ). IsUtf8 l) (append_assoc front (b ∷ []) text) (inside_utf8 low is (front ++ (b ∷ [])) (subst (λ (l : List ℕ). IsUtf8 l) (sym (append_assoc front (b ∷ []) bs)) u))
inside_utf8 {m} low (f.twice {bs = bs} {text = text} is) front u =
    let first = cut front m (m ∷ bs) low u in
    let second = cut [] m bs low first.1 in
    IsUtf8-append front (m ∷ text) first.0 (one_more m low (inside_utf8 low is [] second.1))

inside_some : {m : ℕ} {inside text : List ℕ} → IsInside m inside text → inside ≢ [] → text ≢ []
inside_some f.end some = some
inside_some (f.plain other is) some = λ q. cc
inside_some (f.twice is) some = λ q. cc

-- ---- forms

abbrev IsLexicalForm : PieceForm → Type 0
IsLexicalForm (f.token t) = IsLexical t
IsLexicalForm form = ⊤

sign_lexical : {bs : List ℕ} {t : Token} → IsSign bs t → IsLexical t
sign_lexical f.open_parenthesis = tt
sign_lexical f.close_parenthesis = tt
sign_lexical f.comma = tt
sign_lexical f.semicolon = tt
sign_lexical f.colon = tt
sign_lexical f.star = tt
sign_lexical f.plus = tt
sign_lexical f.minus = tt

number_lexical : (make : ℤ × ℕ → Token) → ((d : ℤ × ℕ) → IsDecimal d → IsLexical (make d)) → (v : ℤ × ℕ) → IsLexicalForm (number_form make (exact_of v))
number_lexical make is v = go (is_exact v) refl
  where
    go : (x : Bool) → is_exact v ≡ x → IsLexicalForm (number_form make (cond x (Some (normal v)) None))
    go true e = is (normal v) (IsDecimal-normal v (exact_is v e))
    go false e = tt

text_lexical : (inside : List ℕ) (t : Token) → (IsUtf8 inside → IsLexical t) → IsLexicalForm (text_form inside (f.token t))
text_lexical inside t is = go (is_utf8 inside) refl
  where
    go : (x : Bool) → is_utf8 inside ≡ x → IsLexicalForm (cond x (f.token t) f.broken)
    go true e = is (IsUtf8-from_is_utf8 inside e)
    go false e = tt

comment_lexical : (text : List ℕ) → IsLexicalForm (text_form text f.passed)
comment_lexical text = go (is_utf8 text)
  where
    go : (x : Bool) → IsLexicalForm (cond x f.passed f.broken)
    go true = tt
    go false = tt

form_lexical : {bs : List ℕ} {form : PieceForm} → HasForm bs form → IsLexicalForm form
form_lexical (f.sign s) = sign_lexical s
form_lexical (f.word {b = b} {bs = bs} letter pass) = ap (λ (x : Bool). x && list_all is_word_byte bs) letter ∙ letters_pass bs pass
form_lexical (f.whole {digits = digits} d) = number_lexical k.Whole (λ v is. is) (value_of digits [])
form_lexical (f.fraction digits behind d e) = number_lexical k.Fraction (λ v is. is) (value_of digits behind)
form_lexical (f.string {inside = inside} {text = text} is) = text_lexical inside (k.String text) (inside_utf8 (omega arith) is [])
form_lexical (f.name {inside = inside} {text = text} some is) = text_lexical inside (k.Quoted text) (λ u. (inside_some is some, inside_utf8 (omega arith) is [] u))
form_lexical f.empty_name = tt
form_lexical (f.open_string is) = tt
form_lexical (f.open_name is) = tt
form_lexical (f.blank h) = tt
form_lexical (f.comment {text = text} none) = comment_lexical text

-- ---- files

abbrev AllLexical : Lexed → Type 0
AllLexical end = ⊤
AllLexical fault = ⊤
AllLexical (next t more) = IsLexical t × AllLexical more

piece_lexical : (b : ℕ) (bs : List ℕ) (piece : Piece) (more : ℕ → Lexed) → piece_at b bs ≡ piece → ((n : ℕ) → AllLexical (more n)) → AllLexical (behind_piece piece more)
piece_lexical b bs (p.Token t n) more is lexical = (form_lexical (token_longest b bs t n is).fits, lexical n)
piece_lexical b bs (p.Passed n) more is lexical = lexical n
piece_lexical b bs p.Broken more is lexical = tt

behind_lexical : (n : ℕ) (bs : List ℕ) → AllLexical (lexed_behind n bs)
unfolding lexed_behind
behind_lexical n [] = tt
behind_lexical (suc n) (b ∷ bs) = behind_lexical n bs
behind_lexical zero (b ∷ bs) = piece_lexical b bs (piece_at b bs) (λ n. lexed_behind n bs) refl (λ n. behind_lexical n bs)

file_lexical : (file : List ℕ) → AllLexical (lexed file)
unfolding lexed
file_lexical file = behind_lexical 0 file

-- ---- statements

abbrev pub StatementsLexical : List Tokens → Type 0
StatementsLexical tss = AllByRecursion AreLexical tss

before_lexical : (t : Token) (tss : List Tokens) (e : Ending) → IsLexical t → StatementsLexical tss → StatementsLexical (before t tss e).statements
before_lexical k.Semicolon tss e is all = (tt, all)
before_lexical t [] e is all = tt
before_lexical t (ts ∷ tss) e is all = ((is, all.0), all.1)

pieces_lexical : (l : Lexed) → AllLexical l → StatementsLexical (pieces l).statements
pieces_lexical end is = tt
pieces_lexical fault is = tt
pieces_lexical (next t more) is = before_lexical t (pieces more).statements (pieces more).ending is.0 (pieces_lexical more is.1)

-- the tokens of each statement of a file
pub lexical : (file : List ℕ) → StatementsLexical (pieces (lexed file)).statements
lexical file = pieces_lexical (lexed file) (file_lexical file)
