-- The text of printable pieces breaks into the tokens that they stand for.
use Rattle.std.proofs.Common.{◌≡◌, ℕ, Bool, true, false, cond, ◌||◌, List, [], ◌∷◌, ◌++◌, codes, refl, sym, ap, ◌∙◌, append_assoc}
use Rattle.std.specs.List.{AllByRecursion}
use Rattle.sj_decimal.specs.Signed.{is_negative}
use Rattle.sj_sql_token.specs.declared.token.Token.TheVariants as k
use Rattle.sj_sql_token.specs.Tokens.{Lexed, piece_at, lexed}
use Rattle.sj_sql_grammar.specs.Phrases.{Tokens, negated}
use Rattle.sj_sql_text.specs.Pieces.{Piece, Word, Call, Name, String, Number, Count, Open, Close, Comma, Star, Semicolon, Pieces, piece_text, opens, leans, gap, text_behind}
use Rattle.sj_sql_text.specs.Tokens.{unsigned, piece_on, tokens_of}
use Rattle.sj_sql_text.specs.Printable.{IsPrintable, starts_apart, followed_by}
use Rattle.sj_sql_text.proofs.Lexes.{stops, blank_stops, MayFollow, Reads, blank_passed, both, sign, open_parenthesis, word_reads}
use Rattle.sj_sql_text.proofs.QuotedTexts.{string_reads, name_reads}
use Rattle.sj_sql_text.proofs.NumberTexts.{count_reads, number_reads}

piece_reads : (p : Piece) → IsPrintable p → Reads (opens p) (piece_text p) (followed_by (piece_on p []))
unfolding piece_at
piece_reads (Word text) h = word_reads text h
piece_reads (Call name) h = both (word_reads name h) open_parenthesis (λ rest any. stops 40 refl refl refl refl)
piece_reads (Name text) h = name_reads text h.0 h.1
piece_reads (String text) h = string_reads text h
piece_reads (Number d) h = number_reads d h
piece_reads (Count n) h = count_reads n h
piece_reads Open h = open_parenthesis
piece_reads Close h = sign false 41 k.Close (λ rest. refl)
piece_reads Comma h = sign false 44 k.Comma (λ rest. refl)
piece_reads Star h = sign false 42 k.Star (λ rest. refl)
piece_reads Semicolon h = sign false 59 k.Semicolon (λ rest. refl)

-- the tokens of a piece stand before the others
pub tokens_behind : (p : Piece) (ts : Tokens) (rest : Lexed) → followed_by (piece_on p ts) rest ≡ followed_by (piece_on p []) (followed_by ts rest)
tokens_behind (Number d) ts rest = go (is_negative d.0)
  where
    go : (x : Bool) → followed_by (cond x (k.Minus ∷ unsigned (negated d) ∷ ts) (unsigned d ∷ ts)) rest ≡ followed_by (cond x (k.Minus ∷ unsigned (negated d) ∷ []) (unsigned d ∷ [])) (followed_by ts rest)
    go true = refl
    go false = refl
tokens_behind p ts rest = refl

gap_passed : (none : Bool) (rest : List ℕ) → lexed (cond none [] (codes " ") ++ rest) ≡ lexed rest
gap_passed true rest = refl
gap_passed false rest = blank_passed rest

-- ---- what follows a piece may follow it

end_follows : (rest : List ℕ) → starts_apart rest ≡ true → MayFollow false rest
end_follows [] apart = tt
end_follows (b ∷ bs) apart = blank_stops b apart

piece_follows : (p : Piece) (behind rest : List ℕ) → MayFollow false (((gap false p ++ piece_text p) ++ behind) ++ rest)
piece_follows Close behind rest = stops 41 refl refl refl refl
piece_follows Comma behind rest = stops 44 refl refl refl refl
piece_follows Semicolon behind rest = stops 59 refl refl refl refl
piece_follows p behind rest = stops 32 refl refl refl refl

follows : (fresh : Bool) (ps : Pieces) (rest : List ℕ) → starts_apart rest ≡ true → MayFollow fresh (text_behind fresh ps ++ rest)
follows true ps rest apart = tt
follows false [] rest apart = end_follows rest apart
follows false (p ∷ ps) rest apart = piece_follows p (text_behind (opens p) ps) rest

pub text_breaks : (fresh : Bool) (ps : Pieces) (rest : List ℕ) → AllByRecursion IsPrintable ps → starts_apart rest ≡ true
    → lexed (text_behind fresh ps ++ rest) ≡ followed_by (tokens_of ps) (lexed rest)
text_breaks fresh [] rest printable apart = refl
text_breaks fresh (p ∷ ps) rest printable apart =
    let behind : List ℕ = text_behind (opens p) ps ++ rest in
    ap lexed (append_assoc (gap fresh p ++ piece_text p) (text_behind (opens p) ps) rest ∙ append_assoc (gap fresh p) (piece_text p) behind)
    ∙ gap_passed (fresh || leans p) (piece_text p ++ behind)
    ∙ (piece_reads p printable.0).reads behind (follows (opens p) ps rest apart)
    ∙ ap (followed_by (piece_on p [])) (text_breaks (opens p) ps rest printable.1 apart)
    ∙ sym (tokens_behind p (tokens_of ps) (lexed rest))
