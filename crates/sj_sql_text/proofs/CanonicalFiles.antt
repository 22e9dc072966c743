-- A canonical text breaks into the tokens of its statements, each of which a semicolon ends.
use Rattle.std.proofs.Common.{◌≡◌, ℕ, Bool, true, false, cond, ◌==◌, List, [], ◌∷◌, ◌++◌, map, ℤ, refl, sym, ap, subst, ◌∙◌, append_assoc, append-nil}
use Rattle.std.specs.Bool.{⊤}
use Rattle.std.specs.List.{AllByRecursion}
use Rattle.sj_decimal.specs.Signed.{is_negative}
use Rattle.sj_path_tree.specs.Tree.{Path}
use Rattle.sj_sql_token.specs.declared.token.Token.{Token}
use Rattle.sj_sql_token.specs.declared.token.Token.TheVariants as k
use Rattle.sj_sql_token.specs.Tokens.{Lexed, end, next, piece_at, lexed_behind, lexed}
use Rattle.sj_sql_grammar.specs.Tree.{Statement}
use Rattle.sj_sql_grammar.specs.Phrases.{Tokens, negated}
use Rattle.sj_sql_grammar.specs.Answers.{closed, Pieces as FilePieces, before, pieces}
use Rattle.sj_sql_text.specs.Pieces.{Piece, Word, Call, Name, String, Number, Count, Open, Close, Comma, Star, Semicolon, Pieces}
use Rattle.sj_sql_text.specs.Statements.{body_on, statement_on, statement_text, lines_text}
use Rattle.sj_sql_text.specs.Tokens.{unsigned, piece_on, tokens_of}
use Rattle.sj_sql_text.specs.Printable.{IsPrintable, starts_apart, followed_by}
use Rattle.sj_sql_text.proofs.Inner.{IsInner, AreInner}
use Rattle.sj_sql_text.proofs.Breaking.{tokens_behind, text_breaks}
use Rattle.sj_sql_text.proofs.FollowedPieces.{body_puts}

-- ---- inner pieces are printable

is_printable : (p : Piece) → IsInner p → IsPrintable p
is_printable Semicolon h = absurd h
is_printable p h = h

ended_printable : (ps : Pieces) → AreInner ps → AllByRecursion IsPrintable (ps ++ Semicolon ∷ [])
ended_printable [] h = (tt, tt)
ended_printable (p ∷ ps) h = (is_printable p h.0, ended_printable ps h.1)

pub statement_ends : (s : Statement Path) → statement_on s [] ≡ body_on s [] ++ Semicolon ∷ []
statement_ends s = (body_puts s).puts (Semicolon ∷ [])

pub statement_printable : (s : Statement Path) → AreInner (body_on s []) → AllByRecursion IsPrintable (statement_on s [])
statement_printable s h = subst (AllByRecursion IsPrintable) (sym (statement_ends s)) (ended_printable (body_on s []) h)

-- ---- no semicolon is among their tokens

abbrev GoesOn : Token → Type 0
GoesOn k.Semicolon = ⊥
GoesOn t = ⊤

abbrev GoOn : Tokens → Type 0
GoOn [] = ⊤
GoOn (t ∷ ts) = GoesOn t × GoOn ts

unsigned_goes_on : (d : ℤ × ℕ) → GoesOn (unsigned d)
unsigned_goes_on d = go (d.1 == 0)
  where
    go : (x : Bool) → GoesOn (cond x (k.Whole d) (k.Fraction d))
    go true = tt
    go false = tt

piece_goes_on : (p : Piece) (ts : Tokens) → IsInner p → GoOn ts → GoOn (piece_on p ts)
piece_goes_on (Word text) ts h more = (tt, more)
piece_goes_on (Call name) ts h more = (tt, (tt, more))
piece_goes_on (Name text) ts h more = (tt, more)
piece_goes_on (String text) ts h more = (tt, more)
piece_goes_on (Number d) ts h more = go (is_negative d.0)
  where
    go : (x : Bool) → GoOn (cond x (k.Minus ∷ unsigned (negated d) ∷ ts) (unsigned d ∷ ts))
    go true = (tt, (unsigned_goes_on (negated d), more))
    go false = (unsigned_goes_on d, more)
piece_goes_on (Count n) ts h more = (tt, more)
piece_goes_on Open ts h more = (tt, more)
piece_goes_on Close ts h more = (tt, more)
piece_goes_on Comma ts h more = (tt, more)
piece_goes_on Star ts h more = (tt, more)
piece_goes_on Semicolon ts h more = absurd h

pieces_go_on : (ps : Pieces) → AreInner ps → GoOn (tokens_of ps)
pieces_go_on [] h = tt
pieces_go_on (p ∷ ps) h = piece_goes_on p (tokens_of ps) h.0 (pieces_go_on ps h.1)

-- ---- one statement

-- what a file has, with these tokens as its first statement
abbrev first_of_file : Tokens → FilePieces → FilePieces
first_of_file ts more = record { statements = ts ∷ more.statements; ending = more.ending }

goes_in : (t : Token) → GoesOn t → (ts : Tokens) (more : FilePieces) → before t (ts ∷ more.statements) more.ending ≡ first_of_file (t ∷ ts) more
goes_in k.Semicolon h ts more = absurd h
goes_in t h ts more = refl

one_statement : (ts : Tokens) → GoOn ts → (more : Lexed) → pieces (followed_by ts (next k.Semicolon more)) ≡ first_of_file ts (pieces more)
one_statement [] h more = refl
one_statement (t ∷ ts) h more = ap (λ (x : FilePieces). before t x.statements x.ending) (one_statement ts h.1 more) ∙ goes_in t h.0 ts (pieces more)

joined : (ps qs : Pieces) (rest : Lexed) → followed_by (tokens_of (ps ++ qs)) rest ≡ followed_by (tokens_of ps) (followed_by (tokens_of qs) rest)
joined [] qs rest = refl
joined (p ∷ ps) qs rest =
    tokens_behind p (tokens_of (ps ++ qs)) rest ∙ ap (followed_by (piece_on p [])) (joined ps qs rest) ∙ sym (tokens_behind p (tokens_of ps) (followed_by (tokens_of qs) rest))

statement_breaks : (s : Statement Path) → AreInner (body_on s []) → (rest : List ℕ) → starts_apart rest ≡ true
    → lexed (statement_text s ++ rest) ≡ followed_by (tokens_of (body_on s [])) (next k.Semicolon (lexed rest))
statement_breaks s inner rest apart =
    text_breaks true (statement_on s []) rest (statement_printable s inner) apart
    ∙ ap (λ (ps : Pieces). followed_by (tokens_of ps) (lexed rest)) (statement_ends s)
    ∙ joined (body_on s []) (Semicolon ∷ []) (lexed rest)

before_rest : (s : Statement Path) → AreInner (body_on s []) → (rest : List ℕ) → starts_apart rest ≡ true
    → pieces (lexed (statement_text s ++ rest)) ≡ first_of_file (tokens_of (body_on s [])) (pieces (lexed rest))
before_rest s inner rest apart =
    ap pieces (statement_breaks s inner rest apart) ∙ one_statement (tokens_of (body_on s [])) (pieces_go_on (body_on s []) inner) (lexed rest)

-- ---- files

-- these statements, and nothing behind the last semicolon
abbrev pub canonical_pieces : List (Statement Path) → FilePieces
canonical_pieces ss = record { statements = map (λ s. tokens_of (body_on s [])) ss; ending = closed }

nothing : lexed [] ≡ end
unfolding lexed lexed_behind
nothing = refl

line_end_passed : (rest : List ℕ) → lexed (10 ∷ rest) ≡ lexed rest
unfolding piece_at lexed_behind lexed
line_end_passed rest = refl

pub statement_pieces : (s : Statement Path) → AreInner (body_on s []) → pieces (lexed (statement_text s)) ≡ canonical_pieces (s ∷ [])
statement_pieces s inner =
    ap (λ (text : List ℕ). pieces (lexed text)) (sym (append-nil (statement_text s)))
    ∙ before_rest s inner [] refl
    ∙ ap (λ (l : Lexed). first_of_file (tokens_of (body_on s [])) (pieces l)) nothing

pub lines_pieces : (ss : List (Statement Path)) → AllByRecursion (λ s. AreInner (body_on s [])) ss → pieces (lexed (lines_text ss)) ≡ canonical_pieces ss
lines_pieces [] inner = ap pieces nothing
lines_pieces (s ∷ ss) inner =
    ap (λ (text : List ℕ). pieces (lexed text)) (append_assoc (statement_text s) (10 ∷ []) (lines_text ss))
    ∙ before_rest s inner.0 (10 ∷ lines_text ss) refl
    ∙ ap (λ (l : Lexed). first_of_file (tokens_of (body_on s [])) (pieces l)) (line_end_passed (lines_text ss))
    ∙ ap (first_of_file (tokens_of (body_on s []))) (lines_pieces ss inner.1)
