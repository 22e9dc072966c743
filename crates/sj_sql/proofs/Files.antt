-- The tokens of one statement, and one statement after another.
use Rattle.std.proofs.Common.{◌≡◌, ℕ, suc, ◌<◌, ◌≤◌, true, false, List, [], ◌∷◌, ◌++◌, length, Option, Some, None, Err, refl, sym, ap, subst, ◌∙◌, arith, append_assoc, append-nil}
use Rattle.sj_path_tree.specs.Tree.{Path}
use Rattle.sj_sql_token.specs.declared.token.Token.{Token}
use Rattle.sj_sql_token.specs.declared.token.Token.TheVariants as k
use Rattle.sj_sql_token.specs.Tokens.{Lexed, end, fault, next, lexed}
use Rattle.sj_sql_grammar.specs.declared.refusal.FileKind.{FileKind}
use Rattle.sj_sql_grammar.specs.declared.refusal.FileKind.TheVariants as kind
use Rattle.sj_sql_grammar.specs.Tree as t
use Rattle.sj_sql_grammar.specs.Phrases.{Tokens}
use Rattle.sj_sql_grammar.specs.Answers.{Ending, closed, cut_off, broken, opened, Pieces, before, pieces, Forbids, IsScript, done, unended, faulty, refused, accepted}
use Rattle.sj_sql.specs.declared.answer.Refused.{Refused}
use Rattle.sj_sql.specs.declared.answer.Refused.TheVariants.{For, Memory}
use Rattle.sj_sql.specs.declared.file.Gathered.{Gathered}
use Rattle.sj_sql.specs.File.{IsAnswered, IsGathered, IsNext, is_semicolon, EndsBy, IsLeft, IsFirst, RefusesFirst}

-- ---- the tokens of a statement

abbrev opened_if : Tokens → Ending → Ending
opened_if [] e = e
opened_if (x ∷ xs) e = opened e

-- tokens, none of them a semicolon, in front of the statements
abbrev put : Tokens → List Tokens → Ending → Pieces
put xs [] e = record { statements = []; ending = opened_if xs e }
put xs (s ∷ ss) e = record { statements = (xs ++ s) ∷ ss; ending = e }

abbrev put_before : Tokens → Pieces → Pieces
put_before xs p = put xs p.statements p.ending

-- these tokens were taken from the front of the file, none of them a semicolon, and this is left
pub record IsTaken (file : List ℕ) (xs : Tokens) (rest : List ℕ) : Type 0 where
  pub taken : pieces (lexed file) ≡ put_before xs (pieces (lexed rest))
  pub left : length rest ≤ length file

none_put : (ss : List Tokens) (e : Ending) → record { statements = ss; ending = e } ≡ put [] ss e
none_put [] e = refl
none_put (s ∷ ss) e = refl

pub nothing_taken : (file : List ℕ) → IsTaken file [] file
nothing_taken file = record { taken = none_put (pieces (lexed file)).statements (pieces (lexed file)).ending; left = omega arith }

opened_twice : (e : Ending) → opened (opened e) ≡ opened e
opened_twice closed = refl
opened_twice cut_off = refl
opened_twice broken = refl

opened_last : (xs : Tokens) (x : Token) (e : Ending) → opened_if xs (opened e) ≡ opened_if (xs ++ x ∷ []) e
opened_last [] x e = refl
opened_last (y ∷ xs) x e = opened_twice e

-- one more token, which is no semicolon
put_last : (xs : Tokens) (x : Token) (ss : List Tokens) (e : Ending) → is_semicolon x ≡ false → put_before xs (before x ss e) ≡ put (xs ++ x ∷ []) ss e
put_last xs k.Semicolon ss e h = cc
put_last xs x [] e h = ap (λ (f : Ending). record { statements = []; ending = f }) (opened_last xs x e)
put_last xs x (s ∷ ss) e h = ap (λ (u : Tokens). record { statements = u ∷ ss; ending = e }) (sym (append_assoc xs (x ∷ []) s))

pub token_taken : (file rest behind : List ℕ) (xs : Tokens) (x : Token) → IsTaken file xs rest → lexed rest ≡ next x (lexed behind) → length behind < length rest → is_semicolon x ≡ false
    → IsTaken file (xs ++ x ∷ []) behind
token_taken file rest behind xs x h e less other = record {
  taken = h.taken ∙ ap (λ (l : Lexed). put_before xs (pieces l)) e ∙ put_last xs x (pieces (lexed behind)).statements (pieces (lexed behind)).ending other;
  left = let l = h.left in omega arith;
}

semicolon : (xs : Tokens) (x : Token) (ss : List Tokens) (e : Ending) → is_semicolon x ≡ true → put_before xs (before x ss e) ≡ record { statements = xs ∷ ss; ending = e }
semicolon xs k.Semicolon ss e h = ap (λ (u : Tokens). record { statements = u ∷ ss; ending = e }) (append-nil xs)
semicolon xs x [] e h = cc
semicolon xs x (s ∷ ss) e h = cc

pub statement_taken : (file rest behind : List ℕ) (xs : Tokens) (x : Token) → IsTaken file xs rest → lexed rest ≡ next x (lexed behind) → length behind < length rest → is_semicolon x ≡ true
    → (pieces (lexed file) ≡ record { statements = xs ∷ (pieces (lexed behind)).statements; ending = (pieces (lexed behind)).ending }) × (length behind < length file)
statement_taken file rest behind xs x h e less is = (
  h.taken ∙ ap (λ (l : Lexed). put_before xs (pieces l)) e ∙ semicolon xs x (pieces (lexed behind)).statements (pieces (lexed behind)).ending is,
  (let l = h.left in omega arith),
)

pub ends_closed : (file rest : List ℕ) → IsTaken file [] rest → lexed rest ≡ end → EndsBy file closed
ends_closed file rest h e = h.taken ∙ ap (λ (l : Lexed). put_before [] (pieces l)) e

cut : (xs : Tokens) → (xs ≡ [] → ⊥) → opened_if xs closed ≡ cut_off
cut [] h = absurd (h refl)
cut (x ∷ xs) h = refl

pub ends_cut_off : (file rest : List ℕ) (xs : Tokens) → (xs ≡ [] → ⊥) → IsTaken file xs rest → lexed rest ≡ end → EndsBy file cut_off
ends_cut_off file rest xs some h e = h.taken ∙ ap (λ (l : Lexed). put_before xs (pieces l)) e ∙ ap (λ (f : Ending). record { statements = []; ending = f }) (cut xs some)

broken_stays : (xs : Tokens) → opened_if xs broken ≡ broken
broken_stays [] = refl
broken_stays (x ∷ xs) = refl

pub ends_broken : (file rest : List ℕ) (xs : Tokens) → IsTaken file xs rest → lexed rest ≡ fault → EndsBy file broken
ends_broken file rest xs h e = h.taken ∙ ap (λ (l : Lexed). put_before xs (pieces l)) e ∙ ap (λ (f : Ending). record { statements = []; ending = f }) (broken_stays xs)

-- ---- one statement after another

-- what a file is read as, by its pieces
from_pieces : (k : ℕ) (p q : Pieces) (ss : List (t.Statement Path)) (r : Option (ℕ × FileKind)) → p ≡ q → IsScript k q.statements q.ending ss r → IsScript k p.statements p.ending ss r
from_pieces k p q ss r e d = subst (λ (x : Pieces). IsScript k x.statements x.ending ss r) (sym e) d

-- the first statement stands before the others
pub first_read : (k : ℕ) (file behind : List ℕ) (s : t.Statement Path) (ss : List (t.Statement Path)) (r : Option (ℕ × FileKind)) → IsFirst file s behind → IsLeft (suc k) behind ss r
    → IsLeft k file (s ∷ ss) r
first_read k file behind s ss r h d = from_pieces k _ _ (s ∷ ss) r h.is_first (accepted h.accepted d)

-- where there is none, there are no others
pub none_read : (k : ℕ) (file : List ℕ) → EndsBy file closed → IsLeft k file [] None
none_read k file e = from_pieces k _ _ [] None e done

pub cut_off_first : (file : List ℕ) → EndsBy file cut_off → RefusesFirst file kind.Syntax
cut_off_first file e k = from_pieces k _ _ [] (Some (k, kind.Syntax)) e unended

pub broken_first : (file : List ℕ) → EndsBy file broken → RefusesFirst file kind.Lex
broken_first file e k = from_pieces k _ _ [] (Some (k, kind.Lex)) e faulty

pub refused_first : (file behind : List ℕ) (ts : Tokens) (why : FileKind)
    → pieces (lexed file) ≡ record { statements = ts ∷ (pieces (lexed behind)).statements; ending = (pieces (lexed behind)).ending } → Forbids ts why → RefusesFirst file why
refused_first file behind ts why e f k = from_pieces k _ _ [] (Some (k, why)) e (refused f)

-- where the first statement is refused, so is the file
pub refused_next : (file behind : List ℕ) (ts us : Tokens) (x : Refused)
    → pieces (lexed file) ≡ record { statements = ts ∷ (pieces (lexed behind)).statements; ending = (pieces (lexed behind)).ending } → us ≡ ts → IsAnswered us (Err x)
    → IsNext file (Err x)
refused_next file behind ts us (For why) e same f = refused_first file behind ts why e (subst (λ (v : Tokens). Forbids v why) same f)
refused_next file behind ts us Memory e same f = tt

-- the same of what is equal
pub gathered_so : (file : List ℕ) (ts : Tokens) (g h : Gathered) → g ≡ h → IsGathered file ts g → IsGathered file ts h
gathered_so file ts g h e d = subst (IsGathered file ts) e d
