-- The canonical text of statements that a file has is a file of these very statements.
use Rattle.std.proofs.Common.{◌≡◌, ◌↔◌, ℕ, true, List, [], ◌∷◌, ◌++◌, Option, None, codes, sym, ap, subst, arith, IsUtf8}
use Rattle.std.specs.List.{AllByRecursion}
use Rattle.std.proofs.lemmas.List.Elements.{All-from_recursion, All-contains}
use Rattle.std.proofs.lemmas.Str.{IsUtf8-append, IsUtf8-nil}
use Rattle.sj_path_tree.specs.Tree.{Path}
use Rattle.sj_path_text.proofs.Utf8.{one_more}
use Rattle.sj_sql_token.specs.Tokens.{lexed}
use Rattle.sj_sql_grammar.specs.declared.refusal.FileKind.{FileKind}
use Rattle.sj_sql_grammar.specs.Tree.{Statement}
use Rattle.sj_sql_grammar.specs.Phrases.{Tokens}
use Rattle.sj_sql_grammar.specs.Answers.{Ending, closed, Pieces as FilePieces, pieces, Accepted, IsScript, done, unended, faulty, refused, accepted, IsFile}
use Rattle.sj_sql_grammar.proofs.Scripts.{one_file}
use Rattle.sj_sql_text.specs.Statements.{body_on, statement_on, statement_text, lines_text}
use Rattle.sj_sql_text.specs.Tokens.{tokens_of}
use Rattle.sj_sql_text.specs.Law.{IsStatementOf}
use Rattle.sj_sql_text.proofs.Inner.{AreLexical, AreInner}
use Rattle.sj_sql_text.proofs.PrintedStatements.{statement_prints}
use Rattle.sj_sql_text.proofs.LexicalTokens.{StatementsLexical, lexical}
use Rattle.sj_sql_text.proofs.CanonicalFiles.{statement_printable, canonical_pieces, statement_pieces, lines_pieces}
use Rattle.sj_sql_text.proofs.Utf8Texts.{text_utf8}
use Rattle.sj_sql_text.proofs.AcceptedTokens.{tokens_accepted}

-- ---- what is known of a statement that a file has

-- its canonical tokens are accepted as this statement, and its pieces are read back
pub record IsKept (s : Statement Path) : Type 0 where
  pub tokens : Accepted (tokens_of (body_on s [])) s
  pub inner : AreInner (body_on s [])

kept : (ts : Tokens) (s : Statement Path) → AreLexical ts → Accepted ts s → IsKept s
kept ts s is a = record { tokens = tokens_accepted ts s a; inner = subst (λ (u : Statement Path). AreInner (body_on u [])) (sym a.2) (statement_prints a.1.tree.select is) }

script_kept : {n : ℕ} {tss : List Tokens} {e : Ending} {ss : List (Statement Path)} {refusal : Option (ℕ × FileKind)} → IsScript n tss e ss refusal → StatementsLexical tss → AllByRecursion IsKept ss
script_kept done is = tt
script_kept unended is = tt
script_kept faulty is = tt
script_kept (refused f) is = tt
script_kept (accepted {ts = ts} {s = s} a d) is = (kept ts s is.0 a, script_kept d is.1)

file_kept : (file : List ℕ) (ss : List (Statement Path)) (refusal : Option (ℕ × FileKind)) → IsFile (lexed file) ss refusal → AllByRecursion IsKept ss
file_kept file ss refusal d = script_kept d (lexical file)

statement_kept : (file : List ℕ) (s : Statement Path) → IsStatementOf file s → IsKept s
statement_kept file s is = All-contains IsKept is.statements s (All-from_recursion IsKept is.statements (file_kept file is.statements is.refusal is.read)) is.among

-- ---- their text is read back

all_inner : (ss : List (Statement Path)) → AllByRecursion IsKept ss → AllByRecursion (λ s. AreInner (body_on s [])) ss
all_inner [] are = tt
all_inner (s ∷ ss) are = (are.0.inner, all_inner ss are.1)

script : {n : ℕ} (ss : List (Statement Path)) → AllByRecursion IsKept ss → IsScript n (canonical_pieces ss).statements closed ss None
script [] are = done
script (s ∷ ss) are = accepted are.0.tokens (script ss are.1)

read_as : (text : List ℕ) (ss : List (Statement Path)) → pieces (lexed text) ≡ canonical_pieces ss → AllByRecursion IsKept ss → IsFile (lexed text) ss None
read_as text ss same are = subst (λ (x : FilePieces). IsScript 1 x.statements x.ending ss None) (sym same) (script ss are)

pub statement_back : (file : List ℕ) (s : Statement Path) → IsStatementOf file s → IsFile (lexed (statement_text s)) (s ∷ []) None
statement_back file s is = let known = statement_kept file s is in read_as (statement_text s) (s ∷ []) (statement_pieces s known.inner) (known, tt)

pub file_back : (file : List ℕ) (ss : List (Statement Path)) (refusal : Option (ℕ × FileKind)) → IsFile (lexed file) ss refusal → IsFile (lexed (lines_text ss)) ss None
file_back file ss refusal d = let known = file_kept file ss refusal d in read_as (lines_text ss) ss (lines_pieces ss (all_inner ss known)) known

-- ---- their text is in UTF-8

lines_utf8 : (ss : List (Statement Path)) → AllByRecursion IsKept ss → IsUtf8 (lines_text ss)
lines_utf8 [] are = IsUtf8-nil
lines_utf8 (s ∷ ss) are =
    let one : IsUtf8 (statement_text s) = text_utf8 true (statement_on s []) (statement_printable s are.0.inner) in
    IsUtf8-append (statement_text s ++ codes "\n") (lines_text ss) (IsUtf8-append (statement_text s) (codes "\n") one (one_more 10 (omega arith) IsUtf8-nil)) (lines_utf8 ss are.1)

pub file_utf8 : (file : List ℕ) (ss : List (Statement Path)) (refusal : Option (ℕ × FileKind)) → IsFile (lexed file) ss refusal → IsUtf8 (lines_text ss)
file_utf8 file ss refusal d = lines_utf8 ss (file_kept file ss refusal d)

-- ---- one text for each tree

one_alone : (s t : Statement Path) → ◌≡◌ {A = List (Statement Path)} (s ∷ []) (t ∷ []) → s ≡ t
one_alone s t e = cc

pub same_statement : (f g : List ℕ) (s t : Statement Path) → IsStatementOf f s → IsStatementOf g t → (s ≡ t) ↔ (statement_text s ≡ statement_text t)
same_statement f g s t a b = (
  λ e. ap statement_text e,
  λ e. one_alone s t
      (one_file (lexed (statement_text t)) (s ∷ []) (t ∷ []) None None (subst (λ (text : List ℕ). IsFile (lexed text) (s ∷ []) None) e (statement_back f s a)) (statement_back g t b)).0,
)

pub same_file : (f g : List ℕ) (ss ts : List (Statement Path)) (x y : Option (ℕ × FileKind)) → IsFile (lexed f) ss x → IsFile (lexed g) ts y → (ss ≡ ts) ↔ (lines_text ss ≡ lines_text ts)
same_file f g ss ts x y a b = (
  λ e. ap lines_text e,
  λ e. (one_file (lexed (lines_text ts)) ss ts None None (subst (λ (text : List ℕ). IsFile (lexed text) ss None) e (file_back f ss x a)) (file_back g ts y b)).0,
)
