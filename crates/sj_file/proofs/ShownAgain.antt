-- The canonical text of an accepted file is a file of the same statements.
use Rattle.std.proofs.Common.{◌≡◌, ℕ, ◌+◌, List, [], ◌∷◌, Option, None, Some, Result, Ok, Err, refl, sym, ap, ◌∙◌}
use Rattle.sj_path_tree.specs.Tree.{Path}
use Rattle.sj_sql_token.specs.Tokens.{lexed}
use Rattle.sj_sql_grammar.specs.declared.refusal.FileKind.{FileKind}
use Rattle.sj_sql_grammar.specs.Tree.{Statement}
use Rattle.sj_sql_grammar.proofs.Scripts.{one_file}
use Rattle.sj_sql_text.specs.Statements.{lines_text}
use Rattle.sj_sql_text.proofs.AcceptedFiles.{file_back}
use Rattle.sj_bound.specs.Bound.{Bound}
use Rattle.sj_file.specs.Verdict.{answer, before_others, judged, Accepts, IsReadAs, IsCanonicalOf}

-- a file with a statement that has no tree is not accepted
no_refusal : (k : ℕ) (ss : List (Statement Path)) (refusal : Option (ℕ × FileKind)) (K : List Bound) → Ok K ≡ judged k ss refusal → refusal ≡ None
no_refusal k [] None K e = refl
no_refusal k [] (Some x) K e = absurd (cc e)
no_refusal k (s ∷ ss) refusal K e = go (answer s) (judged (k + 1) ss refusal) (λ xs is. no_refusal (k + 1) ss refusal xs (sym is)) refl e
  where
    go : (a : Result Bound FileKind) (others : Result (List Bound) (ℕ × FileKind)) → ((xs : List Bound) → judged (k + 1) ss refusal ≡ Ok xs → refusal ≡ None) → judged (k + 1) ss refusal ≡ others
        → Ok K ≡ before_others k a others → refusal ≡ None
    go (Err kind) others behind is e = absurd (cc e)
    go (Ok x) (Err y) behind is e = absurd (cc e)
    go (Ok x) (Ok xs) behind is e = behind xs is

pub canonical : (file : List ℕ) (K : List Bound) (a : Accepts file K) → IsCanonicalOf K (lines_text a.statements)
canonical file K a =
    let again : IsReadAs (lines_text a.statements) a.statements = file_back file a.statements a.refusal a.read in
    record {
      accepted = record { statements = a.statements; refusal = None; read = again; is = a.is ∙ ap (judged 1 a.statements) (no_refusal 1 a.statements a.refusal K a.is) };
      own = λ read r. ap lines_text (one_file (lexed (lines_text a.statements)) read a.statements None None r again).0;
    }
