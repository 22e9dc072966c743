-- The statements of a whole file.
use Rattle.std.proofs.Common.{◌≡◌, ℕ, suc, ◌+◌, ◌≤◌, List, [], ◌∷◌, ◌++◌, length, map, Bor, Option, None, Some, Ok, Err, refl, sym, ap, subst, arith, append-nil, length-append}
use Rattle.sj_path_tree.specs.Tree.{Path}
use Rattle.sj_sql_token.specs.Tokens.{lexed}
use Rattle.sj_sql_grammar.specs.declared.refusal.FileKind.{FileKind}
use Rattle.sj_sql_grammar.specs.Tree as t
use Rattle.sj_sql_grammar.specs.Answers.{closed, IsFile}
use Rattle.sj_sql.specs.declared.answer.Refused.{Refused}
use Rattle.sj_sql.specs.declared.answer.Refused.TheVariants.{For}
use Rattle.sj_sql.specs.declared.file.NextStatement.{NextStatement}
use Rattle.sj_sql.specs.declared.file.NextStatement.TheVariants as first
use Rattle.sj_sql_tree.specs.declared.tree.Statement.{Statement}
use Rattle.sj_sql.specs.File.{EndsBy, IsFirst, IsLeft, IsNext, RefusesFirst}
use Rattle.sj_sql_tree.specs.View.{statement_of}
use Rattle.sj_sql.proofs.Files.{first_read, none_read}

-- these statements were read from the front of the file, and this is left
pub record IsRead (file : List ℕ) (xs : List Statement) (rest : List ℕ) : Type 0 where
  pub goes_on : (ss : List (t.Statement Path)) (r : Option (ℕ × FileKind)) → IsLeft (suc (length xs)) rest ss r → IsFile (lexed file) (map statement_of xs ++ ss) r
  pub left : length xs + length rest ≤ length file

pub nothing_read : (file : List ℕ) → IsRead file [] file
nothing_read file = record { goes_on = λ ss r d. d; left = omega arith }

map_last : (xs : List Statement) (x : Statement) (ss : List (t.Statement Path)) → map statement_of xs ++ (statement_of x ∷ ss) ≡ map statement_of (xs ++ x ∷ []) ++ ss
map_last [] x ss = refl
map_last (y ∷ xs) x ss = ap (λ (us : List (t.Statement Path)). statement_of y ∷ us) (map_last xs x ss)

one_more : (file rest behind : List ℕ) (xs : List Statement) (x : Statement) → IsRead file xs rest → IsFirst rest (statement_of x) behind → IsRead file (xs ++ x ∷ []) behind
one_more file rest behind xs x h f = record {
  goes_on = λ ss r d.
      let number : suc (length (xs ++ x ∷ [])) ≡ suc (suc (length xs)) = omega (arith, length-append xs (x ∷ [])) in
      let others : IsLeft (suc (suc (length xs))) behind ss r = subst (λ (k : ℕ). IsLeft k behind ss r) number d in
      subst (λ (us : List (t.Statement Path)). IsFile (lexed file) us r) (map_last xs x ss) (h.goes_on (statement_of x ∷ ss) r (first_read (suc (length xs)) rest behind (statement_of x) ss r f others));
  left = let l = h.left in let s = f.shorter in omega (arith, length-append xs (x ∷ []));
}

stops : (file rest : List ℕ) (xs : List Statement) (r : Option (ℕ × FileKind)) → IsRead file xs rest → IsLeft (suc (length xs)) rest [] r → IsFile (lexed file) (map statement_of xs) r
stops file rest xs r h d = subst (λ (us : List (t.Statement Path)). IsFile (lexed file) us r) (append-nil (map statement_of xs)) (h.goes_on [] r d)

-- one statement more, as a call gave it
pub statement_read : (file rest : List ℕ) (xs : List Statement) (n : NextStatement) (x : Statement) (behind : Bor (List ℕ)) → n ≡ first.Statement x behind → IsNext rest (Ok n) → IsRead file xs rest
    → IsRead file (xs ++ x ∷ []) behind.now
statement_read file rest xs n x behind e h r = one_more file rest behind.now xs x r (subst (λ (m : NextStatement). IsNext rest (Ok m)) e h)

pub all_read : (file rest : List ℕ) (xs : List Statement) (n : NextStatement) → n ≡ first.End → IsNext rest (Ok n) → IsRead file xs rest → IsFile (lexed file) (map statement_of xs) None
all_read file rest xs n e h r =
    let ends : EndsBy rest closed = subst (λ (m : NextStatement). IsNext rest (Ok m)) e h in
    stops file rest xs None r (none_read (suc (length xs)) rest ends)

pub refused_read : (file rest : List ℕ) (xs : List Statement) (x : Refused) (why : FileKind) → x ≡ For why → IsNext rest (Err x) → IsRead file xs rest
    → IsFile (lexed file) (map statement_of xs) (Some (suc (length xs), why))
refused_read file rest xs x why e h r =
    let refuses : RefusesFirst rest why = subst (λ (y : Refused). IsNext rest (Err y)) e h in
    stops file rest xs (Some (suc (length xs), why)) r (refuses (suc (length xs)))

-- the same of what is equal
pub file_so : (file : List ℕ) (xs ys : List Statement) (r q : Option (ℕ × FileKind)) → xs ≡ ys → r ≡ q → IsFile (lexed file) (map statement_of ys) q → IsFile (lexed file) (map statement_of xs) r
file_so file xs ys r q e f d = subst (λ (v : List Statement). IsFile (lexed file) (map statement_of v) r) (sym e) (subst (IsFile (lexed file) (map statement_of ys)) (sym f) d)
