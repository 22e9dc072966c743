-- Taking the statements of a file one after the other, with their canonical text.
use Rattle.std.proofs.Common.{◌≡◌, ℕ, suc, ◌+◌, List, [], ◌∷◌, ◌++◌, length, Bor, None, Result, Ok, Err, codes, refl, sym, ◌∙◌, ap, subst, arith, add-one, append_assoc, length-append}
use Rattle.std.proofs.lemmas.List.{append-nil}
use Rattle.sj_path_tree.specs.Tree.{Path}
use Rattle.sj_bound.specs.Bound.{Bound}
use Rattle.sj_bound.specs.View.{bound_of}
use Rattle.sj_bound.specs.declared.bound.Bound.{Bound as BoundHeld}
use Rattle.sj_sql_token.specs.Tokens.{lexed}
use Rattle.sj_sql_grammar.specs.declared.refusal.FileKind.{FileKind}
use Rattle.sj_sql_grammar.specs.Tree.{Statement}
use Rattle.sj_sql_grammar.specs.Answers.{closed}
use Rattle.sj_sql_grammar.proofs.Scripts.{one_file}
use Rattle.sj_sql.specs.File.{EndsBy, IsFirst, IsLeft}
use Rattle.sj_sql.proofs.Files.{first_read, none_read}
use Rattle.sj_sql_text.specs.Statements.{statement_text, lines_text}
use Rattle.sj_file.specs.File.{ShelfSide, Holds}
use Rattle.sj_file.specs.Accepted.{AcceptedWithText}
use Rattle.sj_file.specs.Verdict.{answer, before_others, judged, IsVerdict, Accepts, IsReadAs}
use Rattle.sj_file.specs.declared.job.FileRefusal.{FileRefusal}
use Rattle.sj_file.specs.declared.verdict.NextBound.{NextBound}
use Rattle.sj_file.specs.declared.verdict.NextBound.TheVariants as next
use Rattle.sj_file.specs.Refusals.{AcceptsWithText, IsRefused, IsVerdictFrom, IsFirstBound, IsNextBound, IsNextWithText}
use Rattle.sj_file.proofs.Verdicts.{with_front, front_none, front_more, IsTakenTo, one_refused}

-- These statements were taken from the front of the file and bound so, and this is left.
pub record IsReadTo (file : List ℕ) (trees : List (Statement Path)) (taken : List Bound) (rest : List ℕ) : Type 0 where
  pub goes_on : (k : ℕ) → k ≡ suc (length taken) → (v : Result (List Bound) (ℕ × FileKind)) → (d : IsVerdictFrom k rest v)
      → (w : IsVerdict file (with_front taken v)) × (w.statements ≡ trees ++ d.statements)

nothing_read : (file : List ℕ) → IsReadTo file [] [] file
nothing_read file = record {
  goes_on = λ k is v d. (
    record {
      statements = d.statements;
      refusal = d.refusal;
      read = subst (λ (n : ℕ). IsLeft n file d.statements d.refusal) is d.read;
      is = sym (front_none v) ∙ (d.is ∙ ap (λ (n : ℕ). judged n d.statements d.refusal) is);
    },
    refl,
  );
}

-- a statement that is bound so stands before the others
before_read : (k n : ℕ) (rest behind : List ℕ) (x : Bound) (v : Result (List Bound) (ℕ × FileKind)) → n ≡ suc k → (h : IsFirstBound rest x behind) → (d : IsVerdictFrom n behind v)
    → (e : IsVerdictFrom k rest (before_others k (Ok x) v)) × (e.statements ≡ h.statement ∷ d.statements)
before_read k n rest behind x v next h d = (
  record {
    statements = h.statement ∷ d.statements;
    refusal = d.refusal;
    read = first_read k rest behind h.statement d.statements d.refusal h.is_first (subst (λ (m : ℕ). IsLeft m behind d.statements d.refusal) next d.read);
    is = ap (before_others k (Ok x)) (d.is ∙ ap (λ (m : ℕ). judged m d.statements d.refusal) (next ∙ sym (add-one k)))
        ∙ ap (λ o. before_others k o (judged (k + 1) d.statements d.refusal)) (sym h.taken);
  },
  refl,
)

one_read : (file rest behind : List ℕ) (trees : List (Statement Path)) (taken : List Bound) (x : Bound) → IsReadTo file trees taken rest → (h : IsFirstBound rest x behind)
    → IsReadTo file (trees ++ h.statement ∷ []) (taken ++ x ∷ []) behind
one_read file rest behind trees taken x t h = record {
  goes_on = λ k is v d.
      let k' = suc (length taken) in
      let e = before_read k' k rest behind x v (omega (arith, is, length-append taken (x ∷ []))) h d in
      let w = t.goes_on k' refl (before_others k' (Ok x) v) e.0 in (
        record { statements = w.0.statements; refusal = w.0.refusal; read = w.0.read; is = sym (front_more taken x k' v) ∙ w.0.is },
        w.1 ∙ ap (λ (ss : List (Statement Path)). trees ++ ss) e.1 ∙ sym (append_assoc trees (h.statement ∷ []) d.statements),
      );
}

all_read : (file rest : List ℕ) (trees : List (Statement Path)) (taken : List Bound) → IsReadTo file trees taken rest → EndsBy rest closed → (a : Accepts file taken) × (a.statements ≡ trees)
all_read file rest trees taken t e =
    let k = suc (length taken) in
    let none : IsVerdictFrom k rest (Ok []) = record { statements = []; refusal = None; read = none_read k rest e; is = refl } in
    let w = t.goes_on k refl (Ok []) none in
    (record { statements = w.0.statements; refusal = w.0.refusal; read = w.0.read; is = ap Ok (sym (append-nil taken)) ∙ w.0.is }, w.1 ∙ append-nil trees)

-- So many statements were taken from the front of the file, this is their text, and this is left.
pub record HasText (file text : List ℕ) (count : ℕ) (rest : List ℕ) : Type 0 where
  pub trees : List (Statement Path)
  pub taken : List Bound
  pub so : IsReadTo file trees taken rest
  pub is : text ≡ lines_text trees
  pub many : count ≡ length taken

pub no_text : (file text : List ℕ) → text ≡ [] → HasText file text 0 file
no_text file text none = record { trees = []; taken = []; so = nothing_read file; is = none; many = refl }

lines_more : (ss : List (Statement Path)) (s : Statement Path) → lines_text (ss ++ s ∷ []) ≡ lines_text ss ++ (statement_text s ++ codes "\n")
lines_more [] s = append-nil (statement_text s ++ codes "\n")
lines_more (x ∷ ss) s = ap (λ (text : List ℕ). (statement_text x ++ codes "\n") ++ text) (lines_more ss s) ∙ sym (append_assoc (statement_text x ++ codes "\n") (lines_text ss) (statement_text s ++ codes "\n"))

pub more_text : (file text text' rest behind : List ℕ) (count : ℕ) (x : Bound) → HasText file text count rest → (h : IsFirstBound rest x behind) → text' ≡ text ++ (statement_text h.statement ++ codes "\n")
    → HasText file text' (count + 1) behind
more_text file text text' rest behind count x t h grown = record {
  trees = t.trees ++ h.statement ∷ [];
  taken = t.taken ++ x ∷ [];
  so = one_read file rest behind t.trees t.taken x t.so h;
  is = grown ∙ ap (λ (front : List ℕ). front ++ (statement_text h.statement ++ codes "\n")) t.is ∙ sym (lines_more t.trees h.statement);
  many = let m = t.many in omega (arith, length-append t.taken (x ∷ []));
}

pub whole_text : (file text text' rest : List ℕ) (count : ℕ) → HasText file text count rest → EndsBy rest closed × (text' ≡ text) → AcceptsWithText file text'
whole_text file text text' rest count t e =
    let a = all_read file rest t.trees t.taken t.so e.0 in
    (t.taken, a.0, e.1 ∙ t.is ∙ ap lines_text (sym a.1))

pub refused_text : (file text rest : List ℕ) (count : ℕ) (refusal : FileRefusal) → HasText file text count rest → IsNextBound (count + 1) rest (Err refusal) → IsRefused file refusal
refused_text file text rest count refusal t d =
    let taken : IsTakenTo file t.taken rest = record { goes_on = λ v e. (t.so.goes_on (suc (length t.taken)) refl v e).0 } in
    one_refused file rest t.taken (count + 1) refusal taken (let m = t.many in omega arith) d

-- the same of what a call gave
pub statement_so : (k : ℕ) (rest old new : List ℕ) (x : NextBound) (b : BoundHeld) (behind : Bor (List ℕ)) → x ≡ next.Statement b behind → IsNextWithText k rest old new (Ok x)
    → (f : IsFirstBound rest (bound_of b) behind.now) × (new ≡ old ++ (statement_text f.statement ++ codes "\n"))
statement_so k rest old new x b behind e h = subst (λ (y : NextBound). IsNextWithText k rest old new (Ok y)) e h

pub no_more_so : (k : ℕ) (rest old new : List ℕ) (x : NextBound) → x ≡ next.End → IsNextWithText k rest old new (Ok x) → EndsBy rest closed × (new ≡ old)
no_more_so k rest old new x e h = subst (λ (y : NextBound). IsNextWithText k rest old new (Ok y)) e h

-- ---- what a file that is accepted is read as

pub read_as : (file : List ℕ) (K : List Bound) (a : Accepts file K) (trees : List (Statement Path)) → IsReadAs file trees → trees ≡ a.statements
read_as file K a trees read = (one_file (lexed file) trees a.statements None a.refusal read a.read).0

-- a statement that is bound so, with its text
pub with_text_so : (rest behind old new : List ℕ) (s : Statement Path) (x : Bound) → IsFirst rest s behind → answer s ≡ Ok x → new ≡ old ++ (statement_text s ++ codes "\n")
    → (f : IsFirstBound rest x behind) × (new ≡ old ++ (statement_text f.statement ++ codes "\n"))
with_text_so rest behind old new s x h taken grown = (record { statement = s; is_first = h; taken = taken }, grown)

-- the text of a file that was read whole
pub accepted_text_so : (name : List ℕ) (s s' : ShelfSide) (file text : List ℕ) → Holds name s s' file → AcceptsWithText file text → AcceptedWithText name s s' text
accepted_text_so name s s' file text h a = (a.0, record { file = file; holds = h; accepted = a.1 }, a.2)
