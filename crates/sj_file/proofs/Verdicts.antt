-- Taking the statements of a file, one after the other.
use Rattle.std.proofs.Common.{◌≡◌, ℕ, suc, ◌+◌, List, [], ◌∷◌, ◌++◌, length, Bor, Option, None, Some, Result, Ok, Err, refl, sym, ◌∙◌, ap, subst, arith, add-one, append_assoc, length-append}
use Rattle.std.proofs.lemmas.List.{append-nil}
use Rattle.sj_path_tree.specs.Tree.{Path}
use Rattle.sj_bound.specs.Bound.{Bound}
use Rattle.sj_sql_token.specs.Tokens.{lexed}
use Rattle.sj_sql_grammar.specs.declared.refusal.BindKind.{BindKind}
use Rattle.sj_sql_grammar.specs.declared.refusal.FileKind.{FileKind}
use Rattle.sj_sql_grammar.specs.declared.refusal.FileKind.TheVariants.{Bind}
use Rattle.sj_sql_grammar.specs.Tree.{Statement}
use Rattle.sj_sql_grammar.specs.Answers.{closed, pieces}
use Rattle.sj_sql_grammar.proofs.Answered.{some_script}
use Rattle.sj_sql_grammar.proofs.Scripts.{one_file}
use Rattle.sj_sql.specs.declared.answer.Refused.{Refused as RefusedTree}
use Rattle.sj_sql.specs.declared.answer.Refused.TheVariants as no
use Rattle.sj_sql.specs.declared.file.NextStatement.{NextStatement}
use Rattle.sj_sql.specs.declared.file.NextStatement.TheVariants as tree
use Rattle.sj_sql_tree.specs.declared.tree.Statement.{Statement as StatementHeld}
use Rattle.sj_sql_tree.specs.View.{statement_of}
use Rattle.sj_sql.specs.File.{EndsBy, IsFirst, IsNext, RefusesFirst}
use Rattle.sj_sql.proofs.Files.{first_read, none_read}
use Rattle.sj_bind.specs.Meaning.{bound}
use Rattle.sj_bind.specs.Rules.{bind_fault}
use Rattle.sj_bind.specs.Answer.{Binds}
use Rattle.sj_bound.specs.Sound.{IsSound}
use Rattle.sj_bound.specs.View.{bound_of}
use Rattle.sj_bound.specs.declared.bound.Bound.{Bound as BoundHeld}
use Rattle.sj_bind.specs.declared.refusal.BindRefusal.{BindRefusal}
use Rattle.sj_bind.specs.declared.refusal.BindRefusal.TheVariants as bind
use Rattle.sj_file.specs.Verdict.{unless_fault, answer, before_others, judged, IsVerdict, Accepts, Refuses}
use Rattle.sj_file.specs.declared.job.FileRefusal.{FileRefusal}
use Rattle.sj_file.specs.declared.job.FileRefusal.TheVariants.{Refused, Memory}
use Rattle.sj_file.specs.declared.verdict.NextBound.{NextBound}
use Rattle.sj_file.specs.declared.verdict.NextBound.TheVariants as next
use Rattle.sj_file.specs.Refusals.{refusal_of, AcceptsSoMany, IsRefused, IsVerdictFrom, IsFirstBound, IsBoundAs, IsNextBound}

-- ---- a file has one verdict

one_verdict : (file : List ℕ) (v u : Result (List Bound) (ℕ × FileKind)) → IsVerdict file v → IsVerdict file u → v ≡ u
one_verdict file v u p q =
    let same = one_file (lexed file) p.statements q.statements p.refusal q.refusal p.read q.read in
    p.is ∙ ap (λ (ss : List (Statement Path)). judged 1 ss p.refusal) same.0 ∙ ap (λ (r : Option (ℕ × FileKind)). judged 1 q.statements r) same.1 ∙ sym q.is

pub one_accepted : (file : List ℕ) (K L : List Bound) → Accepts file K → Accepts file L → K ≡ L
one_accepted file K L p q =
    let same : Ok K ≡ Ok L = one_verdict file (Ok K) (Ok L) p q in
    cc same

pub not_both : (file : List ℕ) (K : List Bound) (k : ℕ) (kind : FileKind) → Accepts file K → Refuses file k kind → ⊥
not_both file K k kind p q =
    let same : Ok K ≡ Err (k, kind) = one_verdict file (Ok K) (Err (k, kind)) p q in
    absurd (cc same)

pub one_refusal : (file : List ℕ) (k n : ℕ) (kind other : FileKind) → Refuses file k kind → Refuses file n other → ◌≡◌ {A = ℕ × FileKind} (k, kind) (n, other)
one_refusal file k n kind other p q =
    let same = one_verdict file (Err (k, kind)) (Err (n, other)) p q in
    cc same

-- ---- the statements so far, before those to come

abbrev pub with_front : List Bound → Result (List Bound) (ℕ × FileKind) → Result (List Bound) (ℕ × FileKind)
with_front front (Ok others) = Ok (front ++ others)
with_front front (Err refusal) = Err refusal

pub front_none : (r : Result (List Bound) (ℕ × FileKind)) → r ≡ with_front [] r
front_none (Ok xs) = refl
front_none (Err refusal) = refl

pub front_more : (front : List Bound) (x : Bound) (k : ℕ) (r : Result (List Bound) (ℕ × FileKind)) → with_front front (before_others k (Ok x) r) ≡ with_front (front ++ x ∷ []) r
front_more front x k (Ok others) = ap Ok (sym (append_assoc front (x ∷ []) others))
front_more front x k (Err refusal) = refl

-- These statements were taken from the front of the file, and this is left.
pub record IsTakenTo (file : List ℕ) (taken : List Bound) (rest : List ℕ) : Type 0 where
  pub goes_on : (v : Result (List Bound) (ℕ × FileKind)) → IsVerdictFrom (suc (length taken)) rest v → IsVerdict file (with_front taken v)

pub nothing_taken : (file : List ℕ) → IsTakenTo file [] file
nothing_taken file = record {
  goes_on = λ v d. record { statements = d.statements; refusal = d.refusal; read = d.read; is = sym (front_none v) ∙ d.is };
}

-- a statement that is bound so stands before the others
before_verdict : (k : ℕ) (rest behind : List ℕ) (x : Bound) (v : Result (List Bound) (ℕ × FileKind)) → IsFirstBound rest x behind → IsVerdictFrom (suc k) behind v
    → IsVerdictFrom k rest (before_others k (Ok x) v)
before_verdict k rest behind x v h d = record {
  statements = h.statement ∷ d.statements;
  refusal = d.refusal;
  read = first_read k rest behind h.statement d.statements d.refusal h.is_first d.read;
  is = ap (before_others k (Ok x)) (d.is ∙ ap (λ n. judged n d.statements d.refusal) (sym (add-one k)))
      ∙ ap (λ o. before_others k o (judged (k + 1) d.statements d.refusal)) (sym h.taken);
}

pub one_taken : (file rest behind : List ℕ) (taken : List Bound) (x : Bound) → IsTakenTo file taken rest → IsFirstBound rest x behind → IsTakenTo file (taken ++ x ∷ []) behind
one_taken file rest behind taken x t h = record {
  goes_on = λ v d.
      let number : suc (length (taken ++ x ∷ [])) ≡ suc (suc (length taken)) = omega (arith, length-append taken (x ∷ [])) in
      let others : IsVerdictFrom (suc (suc (length taken))) behind v = subst (λ (k : ℕ). IsVerdictFrom k behind v) number d in
      subst (IsVerdict file) (front_more taken x (suc (length taken)) v) (t.goes_on _ (before_verdict (suc (length taken)) rest behind x v h others));
}

pub all_taken : (file rest : List ℕ) (taken : List Bound) → IsTakenTo file taken rest → EndsBy rest closed → Accepts file taken
all_taken file rest taken t e =
    let none : IsVerdictFrom (suc (length taken)) rest (Ok []) = record { statements = []; refusal = None; read = none_read (suc (length taken)) rest e; is = refl } in
    subst (λ (xs : List Bound). Accepts file xs) (append-nil taken) (t.goes_on (Ok []) none)

pub one_refused : (file rest : List ℕ) (taken : List Bound) (k : ℕ) (refusal : FileRefusal) → IsTakenTo file taken rest → k ≡ suc (length taken) → IsNextBound k rest (Err refusal)
    → IsRefused file refusal
one_refused file rest taken k (Refused n kind) t is d =
    subst (λ (m : ℕ). Refuses file m kind) (sym d.0) (t.goes_on (Err (k, kind)) (subst (λ (m : ℕ). IsVerdictFrom m rest (Err (k, kind))) is d.1))
one_refused file rest taken k Memory t is d = tt

-- So many statements were taken from the front of the file, and this is left.
pub record HasTaken (file : List ℕ) (count : ℕ) (rest : List ℕ) : Type 0 where
  pub taken : List Bound
  pub so : IsTakenTo file taken rest
  pub many : count ≡ length taken

pub none_counted : (file : List ℕ) → HasTaken file 0 file
none_counted file = record { taken = []; so = nothing_taken file; many = refl }

pub one_counted : (file rest behind : List ℕ) (count : ℕ) (x : Bound) → HasTaken file count rest → IsFirstBound rest x behind → HasTaken file (count + 1) behind
one_counted file rest behind count x t h = record {
  taken = t.taken ++ x ∷ [];
  so = one_taken file rest behind t.taken x t.so h;
  many = let m = t.many in omega (arith, length-append t.taken (x ∷ []));
}

pub all_counted : (file rest : List ℕ) (count : ℕ) → HasTaken file count rest → EndsBy rest closed → AcceptsSoMany file count
all_counted file rest count t e = (t.taken, all_taken file rest t.taken t.so e, t.many)

pub refused_counted : (file rest : List ℕ) (count : ℕ) (refusal : FileRefusal) → HasTaken file count rest → IsNextBound (count + 1) rest (Err refusal) → IsRefused file refusal
refused_counted file rest count refusal t d = one_refused file rest t.taken (count + 1) refusal t.so (let m = t.many in omega arith) d

-- ---- the first statement that is left

pub no_tree : (k : ℕ) (rest : List ℕ) (kind : FileKind) → RefusesFirst rest kind → IsVerdictFrom k rest (Err (k, kind))
no_tree k rest kind h = record { statements = []; refusal = Some (k, kind); read = h k; is = refl }

rule_broken : (k : ℕ) (rest behind : List ℕ) (s : Statement Path) (kind : FileKind) → IsFirst rest s behind → answer s ≡ Err kind → IsVerdictFrom k rest (Err (k, kind))
rule_broken k rest behind s kind h broken =
    let o = some_script (suc k) (pieces (lexed behind)).statements (pieces (lexed behind)).ending in
    record {
      statements = s ∷ o.0;
      refusal = o.1;
      read = first_read k rest behind s o.0 o.1 h o.2;
      is = sym (ap (λ (a : Result Bound FileKind). before_others k a (judged (k + 1) o.0 o.1)) broken);
    }

pub unbound : (k : ℕ) (rest behind : List ℕ) (s : Statement Path) (refusal : FileRefusal) → IsFirst rest s behind → IsBoundAs k s (Err refusal) → IsNextBound k rest (Err refusal)
unbound k rest behind s (Refused n kind) h b = (b.0, rule_broken k rest behind s kind h b.1)
unbound k rest behind s Memory h b = tt

pub bound_first : (rest behind : List ℕ) (s : Statement Path) (x : Bound) → IsFirst rest s behind → answer s ≡ Ok x → IsFirstBound rest x behind
bound_first rest behind s x h taken = record { statement = s; is_first = h; taken = taken }

-- what the rules of binding say of one statement
pub answered : (s : Statement Path) (x : Bound) → bind_fault s ≡ None → x ≡ bound s → answer s ≡ Ok x
answered s x sound is = ap (λ (f : Option BindKind). unless_fault f (bound s)) sound ∙ ap Ok (sym is)

pub refused_by_rule : (s : Statement Path) (x : BindRefusal) (why : BindKind) → x ≡ bind.Kind why → Binds s (Err x) → answer s ≡ Err (Bind why)
refused_by_rule s x why e h = ap (λ (f : Option BindKind). unless_fault f (bound s)) (subst (λ (y : BindRefusal). Binds s (Err y)) e h)

-- the same of what a call gave
pub first_so : (rest : List ℕ) (x : NextStatement) (s : StatementHeld) (behind : Bor (List ℕ)) → x ≡ tree.Statement s behind → IsNext rest (Ok x) → IsFirst rest (statement_of s) behind.now
first_so rest x s behind e h = subst (λ (y : NextStatement). IsNext rest (Ok y)) e h

pub refused_so : (k : ℕ) (rest : List ℕ) (x : RefusedTree) (y : FileRefusal) → y ≡ refusal_of k x → IsNext rest (Err x) → IsNextBound k rest (Err y)
refused_so k rest x y e h = subst (λ (z : FileRefusal). IsNextBound k rest (Err z)) (sym e) (go x h)
  where
    go : (x : RefusedTree) → IsNext rest (Err x) → IsNextBound k rest (Err (refusal_of k x))
    go (no.For kind) h = (refl, no_tree k rest kind h)
    go no.Memory h = tt

pub bound_so : (k : ℕ) (rest : List ℕ) (x : NextBound) (b : BoundHeld) (behind : Bor (List ℕ)) → x ≡ next.Statement b behind → IsNextBound k rest (Ok x)
    → IsFirstBound rest (bound_of b) behind.now × IsSound (bound_of b)
bound_so k rest x b behind e h = subst (λ (y : NextBound). IsNextBound k rest (Ok y)) e h

pub end_so : (k : ℕ) (rest : List ℕ) (x : NextBound) → x ≡ next.End → IsNextBound k rest (Ok x) → EndsBy rest closed
end_so k rest x e h = subst (λ (y : NextBound). IsNextBound k rest (Ok y)) e h
