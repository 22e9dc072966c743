-- Every statement has an answer, and every file is read as some statements.
use Rattle.std.proofs.Common.{◌≡◌, ◌⊎◌, inl, inr, ℕ, zero, suc, ◌+◌, ◌<◌, ◌≤◌, nat_lt, nat_le, Bool, true, false, List, [], ◌∷◌, length, take, count_by, Option, Some, None, Result, Ok, Err, refl, sym, subst, ◌∙◌, arith}
use Rattle.std.proofs.lemmas.Bool.Decides.{nat_tests}
use Rattle.std.proofs.lemmas.List.{take_all}
use Rattle.std.proofs.Math.Seq.{take-length}
use Rattle.sj_base.specs.Nesting.{max_open}
use Rattle.sj_path_grammar.specs.declared.refusal.Name.{Name}
use Rattle.sj_path_tree.specs.Tree.{Path}
use Rattle.sj_sql_grammar.specs.declared.refusal.FileKind.{FileKind}
use Rattle.sj_sql_grammar.specs.declared.refusal.FileKind.TheVariants as kind
use Rattle.sj_sql_grammar.specs.Tree.{Statement}
use Rattle.sj_sql_grammar.specs.Phrases.{Tokens}
use Rattle.sj_sql_grammar.specs.Grammar.{is_open, is_close, IsDeepAt, IsTooDeep}
use Rattle.sj_sql_grammar.specs.Reading.{select_at}
use Rattle.sj_sql_grammar.specs.Faults.{Faults, nothing_noted, parsing}
use Rattle.sj_sql_grammar.specs.Answers.{Ending, closed, cut_off, broken, IsAnswer, IsScript, done, unended, faulty, refused, accepted}
use Rattle.sj_sql_grammar.proofs.Verdicts.{too_deep, no_tree, path_fault, lacking, clean}

-- ---- a statement is too deep, or it is not

deep_at : (ts : Tokens) (n : ℕ) → IsDeepAt ts n ⊎ (IsDeepAt ts n → ⊥)
deep_at ts n = go (nat_lt (count_by is_close (take n ts) + max_open) (count_by is_open (take n ts))) refl
  where
    go : (b : Bool) → nat_lt (count_by is_close (take n ts) + max_open) (count_by is_open (take n ts)) ≡ b → IsDeepAt ts n ⊎ (IsDeepAt ts n → ⊥)
    go true h = inl (grind (arith, nat_tests))
    go false h = inr (λ d. grind (arith, nat_tests))

-- no prefix of at most this many tokens is too deep
abbrev IsShallowTo : Tokens → ℕ → Type 0
IsShallowTo ts n = (m : ℕ) → m ≤ n → IsDeepAt ts m → ⊥

shallow_start : (ts : Tokens) → (IsDeepAt ts 0 → ⊥) → IsShallowTo ts 0
shallow_start ts none m le d = let is : m ≡ 0 = omega arith in none (subst (λ (k : ℕ). IsDeepAt ts k) is d)

shallow_step : (ts : Tokens) (n : ℕ) → (IsDeepAt ts (suc n) → ⊥) → IsShallowTo ts n → IsShallowTo ts (suc n)
shallow_step ts n none before m le d = go (nat_le m n) refl
  where
    go : (b : Bool) → nat_le m n ≡ b → ⊥
    go true e = before m (grind (arith, nat_tests)) d
    go false e = let is : m ≡ suc n = grind (arith, nat_tests) in none (subst (λ (k : ℕ). IsDeepAt ts k) is d)

deep_within : (ts : Tokens) (n : ℕ) → IsTooDeep ts ⊎ IsShallowTo ts n
deep_within ts zero = elim (deep_at ts 0) [ inl deep ↦ inl (0, deep) | inr none ↦ inr (shallow_start ts none) ]
deep_within ts (suc n) = elim (deep_at ts (suc n)) [
  | inl deep ↦ inl (suc n, deep)
  | inr none ↦ elim (deep_within ts n) [ inl deep ↦ inl deep | inr before ↦ inr (shallow_step ts n none before) ]
]

-- behind the last token nothing more opens
shallow_anywhere : (ts : Tokens) → IsShallowTo ts (length ts) → IsTooDeep ts → ⊥
shallow_anywhere ts shallow deep = go (nat_le deep.0 (length ts)) refl
  where
    go : (b : Bool) → nat_le deep.0 (length ts) ≡ b → ⊥
    go true e = shallow deep.0 (grind (arith, nat_tests)) deep.1
    go false e =
        let long : length ts ≤ deep.0 = grind (arith, nat_tests) in
        let same : take deep.0 ts ≡ take (length ts) ts = take_all deep.0 ts long ∙ sym (take-length ts) in
        shallow (length ts) (omega arith) (subst (λ (us : Tokens). count_by is_close us + max_open < count_by is_open us) same deep.1)

-- ---- the answer of a statement

abbrev HasAnswer : Tokens → Type 0
HasAnswer ts = (a : Result (Statement Path) FileKind) × IsAnswer ts a

-- where the tokens are not too deep, what is noted of their tree decides
by_notes : (ts : Tokens) (s : Statement Path) (f : Faults) (fault : Option FileKind) (unsupported : Option Name) → (IsTooDeep ts → ⊥) → select_at parsing nothing_noted ts ≡ Some (s, f)
    → f.path ≡ fault → f.unsupported ≡ unsupported → HasAnswer ts
by_notes ts s f (Some k) unsupported shallow h e l = (Err k, path_fault ts s f k shallow h e)
by_notes ts s f None (Some name) shallow h e l = (Err (kind.Unsupported name), lacking ts s f name shallow h e l)
by_notes ts s f None None shallow h e l = (Ok s, clean ts s f shallow h e l)

by_reading : (ts : Tokens) (o : Option (Statement Path × Faults)) → (IsTooDeep ts → ⊥) → select_at parsing nothing_noted ts ≡ o → HasAnswer ts
by_reading ts None shallow h = (Err kind.Syntax, no_tree ts h)
by_reading ts (Some x) shallow h = by_notes ts x.0 x.1 (x.1).path (x.1).unsupported shallow h refl refl

pub some_answer : (ts : Tokens) → (a : Result (Statement Path) FileKind) × IsAnswer ts a
some_answer ts = elim (deep_within ts (length ts)) [
  | inl deep ↦ (Err kind.Syntax, too_deep ts deep)
  | inr shallow ↦ by_reading ts (select_at parsing nothing_noted ts) (shallow_anywhere ts shallow) refl
]

-- ---- the statements of a file

abbrev IsReadFrom : ℕ → List Tokens → Ending → Type 0
IsReadFrom k tss e = (ss : List (Statement Path)) × (refusal : Option (ℕ × FileKind)) × IsScript k tss e ss refusal

before_script : (k : ℕ) (ts : Tokens) (tss : List Tokens) (e : Ending) (a : Result (Statement Path) FileKind) → IsAnswer ts a → IsReadFrom (suc k) tss e → IsReadFrom k (ts ∷ tss) e
before_script k ts tss e (Ok s) is others = (s ∷ others.0, others.1, accepted is others.2)
before_script k ts tss e (Err why) is others = ([], Some (k, why), refused is)

pub some_script : (k : ℕ) (tss : List Tokens) (e : Ending) → (ss : List (Statement Path)) × (refusal : Option (ℕ × FileKind)) × IsScript k tss e ss refusal
some_script k [] closed = ([], None, done)
some_script k [] cut_off = ([], Some (k, kind.Syntax), unended)
some_script k [] broken = ([], Some (k, kind.Lex), faulty)
some_script k (ts ∷ tss) e = let a = some_answer ts in before_script k ts tss e a.0 a.1 (some_script (suc k) tss e)
