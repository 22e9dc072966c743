-- What the functions that take statements ensure.
use Rattle.std.specs.Prelude.{◌≡◌, ℕ, List, ◌++◌, length, Option, Result, Ok, Err, codes}
use Rattle.sj_path_tree.specs.Tree.{Path}
use Rattle.sj_sql_grammar.specs.declared.refusal.FileKind.{FileKind}
use Rattle.sj_sql_grammar.specs.Answers.{closed}
use Rattle.sj_sql_grammar.specs.Tree.{Statement}
use Rattle.sj_sql.specs.declared.answer.Refused.{Refused as RefusedTree}
use Rattle.sj_sql.specs.declared.answer.Refused.TheVariants as tree
use Rattle.sj_sql.specs.File.{EndsBy, IsLeft, IsFirst}
use Rattle.sj_sql_text.specs.Statements.{statement_text, lines_text}
use Rattle.sj_bound.specs.Bound as b
use Rattle.sj_bound.specs.Sound.{IsSound}
use Rattle.sj_bound.specs.View.{bound_of}
use Rattle.sj_bound.specs.declared.bound.Bound.{Bound as BoundHeld}
use Rattle.sj_file.specs.declared.job.FileRefusal.{FileRefusal}
use Rattle.sj_file.specs.declared.job.FileRefusal.TheVariants.{Refused, Memory}
use Rattle.sj_file.specs.declared.verdict.NextBound.{NextBound}
use Rattle.sj_file.specs.declared.verdict.NextBound.TheVariants as next
use Rattle.sj_file.specs.Verdict.{answer, judged, Accepts, Refuses}

-- ---- what is left of a file

-- it has this verdict, where its first statement has number k
pub record IsVerdictFrom (k : ℕ) (rest : List ℕ) (verdict : Result (List b.Bound) (ℕ × FileKind)) : Type 0 where
  pub statements : List (Statement Path)
  pub refusal : Option (ℕ × FileKind)
  pub read : IsLeft k rest statements refusal
  pub is : verdict ≡ judged k statements refusal

-- its first statement is bound so, and this is behind it
pub record IsFirstBound (rest : List ℕ) (x : b.Bound) (behind : List ℕ) : Type 0 where
  pub statement : Statement Path
  pub is_first : IsFirst rest statement behind
  pub taken : answer statement ≡ Ok x

-- statement k is refused so
abbrev pub refusal_of : ℕ → RefusedTree → FileRefusal
refusal_of k (tree.For kind) = Refused k kind
refusal_of k tree.Memory = Memory

-- statement k is bound so, or it breaks a rule; being out of memory says nothing of it
abbrev pub IsBoundAs : ℕ → Statement Path → Result BoundHeld FileRefusal → Type 0
IsBoundAs k s (Ok x) = (answer s ≡ Ok (bound_of x)) × IsSound (bound_of x)
IsBoundAs k s (Err (Refused n kind)) = (n ≡ k) × (answer s ≡ Err kind)
IsBoundAs k s (Err Memory) = Unit {0}

-- its first statement, which has number k, is bound so, or there is none, or it is refused so; being out of memory says nothing of it
abbrev pub IsNextBound : ℕ → List ℕ → Result NextBound FileRefusal → Type 0
IsNextBound k rest (Ok (next.Statement x behind)) = IsFirstBound rest (bound_of x) behind.now × IsSound (bound_of x)
IsNextBound k rest (Ok next.End) = EndsBy rest closed
IsNextBound k rest (Err (Refused n kind)) = (n ≡ k) × IsVerdictFrom k rest (Err (k, kind))
IsNextBound k rest (Err Memory) = Unit {0}

-- The same, where the canonical text of the statement on its line was put behind a text.
abbrev pub IsNextWithText : ℕ → List ℕ → (old new : List ℕ) → Result NextBound FileRefusal → Type 0
IsNextWithText k rest old new (Ok (next.Statement x behind)) = (f : IsFirstBound rest (bound_of x) behind.now) × (new ≡ old ++ (statement_text f.statement ++ codes "\n"))
IsNextWithText k rest old new (Ok next.End) = EndsBy rest closed × (new ≡ old)
IsNextWithText k rest old new (Err refusal) = IsNextBound k rest (Err refusal)

-- ---- the whole file

-- it is accepted, and has so many statements
abbrev pub AcceptsSoMany : List ℕ → ℕ → Type 0
AcceptsSoMany file count = (statements : List b.Bound) × Accepts file statements × (count ≡ length statements)

-- it is accepted, and its statements have this canonical text
abbrev pub AcceptsWithText : List ℕ → List ℕ → Type 0
AcceptsWithText file text = (statements : List b.Bound) × (a : Accepts file statements) × (text ≡ lines_text a.statements)

-- it is refused so; being out of memory says nothing of it
abbrev pub IsRefused : List ℕ → FileRefusal → Type 0
IsRefused file (Refused k kind) = Refuses file k kind
IsRefused file Memory = Unit {0}
