-- WHAT GROUPING ASKS OF A FILE: one statement, of two items, or of three of which the second is a key.
use Rattle.std.specs.Prelude.{◌≡◌, ◌⊎◌, ℕ, List, [], ◌∷◌, length, Result, Ok, Err}
use Rattle.sj_sql_grammar.specs.declared.refusal.FileKind.{FileKind}
use Rattle.sj_sql_grammar.specs.declared.refusal.FileKind.TheVariants.{Group}
use Rattle.sj_bound.specs.Bound.{Bound}
use Rattle.sj_bound.specs.Sound.{IsSound, HasKeyAt}
use Rattle.sj_bound.specs.View.{bound_of}
use Rattle.sj_group.specs.declared.aggregate.Aggregate.{Aggregate}
use Rattle.sj_group.specs.declared.aggregate.Aggregate.TheVariants.{Array, Object}
use Rattle.sj_file.specs.declared.to_group.ToGroup.{ToGroup}
use Rattle.sj_file.specs.File.{ShelfSide, Form, grouping, scanning}
use Rattle.sj_file.specs.Verdict.{Accepts, Refuses}
use Rattle.sj_file.specs.Accepted.{Accepted}

-- ---- one statement

-- its rows can be grouped so
abbrev pub CanGroup : Aggregate → Bound → Type 0
CanGroup Array s = length s.items ≡ 2
CanGroup Object s = (length s.items ≡ 3) × HasKeyAt s 1

-- it is bound, and its rows can be grouped so
pub record IsReadyToGroup (x : ToGroup) : Type 0 where
  pub sound : IsSound (bound_of x.statement)
  pub fits : CanGroup x.aggregate (bound_of x.statement)

-- ---- a file

-- Statement k shows that these statements are not one that can be grouped: the first, or a second.
abbrev pub Unfit : ℕ → List Bound → Type 0
Unfit k [] = k ≡ 1
Unfit k (s ∷ []) = (k ≡ 1) × ((aggregate : Aggregate) → CanGroup aggregate s → ⊥)
Unfit k (s ∷ second ∷ more) = k ≡ 2

-- the file is accepted, and its statements are not one that can be grouped
pub record IsUnfit (file : List ℕ) (k : ℕ) (kind : FileKind) : Type 0 where
  pub statements : List Bound
  pub accepted : Accepts file statements
  pub unfit : Unfit k statements
  pub group : kind ≡ Group

-- the file is refused, or it is accepted and is no file to group
abbrev pub RefusesToGroup : List ℕ → ℕ → FileKind → Type 0
RefusesToGroup file k kind = Refuses file k kind ⊎ IsUnfit file k kind

-- WHAT A FORM REFUSES of a file: grouping asks for more than the others, after all else. A scan has no file.
abbrev pub RefusesFor : Form → List ℕ → ℕ → FileKind → Type 0
RefusesFor (grouping name) = RefusesToGroup
RefusesFor (scanning path) = λ file k kind. ⊥
RefusesFor _ = Refuses

-- ---- what is known of the file that the words name

-- this file was read whole, and this is its one statement, whose rows can be grouped so
abbrev pub AcceptedToGroup : List ℕ → ShelfSide → ShelfSide → Aggregate → Bound → Type 0
AcceptedToGroup name old new aggregate s = Accepted name old new (s ∷ []) × CanGroup aggregate s

-- ---- what is made of statements

-- the only one of them, whose rows can be grouped so, or the number of the one that shows that there is none
abbrev pub IsOnly : List Bound → Result ToGroup ℕ → Type 0
IsOnly statements (Ok x) = (statements ≡ bound_of x.statement ∷ []) × CanGroup x.aggregate (bound_of x.statement)
IsOnly statements (Err k) = Unfit k statements
