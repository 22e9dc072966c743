-- Lists of values in the form of the definitions: a value, and then the others.
use Rattle.std.specs.Prelude.{List, [], ◌∷◌, Option, Some, None}
use Rattle.sj_path_tree.specs.Tree.{Path}
use Rattle.sj_sql_grammar.specs.Tree as t

-- the values of a list, and what follows them
abbrev pub onto : {A L : Type 0} → (A → L → L) → List A → L → L
onto more [] l = l
onto more (x ∷ xs) l = more x (onto more xs l)

-- what was read, behind what was read before it
abbrev pub fronted : {A L F R : Type 0} → (A → L → L) → List A → Option (L × F × R) → Option (L × F × R)
fronted more xs None = None
fronted more xs (Some x) = Some (onto more xs x.0, x.1, x.2)

abbrev pub listed : {A R : Type 0} → List A → Option (List A × R) → Option (List A × R)
listed xs None = None
listed xs (Some x) = Some (onto ◌∷◌ xs x.0, x.1)

-- a member, and then the others
abbrev pub more_members : t.Value Path × t.Value Path → t.Members Path → t.Members Path
more_members x xs = t.MoreMembers x.0 x.1 xs
