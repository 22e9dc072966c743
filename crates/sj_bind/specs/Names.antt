-- Names that are noted one after another.
use Rattle.std.specs.Prelude.{ℕ, List, map}
use Rattle.sj_bind.specs.declared.name_set.NameSet.{NameSet}

-- the names in a set, in the order in which they were noted
abbrev pub names_of : NameSet → List (List ℕ)
names_of set = map (λ name. name.now) set.names.keys
