-- A SELECT list that is the columns of a table. Private clauses alone cite this.
use Rattle.std.specs.Prelude.{◌≡◌, ℕ, ◌+◌, List, [], ◌∷◌}
use Rattle.sj_select_list.specs.Operations.{OperationStep, column}

-- the steps find the columns from this number on, one behind the other
abbrev pub FindsEach : ℕ → List OperationStep → Type 0
FindsEach i [] = Unit {0}
FindsEach i (step ∷ steps) = (step ≡ column i) × FindsEach (i + 1) steps
