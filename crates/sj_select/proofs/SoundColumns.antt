-- The clauses of the columns of a sound table can be given.
use Rattle.std.proofs.Common.{ℕ, suc, List, [], ◌∷◌, length, map, arith}
use Rattle.std.specs.List.{All}
use Rattle.std.proofs.lemmas.List.Elements.{All-nil, All-cons}
use Rattle.sj_path_tree.specs.Vars.{Variables}
use Rattle.sj_bound.specs.Bound as b
use Rattle.sj_bound.specs.Sound.{IsSoundColumn, IsSoundTable}
use Rattle.sj_select.specs.Columns.{with_variables, columns_of}
use Rattle.sj_select.specs.Filling.{CanFill}

module _ (vars : Variables) (n : ℕ) where
  filled : (c : b.ColumnOf) → IsSoundColumn vars n c → CanFill (with_variables vars c)
  filled (b.Ordinality k) h = tt
  filled (b.Regular k path clauses) h = h.2.can_be_given
  filled (b.Formatted k path clauses) h = tt
  filled (b.Existence k path _) h = tt

  filled_all : (cs : List b.ColumnOf) → All (IsSoundColumn vars n) cs → All CanFill (map (with_variables vars) cs)
  filled_all [] h = All-nil CanFill
  filled_all (c ∷ cs) h = All-cons CanFill (with_variables vars c) (map (with_variables vars) cs) (filled c (h 0 c (omega arith))) (filled_all cs (λ k d within. h (suc k) d (omega (arith, within))))

pub sound_columns : (table : b.Table) → IsSoundTable table → All CanFill (columns_of table)
sound_columns table h = filled_all table.vars (length table.paths) table.columns h.columns
