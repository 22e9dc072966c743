-- Which clauses a query function can be given.
use Rattle.sj_value.specs.declared.clauses.ValueAction.{ValueAction}
use Rattle.sj_value.specs.declared.clauses.ValueAction.TheVariants.{Error, Null, Default}
use Rattle.sj_value.specs.declared.clauses.ValueSpec.{ValueSpec}
use Rattle.sj_value.specs.Types.{IsCastType}
use Rattle.sj_value.specs.Values.{IsPrintable}

-- a value that it may give can be printed
abbrev pub GivesPrintable : ValueAction → Type 0
GivesPrintable Error = Unit {0}
GivesPrintable Null = Unit {0}
GivesPrintable (Default v) = IsPrintable v

-- the clauses of a JSON_VALUE: an item can be cast to the type, and the values of DEFAULT can be printed
pub record IsValueSpec (clauses : ValueSpec) : Type 0 where
  pub ty : IsCastType clauses.ty
  pub on_empty : GivesPrintable clauses.on_empty
  pub on_error : GivesPrintable clauses.on_error
