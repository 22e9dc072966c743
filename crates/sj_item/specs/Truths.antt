-- The tables of SQL's three-valued logic.
use Rattle.std.specs.Prelude.{Bool, true, false}
use Rattle.sj_item.specs.declared.truth.Truth.{Truth}
use Rattle.sj_item.specs.declared.truth.Truth.TheVariants.{True, False, Unknown}

abbrev pub conjunction : Truth → Truth → Truth
conjunction True True = True
conjunction True False = False
conjunction True Unknown = Unknown
conjunction False True = False
conjunction False False = False
conjunction False Unknown = False
conjunction Unknown True = Unknown
conjunction Unknown False = False
conjunction Unknown Unknown = Unknown

abbrev pub disjunction : Truth → Truth → Truth
disjunction True True = True
disjunction True False = True
disjunction True Unknown = True
disjunction False True = True
disjunction False False = False
disjunction False Unknown = Unknown
disjunction Unknown True = True
disjunction Unknown False = Unknown
disjunction Unknown Unknown = Unknown

abbrev pub negation : Truth → Truth
negation True = False
negation False = True
negation Unknown = Unknown

-- a test that has an answer
abbrev pub truth_of : Bool → Truth
truth_of true = True
truth_of false = False
