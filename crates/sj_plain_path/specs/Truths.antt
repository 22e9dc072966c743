-- Whether a truth is True, and whether it is Unknown.
use Rattle.std.specs.Prelude.{Bool, true, false}
use Rattle.sj_item.specs.declared.truth.Truth.{Truth}
use Rattle.sj_item.specs.declared.truth.Truth.TheVariants.{True, False, Unknown}

abbrev pub is_true : Truth → Bool
is_true True = true
is_true False = false
is_true Unknown = false

abbrev pub is_unknown : Truth → Bool
is_unknown True = false
is_unknown False = false
is_unknown Unknown = true
