-- Why a call refuses.
use Rattle.std.specs.Prelude.{◌≡◌, ℕ, List, Option, Bool, true, Result, Err, ⊤}
use Rattle.sj_base.specs.declared.state.State.{State as SqlState}
use Rattle.sj_base.specs.declared.state.State.TheVariants.{S22030}
use Rattle.sj_value.specs.declared.value.SqlValue.{SqlValue}
use Rattle.sj_build.specs.declared.refusal.BuildRefusal.{BuildRefusal}
use Rattle.sj_build.specs.declared.refusal.BuildRefusal.TheVariants.{State, Memory}

-- a refusal with a state is that of the meaning; being out of memory has no cause
abbrev pub RefusesAs : Result SqlValue SqlState → BuildRefusal → Type 0
RefusesAs meaning (State state) = meaning ≡ Err state
RefusesAs meaning Memory = ⊤

-- a refusal of a field by itself has its state, and is not for being out of memory
abbrev pub RefusesNull : Result (Option (List ℕ)) SqlState → BuildRefusal → Type 0
RefusesNull kept (State state) = kept ≡ Err state
RefusesNull kept Memory = ⊥

-- a refusal of a repeated key comes only where the key is repeated
abbrev pub RefusesRepeated : Bool → BuildRefusal → Type 0
RefusesRepeated is_repeated (State state) = (state ≡ S22030) × (is_repeated ≡ true)
RefusesRepeated is_repeated Memory = ⊤
