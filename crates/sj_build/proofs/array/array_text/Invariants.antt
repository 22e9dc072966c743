use Rattle.std.proofs.Common.{◌≡◌, ◌∷◌, take}
use Rattle.sj_build.specs.Constructors.{value_text, joined, kept_values}
use Rattle.sj_build.specs.Growing.{place_behind}
use Rattle.sj_build.proofs.array.array_text.Given as goal

-- the open text of the values so far
abbrev pub invariant-loop-value : goal.invariant-loop-value
invariant-loop-value l =
    (l.text ≡ 91 ∷ joined value_text (kept_values l.nulls (take l.value-index l.values)))
    × (l.place ≡ place_behind (kept_values l.nulls (take l.value-index l.values)))
