-- Well-formed UTF-8, byte by byte (RFC 3629, section 4): which bytes are still to come of a character.
use Rattle.std.specs.Prelude.{ℕ, cond, ◌==◌, nat_lt, List, [], ◌∷◌, Option, Some, None}
use Rattle.sj_scan.specs.declared.utf8.Utf8.{Utf8}
use Rattle.sj_scan.specs.declared.utf8.Utf8.TheVariants.{Between, OneMore, TwoMore, AfterE0, AfterEd, ThreeMore, AfterF0, AfterF4}

-- a character begins
abbrev pub lead_step : ℕ → Option Utf8
lead_step b =
    cond (nat_lt b 128) (Some Between) (cond (nat_lt b 194) None (cond (nat_lt b 224) (Some OneMore)
    (cond (b == 224) (Some AfterE0) (cond (b == 237) (Some AfterEd) (cond (nat_lt b 240) (Some TwoMore)
    (cond (b == 240) (Some AfterF0) (cond (nat_lt b 244) (Some ThreeMore) (cond (b == 244) (Some AfterF4) None))))))))

-- a byte from one value to another, both included
abbrev pub within : ℕ → ℕ → Utf8 → ℕ → Option Utf8
within from to next b = cond (nat_lt b from) None (cond (nat_lt to b) None (Some next))

abbrev pub utf8_step : Utf8 → ℕ → Option Utf8
utf8_step Between b = lead_step b
utf8_step OneMore b = within 128 191 Between b
utf8_step TwoMore b = within 128 191 OneMore b
utf8_step AfterE0 b = within 160 191 OneMore b
utf8_step AfterEd b = within 128 159 OneMore b
utf8_step ThreeMore b = within 128 191 TwoMore b
utf8_step AfterF0 b = within 144 191 TwoMore b
utf8_step AfterF4 b = within 128 143 TwoMore b

abbrev pub utf8_then : Option Utf8 → ℕ → Option Utf8
utf8_then None b = None
utf8_then (Some u) b = utf8_step u b

-- after these bytes; none if no well-formed text begins with all of them
abbrev pub utf8_after : Option Utf8 → List ℕ → Option Utf8
utf8_after o [] = o
utf8_after o (b ∷ bs) = utf8_after (utf8_then o b) bs
