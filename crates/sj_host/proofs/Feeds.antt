-- Where lines end.
use Rattle.std.proofs.Common.{◌≡◌, inl, ℕ, ◌+◌, ◌<◌, ◌≤◌, List, [], ◌∷◌, length, take, slice_index, refl, sym, ◌∙◌, ap, arith, ◌==◌}
use Rattle.std.proofs.lemmas.List.{take_more, take-take}
use Rattle.std.proofs.lemmas.Bool.{eqb-true}
use Rattle.memchr.specs.Find.{is_byte, Passes, Nowhere}
use Rattle.sj_rows.specs.Lines.{whole_lines, open_part}
use Rattle.sj_rows.proofs.Splits.{open-append, open_feed, no_feed}
use Rattle.sj_host.specs.declared.lines.Part.{Part}
use Rattle.sj_host.specs.declared.lines.Part.TheVariants.{Front, End}
use Rattle.sj_host.specs.Host.{EndsLine}

-- nothing is behind an LF
pub ends_behind : (xs : List ℕ) (at : ℕ) → at < length xs → Passes (is_byte 10) xs at → open_part (take (at + 1) xs) ≡ []
ends_behind xs at within is =
    let feed : slice_index xs at ≡ 10 = eqb-true (slice_index xs at) 10 is in
    ap open_part (take_more xs at 0 within) ∙ open-append [] (take at xs) (slice_index xs at ∷ []) ∙ open_feed (open_part (take at xs)) (slice_index xs at) [] feed

-- a front of a front
pub ends_within : (xs : List ℕ) (m n : ℕ) → m ≤ n → open_part (take m (take n xs)) ≡ [] → open_part (take m xs) ≡ []
ends_within xs m n within is = ap open_part (sym (take-take m n xs within)) ∙ is

-- whatever comes behind it
pub ends_line : (part : Part) (xs : List ℕ) (m n : ℕ) → m ≤ n → open_part (take m (take n xs)) ≡ [] → EndsLine part xs m
ends_line Front xs m n within is = ends_within xs m n within is
ends_line End xs m n within is = inl (ends_within xs m n within is)

-- where there is no LF, there is no whole line
pub none_there : (xs : List ℕ) → Nowhere (Passes (is_byte 10) xs) 0 (length xs) → whole_lines xs ≡ []
none_there xs none = (no_feed [] xs (λ k below is. none k (omega arith) below (ap (λ (x : ℕ). x == 10) is))).0

-- no byte is left
pub nothing_left : (xs : List ℕ) → length xs ≡ 0 → xs ≡ []
nothing_left [] none = refl
nothing_left (x ∷ xs) none = absurd (omega (arith, none))
