-- A scan takes bytes one after another, in any cut.
use Rattle.std.proofs.Common.{◌≡◌, ℕ, ◌+◌, ◌<◌, List, [], ◌∷◌, ◌++◌, take, drop, length, get_or, Option, refl, sym, ap, ◌∙◌, take_all, ◌≤◌, Some, arith}
use Rattle.std.proofs.lemmas.List.{take_more}
use Rattle.std.proofs.Math.Seq.{take-add}
use Rattle.sj_scan.specs.Scanning.{Reached, begun, step_of, steps, StandsFor}

pub steps_append : (o : Option Reached) (x y : List ℕ) → steps o (x ++ y) ≡ steps (steps o x) y
steps_append o [] y = refl
steps_append o (b ∷ x) y = steps_append (step_of o b) x y

-- one byte more of a list
pub steps_on : (o s : Option Reached) (bs : List ℕ) (i : ℕ) → i < length bs → s ≡ steps o (take i bs) → step_of s (get_or bs i 0) ≡ steps o (take (i + 1) bs)
steps_on o s bs i h e =
    ap (λ (r : Option Reached). step_of r (get_or bs i 0)) e ∙ sym (steps_append o (take i bs) (get_or bs i 0 ∷ [])) ∙ ap (steps o) (sym (take_more bs i 0 h))

-- a whole list
pub stands_on : (h bs : List ℕ) (o s : Option Reached) (i : ℕ) → length bs ≤ i → StandsFor h o → s ≡ steps o (take i bs) → StandsFor (h ++ bs) s
stands_on h bs o s i le e f =
    f ∙ ap (steps o) (take_all i bs le) ∙ ap (λ (r : Option Reached). steps r bs) e ∙ sym (steps_append (Some begun) h bs)

-- some bytes more of a list
pub steps_more : (o s t : Option Reached) (bs : List ℕ) (i n : ℕ) → s ≡ steps o (take i bs) → t ≡ steps s (take n (drop i bs)) → t ≡ steps o (take (i + n) bs)
steps_more o s t bs i n e f =
    f ∙ ap (λ (r : Option Reached). steps r (take n (drop i bs))) e ∙ sym (steps_append o (take i bs) (take n (drop i bs))) ∙ ap (steps o) (sym (take-add i n bs))

-- one byte at the front, where none was passed over
pub one_at_front : (o s t : Option Reached) (bs : List ℕ) (run : ℕ) → run ≤ 0 → 0 < length bs → s ≡ steps o (take run bs) → t ≡ step_of s (get_or bs 0 0) → t ≡ steps o (take 1 bs)
one_at_front o s t bs run none h e f =
    let zero : run ≡ 0 = omega arith in
    f ∙ steps_on o s bs 0 h (e ∙ ap (λ (i : ℕ). steps o (take i bs)) zero)
