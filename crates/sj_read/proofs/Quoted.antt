-- What stands between two quotation marks of a text is text.
use Rattle.std.proofs.Common.{◌≡◌, ◌+◌, ◌-◌, ◌<◌, ◌≤◌, ℕ, List, length, get_or, Option, Some, None, IfSome, IsUtf8, arith, subst}
use Rattle.std.specs.Str.{IsCharBoundary}
use Rattle.std.proofs.lemmas.Str.{IsCharBoundary-after_ascii, IsCharBoundary-before_ascii, IsUtf8-between}
use Rattle.sj_decimal.specs.Shorts.{between}
use Rattle.sj_read.specs.Scans.{EndsPlain}

from_there : (t : List ℕ) (from : ℕ) → IsUtf8 t → IsCharBoundary t from → (end : Option ℕ)
    → IfSome end (EndsPlain t from) → IfSome end (λ (n : ℕ). EndsPlain t from n × IsUtf8 (between t from n))
from_there t from utf8 start None h = tt
from_there t from utf8 start (Some n) h = (h, IsUtf8-between t from n utf8 h.later start (IsCharBoundary-before_ascii t n h.within (omega (arith, h.quote))))

-- t is the text, and s is the same as its bytes
pub quoted : (t s : List ℕ) (from : ℕ) → IsUtf8 t → 0 < from → from ≤ length t → get_or t (from - 1) 0 ≡ 34 → s ≡ t → (end : Option ℕ)
    → IfSome end (EndsPlain s from) → IfSome end (λ (n : ℕ). EndsPlain t from n × IsUtf8 (between t from n))
quoted t s from utf8 some within quote same end h =
    let next : from - 1 + 1 ≡ from = omega (arith, some) in
    let start = subst (IsCharBoundary t) next (IsCharBoundary-after_ascii t (from - 1) utf8 (omega (arith, some, within)) (omega (arith, quote))) in
    from_there t from utf8 start end (subst (λ (x : List ℕ). IfSome end (EndsPlain x from)) same h)
