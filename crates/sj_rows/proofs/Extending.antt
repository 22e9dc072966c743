-- What stands there stays, whatever is appended.
use Rattle.std.proofs.Common.{◌≡◌, ℕ, List, [], ◌++◌, length, take, sym, ap, ◌∙◌, append_assoc}
use Rattle.std.proofs.lemmas.List.{append-nil}
use Rattle.std.proofs.Math.Seq.{take-append_seam}
use Rattle.sj_rows.specs.RowText.{Extends}

pub extends_none : (old : List ℕ) → Extends old old
extends_none old = record { behind = []; grown = sym (append-nil old) }

pub extends_by : (old behind new : List ℕ) → new ≡ old ++ behind → Extends old new
extends_by old behind new is = record { behind = behind; grown = is }

pub extends_more : (old mid new : List ℕ) → Extends old mid → Extends mid new → Extends old new
extends_more old mid new a b = record { behind = a.behind ++ b.behind; grown = b.grown ∙ ap (λ (l : List ℕ). l ++ b.behind) a.grown ∙ append_assoc old a.behind b.behind }

-- it is there again where what stands behind it is taken away
pub extends_back : (start : ℕ) (old new last : List ℕ) → start ≡ length old → Extends old new → last ≡ take start new → last ≡ old
extends_back start old new last at more is = is ∙ ap (take start) more.grown ∙ ap (λ (n : ℕ). take n (old ++ more.behind)) at ∙ take-append_seam old more.behind
