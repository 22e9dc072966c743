-- A text has no more characters than bytes.
use Rattle.std.proofs.Common.{ℕ, ◌≤◌, List, length, IsUtf8, subst}
use Rattle.std.proofs.lemmas.Str.{encodes-chars, length-le-encodes}
use Rattle.std.specs.Str.{chars}

pub length-chars-le : (s : List ℕ) → IsUtf8 s → length (chars s) ≤ length s
length-chars-le s h = subst (λ (t : List ℕ). length (chars s) ≤ length t) (encodes-chars s h) (length-le-encodes (chars s))
