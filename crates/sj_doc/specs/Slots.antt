-- Keys as they are collected, and a number below 256 that equal keys share. Private clauses alone cite it.
use Rattle.std.specs.Prelude.{ℕ, ◌+◌, ◌-◌, ◌*◌, ◌/◌, ◌%◌, List, map, length, slice_index}
use Rattle.std.specs.Borrow.{Bor}

abbrev pub Key : Type 0
Key = Bor (List ℕ)

abbrev pub texts : List Key → List (List ℕ)
texts ks = map (λ k. k.now) ks

unfoldable pub slot : List ℕ → ℕ
slot k = (length k % 256 * 37 + slice_index k (length k / 2) * 11 + slice_index k (length k - 1)) % 256
