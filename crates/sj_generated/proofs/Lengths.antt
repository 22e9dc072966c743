-- How long generated lines are.
use Rattle.std.proofs.Common.{ℕ, ◌+◌, ◌*◌, ◌^◌, ◌%◌, ◌≤◌, ◌<◌, ◌==◌, zero, suc, List, ◌++◌, Bool, true, false, if◌then◌else◌, length, codes, decimal, arith, length-append, lit≤}
use Rattle.std.proofs.lemmas.Fmt.{length-decimal-le}
use Rattle.sj_generated.specs.Lines.{most_lines, members, line, lines_from, generated}

-- one behind the other, each within its bound
within : (xs ys : List ℕ) (m n : ℕ) → length xs ≤ m → length ys ≤ n → length (xs ++ ys) ≤ m + n
within xs ys m n a b = omega (arith, a, b, length-append xs ys)

members_short : (i : ℕ) → length (members i) ≤ 24
members_short i =
    within (codes ",\"v\":[") _ 6 18 (lit≤ tt) (within (decimal (i % 7)) _ 1 17 (digit (i % 7) (omega arith)) (within (codes ",") _ 1 16 (lit≤ tt) (within (decimal (i % 3)) _ 1 15 (digit (i % 3) (omega arith))
    (within (codes "],\"s\":\"k") _ 8 7 (lit≤ tt) (within (decimal (i % 5)) _ 1 6 (digit (i % 5) (omega arith)) (lit≤ tt))))))
  where
    digit : (d : ℕ) → d < 10 → length (decimal d) ≤ 1
    digit d below = length-decimal-le 1 d (omega arith) below (omega (arith, below))

either : (tenth : Bool) (xs ys : List ℕ) (n : ℕ) → length xs ≤ n → length ys ≤ n → length (if tenth then xs else ys) ≤ n
either true xs ys n a b = a
either false xs ys n a b = b

line_short : (i : ℕ) → i < 10 ^ 6 → length (line i) ≤ 64
line_short i fits =
    within (codes "{\"n\":") _ 5 59 (lit≤ tt) (within (decimal i) _ 6 53 (length-decimal-le 6 i (omega arith) fits (omega (arith, fits)))
    (either (i % 10 == 0) _ _ 53 (lit≤ tt) (omega (arith, members_short i))))

lines_short : (i n : ℕ) → i + n ≤ 10 ^ 6 → length (lines_from i n) ≤ 64 * n
lines_short i zero fits = omega arith
lines_short i (suc n) fits = omega (arith, line_short i (omega (arith, fits)), lines_short (i + 1) n (omega (arith, fits)), length-append (line i) (lines_from (i + 1) n))

-- they are far fewer bytes than an input may have
pub generated_short : (n : ℕ) → n ≤ most_lines → length (generated n) < 2 ^ 62
generated_short n fits = omega (arith, lines_short 1 n (omega (arith, fits)), fits)
