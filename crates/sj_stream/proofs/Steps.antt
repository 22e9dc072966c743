-- Steps that are counted one after the other. These lemmas are on numbers alone, so that no tactic looks into what is counted.
use Rattle.std.proofs.Common.{◌≡◌, ℕ, ◌+◌, ◌≤◌, arith}
use Rattle.std.specs.Io.Iter.{u64_saturate}
use Rattle.sj_base.specs.Count.{raised}

pub raised_none : (a n : ℕ) → a ≤ raised a n
raised_none a n = omega arith

pub raised_more : (a b n k : ℕ) → b ≤ raised a n → n ≤ k → b ≤ raised a k
raised_more a b n k spent more = omega (arith, spent, more)

pub raised_same : (a b c n k : ℕ) → c ≡ b → b ≤ raised a n → n ≤ k → c ≤ raised a k
raised_same a b c n k same spent more = omega (arith, same, spent, more)

pub raised_on : (a b c n m k : ℕ) → b ≤ raised a n → c ≤ raised b m → n + m ≤ k → c ≤ raised a k
raised_on a b c n m k spent more all = omega (arith, spent, more, all)

-- a count that begins at 0 is told as it is, up to its last value
pub counted_is : (count n : ℕ) → count ≡ raised 0 n → count ≡ u64_saturate n
counted_is count n is = omega (arith, is)

-- ---- sums

pub zero_before : (n : ℕ) → n ≡ 0 + n
zero_before n = omega arith

pub added_on : (a b c : ℕ) → a + (b + c) ≡ a + b + c
added_on a b c = omega arith

-- a part is within the whole
pub part_within : (whole part other : ℕ) → whole ≡ part + other → part ≤ whole
part_within whole part other is = omega (arith, is)

pub part_within_more : (more whole part other : ℕ) → whole ≡ part + other → whole ≤ more → part ≤ more
part_within_more more whole part other is within = omega (arith, is, within)

-- and so are two, the second of which is told in another way, or is less
pub parts_within : (whole part other told : ℕ) → told ≡ other → whole ≡ part + other → part + told ≤ whole
parts_within whole part other told same is = omega (arith, same, is)

pub parts_within_more : (more whole part other less : ℕ) → less ≤ other → whole ≡ part + other → whole ≤ more → part + less ≤ more
parts_within_more more whole part other less few is within = omega (arith, few, is, within)

pub parts_are : (told whole part other : ℕ) → told ≡ whole → whole ≡ part + other → part + other ≤ told
parts_are told whole part other same is = omega (arith, same, is)
