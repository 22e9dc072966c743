-- Steps that are taken one after another.
use Rattle.std.proofs.Common.{◌≤◌, ℕ, ◌+◌, arith}
use Rattle.sj_base.specs.Count.{raised}
use Rattle.sj_table.specs.Takes.{Spends}

pub spent_then : (m a n b k : ℕ) → n ≤ raised m a → k ≤ raised n b → k ≤ raised m (a + b)
spent_then m a n b k first second = omega (arith, first, second)

pub spent_less : (m a b n : ℕ) → a ≤ b → n ≤ raised m a → n ≤ raised m b
spent_less m a b n less spent = omega (arith, less, spent)

-- what is due falls by what is spent, at least
pub falls_by : (due due' spent m n : ℕ) → due' + spent ≤ due → n ≤ raised m spent → Spends due due' m n
falls_by due due' spent m n falls spends = record { falls = omega (arith, falls); costs = omega (arith, falls, spends) }

-- where nothing is due any more, at most all that was due was spent
pub spends_rest : (due due' m n : ℕ) → Spends due due' m n → Spends due 0 m n
spends_rest due due' m n s = record { falls = omega arith; costs = omega (arith, s.costs) }
