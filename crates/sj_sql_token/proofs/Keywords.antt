-- Keywords that are the same.
use denote.Enum.Bare.{same_true, true_same, false_same}
use Rattle.std.proofs.Common.{◌≡◌, true, false}
use Rattle.sj_sql_token.specs.contracts.keyword.Keyword.{the_type}
use Rattle.sj_sql_token.specs.declared.keyword.Keyword.{Keyword}
use Rattle.sj_sql_token.specs.Same.{same}

pub same_is : (v u : Keyword) → same v u ≡ true → v ≡ u
same_is v u h = same_true the_type tt v u h

pub same_on : (v u : Keyword) → v ≡ u → same v u ≡ true
same_on v u h = true_same the_type v u h

pub same_off : (v u : Keyword) → (v ≡ u → ⊥) → same v u ≡ false
same_off v u h = false_same the_type tt v u h
