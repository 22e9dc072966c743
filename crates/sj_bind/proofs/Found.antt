-- What is found behind what was found before.
use Rattle.std.proofs.Common.{◌≡◌, List, [], ◌∷◌, ◌++◌, refl, ap}
use Rattle.std.specs.Borrow.{Bor}
use Rattle.sj_sql_tree.specs.declared.tree.Value.{Value as ParsedValue}
use Rattle.sj_sql_tree.specs.View.{value_of}
use Rattle.sj_bind.specs.declared.parts.Call.{Call}
use Rattle.sj_bind.specs.PartsView.{call_of, calls_of, keys_of}

pub calls_of-push : (xs : List Call) (x : Call) → calls_of (xs ++ x ∷ []) ≡ calls_of xs ++ call_of x ∷ []
calls_of-push [] x = refl
calls_of-push (y ∷ xs) x = ap (λ r. call_of y ∷ r) (calls_of-push xs x)

pub keys_of-push : (xs : List (Bor ParsedValue)) (x : Bor ParsedValue) → keys_of (xs ++ x ∷ []) ≡ keys_of xs ++ value_of x.now ∷ []
keys_of-push [] x = refl
keys_of-push (y ∷ xs) x = ap (λ r. value_of y.now ∷ r) (keys_of-push xs x)

pub ruleset found = (calls_of-push, keys_of-push)
