-- Tests of lists behind what was found before.
use Rattle.std.proofs.Common.{◌≡◌, Bool, true, false, ◌||◌, List, ◌∷◌, ◌++◌, refl}
use Rattle.std.specs.List.{list_any}
use Rattle.std.proofs.lemmas.List.Folds.{list_any-append}
use Rattle.sj_bind.proofs.AddedNames.{or_none}

pub none_more : (b : Bool) → (b || false) ≡ b
none_more b = or_none b

pub one_more : {A : Type 0} (b : Bool) (p : A → Bool) (x : A) (xs : List A) → (b || list_any p (x ∷ xs)) ≡ ((b || p x) || list_any p xs)
one_more true p x xs = refl
one_more false p x xs = refl

pub some_more : {A : Type 0} (b : Bool) (p : A → Bool) (xs ys : List A) → (b || list_any p (xs ++ ys)) ≡ ((b || list_any p xs) || list_any p ys)
some_more true p xs ys = refl
some_more false p xs ys = list_any-append p xs ys

pub ruleset broken_steps = (none_more, one_more, some_more)
