-- The clauses of the operations of a sound statement can be given.
use Rattle.std.proofs.Common.{suc, List, [], ◌∷◌, get_or, arith}
use Rattle.std.specs.List.{All}
use Rattle.std.proofs.lemmas.List.Elements.{All-nil, All-cons, All-append}
use Rattle.sj_bound.specs.Bound as b
use Rattle.sj_bound.specs.Sound.{IsSoundValue, AreSoundValues, AreSoundMembers, IsSoundItem, IsSound, columns_of}
use Rattle.sj_select_list.specs.Operations.{OperationStep, member, steps_to, steps_to_values, steps_to_members, steps_to_all}
use Rattle.sj_select_list.specs.Performing.{CanBeGiven}
use Rattle.sj_select_list.specs.Taking.{CanTake}
use Rattle.sj_select_list.specs.Values.{values_in}

module _ (columns : List b.ColumnOf) where
  one : (s : OperationStep) → CanBeGiven s → All CanBeGiven (s ∷ [])
  one s h = All-cons CanBeGiven s [] h (All-nil CanBeGiven)

  mutual
    given_steps : (x : b.Value) → IsSoundValue columns x → All CanBeGiven (steps_to x)
    given_steps (b.Lit x) h = one _ tt
    given_steps (b.Column n) h = one _ tt
    given_steps (b.Exists x _) h = one _ tt
    given_steps (b.ValueOf x clauses) h = one _ h.1.can_be_given
    given_steps (b.Query x clauses) h = one _ tt
    given_steps (b.IsJson call) h = one _ tt
    given_steps (b.Object members _ unique) h = All-append CanBeGiven (steps_to_members members) _ (given_members_steps members h) (one _ tt)
    given_steps (b.Array values _) h = All-append CanBeGiven (steps_to_values values) _ (given_values_steps values h) (one _ tt)

    given_values_steps : (xs : b.Values) → AreSoundValues columns xs → All CanBeGiven (steps_to_values xs)
    given_values_steps b.NoValues h = All-nil CanBeGiven
    given_values_steps (b.MoreValues x others) h = All-append CanBeGiven (steps_to x) _ (given_steps x h.0) (given_values_steps others h.1)

    given_members_steps : (ms : b.Members) → AreSoundMembers columns ms → All CanBeGiven (steps_to_members ms)
    given_members_steps b.NoMembers h = All-nil CanBeGiven
    given_members_steps (b.MoreMembers key x others) h =
        All-append CanBeGiven (steps_to key) _ (given_steps key h.1)
        (All-append CanBeGiven (steps_to x) _ (given_steps x h.2) (All-cons CanBeGiven member _ tt (given_members_steps others h.3)))

  tail_sound : (x : b.Item) (xs : List b.Item) → All (IsSoundItem columns) (x ∷ xs) → All (IsSoundItem columns) xs
  tail_sound x xs h k d within = h (suc k) d (omega arith)

  head_sound : (x : b.Item) (xs : List b.Item) → All (IsSoundItem columns) (x ∷ xs) → IsSoundItem columns x
  head_sound x xs h = h 0 x (omega arith)

  given_items : (xs : List b.Item) → All (IsSoundItem columns) xs → All CanBeGiven (steps_to_all (values_in xs))
  given_items [] h = All-nil CanBeGiven
  given_items (b.Single x ∷ xs) h = All-append CanBeGiven (steps_to x) _ (given_steps x (head_sound (b.Single x) xs h)) (given_items xs (tail_sound (b.Single x) xs h))
  given_items (b.ArrayAgg x on_null ∷ xs) h = given_items xs (tail_sound (b.ArrayAgg x on_null) xs h)
  given_items (b.ObjectAgg key x on_null unique ∷ xs) h = given_items xs (tail_sound (b.ObjectAgg key x on_null unique) xs h)

-- what an aggregate of a sound statement takes can be given
taken_item : (columns : List b.ColumnOf) (x : b.Item) → IsSoundItem columns x → CanTake x
taken_item columns (b.Single x) h = tt
taken_item columns (b.ArrayAgg x _) h = given_steps columns x h
taken_item columns (b.ObjectAgg key x _ unique) h = (given_steps columns key h.1, given_steps columns x h.2)

pub sound_items : (s : b.Bound) → IsSound s → All CanTake s.items
sound_items s h k d within = taken_item (columns_of s.table) (get_or s.items k d) (h.items k d within)

pub sound_steps : (s : b.Bound) → IsSound s → All CanBeGiven (steps_to_all (values_in s.items))
sound_steps s h = given_items (columns_of s.table) s.items h.items
