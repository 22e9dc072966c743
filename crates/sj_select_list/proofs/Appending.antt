-- The operations that find a value: those that find what it is made of, and the last one behind them.
use Rattle.std.proofs.Common.{◌≡◌, List, [], ◌∷◌, ◌++◌, length, Vec, Global, Result, OnOk, refl, sym, ap, ◌∙◌, arith}
use Rattle.std.proofs.lemmas.List.{append-nil, append_assoc, map-append}
use Rattle.std.proofs.lemmas.Result.{on_ok_weaker}
use Rattle.sj_base.specs.declared.memory.Memory.{Memory}
use Rattle.sj_bound.specs.View.{values_of, members_of}
use Rattle.sj_bound.specs.declared.bound.BoundMember.{BoundMember}
use Rattle.sj_bound.specs.declared.bound.BoundValue.{BoundValue}
use Rattle.sj_select_list.specs.Operations.{OperationStep, step_of, steps_of, value_count, member_count}
use Rattle.sj_select_list.specs.declared.operation.Operation.{Operation}

module _ (old made new : List Operation) (last : Operation) (pushed : Result Unit Memory) (ok : OnOk pushed (new ≡ made ++ last ∷ [])) where
  pub made_and_last : (parts whole : List OperationStep) → steps_of made ≡ steps_of old ++ parts → parts ++ step_of last ∷ [] ≡ whole → OnOk pushed (steps_of new ≡ steps_of old ++ whole)
  made_and_last parts whole is all =
      on_ok_weaker pushed (λ e. ap steps_of e ∙ map-append step_of made (last ∷ []) ∙ ap (λ l. l ++ step_of last ∷ []) is ∙ append_assoc (steps_of old) parts (step_of last ∷ []) ∙ ap (λ l. steps_of old ++ l) all) ok

  -- it is made of nothing
  pub last_alone : (whole : List OperationStep) → made ≡ old → step_of last ∷ [] ≡ whole → OnOk pushed (steps_of new ≡ steps_of old ++ whole)
  last_alone whole same all = made_and_last [] whole (ap steps_of same ∙ sym (append-nil (steps_of old))) all

-- the operation that makes an array or an object takes as many values or members as were found

value_count-values_of : (xs : List BoundValue) → value_count (values_of xs) ≡ length xs
value_count-values_of [] = refl
value_count-values_of (x ∷ xs) = omega (arith, value_count-values_of xs)

member_count-members_of : (xs : List BoundMember) → member_count (members_of xs) ≡ length xs
member_count-members_of [] = refl
member_count-members_of (x ∷ xs) = omega (arith, member_count-members_of xs)

pub value_count-in : (values : Vec BoundValue Global) → values.len ≡ value_count (values_of values.items)
value_count-in values = omega (arith, values.ok.0, value_count-values_of values.items)

pub member_count-in : (members : Vec BoundMember Global) → members.len ≡ member_count (members_of members.items)
member_count-in members = omega (arith, members.ok.0, member_count-members_of members.items)
