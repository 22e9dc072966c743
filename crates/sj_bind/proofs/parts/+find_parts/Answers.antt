use Rattle.std.proofs.Common.{◌≡◌, ◌++◌, OnOk, sym, ap, subst, arith}
use Rattle.std.proofs.lemmas.Grind.{common_steps}
use Rattle.sj_bind.specs.Parts.{calls_in, keys_in}
use Rattle.sj_bind.specs.PartsView.{calls_of, keys_of}
use Rattle.sj_bind.proofs.Constructed.{is_object, is_array}
use Rattle.sj_bind.proofs.Found.{found}
use Rattle.sj_bind.proofs.parts.+find_parts.Goals as goal

pub find_in_members-loop-member-preserved : goal.find_in_members-loop-member-preserved
find_in_members-loop-member-preserved t c = record {
  calls = grind (arith, common_steps, found);
  keys = grind (arith, common_steps, found);
}

pub find_parts-returns-in-Object-clause-calls : goal.find_parts-returns-in-Object-clause-calls
find_parts-returns-in-Object-clause-calls t c =
    subst (λ l. OnOk c.find_in_members.result (calls_of c.find_in_members.new.parts.calls.items ≡ calls_of c.args.parts.now.calls.items ++ l))
    (sym (ap calls_in (is_object c.in-Object.members c.in-Object.is c.deref-in-Object.ensures.value))) c.find_in_members.ensures.calls

pub find_parts-returns-in-Object-clause-keys : goal.find_parts-returns-in-Object-clause-keys
find_parts-returns-in-Object-clause-keys t c =
    subst (λ l. OnOk c.find_in_members.result (keys_of c.find_in_members.new.parts.keys.items ≡ keys_of c.args.parts.now.keys.items ++ l))
    (sym (ap keys_in (is_object c.in-Object.members c.in-Object.is c.deref-in-Object.ensures.value))) c.find_in_members.ensures.keys

pub find_parts-returns-in-Array-clause-calls : goal.find_parts-returns-in-Array-clause-calls
find_parts-returns-in-Array-clause-calls t c =
    subst (λ l. OnOk c.find_in_values.result (calls_of c.find_in_values.new.parts.calls.items ≡ calls_of c.args.parts.now.calls.items ++ l))
    (sym (ap calls_in (is_array c.in-Array.values c.in-Array.is c.deref-in-Array.ensures.value))) c.find_in_values.ensures.calls

pub find_parts-returns-in-Array-clause-keys : goal.find_parts-returns-in-Array-clause-keys
find_parts-returns-in-Array-clause-keys t c =
    subst (λ l. OnOk c.find_in_values.result (keys_of c.find_in_values.new.parts.keys.items ≡ keys_of c.args.parts.now.keys.items ++ l))
    (sym (ap keys_in (is_array c.in-Array.values c.in-Array.is c.deref-in-Array.ensures.value))) c.find_in_values.ensures.keys
