-- Operands and subscripts, as they are asked.
use Rattle.std.proofs.Common.{◌≡◌, ℕ, ◌≤◌, Result, Ok, Err, ℤ, refl}
use Rattle.sj_base.specs.Count.{raised}
use Rattle.sj_base.specs.declared.state.State.{State}
use Rattle.sj_base.specs.declared.state.State.TheVariants.{S22033, S22038}
use Rattle.sj_path_tree.specs.declared.parts.Arith.{Arith}
use Rattle.sj_path_tree.specs.declared.parts.Mode.{Mode}
use Rattle.sj_item.specs.Items.{ItemValue}
use Rattle.sj_method.specs.Numbers.{binary_of}
use Rattle.sj_step.specs.Trace.{Trace, fail}
use Rattle.sj_cursor.specs.Draws.{Approaches}
use Rattle.sj_cursor.specs.Single.{need, single}
use Rattle.sj_cursor.specs.Numbers.{operand_in, subscript_in, binary_trace, element_part, range_part}
use Rattle.sj_cursor.specs.Left.{only_number, element_at, range_between}
use Rattle.sj_cursor.specs.Trails.{Leads}
use Rattle.sj_cursor.proofs.Draws.{paid, approaches_trans}
use Rattle.sj_cursor.proofs.Trails.{leads_behind, leads_on}

pub element_goes : (mode : Mode) (t : Trace) (x : ItemValue) (r : Result ℤ State) (a b : ℕ)
    → r ≡ subscript_in (single mode S22033 t) → b ≤ raised a (need mode 2 t) → Approaches (element_part mode t x) a (element_at r mode x) b
unfolding element_part
element_goes mode t x r a b e h = rw e (paid (need mode 2 t) _ a b h)

pub range_bad : (mode : Mode) (t u : Trace) (x : ItemValue) (s : State) (a b : ℕ)
    → Err s ≡ subscript_in (single mode S22033 t) → b ≤ raised a (need mode 2 t) → Approaches (range_part mode t u x) a (fail s) b
unfolding range_part
range_bad mode t u x s a b e h = rw (← e) (paid (need mode 2 t) _ a b h)

pub range_goes : (mode : Mode) (t u : Trace) (x : ItemValue) (q r : Result ℤ State) (i : ℤ) (a b c : ℕ)
    → q ≡ Ok i → q ≡ subscript_in (single mode S22033 t) → b ≤ raised a (need mode 2 t)
    → r ≡ subscript_in (single mode S22033 u) → c ≤ raised b (need mode 2 u) → Approaches (range_part mode t u x) a (range_between q r mode x) c
unfolding range_part
range_goes mode t u x q r i a b c is e h f k =
    rw (← e, f, is) (approaches_trans _ _ _ _ _ _ (paid (need mode 2 t) _ a b h) (paid (need mode 2 u) _ b c k))

-- the left operand is none
pub binary_bad : (op : Arith) (mode : Mode) (t u : Trace) (s : State) (a b : ℕ)
    → Err s ≡ operand_in (single mode S22038 t) → b ≤ raised a (need mode 2 t) → Leads (binary_trace op mode t u) a (fail s) b
unfolding binary_trace
binary_bad op mode t u s a b e h = rw (← e) (leads_behind (need mode 2 t) _ _ a b refl h)

-- the right one is none
pub binary_stops : (op : Arith) (mode : Mode) (t u : Trace) (m : ℤ × ℕ) (s : State) (a b c : ℕ)
    → Ok m ≡ operand_in (single mode S22038 t) → b ≤ raised a (need mode 2 t)
    → Err s ≡ operand_in (single mode S22038 u) → c ≤ raised b (need mode 2 u) → Leads (binary_trace op mode t u) a (fail s) c
unfolding binary_trace
binary_stops op mode t u m s a b c e h f k = rw (← e, ← f) (leads_on _ _ _ a b c (leads_behind (need mode 2 t) _ _ a b refl h) (leads_behind (need mode 2 u) _ _ b c refl k))

pub binary_goes : (op : Arith) (mode : Mode) (t u : Trace) (m n : ℤ × ℕ) (a b c : ℕ)
    → Ok m ≡ operand_in (single mode S22038 t) → b ≤ raised a (need mode 2 t)
    → Ok n ≡ operand_in (single mode S22038 u) → c ≤ raised b (need mode 2 u) → Leads (binary_trace op mode t u) a (only_number (binary_of op m n)) c
unfolding binary_trace
binary_goes op mode t u m n a b c e h f k = rw (← e, ← f) (leads_on _ _ _ a b c (leads_behind (need mode 2 t) _ _ a b refl h) (leads_behind (need mode 2 u) _ _ b c refl k))
