-- A range of an array, by what its two ends are.
use Rattle.std.proofs.Common.{◌≡◌, ℕ, ◌+◌, ◌-◌, ◌≤◌, List, length, map, Bool, true, false, cond, ◌||◌, ℤ, pos, ◌-ℤ◌, ap, sym, ◌∙◌, unsigned_abs, arith}
use Rattle.std.specs.Int.{int_min, int_max}
use Rattle.std.specs.Prelude.{int_lt, ◌<ℤ◌, ◌≤ℤ◌}
use Rattle.std.proofs.lemmas.Int.{ints}
use Rattle.std.proofs.lemmas.List.{length-map}
use Rattle.sj_base.specs.declared.state.State.TheVariants.{S22033}
use Rattle.sj_json.specs.Tree.{Child as JsonChild, numbered, NumberedChild}
use Rattle.sj_step.specs.Trace.{Trace, stop, fail}
use Rattle.sj_step.specs.Reach.{Child, child_item, between, lax_range, strict_range}
use Rattle.sj_step.proofs.Runs.{run, run_between}
use Rattle.sj_step.proofs.Lasts.{length-numbered}

pub length_children : (i : ℕ) (ks : List JsonChild) → length (map child_item (numbered i ks)) ≡ length ks
length_children i ks = length-map (numbered i ks) child_item ∙ length-numbered i ks

last_same : (i : ℕ) (ks : List JsonChild) → pos (length (map child_item (numbered i ks))) -ℤ pos 1 ≡ pos (length ks) -ℤ pos 1
last_same i ks = ap (λ n. pos n -ℤ pos 1) (length_children i ks)

-- the elements between two ends, none where they are turned
abbrev pub ordered_between : ℤ → ℤ → List Child → Trace
ordered_between start end cs = cond (int_lt end start) stop (between (unsigned_abs start) (unsigned_abs end + 1) cs)

pub lax_range_is : (a b start end : ℤ) (i : ℕ) (ks : List JsonChild) → start ≡ int_max a (pos 0) → end ≡ int_min b (pos (length ks) -ℤ pos 1) → lax_range a b (map child_item (numbered i ks)) ≡ ordered_between start end (map child_item (numbered i ks))
lax_range_is a b start end i ks s e =
    let cs : List Child = map child_item (numbered i ks) in
    ap (λ (z : ℤ). ordered_between (int_max a (pos 0)) (int_min b z) cs) (last_same i ks)
    ∙ ap (λ (z : ℤ). ordered_between z (int_min b (pos (length ks) -ℤ pos 1)) cs) (sym s)
    ∙ ap (λ (z : ℤ). ordered_between start z cs) (sym e)

-- the elements between two ends, or a fault
abbrev pub checked_between : Bool → ℤ → ℤ → List Child → Trace
checked_between outside a b cs = cond outside (fail S22033) (between (unsigned_abs a) (unsigned_abs b + 1) cs)

pub strict_range_is : (a b last : ℤ) (outside : Bool) (i : ℕ) (ks : List JsonChild) → last ≡ pos (length ks) -ℤ pos 1 → outside ≡ (int_lt a (pos 0) || int_lt last b || int_lt b a) → strict_range a b (map child_item (numbered i ks)) ≡ checked_between outside a b (map child_item (numbered i ks))
strict_range_is a b last outside i ks l o =
    let cs : List Child = map child_item (numbered i ks) in
    ap (λ (z : ℤ). checked_between (int_lt a (pos 0) || int_lt z b || int_lt b a) a b cs) (last_same i ks ∙ sym l)
    ∙ ap (λ t. checked_between t a b cs) (sym o)

-- ---- what the code makes of them

lt_true : (a b : ℤ) → a <ℤ b → int_lt a b ≡ true
lt_true a b h = grind (arith, ints)

lt_false : (a b : ℤ) → b ≤ℤ a → int_lt a b ≡ false
lt_false a b h = grind (arith, ints)

pub lax_range_stops : (a b start end : ℤ) (i : ℕ) (ks : List JsonChild) → start ≡ int_max a (pos 0) → end ≡ int_min b (pos (length ks) -ℤ pos 1) → end <ℤ start → lax_range a b (map child_item (numbered i ks)) ≡ stop
lax_range_stops a b start end i ks s e turned =
    let cs : List Child = map child_item (numbered i ks) in
    lax_range_is a b start end i ks s e ∙ ap (λ t. cond t stop (between (unsigned_abs start) (unsigned_abs end + 1) cs)) (lt_true end start turned)

pub lax_range_goes : (a b start end : ℤ) (i : ℕ) (ks : List JsonChild) → start ≡ int_max a (pos 0) → end ≡ int_min b (pos (length ks) -ℤ pos 1) → start ≤ℤ end → lax_range a b (map child_item (numbered i ks)) ≡ between (unsigned_abs start) (unsigned_abs end + 1) (map child_item (numbered i ks))
lax_range_goes a b start end i ks s e ordered =
    let cs : List Child = map child_item (numbered i ks) in
    lax_range_is a b start end i ks s e ∙ ap (λ t. cond t stop (between (unsigned_abs start) (unsigned_abs end + 1) cs)) (lt_false end start ordered)

pub elements_between : (start end : ℤ) (skip count i : ℕ) (ks : List JsonChild) (left : List NumberedChild) → left ≡ numbered i ks → skip ≡ unsigned_abs start → skip + count ≡ unsigned_abs end + 1 → unsigned_abs start ≤ length ks → run skip count left ≡ between (unsigned_abs start) (unsigned_abs end + 1) (map child_item (numbered i ks))
elements_between start end skip count i ks left l s e within =
    let rest : count ≡ (unsigned_abs end + 1) - unsigned_abs start = omega (arith, s, e) in
    let inside : unsigned_abs start ≤ length (numbered i ks) = rw length-numbered within in
    ap (run skip count) l ∙ ap (λ k. run k count (numbered i ks)) s ∙ ap (λ k. run (unsigned_abs start) k (numbered i ks)) rest
    ∙ run_between (unsigned_abs start) (unsigned_abs end + 1) (numbered i ks) inside
