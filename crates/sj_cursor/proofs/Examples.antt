-- The meaning of paths on examples.
use Rattle.std.proofs.Common.{◌≡◌, ℕ, List, [], ◌∷◌, Some, ℤ, pos, negsuc, codes, refl}
use Rattle.sj_base.specs.declared.state.State.TheVariants.{S22033, S22036, S22038, S2203C}
use Rattle.sj_decimal.specs.declared.comparing.Compare.TheVariants as comparisons
use Rattle.sj_json.specs.Tree.{Tree, string, number, exact, array, object, no_items, item, no_members, member}
use Rattle.sj_path_tree.specs.declared.parts.Mode.{Mode}
use Rattle.sj_path_tree.specs.declared.parts.Mode.TheVariants.{Lax, Strict}
use Rattle.sj_path_tree.specs.declared.parts.Arith.TheVariants.{Add}
use Rattle.sj_path_tree.specs.declared.parts.Method.TheVariants as methods
use Rattle.sj_path_tree.specs.declared.parts.Literal.TheVariants as literals
use Rattle.sj_path_tree.specs.Tree.{Expr, Root, Context, Last, Lit, Access, Minus, Binary, Member, AllElements, Elements, Filter, Call, One, Range, NoSubs, More, Compares, IsUnknown}
use Rattle.sj_item.specs.Items.{ItemValue, node, made_number}
use Rattle.sj_item.specs.Pairs.{trees_compare}
use Rattle.sj_step.specs.Trace.{Trace, items, fault_of, visits}
use Rattle.sj_step.specs.Reach.{reach, last}
use Rattle.sj_method.specs.Numbers.{operand_of, subscript_of}
use Rattle.sj_method.specs.Methods.{method_of, sign_of}
use Rattle.sj_cursor.specs.Numbers.{binary_trace, element_part, range_part}
use Rattle.sj_cursor.specs.Verdicts.{unknown_verdict, filtered}
use Rattle.sj_cursor.specs.Comparisons.{compare_verdict}
use Rattle.sj_cursor.specs.Meaning.{path_trace}

-- ---- trees, items and paths, briefly

abbrev whole : ℕ → Tree
whole n = number (exact (pos n, 0))

abbrev one : Tree → Tree
one t = array (item t no_items)

abbrev two : Tree → Tree → Tree
two t u = array (item t (item u no_items))

abbrev three : Tree → Tree → Tree → Tree
three t u v = array (item t (item u (item v no_items)))

abbrev under : List ℕ → Tree → Tree
under key t = object (member key t no_members)

abbrev made : ℤ → ItemValue
made n = made_number (n, 0)

abbrev index : ℕ → Expr
index n = Lit (literals.Num (pos n, 0))

abbrev elements : Expr
elements = Access Root AllElements

-- the trace of an expression on a root, without variables
abbrev trace : Mode → Expr → Tree → Trace
trace mode e t = path_trace (record { mode = mode; expr = e }) [] (node 0 t)

-- ---- [1,2,"x"] and $[*].abs()

abbrev absolutes : Expr
absolutes = Access elements (Call methods.Abs)

items_before_a_fault : items (trace Lax absolutes (three (whole 1) (whole 2) (string (codes "x")))) ≡ made (pos 1) ∷ made (pos 2) ∷ []
unfolding path_trace reach method_of operand_of
items_before_a_fault = refl

a_fault_behind_items : fault_of (trace Lax absolutes (three (whole 1) (whole 2) (string (codes "x")))) ≡ Some S22036
unfolding path_trace reach method_of operand_of
a_fault_behind_items = refl

-- ---- {"a":[{"b":1},[{"b":2}],{"c":3}]} and $.a.b

abbrev members : Expr
members = Access (Access Root (Member (codes "a"))) (Member (codes "b"))

abbrev nested : Tree
nested = under (codes "a") (three (under (codes "b") (whole 1)) (one (under (codes "b") (whole 2))) (under (codes "c") (whole 3)))

unwrapped_one_level : items (trace Lax members nested) ≡ node 3 (whole 1) ∷ []
unfolding path_trace reach
unwrapped_one_level = refl

not_unwrapped : fault_of (trace Strict members nested) ≡ Some S2203C
unfolding path_trace reach
not_unwrapped = refl

-- ---- [10,20,30] and $[last, 0 to 1, 5]

abbrev picks : Expr
picks = Access Root (Elements (More (One Last) (More (Range (index 0) (index 1)) (More (One (index 5)) NoSubs))))

picked : items (trace Strict picks (three (whole 10) (whole 20) (whole 30))) ≡ node 3 (whole 30) ∷ node 1 (whole 10) ∷ node 2 (whole 20) ∷ []
unfolding path_trace reach last element_part range_part subscript_of operand_of
picked = refl

no_such_element : fault_of (trace Strict picks (three (whole 10) (whole 20) (whole 30))) ≡ Some S22033
unfolding path_trace reach last element_part range_part subscript_of operand_of
no_such_element = refl

-- ---- [[1,[2]],3] and $[*] + 1

a_sum_of_several : fault_of (trace Lax (Binary Add elements (index 1)) (two (two (whole 1) (one (whole 2))) (whole 3))) ≡ Some S22038
unfolding path_trace reach binary_trace operand_of
a_sum_of_several = refl

-- ---- {"a":[1,-2]} and -$.a

turned_signs : items (trace Lax (Minus (Access Root (Member (codes "a")))) (under (codes "a") (two (whole 1) (number (exact (negsuc 1, 0)))))) ≡ made (negsuc 0) ∷ made (pos 2) ∷ []
unfolding path_trace reach sign_of operand_of
turned_signs = refl

-- ---- [[1,2],[3,4,5]] and $[*] ? (@.size() > 2)[last]

abbrev long_ones : Expr
long_ones = Access (Access elements (Filter (Compares comparisons.Gt (Access Context (Call methods.Size)) (index 2)))) (Elements (More (One Last) NoSubs))

abbrev lists : Tree
lists = two (two (whole 1) (whole 2)) (three (whole 3) (whole 4) (whole 5))

a_filter_unwraps : items (trace Lax long_ones lists) ≡ []
unfolding path_trace reach last element_part subscript_of operand_of method_of compare_verdict filtered trees_compare
a_filter_unwraps = refl

a_filter_keeps_arrays : items (trace Strict long_ones lists) ≡ node 7 (whole 5) ∷ []
unfolding path_trace reach last element_part subscript_of operand_of method_of compare_verdict filtered trees_compare
a_filter_keeps_arrays = refl

-- ---- {"v":["a",7]} and $ ? (@.v[*] > 5)

abbrev above_five : Expr
above_five = Access Root (Filter (Compares comparisons.Gt (Access (Access Context (Member (codes "v"))) AllElements) (index 5)))

abbrev mixed : Tree
mixed = under (codes "v") (two (string (codes "a")) (whole 7))

true_before_doubt : items (trace Lax above_five mixed) ≡ node 0 mixed ∷ []
unfolding path_trace reach compare_verdict filtered trees_compare
true_before_doubt = refl

doubt_before_true : items (trace Strict above_five mixed) ≡ []
unfolding path_trace reach compare_verdict filtered trees_compare
doubt_before_true = refl

visits_of_a_filter : visits (trace Lax above_five mixed) ≡ 3
unfolding path_trace reach compare_verdict filtered trees_compare
visits_of_a_filter = refl

-- ---- {"v":"a"} and $ ? ((@.none == @.v.abs()) is unknown)

abbrev unknown_ones : Expr
unknown_ones = Access Root (Filter (IsUnknown (Compares comparisons.Eq (Access Context (Member (codes "none"))) (Access (Access Context (Member (codes "v"))) (Call methods.Abs)))))

the_right_side_is_asked : items (trace Lax unknown_ones (under (codes "v") (string (codes "a")))) ≡ node 0 (under (codes "v") (string (codes "a"))) ∷ []
unfolding path_trace reach operand_of method_of compare_verdict unknown_verdict filtered trees_compare
the_right_side_is_asked = refl
