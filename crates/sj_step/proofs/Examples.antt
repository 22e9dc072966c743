-- The definitions on examples.
use Rattle.std.proofs.Common.{◌≡◌, ℕ, Some, pos, negsuc, codes, refl}
use Rattle.sj_base.specs.declared.state.State.TheVariants.{S22033, S22039, S2203A, S2203C}
use Rattle.sj_json.specs.Tree.{Tree, number, exact, array, object, no_items, item, no_members, member}
use Rattle.sj_item.specs.Items.{ItemValue, node, made_number, made_text, made_pair}
use Rattle.sj_path_tree.specs.declared.parts.Mode.TheVariants.{Lax, Strict}
use Rattle.sj_step.specs.Trace.{stop, fail, visit, give, only}
use Rattle.sj_step.specs.Reach.{reach, by_key, all_members, by_range, unwrapped, last}

abbrev whole : ℕ → Tree
whole n = number (exact (pos n, 0))

-- [10,20,30]
abbrev tens : ItemValue
tens = node 0 (array (item (whole 10) (item (whole 20) (item (whole 30) no_items))))

-- 7
abbrev seven : ItemValue
seven = node 0 (whole 7)

-- {"a":1,"b":2,"a":3}
abbrev repeats : ItemValue
repeats = node 0 (object (member (codes "a") (whole 1) (member (codes "b") (whole 2) (member (codes "a") (whole 3) no_members))))

-- [[1],2], as the node number 5
abbrev nested : ItemValue
nested = node 5 (array (item (array (item (whole 1) no_items)) (item (whole 2) no_items)))

a_range : reach (by_range (pos 2) (pos 2)) Lax tens ≡ visit (visit (visit (give (node 3 (whole 30)) stop)))
unfolding reach
a_range = refl

a_clipped_range : reach (by_range (negsuc 0) (pos 0)) Lax tens ≡ visit (give (node 1 (whole 10)) stop)
unfolding reach
a_clipped_range = refl

a_strict_range : reach (by_range (negsuc 0) (pos 0)) Strict tens ≡ fail S22033
unfolding reach
a_strict_range = refl

an_item_as_an_array : reach (by_range (pos 0) (pos 0)) Lax seven ≡ only seven
unfolding reach
an_item_as_an_array = refl

no_array : reach (by_range (pos 0) (pos 0)) Strict seven ≡ fail S22039
unfolding reach
no_array = refl

a_repeated_key : reach (by_key (codes "a")) Strict repeats ≡ visit (give (node 1 (whole 1)) (visit (visit (give (node 3 (whole 3)) stop))))
unfolding reach
a_repeated_key = refl

no_such_member : reach (by_key (codes "c")) Strict repeats ≡ visit (visit (visit (fail S2203A)))
unfolding reach
no_such_member = refl

no_object : reach (by_key (codes "c")) Strict tens ≡ fail S2203C
unfolding reach
no_object = refl

unwrapped_once : reach unwrapped Lax nested ≡ visit (give (node 6 (array (item (whole 1) no_items))) (visit (give (node 8 (whole 2)) stop)))
unfolding reach
unwrapped_once = refl

members_of_a_pair : reach all_members Lax (made_pair (codes "k") seven (pos 0)) ≡ give (made_text (codes "k")) (give seven (give (made_number (pos 0, 0)) stop))
unfolding reach
members_of_a_pair = refl

the_last_index : last Strict tens ≡ Some (pos 2)
unfolding last
the_last_index = refl
