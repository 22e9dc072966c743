-- The comparison of two items. It depends on the trees that they stand for, and the first line that fits decides.
use Rattle.std.specs.Ordering.{bool_cmp}
use Rattle.std.specs.declared.cmp.Ordering.TheVariants.{Equal}
use Rattle.sj_decimal.specs.Compare.{decimal_cmp}
use Rattle.sj_decimal.specs.declared.comparing.Compare.{Compare}
use Rattle.sj_decimal.specs.declared.comparing.Compare.TheVariants.{Eq, Ne, Lt, Le, Gt, Ge}
use Rattle.sj_json.specs.Tree.{exact, Tree, null, truth, string, number}
use Rattle.sj_item.specs.declared.truth.Truth.{Truth}
use Rattle.sj_item.specs.declared.truth.Truth.TheVariants.{True, False, Unknown}
use Rattle.sj_item.specs.Truths.{truth_of}
use Rattle.sj_item.specs.Orders.{holds, text_cmp, begins_with}
use Rattle.sj_item.specs.Items.{ItemValue, item_tree}

-- a null and something else are not equal, and stand in no order
abbrev pub null_and_other : Compare → Truth
null_and_other Ne = True
null_and_other Eq = False
null_and_other Lt = False
null_and_other Le = False
null_and_other Gt = False
null_and_other Ge = False

unfoldable pub trees_compare : Compare → Tree → Tree → Truth
trees_compare op null null = truth_of (holds op Equal)
trees_compare op null t = null_and_other op
trees_compare op t null = null_and_other op
trees_compare op (number (exact a)) (number (exact b)) = truth_of (holds op (decimal_cmp a b))
trees_compare op (string s) (string t) = truth_of (holds op (text_cmp s t))
trees_compare op (truth a) (truth b) = truth_of (holds op (bool_cmp a b))
trees_compare op t u = Unknown

-- whether one text starts with another
unfoldable pub tree_starts_with : Tree → Tree → Truth
tree_starts_with (string s) (string t) = truth_of (begins_with s t)
tree_starts_with t u = Unknown

abbrev pub items_compare : Compare → ItemValue → ItemValue → Truth
items_compare op x y = trees_compare op (item_tree x) (item_tree y)

abbrev pub item_starts_with : ItemValue → ItemValue → Truth
item_starts_with x y = tree_starts_with (item_tree x) (item_tree y)
