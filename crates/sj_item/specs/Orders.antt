-- What a comparison says of two values of one kind.
use Rattle.std.specs.Prelude.{ℕ, Bool, List, nat_eq}
use Rattle.std.specs.List.{starts_with}
use Rattle.std.specs.Str.{chars}
use Rattle.std.specs.Ordering.{nat_cmp, is_eq, is_ne, is_lt, is_le, is_gt, is_ge}
use Rattle.std.specs.Cmp.Lexicographic.{slice_cmp}
use Rattle.std.specs.declared.cmp.Ordering.{Ordering}
use Rattle.sj_decimal.specs.declared.comparing.Compare.{Compare}
use Rattle.sj_decimal.specs.declared.comparing.Compare.TheVariants.{Eq, Ne, Lt, Le, Gt, Ge}

-- the comparison holds of two values that stand in this order
abbrev pub holds : Compare → Ordering → Bool
holds Eq o = is_eq o
holds Ne o = is_ne o
holds Lt o = is_lt o
holds Le o = is_le o
holds Gt o = is_gt o
holds Ge o = is_ge o

-- the order of two texts: that of their lists of code points, in which the first difference decides
unfoldable pub text_cmp : List ℕ → List ℕ → Ordering
text_cmp s t = slice_cmp nat_cmp (chars s) (chars t)

-- the code points of t are the first ones of s
unfoldable pub begins_with : List ℕ → List ℕ → Bool
begins_with s t = starts_with nat_eq (chars s) (chars t)
