-- What a comparison looks at of an item. Private clauses alone cite it.
use Rattle.std.specs.Prelude.{◌≡◌, ℕ, List, ⊤}
use Rattle.std.specs.Ordering.{bool_cmp}
use Rattle.std.specs.declared.cmp.Ordering.TheVariants.{Equal}
use Rattle.sj_decimal.specs.Compare.{decimal_cmp}
use Rattle.sj_decimal.specs.Text.{decimal_text}
use Rattle.sj_decimal.specs.declared.comparing.Compare.{Compare}
use Rattle.sj_json.specs.Tree.{exact, wide, Tree, null, truth, string, number, array, object}
use Rattle.sj_item.specs.declared.comparison.Comparand.{Comparand}
use Rattle.sj_item.specs.declared.comparison.Comparand.TheVariants.{Null, Num, Text, NumberText, Bool as Logical, Other}
use Rattle.sj_item.specs.declared.truth.Truth.{Truth}
use Rattle.sj_item.specs.declared.truth.Truth.TheVariants.{Unknown}
use Rattle.sj_item.specs.Truths.{truth_of}
use Rattle.sj_item.specs.Orders.{holds, text_cmp, begins_with}
use Rattle.sj_item.specs.MadeValues.{exact_value}
use Rattle.sj_item.specs.Pairs.{null_and_other}

-- a tree that compares with nothing but null
abbrev pub IsOther : Tree → Type 0
IsOther null = ⊥
IsOther (truth b) = ⊥
IsOther (string s) = ⊥
IsOther (number (exact d)) = ⊥
IsOther (number (wide s)) = ⊤
IsOther (array ts) = ⊤
IsOther (object ms) = ⊤

-- the tree is compared as this
abbrev pub ComparesAs : Tree → Comparand → Type 0
ComparesAs t Null = t ≡ null
ComparesAs t (Num n) = t ≡ number (exact (exact_value n))
ComparesAs t (Text s) = t ≡ string s.now
ComparesAs t (NumberText n) = t ≡ string (decimal_text (exact_value n))
ComparesAs t (Logical b) = t ≡ truth b
ComparesAs t Other = IsOther t

-- a text beside what it is compared with
abbrev pub text_compares : Compare → List ℕ → Comparand → Truth
text_compares op s Null = null_and_other op
text_compares op s (Text t) = truth_of (holds op (text_cmp s t.now))
text_compares op s (NumberText n) = truth_of (holds op (text_cmp s (decimal_text (exact_value n))))
text_compares op s (Num n) = Unknown
text_compares op s (Logical b) = Unknown
text_compares op s Other = Unknown

abbrev pub comparands_compare : Compare → Comparand → Comparand → Truth
comparands_compare op Null Null = truth_of (holds op Equal)
comparands_compare op Null b = null_and_other op
comparands_compare op (Text a) b = text_compares op a.now b
comparands_compare op (NumberText a) b = text_compares op (decimal_text (exact_value a)) b
comparands_compare op a Null = null_and_other op
comparands_compare op (Num a) (Num b) = truth_of (holds op (decimal_cmp (exact_value a) (exact_value b)))
comparands_compare op (Logical a) (Logical b) = truth_of (holds op (bool_cmp a b))
comparands_compare op a b = Unknown

-- whether a text begins with another
abbrev pub text_starts_with : List ℕ → Comparand → Truth
text_starts_with s (Text t) = truth_of (begins_with s t.now)
text_starts_with s (NumberText n) = truth_of (begins_with s (decimal_text (exact_value n)))
text_starts_with s Null = Unknown
text_starts_with s (Num n) = Unknown
text_starts_with s (Logical b) = Unknown
text_starts_with s Other = Unknown

abbrev pub comparand_starts_with : Comparand → Comparand → Truth
comparand_starts_with (Text a) b = text_starts_with a.now b
comparand_starts_with (NumberText a) b = text_starts_with (decimal_text (exact_value a)) b
comparand_starts_with a b = Unknown
