-- Trees compare as what is looked at of them.
use Rattle.std.proofs.Common.{◌≡◌, ℕ, ℤ, List, refl, sym, ap₂}
use Rattle.sj_decimal.specs.Compare.{decimal_cmp}
use Rattle.sj_decimal.specs.Text.{decimal_text}
use Rattle.sj_decimal.specs.declared.comparing.Compare.{Compare}
use Rattle.sj_json.specs.Tree.{exact, wide, Tree, null, truth, string, number, Items, array, Members, object}
use Rattle.sj_item.specs.declared.comparison.Comparand.{Comparand}
use Rattle.sj_item.specs.declared.comparison.Comparand.TheVariants.{Null, Num, Text, NumberText, Bool as Logical, Other}
use Rattle.sj_item.specs.declared.truth.Truth.{Truth}
use Rattle.sj_item.specs.declared.truth.Truth.TheVariants.{Unknown}
use Rattle.sj_item.specs.Truths.{truth_of}
use Rattle.sj_item.specs.Orders.{holds}
use Rattle.sj_item.specs.MadeValues.{exact_value}
use Rattle.sj_item.specs.Pairs.{null_and_other, trees_compare, tree_starts_with}
use Rattle.sj_item.specs.Comparands.{IsOther, ComparesAs, text_compares, comparands_compare, text_starts_with, comparand_starts_with}

-- a tree that compares with nothing but null has one of three forms
by_form : (P : Tree → Type 0) → ((s : List ℕ) → P (number (wide s))) → ((ts : Items) → P (array ts)) → ((ms : Members) → P (object ms)) → (t : Tree) → IsOther t → P t
by_form P w a o null h = absurd h
by_form P w a o (truth b) h = absurd h
by_form P w a o (string s) h = absurd h
by_form P w a o (number (exact d)) h = absurd h
by_form P w a o (number (wide s)) h = w s
by_form P w a o (array ts) h = a ts
by_form P w a o (object ms) h = o ms

-- what a comparison says, where the trees are known
module _ (op : Compare) where
  abbrev Says : Truth → Tree → Tree → Type 0
  Says r t u = r ≡ trees_compare op t u

  text_beside : (u : Tree) (b : Comparand) (s : List ℕ) → ComparesAs u b → text_compares op s b ≡ trees_compare op (string s) u
  unfolding trees_compare
  text_beside u Null s f = rw f refl
  text_beside u (Num n) s f = rw f refl
  text_beside u (Text t) s f = rw f refl
  text_beside u (NumberText n) s f = rw f refl
  text_beside u (Logical b) s f = rw f refl
  text_beside u Other s f = by_form (λ x. Unknown ≡ trees_compare op (string s) x) (λ r. refl) (λ ts. refl) (λ ms. refl) u f

  pub compares : (t u : Tree) (a b : Comparand) → ComparesAs t a → ComparesAs u b → comparands_compare op a b ≡ trees_compare op t u
  unfolding trees_compare
  compares t u Null Null e f = ap₂ (λ x y. trees_compare op x y) (sym e) (sym f)
  compares t u Null (Num n) e f = ap₂ (λ x y. trees_compare op x y) (sym e) (sym f)
  compares t u Null (Text s) e f = ap₂ (λ x y. trees_compare op x y) (sym e) (sym f)
  compares t u Null (NumberText n) e f = ap₂ (λ x y. trees_compare op x y) (sym e) (sym f)
  compares t u Null (Logical b) e f = ap₂ (λ x y. trees_compare op x y) (sym e) (sym f)
  compares t u Null Other e f = rw e (by_form (λ x. null_and_other op ≡ trees_compare op null x) (λ s. refl) (λ ts. refl) (λ ms. refl) u f)
  compares t u (Num n) Null e f = ap₂ (λ x y. trees_compare op x y) (sym e) (sym f)
  compares t u (Text s) b e f = rw e (text_beside u b s.now f)
  compares t u (NumberText n) b e f = rw e (text_beside u b (decimal_text (exact_value n)) f)
  compares t u (Logical b) Null e f = ap₂ (λ x y. trees_compare op x y) (sym e) (sym f)
  compares t u Other Null e f = rw f (by_form (λ x. null_and_other op ≡ trees_compare op x null) (λ s. refl) (λ ts. refl) (λ ms. refl) t e)
  compares t u (Num m) (Num n) e f = ap₂ (λ x y. trees_compare op x y) (sym e) (sym f)
  compares t u (Num m) (Text s) e f = ap₂ (λ x y. trees_compare op x y) (sym e) (sym f)
  compares t u (Num m) (NumberText n) e f = ap₂ (λ x y. trees_compare op x y) (sym e) (sym f)
  compares t u (Num m) (Logical b) e f = ap₂ (λ x y. trees_compare op x y) (sym e) (sym f)
  compares t u (Num m) Other e f = rw e (by_form (λ x. Unknown ≡ trees_compare op (number (exact (exact_value m))) x) (λ s. refl) (λ ts. refl) (λ ms. refl) u f)
  compares t u (Logical b) (Num n) e f = ap₂ (λ x y. trees_compare op x y) (sym e) (sym f)
  compares t u (Logical b) (Text s) e f = ap₂ (λ x y. trees_compare op x y) (sym e) (sym f)
  compares t u (Logical b) (NumberText n) e f = ap₂ (λ x y. trees_compare op x y) (sym e) (sym f)
  compares t u (Logical b) (Logical c) e f = ap₂ (λ x y. trees_compare op x y) (sym e) (sym f)
  compares t u (Logical b) Other e f = rw e (by_form (λ x. Unknown ≡ trees_compare op (truth b) x) (λ s. refl) (λ ts. refl) (λ ms. refl) u f)
  compares t u Other (Num n) e f = rw f (by_form (λ x. Unknown ≡ trees_compare op x (number (exact (exact_value n)))) (λ s. refl) (λ ts. refl) (λ ms. refl) t e)
  compares t u Other (Text s) e f = rw f (by_form (λ x. Unknown ≡ trees_compare op x (string s.now)) (λ s. refl) (λ ts. refl) (λ ms. refl) t e)
  compares t u Other (NumberText n) e f = rw f (by_form (λ x. Unknown ≡ trees_compare op x (string (decimal_text (exact_value n)))) (λ s. refl) (λ ts. refl) (λ ms. refl) t e)
  compares t u Other (Logical b) e f = rw f (by_form (λ x. Unknown ≡ trees_compare op x (truth b)) (λ s. refl) (λ ts. refl) (λ ms. refl) t e)
  compares t u Other Other e f =
      by_form (λ x. Unknown ≡ trees_compare op x u)
      (λ s. by_form (λ y. Unknown ≡ trees_compare op (number (wide s)) y) (λ r. refl) (λ ts. refl) (λ ms. refl) u f)
      (λ us. by_form (λ y. Unknown ≡ trees_compare op (array us) y) (λ r. refl) (λ ts. refl) (λ ms. refl) u f)
      (λ ns. by_form (λ y. Unknown ≡ trees_compare op (object ns) y) (λ r. refl) (λ ts. refl) (λ ms. refl) u f)
      t e

  -- two exact numbers, with no look at anything else
  pub numbers_compare : (t u : Tree) (m n : ℤ × ℕ) → t ≡ number (exact m) → u ≡ number (exact n) → truth_of (holds op (decimal_cmp m n)) ≡ trees_compare op t u
  unfolding trees_compare
  numbers_compare t u m n e f = ap₂ (λ x y. trees_compare op x y) (sym e) (sym f)

-- a text that may start with what stands beside it
starts_of : (u : Tree) (b : Comparand) (s : List ℕ) → ComparesAs u b → text_starts_with s b ≡ tree_starts_with (string s) u
unfolding tree_starts_with
starts_of u Null s f = rw f refl
starts_of u (Num n) s f = rw f refl
starts_of u (Text t) s f = rw f refl
starts_of u (NumberText n) s f = rw f refl
starts_of u (Logical b) s f = rw f refl
starts_of u Other s f = by_form (λ x. Unknown ≡ tree_starts_with (string s) x) (λ r. refl) (λ ts. refl) (λ ms. refl) u f

-- and what is no text starts with nothing
pub starts : (t u : Tree) (a b : Comparand) → ComparesAs t a → ComparesAs u b → comparand_starts_with a b ≡ tree_starts_with t u
unfolding tree_starts_with
starts t u Null b e f = rw e refl
starts t u (Num n) b e f = rw e refl
starts t u (Logical x) b e f = rw e refl
starts t u Other b e f = by_form (λ x. Unknown ≡ tree_starts_with x u) (λ s. refl) (λ ts. refl) (λ ms. refl) t e
starts t u (Text s) b e f = rw e (starts_of u b s.now f)
starts t u (NumberText n) b e f = rw e (starts_of u b (decimal_text (exact_value n)) f)
