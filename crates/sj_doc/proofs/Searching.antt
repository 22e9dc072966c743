-- One turn of a search for a key among children.
use Rattle.std.proofs.Common.{◌≡◌, ℕ, ◌+◌, ◌-◌, ◌<◌, ◌≤◌, List, [], ◌∷◌, ◌++◌, length, drop, Bool, true, false, if◌then◌else◌, Option, Some, None, refl, sym, ap, ◌∙◌, subst, arith}
use Rattle.std.proofs.lemmas.Slice.Eq.{bytes_eq-Decides}
use Rattle.sj_base.specs.Count.{raised}
use Rattle.sj_json.specs.Tree.{Tree, Child, numbered, NumberedChild, below, subtree, node_count}
use Rattle.sj_json.specs.Cells.{layout}
use Rattle.sj_doc.specs.Children.{children_left, IsChildren}
use Rattle.sj_doc.specs.Keyed.{is_key, from_key}
use Rattle.sj_doc.specs.Stops.{key_in}
use Rattle.sj_doc.proofs.Listing.{next_kid, left_is}
use Rattle.sj_doc.proofs.Touring.{key_read}

-- the first child that is left, by its number
pub record Turned (t : Tree) (i : ℕ) (n : ℕ) : Type 0 where
  pub within : i < node_count t
  pub splits : children_left t i n ≡ (key_in t i, i, subtree t i) ∷ children_left t (i + 1 + below (subtree t i)) (n - 1)
  pub after : IsChildren t (i + 1 + below (subtree t i)) (n - 1)

pub turned : (t : Tree) (i n : ℕ) → IsChildren t i n → 0 < n → Turned t i n
turned t i n h some =
    let k = next_kid t i n h some in
    let lie = k.lie ∙ ap (λ (u : Tree). layout k.kid.0 u ++ k.rest) (sym k.tree) in
    record {
      within = k.within;
      splits = k.splits
          ∙ ap (λ (x : Option (List ℕ)). (x, i, k.kid.1) ∷ children_left t (i + 1 + below k.kid.1) (n - 1)) (sym (key_read t i k.within k.kid.0 k.rest lie))
          ∙ ap (λ (u : Tree). (key_in t i, i, u) ∷ children_left t (i + 1 + below u) (n - 1)) (sym k.tree);
      after = subst (λ (u : Tree). IsChildren t (i + 1 + below u) (n - 1)) (sym k.tree) k.after;
    }

pub key_found : (key : List ℕ) (k : Option (List ℕ)) → is_key key k ≡ true → k ≡ Some key
key_found key None e = cc
key_found key (Some k) e = ap Some (grind (arith, e, bytes_eq-Decides k key))

module _ (key : List ℕ) (t : Tree) (i n : ℕ) (h : Turned t i n) where
  pub hit : is_key key (key_in t i) ≡ true → from_key key (children_left t i n) ≡ (Some key, i, subtree t i) ∷ children_left t (i + 1 + below (subtree t i)) (n - 1)
  hit e =
      let cs = children_left t (i + 1 + below (subtree t i)) (n - 1) in
      ap (from_key key) h.splits
      ∙ ap (λ (b : Bool). if b then (key_in t i, i, subtree t i) ∷ cs else from_key key cs) e
      ∙ ap (λ (k : Option (List ℕ)). (k, i, subtree t i) ∷ cs) (key_found key (key_in t i) e)

  pub miss : is_key key (key_in t i) ≡ false → from_key key (children_left t i n) ≡ from_key key (children_left t (i + 1 + below (subtree t i)) (n - 1))
  miss e =
      let cs = children_left t (i + 1 + below (subtree t i)) (n - 1) in
      ap (from_key key) h.splits ∙ ap (λ (b : Bool). if b then (key_in t i, i, subtree t i) ∷ cs else from_key key cs) e

-- one step more
pub step_more : (a b n m : ℕ) → b ≡ raised a (n - m) → m ≤ n → 0 < m → raised b 1 ≡ raised a (n - (m - 1))
step_more a b n m e l h = omega (arith, e, l, h)

pub no_step : (a n : ℕ) → a ≡ raised a (n - n)
no_step a n = omega arith

-- ---- how many are left

length-numbered : (i : ℕ) (ks : List Child) → length (numbered i ks) ≡ length ks
length-numbered i [] = refl
length-numbered i (k ∷ ks) = omega (arith, length-numbered (i + 1 + below k.1) ks)

pub length-left : (t : Tree) (i n : ℕ) → IsChildren t i n → length (children_left t i n) ≡ n
length-left t i n h = ap (λ cs. length cs) (left_is t i n h.kids h.rest h.lie h.count) ∙ length-numbered i h.kids ∙ sym h.count

pub none_left : (t : Tree) (i : ℕ) → IsChildren t i 0
none_left t i = record { kids = []; rest = drop i (layout None t); lie = refl; count = refl }

pub none_in : (cs : List NumberedChild) → length cs ≡ 0 → cs ≡ []
none_in [] e = refl
none_in (c ∷ cs) e = absurd (omega (arith, e))
