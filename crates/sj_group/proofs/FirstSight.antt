-- Keys in the order of first sight, and the rows of a key, as one row more comes.
use Rattle.std.proofs.Common.{◌≡◌, ℕ, Bool, true, false, not, cond, ◌||◌, List, [], ◌∷◌, ◌++◌, map, filter, refl, sym, ap, ◌∙◌, true≢false}
use Rattle.std.proofs.lemmas.List.{append-nil, map-append}
use Rattle.std.proofs.lemmas.List.Elements.{filter-append}
use Rattle.std.proofs.lemmas.Slice.Eq.{bytes_eq-Decides}
use Rattle.std.proofs.lemmas.Cmp.{nat_list_eq_equiv}
use Rattle.std.specs.Str.{bytes_eq}
use Rattle.sj_base.specs.Names.{is_among}
use Rattle.sj_group.specs.Grouping.{Row, key_of, each_once, first_seen, rows_of}

pub same : (a b : List ℕ) → bytes_eq a b ≡ true → a ≡ b
same a b e = (bytes_eq-Decides a b).0 e

pub swapped : (a b : List ℕ) (answer : Bool) → bytes_eq a b ≡ answer → bytes_eq b a ≡ answer
swapped a b answer e = nat_list_eq_equiv.symm b a ∙ e

-- the keys that differ from this one
abbrev others : List ℕ → List (List ℕ) → List (List ℕ)
others key keys = filter (λ later. not (bytes_eq key later)) keys

-- a key that differs from another is among those that differ from that one where it is among all
among_others : (other key : List ℕ) → bytes_eq key other ≡ false → (keys : List (List ℕ)) → is_among (others other keys) key ≡ is_among keys key
among_others other key apart [] = refl
among_others other key apart (k ∷ keys) = by (bytes_eq other k) refl (among_others other key apart keys)
  where
    by : (b : Bool) → bytes_eq other k ≡ b → is_among (others other keys) key ≡ is_among keys key → is_among (cond (not b) (k ∷ others other keys) (others other keys)) key ≡ (bytes_eq key k || is_among keys key)
    by true e rest = rest ∙ sym (ap (λ b. b || is_among keys key) (ap (bytes_eq key) (sym (same other k e)) ∙ apart))
    by false e rest = ap (λ b. bytes_eq key k || b) rest

-- the last of these keys differs from the first, or not
others_push : (first : List ℕ) (keys : List (List ℕ)) (key : List ℕ) (b : Bool) → bytes_eq first key ≡ b → others first (keys ++ key ∷ []) ≡ others first keys ++ cond (not b) (key ∷ []) []
others_push first keys key b e = filter-append (λ later. not (bytes_eq first later)) keys (key ∷ []) ∙ ap (λ b. others first keys ++ cond (not b) (key ∷ []) []) e

-- a new key stands last
pub seen_last : (keys : List (List ℕ)) (key : List ℕ) → is_among (each_once keys) key ≡ false → each_once (keys ++ key ∷ []) ≡ each_once keys ++ key ∷ []
seen_last [] key among = refl
seen_last (k ∷ keys) key among = by (seen_last keys key) (bytes_eq key k) refl among
  where
    by : (is_among (each_once keys) key ≡ false → each_once (keys ++ key ∷ []) ≡ each_once keys ++ key ∷ []) → (b : Bool) → bytes_eq key k ≡ b → (b || is_among (others k (each_once keys)) key) ≡ false → k ∷ others k (each_once (keys ++ key ∷ [])) ≡ k ∷ (others k (each_once keys) ++ key ∷ [])
    by rest true e h = absurd cc
    by rest false e h =
        ap (λ l. k ∷ l) (ap (others k) (rest (sym (among_others k key e (each_once keys)) ∙ h)) ∙ others_push k (each_once keys) key false (swapped key k false e))

-- and one that was seen changes nothing
pub seen_again : (keys : List (List ℕ)) (key : List ℕ) → is_among (each_once keys) key ≡ true → each_once (keys ++ key ∷ []) ≡ each_once keys
seen_again [] key among = absurd cc
seen_again (k ∷ keys) key among = ap (λ l. k ∷ l) (by (seen_again keys key) (bytes_eq key k) refl among (is_among (each_once keys) key) refl)
  where
    by : (is_among (each_once keys) key ≡ true → each_once (keys ++ key ∷ []) ≡ each_once keys) → (b : Bool) → bytes_eq key k ≡ b → (b || is_among (others k (each_once keys)) key) ≡ true → (c : Bool) → is_among (each_once keys) key ≡ c → others k (each_once (keys ++ key ∷ [])) ≡ others k (each_once keys)
    by rest b e h true among = ap (others k) (rest among)
    by rest true e h false among = ap (others k) (seen_last keys key among) ∙ others_push k (each_once keys) key true (swapped key k true e) ∙ append-nil (others k (each_once keys))
    by rest false e h false among = absurd (true≢false (sym h ∙ among_others k key e (each_once keys) ∙ among))

-- ---- the same of rows

module _ (rows : List Row) (row : Row) where
  moved : map key_of (rows ++ row ∷ []) ≡ map key_of rows ++ key_of row ∷ []
  moved = map-append key_of rows (row ∷ [])

  pub first_seen_last : is_among (first_seen rows) (key_of row) ≡ false → first_seen (rows ++ row ∷ []) ≡ first_seen rows ++ key_of row ∷ []
  first_seen_last among = ap each_once moved ∙ seen_last (map key_of rows) (key_of row) among

  pub first_seen_again : is_among (first_seen rows) (key_of row) ≡ true → first_seen (rows ++ row ∷ []) ≡ first_seen rows
  first_seen_again among = ap each_once moved ∙ seen_again (map key_of rows) (key_of row) among

  rows_push : (key : List ℕ) (b : Bool) → bytes_eq key (key_of row) ≡ b → rows_of key (rows ++ row ∷ []) ≡ rows_of key rows ++ cond b (row ∷ []) []
  rows_push key b e = filter-append (λ row. bytes_eq key (key_of row)) rows (row ∷ []) ∙ ap (λ b. rows_of key rows ++ cond b (row ∷ []) []) e

  -- the rows of its key are one more
  pub rows_more : (key : List ℕ) → bytes_eq key (key_of row) ≡ true → rows_of key (rows ++ row ∷ []) ≡ rows_of key rows ++ row ∷ []
  rows_more key e = rows_push key true e

  -- and those of another stay
  pub rows_stay : (key : List ℕ) → bytes_eq key (key_of row) ≡ false → rows_of key (rows ++ row ∷ []) ≡ rows_of key rows
  rows_stay key e = rows_push key false e ∙ append-nil (rows_of key rows)

-- a key that was not seen has no rows
pub no_rows : (rows : List Row) (key : List ℕ) → is_among (first_seen rows) key ≡ false → rows_of key rows ≡ []
no_rows [] key among = refl
no_rows (row ∷ rows) key among = by (no_rows rows key) (bytes_eq key (key_of row)) refl among
  where
    by : (is_among (first_seen rows) key ≡ false → rows_of key rows ≡ []) → (b : Bool) → bytes_eq key (key_of row) ≡ b → (b || is_among (others (key_of row) (first_seen rows)) key) ≡ false → cond b (row ∷ rows_of key rows) (rows_of key rows) ≡ []
    by rest true e h = absurd cc
    by rest false e h = rest (sym (among_others (key_of row) key e (first_seen rows)) ∙ h)
