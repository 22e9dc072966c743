-- Names that are put into a set.
use Rattle.std.proofs.Common.{◌≡◌, ℕ, Bool, true, false, ◌||◌, if◌then◌else◌, List, [], ◌∷◌, ◌++◌, map, position, Some, None, ◌+◌, cond, not, nat_lt, length, refl, sym, ap, ◌∙◌}
use Rattle.std.specs.Borrow.{Bor}
use Rattle.std.specs.List.{list_any, position_or_len}
use Rattle.std.specs.Str.{bytes_eq}
use Rattle.std.proofs.lemmas.List.{map-append}
use Rattle.std.proofs.lemmas.List.Folds.{list_any-append}
use Rattle.std.proofs.lemmas.Slice.Eq.{bytes_eq-Decides}
use Rattle.sj_base.specs.Names.{is_among}
use Rattle.sj_path_tree.specs.Vars.{has_name}
use Rattle.sj_sql_grammar.specs.declared.clauses.Passed.{Passed}
use Rattle.sj_bind.specs.Clauses.{passed}
use Rattle.sj_bind.specs.Variables.{AddsNames}
use Rattle.sj_bind.proofs.Lists.{any_mapped}
use Rattle.sj_bind.proofs.NameLists.{bytes_eq-sym}

-- the names that keys lend
abbrev pub lent : List (Bor (List ℕ)) → List (List ℕ)
lent keys = map (λ k. k.now) keys

pub or_none : (b : Bool) → (b || false) ≡ b
or_none true = refl
or_none false = refl

-- a name that is there, once more
known_again : (names : List (List ℕ)) (x name : List ℕ) → is_among names x ≡ true → is_among names name ≡ (is_among names name || bytes_eq x name)
known_again names x name known = go (bytes_eq x name) refl
  where
    go : (b : Bool) → bytes_eq x name ≡ b → is_among names name ≡ (is_among names name || b)
    go true e = (ap (is_among names) (sym ((bytes_eq-Decides x name).0 e)) ∙ known) ∙ sym (ap (λ b. b || true) (ap (is_among names) (sym ((bytes_eq-Decides x name).0 e)) ∙ known))
    go false e = sym (or_none (is_among names name))

added_last : (names : List (List ℕ)) (x name : List ℕ) → is_among (names ++ x ∷ []) name ≡ (is_among names name || bytes_eq x name)
added_last names x name =
    list_any-append (bytes_eq name) names (x ∷ [])
    ∙ ap (λ b. is_among names name || b) (or_none (bytes_eq name x) ∙ bytes_eq-sym name x)

-- a set of names took one
pub name_added : (keys after : List (Bor (List ℕ))) (x : Bor (List ℕ)) → after ≡ (if list_any (λ k. bytes_eq x.now k.now) keys then keys else keys ++ x ∷ [])
    → (name : List ℕ) → is_among (lent after) name ≡ (is_among (lent keys) name || bytes_eq x.now name)
name_added keys after x e name = go (list_any (λ (k : Bor (List ℕ)). bytes_eq x.now k.now) keys) refl
  where
    go : (b : Bool) → list_any (λ (k : Bor (List ℕ)). bytes_eq x.now k.now) keys ≡ b → is_among (lent after) name ≡ (is_among (lent keys) name || bytes_eq x.now name)
    go true known =
        ap (λ z. is_among (lent z) name) (e ∙ ap (λ (z : Bool). if z then keys else keys ++ x ∷ []) known)
        ∙ known_again (lent keys) x.now name (any_mapped (bytes_eq x.now) (λ (k : Bor (List ℕ)). k.now) keys ∙ known)
    go false new =
        ap (λ z. is_among (lent z) name) (e ∙ ap (λ (z : Bool). if z then keys else keys ++ x ∷ []) new)
        ∙ ap (λ z. is_among z name) (map-append (λ (k : Bor (List ℕ)). k.now) keys (x ∷ []))
        ∙ added_last (lent keys) x.now name

grouped : (a b c : Bool) → ((a || b) || c) ≡ (a || (b || c))
grouped true b c = refl
grouped false b c = refl

-- one variable less is left
pub variable_moves : (keys after : List (Bor (List ℕ))) (x : Bor (List ℕ)) (variable : Passed) (left others : List Passed) (name : List ℕ) (all : Bool)
    → after ≡ (if list_any (λ k. bytes_eq x.now k.now) keys then keys else keys ++ x ∷ []) → x.now ≡ variable.name → left ≡ variable ∷ others
    → (is_among (lent keys) name || has_name (passed left) name) ≡ all
    → (is_among (lent after) name || has_name (passed others) name) ≡ all
variable_moves keys after x variable left others name all e is first h =
    ap (λ b. b || has_name (passed others) name) (name_added keys after x e name ∙ ap (λ n. is_among (lent keys) name || bytes_eq n name) is)
    ∙ grouped (is_among (lent keys) name) (bytes_eq variable.name name) (has_name (passed others) name)
    ∙ ap (λ ps. is_among (lent keys) name || has_name (passed ps) name) (sym first)
    ∙ h

-- the same, where the name alone is what came
pub one_added : (keys after : List (Bor (List ℕ))) (x : Bor (List ℕ)) → after ≡ (if list_any (λ k. bytes_eq x.now k.now) keys then keys else keys ++ x ∷ [])
    → AddsNames (lent keys) (x.now ∷ []) (lent after)
one_added keys after x e name =
    name_added keys after x e name ∙ ap (λ b. is_among (lent keys) name || b) (bytes_eq-sym x.now name ∙ sym (or_none (bytes_eq name x.now)))

pub none_added : (names : List (List ℕ)) → AddsNames names [] names
none_added names name = sym (or_none (is_among names name))

-- some names came, and others are left
pub names_move : (before some after others : List (List ℕ)) (name : List ℕ) (all : Bool) → AddsNames before some after
    → (is_among before name || is_among (some ++ others) name) ≡ all → (is_among after name || is_among others name) ≡ all
names_move before some after others name all adds h =
    ap (λ b. b || is_among others name) (adds name)
    ∙ grouped (is_among before name) (is_among some name) (is_among others name)
    ∙ ap (λ b. is_among before name || b) (sym (list_any-append (bytes_eq name) some others))
    ∙ h

place-lent : (p : List ℕ → Bool) (keys : List (Bor (List ℕ))) → position_or_len p (lent keys) ≡ position_or_len (λ (k : Bor (List ℕ)). p k.now) keys
place-lent p [] = refl
place-lent p (k ∷ keys) = ap (λ n. cond (not (p k.now)) (1 + n) 0) (place-lent p keys)

-- the place of a name among lent names
pub place_of : (p : List ℕ → Bool) (keys : List (Bor (List ℕ))) (n : ℕ) → Some n ≡ position (λ (k : Bor (List ℕ)). p k.now) keys → n ≡ position_or_len p (lent keys)
place_of p keys n h = go (nat_lt (position_or_len (λ (k : Bor (List ℕ)). p k.now) keys) (length keys)) h ∙ sym (place-lent p keys)
  where
    go : (b : Bool) → Some n ≡ cond b (Some (position_or_len (λ (k : Bor (List ℕ)). p k.now) keys)) None → n ≡ position_or_len (λ (k : Bor (List ℕ)). p k.now) keys
    go true e = cc
    go false e = absurd cc
