-- A walk over the members under a key, by the first of them.
use Rattle.std.proofs.Common.{◌≡◌, ℕ, suc, ◌-◌, ◌<◌, List, [], ◌∷◌, map, length, Bool, true, false, if◌then◌else◌, Option, refl, sym, ap, ◌∙◌, arith}
use Rattle.sj_json.specs.Tree.{Tree, NumberedChild}
use Rattle.sj_doc.specs.Keyed.{is_key, from_key}
use Rattle.sj_path_tree.specs.declared.parts.Mode.{Mode}
use Rattle.sj_step.specs.Reach.{child_item, under_key, members_end}
use Rattle.sj_path_tree.specs.declared.parts.Mode.TheVariants.{Lax, Strict}
use Rattle.sj_base.specs.Count.{raised}
use Rattle.sj_item.specs.Items.{gives}
use Rattle.sj_step.specs.Takes.{Takes}
use Rattle.sj_step.specs.Trace.{Trace, visit, give, after_visits, first, rest, visits_to_first}
use Rattle.sj_step.proofs.Traces.{first-after_visits, rest-after_visits, visits_to_first-after_visits}

chosen : (key : List ℕ) (x : Bool) (d : NumberedChild) (cs ds : List NumberedChild) → is_key key d.0 ≡ x → from_key key (d ∷ cs) ≡ ds → (if x then d ∷ cs else from_key key cs) ≡ ds
chosen key x d cs ds e f = sym (ap (λ (b : Bool). if b then d ∷ cs else from_key key cs) e) ∙ f

abbrev left : Mode → List ℕ → Bool → List NumberedChild → Trace
left mode key found cs = under_key 1 mode key found (map child_item cs)

abbrev given : Mode → List ℕ → NumberedChild → List NumberedChild → Trace
given mode key c ms = give (child_item c).1 (left mode key true ms)

turn : (mode : Mode) (key : List ℕ) (found : Bool) (x : Bool) (d : NumberedChild) (cs : List NumberedChild) → is_key key d.0 ≡ x
    → left mode key found (d ∷ cs) ≡ visit (if x then give (child_item d).1 (left mode key true cs) else left mode key found cs)
turn mode key found x d cs e = ap (λ (b : Bool). visit (if b then give (child_item d).1 (left mode key true cs) else left mode key found cs)) e

module _ (mode : Mode) (key : List ℕ) (found : Bool) (c : NumberedChild) (ms : List NumberedChild) where
  fewer_by : (x : Bool) (d : NumberedChild) (cs : List NumberedChild) → is_key key d.0 ≡ x → from_key key (d ∷ cs) ≡ c ∷ ms → (from_key key cs ≡ c ∷ ms → length ms < length cs) → length ms < suc (length cs)
  fewer_by true d cs e f ih =
      let same : d ∷ cs ≡ c ∷ ms = chosen key true d cs (c ∷ ms) e f in
      let others : cs ≡ ms = cc in
      omega (arith, ap (λ (xs : List NumberedChild). length xs) others)
  fewer_by false d cs e f ih = omega (arith, ih (chosen key false d cs (c ∷ ms) e f))

  pub fewer : (cs : List NumberedChild) → from_key key cs ≡ c ∷ ms → length ms < length cs
  fewer [] e = cc
  fewer (d ∷ cs) e = fewer_by (is_key key d.0) d cs refl e (fewer cs)

  gives_by : (x : Bool) (d : NumberedChild) (cs : List NumberedChild) → is_key key d.0 ≡ x → from_key key (d ∷ cs) ≡ c ∷ ms → (from_key key cs ≡ c ∷ ms → left mode key found cs ≡ after_visits (length cs - length ms) (given mode key c ms))
      → left mode key found (d ∷ cs) ≡ after_visits (suc (length cs) - length ms) (given mode key c ms)
  gives_by true d cs e f ih =
      let same : d ∷ cs ≡ c ∷ ms = chosen key true d cs (c ∷ ms) e f in
      let found_one : d ≡ c = cc in
      let others : cs ≡ ms = cc in
      let one : suc 0 ≡ suc (length cs) - length ms = omega (arith, ap (λ (xs : List NumberedChild). length xs) others) in
      turn mode key found true d cs e
      ∙ ap (λ (y : NumberedChild). visit (give (child_item y).1 (left mode key true cs))) found_one
      ∙ ap (λ (ys : List NumberedChild). visit (give (child_item c).1 (left mode key true ys))) others
      ∙ ap (λ (n : ℕ). after_visits n (given mode key c ms)) one
  gives_by false d cs e f ih =
      let behind = chosen key false d cs (c ∷ ms) e f in
      let more : suc (length cs - length ms) ≡ suc (length cs) - length ms = omega (arith, fewer cs behind) in
      turn mode key found false d cs e ∙ ap visit (ih behind) ∙ ap (λ (n : ℕ). after_visits n (given mode key c ms)) more

  -- a member is under the key
  pub gives_first : (cs : List NumberedChild) → from_key key cs ≡ c ∷ ms → left mode key found cs ≡ after_visits (length cs - length ms) (given mode key c ms)
  gives_first [] e = cc
  gives_first (d ∷ cs) e = gives_by (is_key key d.0) d cs refl e (gives_first cs)

module _ (mode : Mode) (key : List ℕ) (found : Bool) where
  ends_by : (x : Bool) (d : NumberedChild) (cs : List NumberedChild) → is_key key d.0 ≡ x → from_key key (d ∷ cs) ≡ [] → (from_key key cs ≡ [] → left mode key found cs ≡ after_visits (length cs) (members_end mode found))
      → left mode key found (d ∷ cs) ≡ after_visits (suc (length cs)) (members_end mode found)
  ends_by true d cs e f ih = let none : d ∷ cs ≡ [] = chosen key true d cs [] e f in cc
  ends_by false d cs e f ih = turn mode key found false d cs e ∙ ap visit (ih (chosen key false d cs [] e f))

  -- no member is under the key
  pub gives_none : (cs : List NumberedChild) → from_key key cs ≡ [] → left mode key found cs ≡ after_visits (length cs) (members_end mode found)
  gives_none [] e = refl
  gives_none (d ∷ cs) e = ends_by (is_key key d.0) d cs refl e (gives_none cs)

-- ---- as one call takes them

pub takes_first : (mode : Mode) (key : List ℕ) (found : Bool) (c : NumberedChild) (ms cs : List NumberedChild) (a d : ℕ) → from_key key cs ≡ c ∷ ms → d ≡ raised a (length cs - length ms)
    → Takes (under_key 1 mode key found (map child_item cs)) (gives (child_item c).1) (under_key 1 mode key true (map child_item ms)) a d
takes_first mode key found c ms cs a d e step =
    let n : ℕ = length cs - length ms in
    let after : Trace = give (child_item c).1 (left mode key true ms) in
    let is : left mode key found cs ≡ after_visits n after = gives_first mode key found c ms cs e in
    let cost : n ≡ visits_to_first (left mode key found cs) = omega (arith, ap visits_to_first is, visits_to_first-after_visits n after) in
    record {
      answers = sym (ap first is ∙ first-after_visits n after);
      leaves = sym (ap rest is ∙ rest-after_visits n after);
      costs = step ∙ ap (raised a) cost;
    }

end_alone : (mode : Mode) (found : Bool) → (rest (members_end mode found) ≡ members_end mode found) × (visits_to_first (members_end mode found) ≡ 0)
end_alone Lax found = (refl, refl)
end_alone Strict true = (refl, refl)
end_alone Strict false = (refl, refl)

pub takes_none : (mode : Mode) (key : List ℕ) (found : Bool) (ms cs : List NumberedChild) (a d : ℕ) → (from_key key cs ≡ []) × (ms ≡ []) → d ≡ raised a (length cs - length ms)
    → Takes (under_key 1 mode key found (map child_item cs)) (first (members_end mode found)) (under_key 1 mode key found (map child_item ms)) a d
takes_none mode key found ms cs a d e step =
    let n : ℕ = length cs in
    let after : Trace = members_end mode found in
    let is : left mode key found cs ≡ after_visits n after = gives_none mode key found cs e.0 in
    let cost : n - length ms ≡ visits_to_first (left mode key found cs) = omega (arith, ap visits_to_first is, visits_to_first-after_visits n after, (end_alone mode found).1, ap (λ (xs : List NumberedChild). length xs) e.1) in
    record {
      answers = sym (ap first is ∙ first-after_visits n after);
      leaves = ap (left mode key found) e.1 ∙ sym (ap rest is ∙ rest-after_visits n after ∙ (end_alone mode found).0);
      costs = step ∙ ap (raised a) cost;
    }
