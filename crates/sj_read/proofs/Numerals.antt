-- The number that begins at a place.
use Rattle.std.proofs.Common.{◌≡◌, ℕ, suc, ◌+◌, ◌-◌, ◌<◌, ◌≤◌, List, [], ◌∷◌, length, take, drop, get_or, Bool, true, false, cond, ◌&&◌, Some, None, refl, sym, ap, ◌∙◌, subst, ⊎_elim, arith}
use Rattle.std.specs.List.{prefix_len, list_all}
use Rattle.std.proofs.lemmas.Bool.{cases_lt}
use Rattle.std.proofs.lemmas.List.{get_or-drop, length-drop, drop-drop}
use Rattle.std.proofs.lemmas.List.Sums.{prefix_len-le-length, prefix_len_passes}
use Rattle.sj_decimal.specs.Number.{is_number_byte, begins_number}
use Rattle.sj_json.specs.Tree.{Number, number}
use Rattle.sj_json.specs.Building.{State, TakesValue, with_value}
use Rattle.sj_json.specs.Machine.{value, digits, run}
use Rattle.sj_json.specs.Numbers.{number_of}
use Rattle.sj_json.proofs.Complete.{Ends, run_digits, number_ends, no_number_ends, begins_value}
use Rattle.sj_json.proofs.Buildings.{total-put}
use Rattle.sj_doc.specs.Builders.{feeds_behind, EndsInFeeds, node_total}
use Rattle.sj_read.specs.declared.reader.Mode.TheVariants as modes
use Rattle.sj_read.specs.Turns.{Went}
use Rattle.sj_read.proofs.Steps.{here, goes, cut, put_value}

front : (q : ℕ → Bool) (xs : List ℕ) → list_all q (take (prefix_len q xs) xs) ≡ true
front q [] = refl
front q (x ∷ xs) = by (q x) refl (front q xs)
  where
    by : (b : Bool) → q x ≡ b → list_all q (take (prefix_len q xs) xs) ≡ true → list_all q (take (cond b (1 + prefix_len q xs) 0) (x ∷ xs)) ≡ true
    by true e rest =
        let n = prefix_len q xs in
        let more : suc n ≡ 1 + n = omega arith in
        subst (λ (m : ℕ). list_all q (take m (x ∷ xs)) ≡ true) more (ap (λ (b : Bool). b && list_all q (take n xs)) e ∙ rest)
    by false e rest = refl

behind : (xs : List ℕ) → Ends (drop (prefix_len is_number_byte xs) xs)
behind [] = tt
behind (x ∷ xs) = by (is_number_byte x) refl (behind xs)
  where
    by : (b : Bool) → is_number_byte x ≡ b → Ends (drop (prefix_len is_number_byte xs) xs) → Ends (drop (cond b (1 + prefix_len is_number_byte xs) 0) (x ∷ xs))
    by true e rest =
        let n = prefix_len is_number_byte xs in
        let more : suc n ≡ 1 + n = omega arith in
        subst (λ (m : ℕ). Ends (drop m (x ∷ xs))) more rest
    by false e rest = e

module _ (limit : ℕ) (s : State) (text : List ℕ) (at c : ℕ) (h : at + feeds_behind < length text) (e : get_or text at 0 ≡ c) (begins : begins_number c ≡ true) (end : ℕ) (is : end ≡ at + 1 + prefix_len is_number_byte (drop (at + 1) text)) where
  pub within : end ≤ length text
  within = omega (arith, h, is, prefix_len-le-length is_number_byte (drop (at + 1) text), length-drop (at + 1) text)

  -- the last byte of a number is no line feed
  pub inside : EndsInFeeds text → end + feeds_behind ≤ length text
  inside feeds =
      let n = prefix_len is_number_byte (drop (at + 1) text) in
      ⊎_elim
      (λ more.
      let last : get_or (drop (at + 1) text) (n - 1) 0 ≡ get_or text (at + 1 + (n - 1)) 0 = get_or-drop (at + 1) text (n - 1) 0 in
      let passes : is_number_byte (get_or (drop (at + 1) text) (n - 1) 0) ≡ true = prefix_len_passes is_number_byte (drop (at + 1) text) (n - 1) 0 (omega (arith, more)) in
      omega (arith, is, more, feeds (at + 1 + (n - 1)) (omega (arith, is, more, within)) (λ q. let no : true ≡ false = sym passes ∙ ap is_number_byte (last ∙ q) in cc)))
      (λ none. omega (arith, h, is, none))
      (cases_lt 0 n)

  rest_ends : Ends (drop end text)
  rest_ends =
      let n = prefix_len is_number_byte (drop (at + 1) text) in
      subst Ends (drop-drop n (at + 1) text ∙ ap (λ (i : ℕ). drop i text) (sym is)) (behind (drop (at + 1) text))

  -- the bytes of the number
  bytes : List ℕ
  bytes = take (end - at) (drop at text)

  bytes_are : c ∷ take (end - (at + 1)) (drop (at + 1) text) ≡ take (end - at) (drop at text)
  bytes_are =
      let more : suc (end - (at + 1)) ≡ end - at = omega (arith, is) in
      ap (λ (k : ℕ). take k (c ∷ drop (at + 1) text)) more ∙ ap (take (end - at)) (sym (here limit value s text at c (omega (arith, h)) e))

  pub runs : run limit value s (drop at text) ≡ run limit (digits (take (end - at) (drop at text))) s (drop end text)
  runs =
      let front_is : list_all is_number_byte (take (end - (at + 1)) (drop (at + 1) text)) ≡ true =
      subst (λ (k : ℕ). list_all is_number_byte (take k (drop (at + 1) text)) ≡ true) (omega (arith, is)) (front is_number_byte (drop (at + 1) text)) in
      goes limit value s text at c (omega (arith, h)) e (digits (c ∷ []), s) (begins_value limit s c begins)
      ∙ ap (run limit (digits (c ∷ [])) s) (cut text (at + 1) end (omega (arith, is)))
      ∙ run_digits limit (c ∷ []) (take (end - (at + 1)) (drop (at + 1) text)) (drop end text) s front_is
      ∙ ap (λ (a : List ℕ). run limit (digits a) s (drop end text)) bytes_are

  pub number_value : EndsInFeeds text → (v : Number) → number_of (take (end - at) (drop at text)) ≡ Some v → TakesValue s.0 → node_total s ≤ at → Went limit value s text at modes.AfterValue end (with_value (number v) s)
  number_value feeds v read ready room = record {
    same = runs ∙ number_ends limit (take (end - at) (drop at text)) v s (drop end text) read rest_ends;
    later = omega (arith, is);
    within = inside feeds;
    ready = put_value (number v) s.0 ready;
    room = omega (arith, total-put (number v) s.0 s.1 ready, is);
  }

  pub no_number_value : number_of (take (end - at) (drop at text)) ≡ None → run limit value s (drop at text) ≡ None
  no_number_value read = runs ∙ no_number_ends limit (take (end - at) (drop at text)) s (drop end text) read rest_ends
