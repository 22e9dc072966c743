-- The plain text that a run passes over, and the byte where it stops.
use Rattle.std.proofs.Common.{◌≡◌, ℕ, suc, ◌+◌, ◌-◌, ◌<◌, ◌≤◌, List, [], ◌∷◌, length, take, drop, get_or, Bool, true, false, cond, refl, sym, ap, ◌∙◌, subst, arith}
use Rattle.std.specs.List.{AllByRecursion, prefix_len}
use Rattle.std.proofs.lemmas.List.{drop_more, get_or-drop, length-drop}
use Rattle.sj_base.specs.ByteClasses.{is_plain}
use Rattle.sj_json.specs.Strings.{IsPlain}
use Rattle.sj_read.specs.Scans.{EndsPlain}

plain_front : (xs : List ℕ) → AllByRecursion IsPlain (take (prefix_len is_plain xs) xs)
plain_front [] = tt
plain_front (x ∷ xs) = by (is_plain x) refl (plain_front xs)
  where
    by : (b : Bool) → is_plain x ≡ b → AllByRecursion IsPlain (take (prefix_len is_plain xs) xs) → AllByRecursion IsPlain (take (cond b (1 + prefix_len is_plain xs) 0) (x ∷ xs))
    by true e rest =
        let n = prefix_len is_plain xs in
        let more : suc n ≡ 1 + n = omega arith in
        subst (λ (m : ℕ). AllByRecursion IsPlain (take m (x ∷ xs))) more (e, rest)
    by false e rest = tt

next_no_plain : (xs : List ℕ) → prefix_len is_plain xs < length xs → is_plain (get_or xs (prefix_len is_plain xs) 0) ≡ false
next_no_plain [] h = absurd (omega arith)
next_no_plain (x ∷ xs) h = by (is_plain x) refl (next_no_plain xs) h
  where
    by : (b : Bool) → is_plain x ≡ b → (prefix_len is_plain xs < length xs → is_plain (get_or xs (prefix_len is_plain xs) 0) ≡ false)
        → cond b (1 + prefix_len is_plain xs) 0 < length (x ∷ xs) → is_plain (get_or (x ∷ xs) (cond b (1 + prefix_len is_plain xs) 0) 0) ≡ false
    by true e rest l =
        let n = prefix_len is_plain xs in
        let more : suc n ≡ 1 + n = omega arith in
        subst (λ (m : ℕ). is_plain (get_or (x ∷ xs) m 0) ≡ false) more (rest (omega arith))
    by false e rest l = e

module _ (xs : List ℕ) (from end : ℕ) (within : from ≤ length xs) (run : end ≡ from + prefix_len is_plain (drop from xs)) where
  pub plain_run : AllByRecursion IsPlain (take (end - from) (drop from xs))
  plain_run =
      let same : prefix_len is_plain (drop from xs) ≡ end - from = omega (arith, run) in
      ap_to same (plain_front (drop from xs))
    where
      ap_to : {n m : ℕ} → n ≡ m → AllByRecursion IsPlain (take n (drop from xs)) → AllByRecursion IsPlain (take m (drop from xs))
      ap_to e h = subst (λ (n : ℕ). AllByRecursion IsPlain (take n (drop from xs))) e h

  pub no_plain : end < length xs → is_plain (get_or xs end 0) ≡ false
  no_plain h =
      let stop = next_no_plain (drop from xs) (omega (arith, run, length-drop from xs)) in
      ap (λ (i : ℕ). is_plain (get_or xs i 0)) run ∙ ap is_plain (sym (get_or-drop from xs (prefix_len is_plain (drop from xs)) 0)) ∙ stop

  pub ends_there : end < length xs → get_or xs end 0 ≡ 34 → EndsPlain xs from end
  ends_there h quote = record { later = omega (arith, run); within = h; plain = plain_run; quote = quote }

pub one_plain : (xs : List ℕ) (from : ℕ) → from + 1 < length xs → is_plain (get_or xs from 0) ≡ true → get_or xs (from + 1) 0 ≡ 34 → EndsPlain xs from (from + 1)
one_plain xs from within plain quote =
    let one : from + 1 - from ≡ 1 = omega arith in
    record {
      later = omega arith;
      within = within;
      plain = rw (one, drop_more xs from 0 (omega (arith, within))) (plain, tt);
      quote = quote;
    }
