-- One more turn of the loop over the parts of a string, beside a recursion on the turns that are left.
use Rattle.std.proofs.Common.{◌≡◌, ◌≢◌, ℕ, suc, ◌+◌, ◌-◌, ◌<◌, ◌≤◌, ◌==◌, List, [], ◌∷◌, ◌++◌, length, take, drop, Option, Some, None, encode_utf8, refl, sym, ap, subst, ◌∙◌, arith, append_assoc, length-drop, drop-drop, ne_eqb, take_all}
use Rattle.std.proofs.lemmas.List.{append-nil}
use Rattle.std.specs.List.{prefix_len}
use Rattle.sj_base.specs.ByteClasses.{is_plain}
use Rattle.sj_base.specs.Options.{◌>>=◌}
use Rattle.sj_path_token.specs.Reading.{escape_at, behind_run, behind, inside_from}
use Rattle.sj_path_token.proofs.Cuts.{bind_is, bind_none, cond_off}

turn : {start : Option (List ℕ × ℕ)} (n at : ℕ) (rest value : List ℕ) (so_far : ℕ) (next : Option (List ℕ × ℕ)) → at < n
    → start ≡ (inside_from (n - at) rest >>= behind value so_far)
    → (behind_run (inside_from (n - (at + 1))) (drop (prefix_len is_plain rest) rest) >>= behind (take (prefix_len is_plain rest) rest) (prefix_len is_plain rest)) ≡ next
    → start ≡ (next >>= behind value so_far)
unfolding inside_from
turn n at rest value so_far next below e h =
    let one : n - at ≡ suc (n - (at + 1)) = omega arith in
    e ∙ ap (λ m. inside_from m rest >>= behind value so_far) one ∙ ap (λ o. o >>= behind value so_far) h

two : {a c : List ℕ} {d f : ℕ} → a ≡ c → d ≡ f → ◌≡◌ {A = Option (List ℕ × ℕ)} (Some (a, d)) (Some (c, f))
two p q = cc

pub string_ends : {start : Option (List ℕ × ℕ)} (n at : ℕ) (rest value after : List ℕ) (so_far len m : ℕ) → at < n
    → start ≡ (inside_from (n - at) rest >>= behind value so_far) → len ≡ prefix_len is_plain rest → drop len rest ≡ m ∷ after → m ≡ 34
    → start ≡ Some (value ++ take len rest, so_far + (len + 1))
string_ends n at rest value after so_far len m below e r split mark =
    turn n at rest value so_far (Some (take len rest, len + 1)) below e
    (subst (λ j. (behind_run (inside_from (n - (at + 1))) (drop j rest) >>= behind (take j rest) j) ≡ Some (take len rest, len + 1)) r
    (ap (λ x. behind_run (inside_from (n - (at + 1))) x >>= behind (take len rest) len) (split ∙ ap (λ x. x ∷ after) mark)
    ∙ two (append-nil (take len rest)) refl))

-- a part behind another
regroup : (o : Option (List ℕ × ℕ)) (front value : List ℕ) (n m : ℕ) → ((o >>= behind front n) >>= behind value m) ≡ (o >>= behind (value ++ front) (m + n))
regroup None front value n m = refl
regroup (Some x) front value n m = two (sym (append_assoc value front x.0)) (omega arith)

abbrev escaped : ℕ → ℕ → List ℕ × ℕ → Option (List ℕ × ℕ)
escaped c k more = Some (encode_utf8 c ++ more.0, 1 + k + more.1)

escaped_is : (o : Option (List ℕ × ℕ)) (c k : ℕ) → (o >>= escaped c k) ≡ (o >>= behind (encode_utf8 c) (1 + k))
escaped_is None c k = refl
escaped_is (Some x) c k = refl

pub string_goes_on : {start : Option (List ℕ × ℕ)} (n at : ℕ) (rest value after : List ℕ) (so_far len m c k : ℕ) → at < n
    → start ≡ (inside_from (n - at) rest >>= behind value so_far) → len ≡ prefix_len is_plain rest → drop len rest ≡ m ∷ after → m ≡ 92 → escape_at after ≡ Some (c, k)
    → start ≡ (inside_from (n - (at + 1)) (drop (len + (1 + k)) rest) >>= behind ((value ++ take len rest) ++ encode_utf8 c) (so_far + (len + (1 + k))))
string_goes_on n at rest value after so_far len m c k below e r split mark read =
    let next : Option (List ℕ × ℕ) = inside_from (n - (at + 1)) (drop k after) in
    let back : drop k after ≡ drop (len + (1 + k)) rest =
    ap (λ x. drop k (drop 1 x)) (sym split) ∙ ap (drop k) (drop-drop 1 len rest) ∙ drop-drop k (len + 1) rest ∙ ap (λ j. drop j rest) (omega arith) in
    turn n at rest value so_far ((next >>= behind (encode_utf8 c) (1 + k)) >>= behind (take len rest) len) below e
    (subst (λ j. (behind_run (inside_from (n - (at + 1))) (drop j rest) >>= behind (take j rest) j) ≡ ((next >>= behind (encode_utf8 c) (1 + k)) >>= behind (take len rest) len)) r
    (ap (λ x. behind_run (inside_from (n - (at + 1))) x >>= behind (take len rest) len) (split ∙ ap (λ x. x ∷ after) mark)
    ∙ ap (λ o. o >>= behind (take len rest) len) (bind_is _ _ read (escaped_is next c k))))
    ∙ ap (λ o. o >>= behind value so_far) (regroup next (encode_utf8 c) (take len rest) (1 + k) len)
    ∙ regroup next (take len rest ++ encode_utf8 c) value (len + (1 + k)) so_far
    ∙ ap (λ x. next >>= behind x (so_far + (len + (1 + k)))) (sym (append_assoc value (take len rest) (encode_utf8 c)))
    ∙ ap (λ x. inside_from (n - (at + 1)) x >>= behind ((value ++ take len rest) ++ encode_utf8 c) (so_far + (len + (1 + k)))) back

-- where no part of a string stands, there is none
stuck : {start : Option (List ℕ × ℕ)} (n at : ℕ) (rest value : List ℕ) (so_far len : ℕ) → at < n
    → start ≡ (inside_from (n - at) rest >>= behind value so_far) → len ≡ prefix_len is_plain rest → behind_run (inside_from (n - (at + 1))) (drop len rest) ≡ None → start ≡ None
stuck n at rest value so_far len below e r none =
    turn n at rest value so_far None below e
    (subst (λ j. (behind_run (inside_from (n - (at + 1))) (drop j rest) >>= behind (take j rest) j) ≡ None) r (bind_none _ (behind (take len rest) len) none))

pub string_no_escape : {start : Option (List ℕ × ℕ)} (n at : ℕ) (rest value after : List ℕ) (so_far len m : ℕ) → at < n
    → start ≡ (inside_from (n - at) rest >>= behind value so_far) → len ≡ prefix_len is_plain rest → drop len rest ≡ m ∷ after → m ≡ 92 → escape_at after ≡ None → start ≡ None
string_no_escape n at rest value after so_far len m below e r split mark read =
    stuck n at rest value so_far len below e r (ap (behind_run (inside_from (n - (at + 1)))) (split ∙ ap (λ x. x ∷ after) mark) ∙ bind_none _ _ read)

pub string_no_mark : {start : Option (List ℕ × ℕ)} (n at : ℕ) (rest value after : List ℕ) (so_far len m : ℕ) → at < n
    → start ≡ (inside_from (n - at) rest >>= behind value so_far) → len ≡ prefix_len is_plain rest → drop len rest ≡ m ∷ after → m ≢ 34 → m ≢ 92 → start ≡ None
string_no_mark n at rest value after so_far len m below e r split quote backslash =
    stuck n at rest value so_far len below e r (ap (behind_run (inside_from (n - (at + 1)))) split ∙ cond_off (m == 34) _ _ (ne_eqb m 34 quote) (cond_off (m == 92) _ _ (ne_eqb m 92 backslash) refl))

pub string_no_end : {start : Option (List ℕ × ℕ)} (n at : ℕ) (rest value : List ℕ) (so_far len : ℕ) → at < n
    → start ≡ (inside_from (n - at) rest >>= behind value so_far) → len ≡ prefix_len is_plain rest → length (drop len rest) ≡ 0 → start ≡ None
string_no_end n at rest value so_far len below e r empty =
    stuck n at rest value so_far len below e r (ap (behind_run (inside_from (n - (at + 1)))) (nil (drop len rest) empty))
  where
    nil : (bs : List ℕ) → length bs ≡ 0 → bs ≡ []
    nil [] h = refl
    nil (b ∷ bs) h = absurd (omega arith)

pub string_no_turn : {start : Option (List ℕ × ℕ)} (n at : ℕ) (rest value : List ℕ) (so_far : ℕ) → n ≤ at
    → start ≡ (inside_from (n - at) rest >>= behind value so_far) → start ≡ None
unfolding inside_from
string_no_turn n at rest value so_far over e = let none : n - at ≡ 0 = omega arith in e ∙ ap (λ m. inside_from m rest >>= behind value so_far) none

-- a slice from n on
pub slice_from : (bs : List ℕ) (n : ℕ) → take (length bs - n) (drop n bs) ≡ drop n bs
slice_from bs n = take_all (length bs - n) (drop n bs) (omega (arith, length-drop n bs))
