-- What is read behind a quotation mark is the inside of a string, and each inside is read.
use Rattle.std.proofs.Common.{◌≡◌, ℕ, zero, suc, ◌+◌, ◌≤◌, Bool, true, false, cond, List, [], ◌∷◌, ◌++◌, length, take, drop, Option, Some, None, refl, sym, ap, subst, ◌∙◌, arith, append_assoc, length-append, length-drop, take-add, drop_at, eqb-true, encode_utf8, ◌==◌, ◌&&◌}
use Rattle.std.specs.List.{prefix_len}
use Rattle.std.proofs.lemmas.List.Sums.{prefix_len-le-length}
use Rattle.std.specs.Char.Utf16.{is_low_surrogate, surrogate_pair_char}
use Rattle.sj_base.specs.ByteClasses.{is_plain, next_is, letter_char}
use Rattle.sj_base.specs.Options.{◌>>=◌}
use Rattle.sj_path_token.specs.Words as w
use Rattle.sj_path_token.specs.Words.{AllPass}
use Rattle.sj_path_token.specs.Strings as s
use Rattle.sj_path_token.specs.Strings.{IsEscape, IsInside, unit_of}
use Rattle.sj_path_token.specs.Reading.{unit_at, low_at, character_at, escape_at, behind_run, behind, inside_from}
use Rattle.sj_path_token.proofs.Runs.{run_goes_on, run_passes}
use Rattle.sj_path_token.proofs.Cuts.{IfCut, nothing, here, then, given, chosen, some_is, bind_is, cond_on, cond_off}

-- ---- escapes

pub record EscapeFront (bs : List ℕ) (c n : ℕ) : Type 0 where
  pub within : n ≤ length bs
  pub fits : IsEscape (take n bs) c

-- the six bytes of a second half
record IsLowUnit (bs : List ℕ) (low : ℕ) : Type 0 where
  e : ℕ
  f : ℕ
  g : ℕ
  h : ℕ
  rest : List ℕ
  is : bs ≡ 92 ∷ 117 ∷ e ∷ f ∷ g ∷ h ∷ rest
  unit : unit_of e f g h ≡ Some low
  is_low : is_low_surrogate low ≡ true

low_unit : (x y low : ℕ) (bs : List ℕ) → x ≡ 92 → y ≡ 117 → (unit_at bs >>= λ low. cond (is_low_surrogate low) (Some low) None) ≡ Some low → IsLowUnit (x ∷ y ∷ bs) low
low_unit x y low (e ∷ f ∷ g ∷ h ∷ bs) p q r = go (unit_of e f g h) refl r
  where
    pick : (u : ℕ) (b : Bool) → unit_of e f g h ≡ Some u → is_low_surrogate u ≡ b → cond b (Some u) None ≡ Some low → IsLowUnit (x ∷ y ∷ e ∷ f ∷ g ∷ h ∷ bs) low
    pick u true a b r = record {
      e = e;
      f = f;
      g = g;
      h = h;
      rest = bs;
      is = ap (λ x. x ∷ y ∷ e ∷ f ∷ g ∷ h ∷ bs) p ∙ ap (λ y. 92 ∷ y ∷ e ∷ f ∷ g ∷ h ∷ bs) q;
      unit = a ∙ r;
      is_low = subst (λ v. is_low_surrogate v ≡ true) (some_is r) b;
    }
    pick u false a b r = absurd cc

    go : (o : Option ℕ) → unit_of e f g h ≡ o → (o >>= λ low. cond (is_low_surrogate low) (Some low) None) ≡ Some low → IsLowUnit (x ∷ y ∷ e ∷ f ∷ g ∷ h ∷ bs) low
    go None a r = absurd cc
    go (Some u) a r = pick u (is_low_surrogate u) a refl r
low_unit x y low _ p q r = absurd cc

low_is : (bs : List ℕ) (low : ℕ) → low_at bs ≡ Some low → IsLowUnit bs low
low_is (x ∷ y ∷ bs) low r = go (x == 92) (y == 117) refl refl r
  where
    go : (a b : Bool) → (x == 92) ≡ a → (y == 117) ≡ b → cond (a && b) (unit_at bs >>= λ low. cond (is_low_surrogate low) (Some low) None) None ≡ Some low → IsLowUnit (x ∷ y ∷ bs) low
    go true true p q r = low_unit x y low bs (eqb-true x 92 p) (eqb-true y 117 q) r
    go true false p q r = absurd cc
    go false b p q r = absurd cc
low_is _ low r = absurd cc

character_sound : (bs : List ℕ) → IfCut (EscapeFront (117 ∷ bs)) (character_at bs)
character_sound (a ∷ b ∷ c ∷ d ∷ bs) = given _ _ (λ u p. chosen _ _ _
    (λ high. given _ _ (λ low q. let l = low_is bs low q in
    here (subst (λ x. EscapeFront (117 ∷ a ∷ b ∷ c ∷ d ∷ x) (surrogate_pair_char u low) 11) (sym l.is) (record { within = omega arith; fits = s.pair p high l.unit l.is_low }))))
    (λ high. chosen _ _ _ (λ _. nothing) (λ low. here (record { within = omega arith; fits = s.unit p high low }))))
character_sound _ = nothing

pub escape_sound : (bs : List ℕ) → IfCut (EscapeFront bs) (escape_at bs)
unfolding escape_at
escape_sound [] = nothing
escape_sound (e ∷ bs) = chosen _ _ _
    (λ h. subst (λ x. IfCut (EscapeFront (x ∷ bs)) (character_at bs)) (sym (eqb-true e 117 h)) (character_sound bs))
    (λ _. given _ _ (λ c h. here {a = c} {n = 1} (record { within = omega arith; fits = s.short h })))

abbrev short : ℕ → Option (ℕ × ℕ)
short c = Some (c, 1)

short_read : (e c : ℕ) (after : List ℕ) → letter_char e ≡ Some c → escape_at (e ∷ after) ≡ Some (c, 1)
unfolding escape_at
short_read e c after h = go (e == 117) refl
  where
    read : (o : Option ℕ) → o ≡ Some c → (o >>= short) ≡ Some (c, 1)
    read o q = ap (λ p. p >>= short) q

    none_is : letter_char 117 ≡ Some c → ⊥
    none_is q = cc

    go : (b : Bool) → (e == 117) ≡ b → cond b (character_at after) (letter_char e >>= short) ≡ Some (c, 1)
    go true p = absurd (none_is (sym (ap letter_char (eqb-true e 117 p)) ∙ h))
    go false p = read (letter_char e) h

pub escape_full : {es : List ℕ} {c : ℕ} → IsEscape es c → (after : List ℕ) → escape_at (es ++ after) ≡ Some (c, length es)
unfolding escape_at
escape_full (s.short {e = e} {c = c} h) after = short_read e c after h
escape_full (s.unit p high low) after = bind_is _ _ p (cond_off _ _ _ high (cond_off _ _ _ low refl))
escape_full (s.pair p high q low) after = bind_is _ _ p (cond_on _ _ _ high (bind_is _ _ (bind_is _ _ q (cond_on _ _ _ low refl)) refl))

-- ---- insides

pub record InsideFront (bs text : List ℕ) (n : ℕ) : Type 0 where
  pub within : n ≤ length bs
  pub fits : IsInside (take n bs) text

pub plain_front : {front : List ℕ} → AllPass is_plain front → {rest text : List ℕ} → IsInside rest text → IsInside (front ++ rest) (front ++ text)
plain_front w.none d = d
plain_front (w.more h p) d = s.plain h (plain_front p d)

next_cons : (b : ℕ) (bs : List ℕ) → next_is b bs ≡ true → bs ≡ b ∷ drop 1 bs
next_cons b [] h = absurd cc
next_cons b (d ∷ bs) h = ap (λ x. x ∷ bs) (eqb-true d b h)

take_behind : (bs : List ℕ) (k j : ℕ) → take (1 + k + j) (92 ∷ bs) ≡ 92 ∷ (take k bs ++ take j (drop k bs))
take_behind bs k j = let e : 1 + k + j ≡ suc (k + j) = omega arith in ap (λ n. take n (92 ∷ bs)) e ∙ ap (λ x. 92 ∷ x) (take-add k j bs)

escape_joined : (bs : List ℕ) (c k j : ℕ) (text : List ℕ) → EscapeFront bs c k → InsideFront (drop k bs) text j → InsideFront (92 ∷ bs) (encode_utf8 c ++ text) (1 + k + j)
escape_joined bs c k j text p q = record {
  within = omega (arith, p.within, q.within, length-drop k bs);
  fits = subst (λ x. IsInside x (encode_utf8 c ++ text)) (sym (take_behind bs k j)) (s.escape p.fits q.fits);
}

behind_sound : (inside : List ℕ → Option (List ℕ × ℕ)) → ((bs : List ℕ) → IfCut (InsideFront bs) (inside bs)) → (rest : List ℕ) → IfCut (InsideFront rest) (behind_run inside rest)
behind_sound inside reads rest = chosen _ _ _
    (λ h. here (subst (λ x. InsideFront x [] 1) (sym (next_cons 34 rest h)) (record { within = omega arith; fits = s.end })))
    (λ _. chosen _ _ _ (λ h. then _ _ (escape_sound (drop 1 rest)) (λ c k _ p. then _ _ (reads (drop k (drop 1 rest))) (λ text j _ q.
    here (subst (λ x. InsideFront x (encode_utf8 c ++ text) (1 + k + j)) (sym (next_cons 92 rest h)) (escape_joined (drop 1 rest) c k j text p q)))))
    (λ _. nothing))

pub inside_sound : (n : ℕ) (bs : List ℕ) → IfCut (InsideFront bs) (inside_from n bs)
unfolding inside_from
inside_sound zero bs = nothing
inside_sound (suc n) bs = then _ _ (behind_sound (inside_from n) (inside_sound n) (drop (prefix_len is_plain bs) bs)) (λ text j _ q. here (record {
  within = omega (arith, q.within, length-drop (prefix_len is_plain bs) bs, prefix_len-le-length is_plain bs);
  fits = subst (λ x. IsInside x (take (prefix_len is_plain bs) bs ++ text)) (sym (take-add (prefix_len is_plain bs) j bs)) (plain_front (run_passes is_plain bs) q.fits);
}))

-- one more plain byte before an inside that is read
plain_step : (n b : ℕ) (bs text : List ℕ) (j : ℕ) → is_plain b ≡ true → inside_from n bs ≡ Some (text, j) → inside_from n (b ∷ bs) ≡ Some (b ∷ text, suc j)
unfolding inside_from
plain_step zero b bs text j h e = absurd cc
plain_step (suc n) b bs text j h e =
    ap (λ k. behind_run (inside_from n) (drop k (b ∷ bs)) >>= behind (take k (b ∷ bs)) k) (run_goes_on is_plain b bs h)
    ∙ go (behind_run (inside_from n) (drop (prefix_len is_plain bs) bs)) e
  where
    two : {a c : List ℕ} {d f : ℕ} → a ≡ c → d ≡ f → ◌≡◌ {A = Option (List ℕ × ℕ)} (Some (a, d)) (Some (c, f))
    two p q = cc

    go : (o : Option (List ℕ × ℕ)) → (o >>= behind (take (prefix_len is_plain bs) bs) (prefix_len is_plain bs)) ≡ Some (text, j)
        → (o >>= behind (b ∷ take (prefix_len is_plain bs) bs) (suc (prefix_len is_plain bs))) ≡ Some (b ∷ text, suc j)
    go None q = absurd cc
    go (Some x) q = let f = some_is q in two (ap (λ (y : List ℕ × ℕ). b ∷ y.0) f) (let g = ap (λ (y : List ℕ × ℕ). y.1) f in omega (arith, g))

pub inside_full : {bs text : List ℕ} → IsInside bs text → (after : List ℕ) (n : ℕ) → length bs ≤ n → inside_from n (bs ++ after) ≡ Some (text, length bs)
unfolding inside_from
inside_full s.end after zero le = absurd (omega arith)
inside_full s.end after (suc n) le = refl
inside_full (s.plain {b = b} {bs = bs} {text = text} h d) after n le =
    plain_step n b (bs ++ after) text (length bs) h (inside_full d after n (omega arith))
inside_full (s.escape e d) after zero le = absurd (omega arith)
inside_full (s.escape {c = c} {es = es} {bs = bs} {text = text} e d) after (suc n) le =
    ap (λ x. inside_from (suc n) (92 ∷ x)) (append_assoc es bs after)
    ∙ bind_is _ _ (bind_is _ _ (escape_full e (bs ++ after))
    (bind_is _ _ (ap (inside_from n) (drop_at es (bs ++ after) (length es) refl) ∙ inside_full d after n (omega (arith, length-append es bs))) refl))
    (two (omega (arith, length-append es bs)))
  where
    two : {d f : ℕ} → d ≡ f → ◌≡◌ {A = Option (List ℕ × ℕ)} (Some (encode_utf8 c ++ text, d)) (Some (encode_utf8 c ++ text, f))
    two q = cc
