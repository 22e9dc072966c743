-- The tokens that are read are those of the text, and there are no others.
use Rattle.std.proofs.Common.{◌≡◌, ℕ, zero, suc, ◌<◌, ◌≤◌, inl, inr, Bool, true, false, cond, List, [], ◌∷◌, ◌++◌, length, take, drop, Option, Some, None, refl, sym, ap, subst, ◌∙◌, arith, length-append, length-drop, take-append-drop, length-take-le, drop_at, eqb-true, ◌==◌, ◌||◌}
use Rattle.sj_base.specs.ByteClasses.{is_blank}
use Rattle.sj_base.specs.Options.{◌>>=◌}
use Rattle.sj_path_token.specs.declared.token.Token.{Token}
use Rattle.sj_path_token.specs.Words as w
use Rattle.sj_path_token.specs.Tokens as t
use Rattle.sj_path_token.specs.Tokens.{IsSign, IsForm, BeginsWith, HasTokens}
use Rattle.sj_path_token.specs.Reading.{form_from, form_at, exact, token_at, lex_from}
use Rattle.sj_path_token.proofs.Cuts.{some_is, bind_is, cond_on, cond_off}
use Rattle.sj_path_token.proofs.Numerals.{numeral_digit}
use Rattle.sj_path_token.proofs.TokenForms.{form_sound, Found, form_full}

-- ---- one token

sign_takes : {bs : List ℕ} {u : Token} → IsSign bs u → 0 < length bs
sign_takes t.dot = omega arith
sign_takes t.star = omega arith
sign_takes t.open_bracket = omega arith
sign_takes t.close_bracket = omega arith
sign_takes t.open_parenthesis = omega arith
sign_takes t.close_parenthesis = omega arith
sign_takes t.comma = omega arith
sign_takes t.question = omega arith
sign_takes t.plus = omega arith
sign_takes t.minus = omega arith
sign_takes t.slash = omega arith
sign_takes t.percent = omega arith
sign_takes t.equal = omega arith
sign_takes t.not_equal = omega arith
sign_takes t.less_or_greater = omega arith
sign_takes t.less = omega arith
sign_takes t.less_equal = omega arith
sign_takes t.greater = omega arith
sign_takes t.greater_equal = omega arith
sign_takes t.and = omega arith
sign_takes t.or = omega arith
sign_takes t.not = omega arith
sign_takes t.at = omega arith

form_takes : {front : List ℕ} {o : Option Token} → IsForm front o → 0 < length front
form_takes (t.sign s) = sign_takes s
form_takes t.root = omega arith
form_takes (t.variable d) = omega arith
form_takes (t.word (w.word h p)) = omega arith
form_takes (t.string d) = omega arith
form_takes (t.number d) = let q = numeral_digit d in omega (arith, ap length q.2)

abbrev pub OfFound : Option (Option Token × ℕ) → ℕ → Type 0
OfFound r n = (o : Option Token) (m : ℕ) → r ≡ Some (o, m) → n ≤ m

of_found : {r : Option (Option Token × ℕ)} {o : Option Token} {n : ℕ} → Found r o n → OfFound r n
of_found (inl e) u m q = let f = ap (λ (x : Option Token × ℕ). x.1) (some_is (sym e ∙ q)) in omega (arith, f)
of_found (inr x) u m q = let f = ap (λ (x : Option Token × ℕ). x.1) (some_is (sym x.2 ∙ q)) in omega (arith, f, x.3)

-- what is read is the longest
pub begins : (text : List ℕ) (o : Option Token) (n : ℕ) → form_at text ≡ Some (o, n) → BeginsWith text o (drop n text)
begins text o n e =
    let p = (form_sound text).holds o n e in record {
      front = take n text;
      fits = p.fits;
      splits = sym (take-append-drop n text);
      longest = λ other after u q d.
          let le = of_found (form_full d after) o n (ap form_at (sym q) ∙ e) in omega (arith, length-take-le n text p.within, le);
    }

-- and the longest is read
pub begun : (text : List ℕ) (o : Option Token) (rest : List ℕ) → (b : BeginsWith text o rest) → form_at text ≡ Some (o, length b.front)
begun text o rest b = go (form_full b.fits rest)
  where
    go : Found (form_at (b.front ++ rest)) o (length b.front) → form_at text ≡ Some (o, length b.front)
    go (inl e) = ap form_at b.splits ∙ e
    go (inr x) =
        let e = ap form_at b.splits ∙ x.2 in
        let p = (form_sound text).holds x.0 x.1 e in
        absurd (omega (arith, x.3, length-take-le x.1 text p.within, b.longest (take x.1 text) (drop x.1 text) x.0 (sym (take-append-drop x.1 text)) p.fits))

-- a token takes at least a byte, and no more than there are
pub takes : (text : List ℕ) (o : Option Token) (n : ℕ) → form_at text ≡ Some (o, n) → (0 < n) × (n ≤ length text)
takes text o n e = let p = (form_sound text).holds o n e in (omega (arith, form_takes p.fits, length-take-le n text p.within), p.within)

no_form : (b : ℕ) (bs : List ℕ) → is_blank b ≡ true → form_at (b ∷ bs) ≡ None
unfolding form_from
no_form b bs h = go (b == 32) (b == 9) (b == 10) (b == 13) refl refl refl refl h
  where
    is : (d : ℕ) → (b == d) ≡ true → form_at (d ∷ bs) ≡ None → form_at (b ∷ bs) ≡ None
    is d q e = ap (λ x. form_at (x ∷ bs)) (eqb-true b d q) ∙ e

    go : (p q r s : Bool) → (b == 32) ≡ p → (b == 9) ≡ q → (b == 10) ≡ r → (b == 13) ≡ s → (p || q || r || s) ≡ true → form_at (b ∷ bs) ≡ None
    go true q r s e f g h _ = is 32 e refl
    go false true r s e f g h _ = is 9 f refl
    go false false true s e f g h _ = is 10 g refl
    go false false false true e f g h _ = is 13 h refl
    go false false false false e f g h x = absurd cc

-- ---- whole texts

pub token_sound : (text : List ℕ) (u : Token) (n : ℕ) → token_at text ≡ Some (u, n) → form_at text ≡ Some (Some u, n)
unfolding token_at
token_sound text u n e = go (form_at text) refl e
  where
    go : (r : Option (Option Token × ℕ)) → form_at text ≡ r → (r >>= exact) ≡ Some (u, n) → form_at text ≡ Some (Some u, n)
    go None q e = absurd cc
    go (Some x) q e = q ∙ pick x.0 x.1 e
      where
        pick : (o : Option Token) (m : ℕ) → exact (o, m) ≡ Some (u, n) → ◌≡◌ {A = Option (Option Token × ℕ)} (Some (o, m)) (Some (Some u, n))
        pick None m e = absurd cc
        pick (Some v) m e = ap (λ (x : Token × ℕ). Some (Some x.0, x.1)) (some_is e)

pub token_full : (text : List ℕ) (u : Token) (n : ℕ) → form_at text ≡ Some (Some u, n) → token_at text ≡ Some (u, n)
unfolding token_at
token_full text u n e = ap (λ (r : Option (Option Token × ℕ)). r >>= exact) e

pub lex_sound : (n : ℕ) (text : List ℕ) (ts : List Token) → length text ≤ n → lex_from n text ≡ Some ts → HasTokens text ts
unfolding lex_from
lex_sound zero [] ts le e = subst (λ x. HasTokens [] x) (some_is e) t.end
lex_sound zero (b ∷ text) ts le e = absurd (omega arith)
lex_sound (suc n) [] ts le e = subst (λ x. HasTokens [] x) (some_is e) t.end
lex_sound (suc n) (b ∷ text) ts le e = go (is_blank b) refl (lex_sound n) e
  where
    after : (u : Token) (m : ℕ) → form_at (b ∷ text) ≡ Some (Some u, m) → (rest : List Token) → HasTokens (drop m (b ∷ text)) rest → HasTokens (b ∷ text) (u ∷ rest)
    after u m f rest d = t.token (begins (b ∷ text) (Some u) m f) d

    rest_of : (u : Token) (o : Option (List Token)) (rest : List ℕ) → lex_from n rest ≡ o → (o >>= λ ts. Some (u ∷ ts)) ≡ Some ts → (us : List Token) × (lex_from n rest ≡ Some us) × (u ∷ us ≡ ts)
    rest_of u None rest q e = absurd cc
    rest_of u (Some us) rest q e = (us, q, some_is e)

    token : (r : Option (Token × ℕ)) → token_at (b ∷ text) ≡ r → ((x : List ℕ) (us : List Token) → length x ≤ n → lex_from n x ≡ Some us → HasTokens x us)
        → (r >>= λ t. lex_from n (drop t.1 (b ∷ text)) >>= λ ts. Some (t.0 ∷ ts)) ≡ Some ts → HasTokens (b ∷ text) ts
    token None q more e = absurd cc
    token (Some x) q more e =
        let f = token_sound (b ∷ text) x.0 x.1 q in
        let p = rest_of x.0 (lex_from n (drop x.1 (b ∷ text))) (drop x.1 (b ∷ text)) refl e in
        subst (λ ts. HasTokens (b ∷ text) ts) p.2
        (after x.0 x.1 f p.0 (more (drop x.1 (b ∷ text)) p.0 (omega (arith, takes (b ∷ text) (Some x.0) x.1 f, length-drop x.1 (b ∷ text))) p.1))

    go : (x : Bool) → is_blank b ≡ x → ((x : List ℕ) (us : List Token) → length x ≤ n → lex_from n x ≡ Some us → HasTokens x us)
        → cond x (lex_from n text) (token_at (b ∷ text) >>= λ t. lex_from n (drop t.1 (b ∷ text)) >>= λ ts. Some (t.0 ∷ ts)) ≡ Some ts → HasTokens (b ∷ text) ts
    go true h more e = t.blank h (more text ts (omega arith) e)
    go false h more e = token (token_at (b ∷ text)) refl more e

some_none : {A : Type 0} {a : A} → Some a ≡ None → ⊥
some_none e = cc

not_blank : (b : ℕ) (bs : List ℕ) (x : Option Token × ℕ) → form_at (b ∷ bs) ≡ Some x → is_blank b ≡ false
not_blank b bs x e = go (is_blank b) refl
  where
    go : (y : Bool) → is_blank b ≡ y → is_blank b ≡ false
    go true h = absurd (some_none (sym e ∙ no_form b bs h))
    go false h = h

pub lex_full : {text : List ℕ} {ts : List Token} → HasTokens text ts → (n : ℕ) → length text ≤ n → lex_from n text ≡ Some ts
unfolding lex_from
lex_full t.end zero le = refl
lex_full t.end (suc n) le = refl
lex_full (t.blank h d) zero le = absurd (omega arith)
lex_full (t.blank {b = b} {text = text} h d) (suc n) le = cond_on (is_blank b) _ _ h (lex_full d n (omega arith))
lex_full (t.token {t = u} {text = []} {rest = rest} b d) n le = absurd (omega (arith, form_takes b.fits, ap length b.splits, length-append b.front rest))
lex_full (t.token {t = u} {text = x ∷ text} {rest = rest} b d) zero le = absurd (omega arith)
lex_full (t.token {t = u} {text = x ∷ text} {rest = rest} {ts = ts} b d) (suc n) le =
    let e = begun (x ∷ text) (Some u) rest b in
    let after : drop (length b.front) (x ∷ text) ≡ rest = ap (drop (length b.front)) b.splits ∙ drop_at b.front rest (length b.front) refl in
    let short : length rest ≤ n = omega (arith, form_takes b.fits, ap length b.splits, length-append b.front rest) in
    cond_off (is_blank x) _ _ (not_blank x text (Some u, length b.front) e)
    (bind_is _ _ (token_full (x ∷ text) u (length b.front) e) (bind_is _ _ (ap (lex_from n) after ∙ lex_full d n short) refl))

-- a text has at most one list of tokens
pub same_tokens : (text : List ℕ) (ts us : List Token) → HasTokens text ts → HasTokens text us → ts ≡ us
same_tokens text ts us d e = some_is (sym (lex_full d (length text) (omega arith)) ∙ lex_full e (length text) (omega arith))
