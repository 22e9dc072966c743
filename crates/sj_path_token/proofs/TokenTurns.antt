-- One more turn of the loop over the tokens of a text, beside a recursion on the turns that are left.
use Rattle.std.proofs.Common.{◌≡◌, ℕ, zero, suc, ◌+◌, ◌-◌, ◌<◌, ◌≤◌, true, false, List, [], ◌∷◌, ◌++◌, length, drop, Option, Some, None, Result, Err, Vec, Global, refl, sym, ap, ◌∙◌, arith, append_assoc}
use Rattle.std.proofs.lemmas.List.{append-nil}
use Rattle.sj_base.specs.declared.refusal.ParseRefusal.{ParseRefusal}
use Rattle.sj_base.specs.declared.refusal.ParseRefusal.TheVariants as refusal
use Rattle.sj_base.specs.Gives.{Gives}
use Rattle.sj_base.specs.ByteClasses.{is_blank}
use Rattle.sj_base.specs.Options.{◌>>=◌}
use Rattle.sj_path_token.specs.declared.token.Token.{Token}
use Rattle.sj_path_token.specs.Tokens.{HasTokens}
use Rattle.sj_path_token.specs.Reading.{form_from, exactly, token_at, lex_from}
use Rattle.sj_path_token.proofs.Cuts.{bind_is, bind_none, cond_on, cond_off}
use Rattle.sj_path_token.proofs.Texts.{lex_sound, lex_full}

abbrev pub with_front : List Token → Option (List Token) → Option (List Token)
with_front front None = None
with_front front (Some ts) = Some (front ++ ts)

lex_turn : {start : Option (List Token)} (front : List Token) (n at : ℕ) (rest : List ℕ) (next : Option (List Token)) → at < n
    → start ≡ with_front front (lex_from (n - at) rest) → lex_from (suc (n - (at + 1))) rest ≡ next → start ≡ with_front front next
lex_turn front n at rest next below e h = let one : n - at ≡ suc (n - (at + 1)) = omega arith in e ∙ ap (λ m. with_front front (lex_from m rest)) one ∙ ap (with_front front) h

abbrev lex_on : ℕ → List ℕ → Token × ℕ → Option (List Token)
lex_on m bs t = lex_from m (drop t.1 bs) >>= λ ts. Some (t.0 ∷ ts)

-- behind a blank
pub blank_turn : {start : Option (List Token)} (front : List Token) (n at first : ℕ) (rest after then : List ℕ) → at < n
    → start ≡ with_front front (lex_from (n - at) rest) → rest ≡ first ∷ after → is_blank first ≡ true → then ≡ drop 1 rest → start ≡ with_front front (lex_from (n - (at + 1)) then)
unfolding lex_from
blank_turn front n at first rest after then below e split blank is =
    lex_turn front n at rest (lex_from (n - (at + 1)) after) below e
    (ap (lex_from (suc (n - (at + 1)))) split ∙ cond_on (is_blank first) _ _ blank refl)
    ∙ ap (λ x. with_front front (lex_from (n - (at + 1)) x)) (sym (is ∙ ap (drop 1) split))

token_step : (m first : ℕ) (rest after : List ℕ) → rest ≡ first ∷ after → is_blank first ≡ false → lex_from (suc m) rest ≡ (exactly (form_from first after) >>= lex_on m rest)
unfolding lex_from token_at
token_step m first rest after split blank =
    ap (lex_from (suc m)) split ∙ cond_off (is_blank first) _ _ blank refl ∙ ap (λ x. exactly (form_from first after) >>= lex_on m x) (sym split)

abbrev before : Token → List Token → Option (List Token)
before t ts = Some (t ∷ ts)

one_more : (front : List Token) (t : Token) (o : Option (List Token)) → with_front front (o >>= before t) ≡ with_front (front ++ t ∷ []) o
one_more front t None = refl
one_more front t (Some ts) = ap Some (sym (append_assoc front (t ∷ []) ts))

-- behind a token
pub token_turn : {start : Option (List Token)} (front : List Token) (n at first len : ℕ) (rest after then : List ℕ) (t : Token) → at < n
    → start ≡ with_front front (lex_from (n - at) rest) → rest ≡ first ∷ after → is_blank first ≡ false → exactly (form_from first after) ≡ Some (t, len) → then ≡ drop len rest
    → start ≡ with_front (front ++ t ∷ []) (lex_from (n - (at + 1)) then)
token_turn front n at first len rest after then t below e split blank read is =
    lex_turn front n at rest (lex_from (n - (at + 1)) then >>= before t) below e
    (token_step (n - (at + 1)) first rest after split blank ∙ bind_is _ (lex_on (n - (at + 1)) rest) read (ap (λ x. lex_from (n - (at + 1)) x >>= before t) (sym is)))
    ∙ one_more front t (lex_from (n - (at + 1)) then)

-- no token stands here
pub no_token : {start : Option (List Token)} (front : List Token) (n at first : ℕ) (rest after : List ℕ) → at < n
    → start ≡ with_front front (lex_from (n - at) rest) → rest ≡ first ∷ after → is_blank first ≡ false → exactly (form_from first after) ≡ None → start ≡ None
no_token front n at first rest after below e split blank read =
    lex_turn front n at rest None below e (token_step (n - (at + 1)) first rest after split blank ∙ bind_none _ (lex_on (n - (at + 1)) rest) read)

pub at_end : {start : Option (List Token)} (front : List Token) (m : ℕ) (rest : List ℕ) → start ≡ with_front front (lex_from m rest) → length rest ≡ 0 → start ≡ Some front
unfolding lex_from
at_end front zero rest e h = e ∙ ap Some (append-nil front)
at_end front (suc m) [] e h = e ∙ ap Some (append-nil front)
at_end front (suc m) (b ∷ rest) e h = absurd (omega arith)

pub all_done : {start : Option (List Token)} (front : List Token) (n at : ℕ) (rest : List ℕ) → n ≤ at → start ≡ with_front front (lex_from (n - at) rest) → start ≡ Some front
unfolding lex_from
all_done front n at rest over e = let none : n - at ≡ 0 = omega arith in e ∙ ap (λ m. with_front front (lex_from m rest)) none ∙ ap Some (append-nil front)

-- ---- what is said of the text

pub tokens_found : (text : List ℕ) (ts : List Token) → lex_from (length text) text ≡ Some ts → HasTokens text ts
tokens_found text ts e = lex_sound (length text) text ts (omega arith) e

pub tokens_missed : (text : List ℕ) → lex_from (length text) text ≡ None → (ts : List Token) → HasTokens text ts → ⊥
tokens_missed text e ts d = apart (sym e ∙ lex_full d (length text) (omega arith))
  where
    apart : None ≡ Some ts → ⊥
    apart q = cc

-- no token is told by that error alone
pub no_token_error : (e : ParseRefusal) (read : Option (Token × ℕ)) (r : Result (Vec Token Global) ParseRefusal)
    → r ≡ Err e → Gives {X = Token × ℕ} (λ x. x) (Err e) read → r ≡ Err refusal.Syntax → read ≡ None
no_token_error refusal.Memory read r q h lex = absurd (clash (sym q ∙ lex))
  where
    clash : ◌≡◌ {A = Result (Vec Token Global) ParseRefusal} (Err refusal.Memory) (Err refusal.Syntax) → ⊥
    clash q = cc
no_token_error refusal.Syntax read r q h lex = h
