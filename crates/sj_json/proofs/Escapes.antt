-- Escapes, byte by byte: what has come so far, and what the next byte makes of it.
use Rattle.std.proofs.Common.{◌≡◌, ℕ, ◌+◌, ◌*◌, List, [], ◌∷◌, ◌++◌, length, Bool, true, false, cond, ◌==◌, Option, Some, None, option_map, IfSome, refl, sym, ap, ◌∙◌, subst, append_assoc, length-append, arith}
use Rattle.std.specs.List.{AllByRecursion, flat_map}
use Rattle.std.specs.Char.{encode_utf8, digit_value, is_digit}
use Rattle.std.specs.Str.Parse.{AllDigits, digits_value_after}
use Rattle.std.proofs.lemmas.List.{append-nil}
use Rattle.std.proofs.lemmas.Bool.{eqb-true, ltb-true}
use Rattle.std.proofs.lemmas.Int.Digits.{digits_push}
use Rattle.std.specs.Char.Utf16.{is_high_surrogate, is_low_surrogate, surrogate_pair_char}
use Rattle.sj_base.specs.ByteClasses.{letter_char}
use Rattle.sj_json.specs.Strings.{IsHex, code, Piece, letter, unicode, pair, IsPiece, piece_bytes, char_text, piece_text, Writes}
use Rattle.sj_json.specs.Machine.{Escape, begun, unit, high, second, EscapeStep, wait, char, unit_done, unit_step, escape_step}

value_push : (w : ℕ) (ds : List ℕ) (b : ℕ) → digits_value_after 16 w (ds ++ b ∷ []) ≡ digits_value_after 16 w ds * 16 + digit_value b
value_push w [] b = refl
value_push w (d ∷ ds) b = value_push (w * 16 + digit_value d) ds b

-- four digits of a high surrogate h
abbrev pub IsHigh : ℕ → List ℕ → Type 0
IsHigh h hs = IsHex hs × (code hs ≡ h) × (is_high_surrogate (code hs) ≡ true)

-- what stands before the digits, behind the backslash
abbrev pub Front : Option ℕ → List ℕ → Type 0
Front None f = f ≡ 117 ∷ []
Front (Some h) f = (hs : List ℕ) × IsHigh h hs × (f ≡ 117 ∷ hs ++ 92 ∷ 117 ∷ [])

-- what stands behind the backslash so far
abbrev pub Pending : Escape → List ℕ → Type 0
Pending begun r = r ≡ []
Pending (unit o n v) r = (f : List ℕ) × (ds : List ℕ) × Front o f × AllDigits 16 ds × (length ds ≡ n) × (code ds ≡ v) × (r ≡ f ++ ds)
Pending (high h) r = (hs : List ℕ) × IsHigh h hs × (r ≡ 117 ∷ hs)
Pending (second h) r = (hs : List ℕ) × IsHigh h hs × (r ≡ 117 ∷ hs ++ 92 ∷ [])

abbrev pub Leads : List ℕ → EscapeStep → Type 0
Leads r (wait e) = Pending e r
Leads r (char c) = (q : Piece) × IsPiece q × (piece_bytes q ≡ 92 ∷ r) × (piece_text q ≡ encode_utf8 c)

by_cases : {X : Type 0} (x : Bool) (t u : Option X) (G : X → Type 0) → (x ≡ true → IfSome t G) → (x ≡ false → IfSome u G) → IfSome (cond x t u) G
by_cases true t u G f g = f refl
by_cases false t u G f g = g refl

letter_leads : (b : ℕ) (o : Option ℕ) → letter_char b ≡ o → IfSome (option_map char o) (Leads (b ∷ []))
letter_leads b None e = tt
letter_leads b (Some v) e = (letter b, (v, e), refl, ap char_text e)

done_leads : (o : Option ℕ) (f ds : List ℕ) → Front o f → IsHex ds → IfSome (unit_done o (code ds)) (Leads (f ++ ds))
done_leads None f ds h d =
    by_cases (is_high_surrogate (code ds)) (Some (wait (high (code ds)))) (cond (is_low_surrogate (code ds)) None (Some (char (code ds)))) (Leads (f ++ ds))
    (λ e. (ds, (d, refl, e), ap (λ (x : List ℕ). x ++ ds) h))
    (λ e. by_cases (is_low_surrogate (code ds)) None (Some (char (code ds))) (Leads (f ++ ds)) (λ _. tt)
    (λ g. (unicode ds, (d, e, g), ap (λ (x : List ℕ). 92 ∷ x ++ ds) (sym h), refl)))
done_leads (Some h) f ds k d =
    let hs = k.0 in
    by_cases (is_low_surrogate (code ds)) (Some (char (surrogate_pair_char h (code ds)))) None (Leads (f ++ ds))
    (λ e. (
      pair hs ds,
      (k.1.0, k.1.2, d, e),
      sym (ap (λ (x : List ℕ). 92 ∷ x ++ ds) k.2 ∙ ap (λ (x : List ℕ). 92 ∷ 117 ∷ x) (append_assoc hs (92 ∷ 117 ∷ []) ds)),
      ap (λ (x : ℕ). encode_utf8 (surrogate_pair_char x (code ds))) k.1.1,
    ))
    (λ _. tt)

unit_leads : (o : Option ℕ) (n v : ℕ) (r : List ℕ) (b : ℕ) → Pending (unit o n v) r → is_digit b 16 ≡ true → IfSome (unit_step o n (v * 16 + digit_value b)) (Leads (r ++ b ∷ []))
unit_leads o n v r b h is =
    let f = h.0 in
    let ds = h.1 in
    let more = ds ++ b ∷ [] in
    let all : AllDigits 16 more = digits_push 16 ds b h.3 (ltb-true (digit_value b) 16 is) in
    let longer : length more ≡ n + 1 = omega (arith, length-append ds (b ∷ []), h.4) in
    let value : code more ≡ v * 16 + digit_value b = value_push 0 ds b ∙ ap (λ (x : ℕ). x * 16 + digit_value b) h.5 in
    let bytes : r ++ b ∷ [] ≡ f ++ more = ap (λ (x : List ℕ). x ++ b ∷ []) h.6 ∙ append_assoc f ds (b ∷ []) in
    subst (λ (x : List ℕ). IfSome (unit_step o n (v * 16 + digit_value b)) (Leads x)) (sym bytes)
    (by_cases (n == 3) (unit_done o (v * 16 + digit_value b)) (Some (wait (unit o (n + 1) (v * 16 + digit_value b)))) (Leads (f ++ more))
    (λ e. subst (λ (x : ℕ). IfSome (unit_done o x) (Leads (f ++ more))) value (done_leads o f more h.2 (all, omega (arith, longer, eqb-true n 3 e))))
    (λ _. (f, more, h.2, all, longer, value, refl)))

pub escape_leads : (e : Escape) (r : List ℕ) (b : ℕ) → Pending e r → IfSome (escape_step e b) (Leads (r ++ b ∷ []))
escape_leads begun r b h =
    subst (λ (x : List ℕ). IfSome (escape_step begun b) (Leads (x ++ b ∷ []))) (sym h)
    (by_cases (b == 117) (Some (wait (unit None 0 0))) (option_map char (letter_char b)) (Leads (b ∷ []))
    (λ e. (117 ∷ [], [], refl, tt, refl, refl, ap (λ (x : ℕ). x ∷ []) (eqb-true b 117 e)))
    (λ _. letter_leads b (letter_char b) refl))
escape_leads (unit o n v) r b h =
    by_cases (is_digit b 16) (unit_step o n (v * 16 + digit_value b)) None (Leads (r ++ b ∷ [])) (λ e. unit_leads o n v r b h e) (λ _. tt)
escape_leads (high u) r b h =
    by_cases (b == 92) (Some (wait (second u))) None (Leads (r ++ b ∷ []))
    (λ e. (h.0, h.1, ap (λ (x : List ℕ). x ++ b ∷ []) h.2 ∙ ap (λ (x : ℕ). 117 ∷ h.0 ++ x ∷ []) (eqb-true b 92 e)))
    (λ _. tt)
escape_leads (second u) r b h =
    by_cases (b == 117) (Some (wait (unit (Some u) 0 0))) None (Leads (r ++ b ∷ []))
    (λ e. (
      117 ∷ h.0 ++ 92 ∷ 117 ∷ [],
      [],
      (h.0, h.1, refl),
      tt,
      refl,
      refl,
      ap (λ (x : List ℕ). x ++ b ∷ []) h.2 ∙ ap (λ (x : ℕ). (117 ∷ h.0 ++ 92 ∷ []) ++ x ∷ []) (eqb-true b 117 e) ∙ ap (λ (x : List ℕ). 117 ∷ x) (append_assoc h.0 (92 ∷ []) (117 ∷ []))
          ∙ sym (append-nil (117 ∷ h.0 ++ 92 ∷ 117 ∷ [])),
    ))
    (λ _. tt)

-- ---- pieces one after another

flat-push : (f : Piece → List ℕ) (ps : List Piece) (q : Piece) → flat_map f (ps ++ q ∷ []) ≡ flat_map f ps ++ f q
flat-push f [] q = append-nil (f q)
flat-push f (p ∷ ps) q = ap (λ (x : List ℕ). f p ++ x) (flat-push f ps q) ∙ sym (append_assoc (f p) (flat_map f ps) (f q))

pieces_push : (ps : List Piece) (q : Piece) → AllByRecursion IsPiece ps → IsPiece q → AllByRecursion IsPiece (ps ++ q ∷ [])
pieces_push [] q h p = (p, tt)
pieces_push (x ∷ ps) q h p = (h.0, pieces_push ps q h.1 p)

pub writes_none : Writes [] []
writes_none = record { pieces = []; good = tt; text = refl; bytes = refl }

pub writes_push : (s b : List ℕ) (q : Piece) (t y : List ℕ) → Writes s b → IsPiece q → piece_text q ≡ t → piece_bytes q ≡ y → Writes (s ++ t) (b ++ y)
writes_push s b q t y h p e f = record {
  pieces = h.pieces ++ q ∷ [];
  good = pieces_push h.pieces q h.good p;
  text = ap (λ (x : List ℕ). x ++ t) h.text ∙ ap (λ (x : List ℕ). flat_map piece_text h.pieces ++ x) (sym e) ∙ sym (flat-push piece_text h.pieces q);
  bytes = ap (λ (x : List ℕ). x ++ y) h.bytes ∙ ap (λ (x : List ℕ). flat_map piece_bytes h.pieces ++ x) (sym f) ∙ sym (flat-push piece_bytes h.pieces q);
}
