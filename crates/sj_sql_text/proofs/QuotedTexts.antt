-- A text between quotation marks is one token.
use Rattle.std.proofs.Common.{◌≡◌, ◌≢◌, ℕ, zero, suc, ◌+◌, ◌<◌, Bool, true, false, cond, ◌==◌, List, [], ◌∷◌, ◌++◌, length, get_or, take, Some, None, option_map, refl, sym, ap, subst, ◌∙◌, arith, append_assoc, length-append, take_at, drop_at, eqb-true, eq-eqb, IsUtf8}
use Rattle.std.specs.Str.{is_utf8, IsCharBoundary}
use Rattle.std.proofs.lemmas.List.{get_or_at}
use Rattle.std.proofs.lemmas.Str.{IsUtf8-append, IsUtf8-take, IsUtf8-drop, IsCharBoundary-before_ascii, IsCharBoundary-after_ascii, is_utf8-from_IsUtf8}
use Rattle.sj_base.specs.ByteClasses.{next_is}
use Rattle.sj_path_token.proofs.Cuts.{cond_on}
use Rattle.sj_path_text.proofs.Utf8.{one_more}
use Rattle.sj_sql_token.specs.declared.token.Token.TheVariants as k
use Rattle.sj_sql_token.specs.declared.piece.Piece.TheVariants as p
use Rattle.sj_sql_token.specs.Quotes.{inside_len, undoubled}
use Rattle.sj_sql_token.specs.Tokens.{next, string_piece, string_end, name_piece, name_end, piece_at}
use Rattle.sj_sql_token.proofs.Quotes.{inside_plain, inside_double, undoubled_plain, undoubled_double}
use Rattle.sj_sql_text.specs.Pieces.{doubled, quoted}
use Rattle.sj_sql_text.proofs.Lexes.{MayFollow, Reads, no_name, no_string, one_token}

-- ---- how far the inside reaches

mark_ends : (m : ℕ) (rest : List ℕ) → next_is m rest ≡ false → inside_len m (m ∷ rest) ≡ Some 0
mark_ends m [] h = ap (λ (t : Bool). cond t (Some 0) None) (eq-eqb m m refl)
mark_ends m (c ∷ bs) h =
    ap (λ (t : Bool). cond t (cond (c == m) (option_map (λ n. n + 2) (inside_len m bs)) (Some 0)) (option_map (λ n. n + 1) (inside_len m (c ∷ bs)))) (eq-eqb m m refl)
    ∙ ap (λ (t : Bool). cond t (option_map (λ n. n + 2) (inside_len m bs)) (Some 0)) h

inside : (m : ℕ) (text rest : List ℕ) → next_is m rest ≡ false → inside_len m (doubled m text ++ (m ∷ rest)) ≡ Some (length (doubled m text))
inside m [] rest h = mark_ends m rest h
inside m (b ∷ bs) rest h = go (b == m) refl (inside m bs rest h)
  where
    go : (t : Bool) → (b == m) ≡ t → inside_len m (doubled m bs ++ (m ∷ rest)) ≡ Some (length (doubled m bs))
        → inside_len m (cond t (m ∷ m ∷ doubled m bs) (b ∷ doubled m bs) ++ (m ∷ rest)) ≡ Some (length (cond t (m ∷ m ∷ doubled m bs) (b ∷ doubled m bs)))
    go true e more =
        inside_double m m m (doubled m bs ++ (m ∷ rest)) (eq-eqb m m refl) (eq-eqb m m refl) ∙ ap (option_map (λ n. n + 2)) more ∙ ap Some (omega arith)
    go false e more = inside_plain m b (doubled m bs ++ (m ∷ rest)) e ∙ ap (option_map (λ n. n + 1)) more ∙ ap Some (omega arith)

-- ---- what it stands for

back : (m : ℕ) (text : List ℕ) → undoubled m (doubled m text) ≡ text
back m [] = refl
back m (b ∷ bs) = go (b == m) refl (back m bs)
  where
    go : (t : Bool) → (b == m) ≡ t → undoubled m (doubled m bs) ≡ bs → undoubled m (cond t (m ∷ m ∷ doubled m bs) (b ∷ doubled m bs)) ≡ b ∷ bs
    go true e more =
        undoubled_double m m m (doubled m bs) (eq-eqb m m refl) (eq-eqb m m refl) ∙ ap (λ (x : List ℕ). m ∷ x) more ∙ ap (λ (c : ℕ). c ∷ bs) (sym (eqb-true b m e))
    go false e more = undoubled_plain m b (doubled m bs) e ∙ ap (λ (x : List ℕ). b ∷ x) more

doubled_some : (m : ℕ) (text : List ℕ) → text ≢ [] → 0 < length (doubled m text)
doubled_some m [] some = absurd (some refl)
doubled_some m (b ∷ bs) some = go (b == m)
  where
    go : (t : Bool) → 0 < length (cond t (m ∷ m ∷ doubled m bs) (b ∷ doubled m bs))
    go true = omega arith
    go false = omega arith

-- ---- it is a text

-- a text is cut at an ASCII byte
pub cut : (front : List ℕ) (b : ℕ) (bs : List ℕ) → b < 128 → IsUtf8 (front ++ (b ∷ bs)) → IsUtf8 front × IsUtf8 bs
cut front b bs low u =
    let here : get_or (front ++ (b ∷ bs)) (length front) 0 ≡ b = get_or_at front b bs 0 (length front) refl in
    let at : IsCharBoundary (front ++ (b ∷ bs)) (length front) =
    IsCharBoundary-before_ascii (front ++ (b ∷ bs)) (length front) (omega (arith, length-append front (b ∷ bs))) (subst (λ (x : ℕ). x < 128) (sym here) low) in
    let behind : IsUtf8 (b ∷ bs) = subst (λ (l : List ℕ). IsUtf8 l) (drop_at front (b ∷ bs) (length front) refl) (IsUtf8-drop (front ++ (b ∷ bs)) (length front) u at) in (
      subst (λ (l : List ℕ). IsUtf8 l) (take_at front (b ∷ bs) (length front) refl) (IsUtf8-take (front ++ (b ∷ bs)) (length front) u at),
      IsUtf8-drop (b ∷ bs) 1 behind (IsCharBoundary-after_ascii (b ∷ bs) 0 behind (omega arith) low),
    )

pub doubled_behind : (m : ℕ) → m < 128 → (text front : List ℕ) → IsUtf8 (front ++ text) → IsUtf8 (front ++ doubled m text)
doubled_behind m low [] front u = u
doubled_behind m low (b ∷ bs) front u = go (b == m) refl (doubled_behind m low bs)
  where
    go : (t : Bool) → (b == m) ≡ t → ((front : List ℕ) → IsUtf8 (front ++ bs) → IsUtf8 (front ++ doubled m bs)) → IsUtf8 (front ++ cond t (m ∷ m ∷ doubled m bs) (b ∷ doubled m bs))
    go true e more =
        let parts = cut front b bs (subst (λ (x : ℕ). x < 128) (sym (eqb-true b m e)) low) u in
        IsUtf8-append front (m ∷ m ∷ doubled m bs) parts.0 (one_more m low (one_more m low (more [] parts.1)))
    go false e more =
        subst (λ (l : List ℕ). IsUtf8 l) (append_assoc front (b ∷ []) (doubled m bs)) (more (front ++ (b ∷ [])) (subst (λ (l : List ℕ). IsUtf8 l) (sym (append_assoc front (b ∷ []) bs)) u))

doubled_text : (m : ℕ) → m < 128 → (text : List ℕ) → IsUtf8 text → is_utf8 (doubled m text) ≡ true
doubled_text m low text u = is_utf8-from_IsUtf8 (doubled m text) (doubled_behind m low text [] u)

-- ---- strings

-- the inside and the mark that closes
abbrev closed : ℕ → List ℕ → List ℕ → List ℕ
closed m text rest = doubled m text ++ (m ∷ rest)

closed_front : (m : ℕ) (text rest : List ℕ) → take (length (doubled m text)) (closed m text rest) ≡ doubled m text
closed_front m text rest = take_at (doubled m text) (m ∷ rest) (length (doubled m text)) refl

string_of : (bytes text : List ℕ) (n : ℕ) → is_utf8 (take n bytes) ≡ true → undoubled 39 (take n bytes) ≡ text → string_piece bytes (Some n) ≡ p.Token (k.String text) (n + 1)
string_of bytes text n u is = cond_on (is_utf8 (take n bytes)) _ _ u (ap (λ (x : List ℕ). p.Token (k.String x) (n + 1)) is)

string_is : (text rest : List ℕ) → IsUtf8 text → next_is 39 rest ≡ false
    → string_piece (closed 39 text rest) (string_end (closed 39 text rest)) ≡ p.Token (k.String text) (length (doubled 39 text) + 1)
string_is text rest u h =
    ap (string_piece (closed 39 text rest)) (inside 39 text rest h)
    ∙ string_of (closed 39 text rest) text (length (doubled 39 text))
    (ap is_utf8 (closed_front 39 text rest) ∙ doubled_text 39 (omega arith) text u)
    (ap (undoubled 39) (closed_front 39 text rest) ∙ back 39 text)

closed_len : (m : ℕ) (text : List ℕ) → length (doubled m text) + 1 ≡ length (doubled m text ++ (m ∷ []))
closed_len m text = omega (arith, length-append (doubled m text) (m ∷ []))

pub string_reads : (text : List ℕ) → IsUtf8 text → Reads false (quoted 39 text) (next (k.String text))
unfolding piece_at
string_reads text u = record {
  reads = λ rest h. one_token 39 (doubled 39 text ++ (39 ∷ [])) rest (k.String text) (length (doubled 39 text) + 1) (piece rest h) (closed_len 39 text);
}
  where
    piece : (rest : List ℕ) → MayFollow false rest → piece_at 39 ((doubled 39 text ++ (39 ∷ [])) ++ rest) ≡ p.Token (k.String text) (length (doubled 39 text) + 1)
    piece rest h = ap (λ (l : List ℕ). string_piece l (string_end l)) (append_assoc (doubled 39 text) (39 ∷ []) rest) ∙ string_is text rest u (no_string rest h)

-- ---- names

name_of : (bytes text : List ℕ) (n : ℕ) → 0 < n → is_utf8 (take n bytes) ≡ true → undoubled 34 (take n bytes) ≡ text → name_piece bytes (Some n) ≡ p.Token (k.Quoted text) (n + 1)
name_of bytes text zero some u is = absurd (omega arith)
name_of bytes text (suc n) some u is = cond_on (is_utf8 (take (suc n) bytes)) _ _ u (ap (λ (x : List ℕ). p.Token (k.Quoted x) (suc n + 1)) is)

name_is : (text rest : List ℕ) → text ≢ [] → IsUtf8 text → next_is 34 rest ≡ false
    → name_piece (closed 34 text rest) (name_end (closed 34 text rest)) ≡ p.Token (k.Quoted text) (length (doubled 34 text) + 1)
name_is text rest some u h =
    ap (name_piece (closed 34 text rest)) (inside 34 text rest h)
    ∙ name_of (closed 34 text rest) text (length (doubled 34 text)) (doubled_some 34 text some)
    (ap is_utf8 (closed_front 34 text rest) ∙ doubled_text 34 (omega arith) text u)
    (ap (undoubled 34) (closed_front 34 text rest) ∙ back 34 text)

pub name_reads : (text : List ℕ) → text ≢ [] → IsUtf8 text → Reads false (quoted 34 text) (next (k.Quoted text))
unfolding piece_at
name_reads text some u = record {
  reads = λ rest h. one_token 34 (doubled 34 text ++ (34 ∷ [])) rest (k.Quoted text) (length (doubled 34 text) + 1) (piece rest h) (closed_len 34 text);
}
  where
    piece : (rest : List ℕ) → MayFollow false rest → piece_at 34 ((doubled 34 text ++ (34 ∷ [])) ++ rest) ≡ p.Token (k.Quoted text) (length (doubled 34 text) + 1)
    piece rest h = ap (λ (l : List ℕ). name_piece l (name_end l)) (append_assoc (doubled 34 text) (34 ∷ []) rest) ∙ name_is text rest some u (no_name rest h)
