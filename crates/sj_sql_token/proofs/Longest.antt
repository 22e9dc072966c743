-- A piece is the longest front that has a form.
use Rattle.std.proofs.Common.{◌≡◌, ◌≢◌, ℕ, zero, suc, ◌+◌, ◌≤◌, ◌⊎◌, inl, inr, Bool, true, false, cond, not, ◌&&◌, ◌==◌, ℤ, List, [], ◌∷◌, ◌++◌, length, take, drop, Option, Some, None, option_map, refl, sym, ap, subst, ◌∙◌, arith, append_assoc, length-append, take-append-drop, eqb-true, eq-eqb, ne_eqb}
use Rattle.std.proofs.lemmas.List.{append-nil, take_at}
use Rattle.std.proofs.lemmas.List.Folds.{length-prefix_len}
use Rattle.std.specs.Prelude.{All}
use Rattle.std.specs.List.{take_while, prefix_len, AllPass}
use Rattle.std.specs.Str.{is_utf8, chars}
use Rattle.std.specs.Char.{is_ascii_digit, encode_utf8}
use Rattle.sj_base.specs.ByteClasses.{is_blank, is_letter, is_word_byte, next_is, next_is_digit}
use Rattle.sj_sql_token.specs.declared.token.Token.{Token}
use Rattle.sj_sql_token.specs.declared.token.Token.TheVariants as k
use Rattle.sj_sql_token.specs.declared.piece.Piece.{Piece}
use Rattle.sj_sql_token.specs.declared.piece.Piece.TheVariants as p
use Rattle.sj_sql_token.specs.Quotes.{inside_len, undoubled}
use Rattle.sj_sql_token.specs.Numbers.{exact_of, value_of, pointed, fraction_of, fraction_len}
use Rattle.sj_sql_token.specs.Tokens.{sign_of, word_at, number_piece, number_at, string_piece, name_piece, comment_at, piece_at}
use Rattle.sj_sql_token.specs.Forms as f
use Rattle.sj_sql_token.specs.Forms.{PieceForm, IsSign, IsDigits, IsInside, HasForm, BeginsWith, BeginsWithNone, number_form, text_form}
use Rattle.sj_sql_token.proofs.Quotes.{undoubled_plain, undoubled_double, next_cons}
use Rattle.sj_sql_token.proofs.Numbers.{number_text}
use Rattle.sj_sql_token.proofs.Sizes.{run_passes, size_of, marked_size, number_size, size_at, size, form_within, form_takes}

-- ---- the front of the size that `Sizes` tells has the form of the piece

record Front (bytes : List ℕ) (n : ℕ) (form : PieceForm) : Type 0 where
  front : List ℕ
  rest : List ℕ
  splits : bytes ≡ front ++ rest
  size : length front ≡ n
  fits : HasForm front form

-- where a broken piece has no form, its size is 0
abbrev Fits : List ℕ → ℕ → Piece → Type 0
Fits bytes s (p.Token t n) = (s ≡ n + 1) × Front bytes s (f.token t)
Fits bytes s (p.Passed n) = (s ≡ n + 1) × Front bytes s f.passed
Fits bytes s p.Broken = (s ≡ 0) ⊎ Front bytes s f.broken

record Reads (bytes : List ℕ) (s : ℕ) (piece : Piece) : Type 0 where
  fits : Fits bytes s piece

either : {bytes : List ℕ} (x : Bool) (m n : ℕ) (a c : Piece) → (x ≡ true → Reads bytes m a) → (x ≡ false → Reads bytes n c) → Reads bytes (cond x m n) (cond x a c)
either true m n a c first second = first refl
either false m n a c first second = second refl

blank_reads : (b : ℕ) (bs : List ℕ) → is_blank b ≡ true → Reads (b ∷ bs) 1 (p.Passed 0)
blank_reads b bs h = record { fits = (refl, record { front = b ∷ []; rest = bs; splits = refl; size = refl; fits = f.blank h }) }

word_reads : (b : ℕ) (bs : List ℕ) → is_letter b ≡ true → Reads (b ∷ bs) (prefix_len is_word_byte bs + 1) (word_at b bs)
word_reads b bs h =
    let n = prefix_len is_word_byte bs in
    record {
      fits = (
        refl,
        record {
          front = b ∷ take n bs;
          rest = drop n bs;
          splits = ap (λ x. b ∷ x) (sym (take-append-drop n bs));
          size = omega (arith, length-prefix_len is_word_byte bs);
          fits = f.word h (run_passes is_word_byte bs);
        },
      );
    }

sign_reads : (b : ℕ) (bs : List ℕ) → Reads (b ∷ bs) (size_of (sign_of b)) (sign_of b)
sign_reads b bs =
    choose (b == 40) _ _ (sign 40 k.Open f.open_parenthesis) (choose (b == 41) _ _ (sign 41 k.Close f.close_parenthesis)
    (choose (b == 44) _ _ (sign 44 k.Comma f.comma) (choose (b == 59) _ _ (sign 59 k.Semicolon f.semicolon)
    (choose (b == 58) _ _ (sign 58 k.Colon f.colon) (choose (b == 42) _ _ (sign 42 k.Star f.star)
    (choose (b == 43) _ _ (sign 43 k.Plus f.plus) (choose (b == 45) _ _ (sign 45 k.Minus f.minus)
    (record { fits = inl refl }))))))))
  where
    choose : (x : Bool) (a c : Piece) → (x ≡ true → Reads (b ∷ bs) (size_of a) a) → Reads (b ∷ bs) (size_of c) c → Reads (b ∷ bs) (size_of (cond x a c)) (cond x a c)
    choose true a c first second = first refl
    choose false a c first second = second

    sign : (d : ℕ) (t : Token) → IsSign (d ∷ []) t → (b == d) ≡ true → Reads (b ∷ bs) 1 (p.Token t 0)
    sign d t s e = record { fits = (refl, record { front = d ∷ []; rest = bs; splits = ap (λ x. x ∷ bs) (eqb-true b d e); size = refl; fits = f.sign s }) }

-- ---- numbers

all_cons : (test : ℕ → Bool) (b : ℕ) (bs : List ℕ) → test b ≡ true → AllPass test bs → AllPass test (b ∷ bs)
all_cons test b bs h d zero e l = h
all_cons test b bs h d (suc i) e l = d i e (omega (arith, l))

fraction_passes : (bs : List ℕ) → AllPass is_ascii_digit (fraction_of bs)
fraction_passes [] = λ i d l. absurd (omega (arith, l))
fraction_passes (b ∷ bs) = go (b == 46 && next_is_digit bs)
  where
    go : (x : Bool) → AllPass is_ascii_digit (cond x (take_while is_ascii_digit bs) [])
    go true = run_passes is_ascii_digit bs
    go false = λ i d l. absurd (omega (arith, l))

pointed_len : (ds : List ℕ) → length (pointed ds) ≡ cond (length ds == 0) 0 (suc (length ds))
pointed_len [] = refl
pointed_len (c ∷ cs) = sym (ap (λ x. cond x 0 (suc (suc (length cs)))) (ne_eqb (suc (length cs)) 0 (λ q. absurd (omega (arith, q)))))

fraction_size : (bs : List ℕ) → length (pointed (fraction_of bs)) ≡ fraction_len bs
fraction_size bs = pointed_len (fraction_of bs)

-- these digits before and behind a point
digits_read : (bytes digits behind rest : List ℕ) (n : ℕ) → IsDigits digits → AllPass is_ascii_digit behind → bytes ≡ (digits ++ pointed behind) ++ rest
    → length (digits ++ pointed behind) ≡ n + 1 → Reads bytes (n + 1) (number_piece (exact_of (value_of digits behind)) behind n)
digits_read bytes digits [] rest n d e splits size =
    go (exact_of (value_of digits [])) (record {
      front = digits;
      rest = rest;
      splits = splits ∙ ap (λ x. x ++ rest) (append-nil digits);
      size = ap length (sym (append-nil digits)) ∙ size;
      fits = f.whole d;
    })
  where
    go : (o : Option (ℤ × ℕ)) → Front bytes (n + 1) (number_form k.Whole o) → Reads bytes (n + 1) (number_piece o [] n)
    go None r = record { fits = inr r }
    go (Some v) r = record { fits = (refl, r) }
digits_read bytes digits (c ∷ cs) rest n d e splits size =
    go (exact_of (value_of digits (c ∷ cs))) (record { front = digits ++ 46 ∷ c ∷ cs; rest = rest; splits = splits; size = size; fits = f.fraction digits (c ∷ cs) d (omega arith, e) })
  where
    go : (o : Option (ℤ × ℕ)) → Front bytes (n + 1) (number_form k.Fraction o) → Reads bytes (n + 1) (number_piece o (c ∷ cs) n)
    go None r = record { fits = inr r }
    go (Some v) r = record { fits = (refl, r) }

number_reads : (b : ℕ) (bs : List ℕ) → is_ascii_digit b ≡ true → Reads (b ∷ bs) (number_size bs) (number_at b bs)
number_reads b bs h =
    let n = prefix_len is_ascii_digit bs in
    let m = fraction_len (drop n bs) in
    let digits = b ∷ take n bs in
    let behind = fraction_of (drop n bs) in
    digits_read (b ∷ bs) digits behind (drop (n + m + 1) (b ∷ bs)) (n + m)
    (omega arith, all_cons is_ascii_digit b (take n bs) h (run_passes is_ascii_digit bs)) (fraction_passes (drop n bs))
    (sym (take-append-drop (n + m + 1) (b ∷ bs)) ∙ ap (λ x. x ++ drop (n + m + 1) (b ∷ bs)) (number_text b bs))
    (omega (arith, length-append digits (pointed behind), length-prefix_len is_ascii_digit bs, fraction_size (drop n bs)))

-- ---- strings and names

-- behind a mark there are n bytes before the one that closes
record Closed (m : ℕ) (bs : List ℕ) (n : ℕ) : Type 0 where
  inside : List ℕ
  text : List ℕ
  rest : List ℕ
  is : IsInside m inside text
  splits : bs ≡ inside ++ m ∷ rest
  size : length inside ≡ n

abbrev Reached : ℕ → List ℕ → Option ℕ → Type 0
Reached m bs None = (text : List ℕ) × IsInside m bs text
Reached m bs (Some n) = Closed m bs n

reached_plain : (m b : ℕ) (bs : List ℕ) (o : Option ℕ) → b ≢ m → Reached m bs o → Reached m (b ∷ bs) (option_map (λ n. n + 1) o)
reached_plain m b bs None h r = (b ∷ r.0, f.plain h r.1)
reached_plain m b bs (Some n) h r = record {
  inside = b ∷ r.inside;
  text = b ∷ r.text;
  rest = r.rest;
  is = f.plain h r.is;
  splits = ap (λ x. b ∷ x) r.splits;
  size = omega (arith, r.size);
}

reached_twice : (m : ℕ) (bs : List ℕ) (o : Option ℕ) → Reached m bs o → Reached m (m ∷ m ∷ bs) (option_map (λ n. n + 2) o)
reached_twice m bs None r = (m ∷ r.0, f.twice r.1)
reached_twice m bs (Some n) r = record {
  inside = m ∷ m ∷ r.inside;
  text = m ∷ r.text;
  rest = r.rest;
  is = f.twice r.is;
  splits = ap (λ x. m ∷ m ∷ x) r.splits;
  size = omega (arith, r.size);
}

reached_end : (m b : ℕ) (bs : List ℕ) → (b == m) ≡ true → Reached m (b ∷ bs) (Some 0)
reached_end m b bs e = record { inside = []; text = []; rest = bs; is = f.end; splits = ap (λ x. x ∷ bs) (eqb-true b m e); size = refl }

other_byte : (m b : ℕ) → (b == m) ≡ false → b ≢ m
other_byte m b e q = no (sym e ∙ eq-eqb b m q)
  where
    no : false ≡ true → ⊥
    no h = cc

reached : (m : ℕ) (bs : List ℕ) → Reached m bs (inside_len m bs)
reached m [] = ([], f.end)
reached m (b ∷ []) = go (b == m) refl
  where
    go : (x : Bool) → (b == m) ≡ x → Reached m (b ∷ []) (cond x (Some 0) None)
    go true e = reached_end m b [] e
    go false e = (b ∷ [], f.plain (other_byte m b e) f.end)
reached m (b ∷ c ∷ bs) = go (b == m) (c == m) refl refl (reached m bs) (reached m (c ∷ bs))
  where
    go : (x y : Bool) → (b == m) ≡ x → (c == m) ≡ y → Reached m bs (inside_len m bs) → Reached m (c ∷ bs) (inside_len m (c ∷ bs))
        → Reached m (b ∷ c ∷ bs) (cond x (cond y (option_map (λ n. n + 2) (inside_len m bs)) (Some 0)) (option_map (λ n. n + 1) (inside_len m (c ∷ bs))))
    go true true d e behind next =
        subst (λ x. Reached m (x ∷ c ∷ bs) (option_map (λ n. n + 2) (inside_len m bs))) (sym (eqb-true b m d))
        (subst (λ x. Reached m (m ∷ x ∷ bs) (option_map (λ n. n + 2) (inside_len m bs))) (sym (eqb-true c m e)) (reached_twice m bs (inside_len m bs) behind))
    go true false d e behind next = reached_end m b (c ∷ bs) d
    go false y d e behind next = reached_plain m b (c ∷ bs) (inside_len m (c ∷ bs)) (other_byte m b d) next

stands : {m : ℕ} {inside text : List ℕ} → IsInside m inside text → undoubled m inside ≡ text
stands f.end = refl
stands {m} (f.plain {b = b} {bs = bs} h d) = undoubled_plain m b bs (ne_eqb b m h) ∙ ap (λ x. b ∷ x) (stands d)
stands {m} (f.twice {bs = bs} d) = undoubled_double m m m bs (eq-eqb m m refl) (eq-eqb m m refl) ∙ ap (λ x. m ∷ x) (stands d)

closed_front : (m n : ℕ) (bs : List ℕ) (form : PieceForm) → (r : Closed m bs n) → HasForm (m ∷ r.inside ++ m ∷ []) form → Front (m ∷ bs) (n + 2) form
closed_front m n bs form r fits = record {
  front = m ∷ r.inside ++ m ∷ [];
  rest = r.rest;
  splits = ap (λ x. m ∷ x) (r.splits ∙ sym (append_assoc r.inside (m ∷ []) r.rest));
  size = omega (arith, length-append r.inside (m ∷ []), r.size);
  fits = fits;
}

closed_reads : (make : List ℕ → Token) (m n : ℕ) (bs : List ℕ) → (r : Closed m bs n) → HasForm (m ∷ r.inside ++ m ∷ []) (text_form r.inside (f.token (make r.text)))
    → Reads (m ∷ bs) (n + 2) (cond (is_utf8 (take n bs)) (p.Token (make (undoubled m (take n bs))) (n + 1)) p.Broken)
closed_reads make m n bs r fits =
    let inside : take n bs ≡ r.inside = ap (take n) r.splits ∙ take_at r.inside (m ∷ r.rest) n r.size in
    subst (λ x. Reads (m ∷ bs) (n + 2) (cond (is_utf8 x) (p.Token (make (undoubled m x)) (n + 1)) p.Broken)) (sym inside)
    (subst (λ x. Reads (m ∷ bs) (n + 2) (cond (is_utf8 r.inside) (p.Token (make x) (n + 1)) p.Broken)) (sym (stands r.is))
    (go (is_utf8 r.inside) (closed_front m n bs (text_form r.inside (f.token (make r.text))) r fits)))
  where
    go : (x : Bool) → Front (m ∷ bs) (n + 2) (cond x (f.token (make r.text)) f.broken) → Reads (m ∷ bs) (n + 2) (cond x (p.Token (make r.text) (n + 1)) p.Broken)
    go true front = record { fits = (omega arith, front) }
    go false front = record { fits = inr front }

open_reads : (m : ℕ) (bs : List ℕ) → HasForm (m ∷ bs) f.broken → Reads (m ∷ bs) (length bs + 1) p.Broken
open_reads m bs fits = record { fits = inr (record { front = m ∷ bs; rest = []; splits = sym (append-nil (m ∷ bs)); size = omega arith; fits = fits }) }

string_reads : (bs : List ℕ) (o : Option ℕ) → Reached 39 bs o → Reads (39 ∷ bs) (marked_size (length bs) o) (string_piece bs o)
string_reads bs None r = open_reads 39 bs (f.open_string r.1)
string_reads bs (Some n) r = closed_reads k.String 39 n bs r (f.string r.is)

name_reads : (bs : List ℕ) (o : Option ℕ) → Reached 34 bs o → Reads (34 ∷ bs) (marked_size (length bs) o) (name_piece bs o)
name_reads bs None r = open_reads 34 bs (f.open_name r.1)
name_reads bs (Some zero) r = record { fits = inr (closed_front 34 0 bs f.broken r (empty r.inside r.size)) }
  where
    empty : (inside : List ℕ) → length inside ≡ 0 → HasForm (34 ∷ inside ++ 34 ∷ []) f.broken
    empty [] e = f.empty_name
    empty (b ∷ bs) e = absurd (omega (arith, e))
name_reads bs (Some (suc n)) r = closed_reads k.Quoted 34 (suc n) bs r (f.name (λ q. omega (arith, r.size, ap length q)) r.is)

-- ---- comments

utf8_behind_minus : (bs : List ℕ) → is_utf8 (45 ∷ bs) ≡ is_utf8 bs
unfolding is_utf8 chars encode_utf8
utf8_behind_minus [] = refl
utf8_behind_minus (b ∷ bs) = refl

no_line_end : (bs : List ℕ) → All (λ b. b ≢ 10) (take (prefix_len (λ c. not (c == 10)) bs) bs)
no_line_end bs i d l q = no (sym (run_passes (λ c. not (c == 10)) bs i d l) ∙ ap not (eq-eqb _ 10 q))
  where
    no : true ≡ false → ⊥
    no h = cc

comment_reads : (bs : List ℕ) → Reads (45 ∷ 45 ∷ bs) (prefix_len (λ c. not (c == 10)) (45 ∷ bs) + 1) (comment_at (45 ∷ bs))
comment_reads bs =
    let n = prefix_len (λ c. not (c == 10)) bs in
    let one : 1 + n ≡ suc n = omega arith in
    subst (λ j. Reads (45 ∷ 45 ∷ bs) (j + 1) (cond (is_utf8 (take j (45 ∷ bs))) (p.Passed j) p.Broken)) (sym one)
    (subst (λ x. Reads (45 ∷ 45 ∷ bs) (suc n + 1) (cond x (p.Passed (suc n)) p.Broken)) (sym (utf8_behind_minus (take n bs)))
    (go n (is_utf8 (take n bs)) (record {
      front = 45 ∷ 45 ∷ take n bs;
      rest = drop n bs;
      splits = ap (λ x. 45 ∷ 45 ∷ x) (sym (take-append-drop n bs));
      size = omega (arith, length-prefix_len (λ c. not (c == 10)) bs);
      fits = f.comment (no_line_end bs);
    })))
  where
    go : (n : ℕ) (x : Bool) → Front (45 ∷ 45 ∷ bs) (suc n + 1) (cond x f.passed f.broken) → Reads (45 ∷ 45 ∷ bs) (suc n + 1) (cond x (p.Passed (suc n)) p.Broken)
    go n true front = record { fits = (refl, front) }
    go n false front = record { fits = inr front }

-- ---- all pieces

reads : (b : ℕ) (bs : List ℕ) → Reads (b ∷ bs) (size_at b bs) (piece_at b bs)
unfolding piece_at
reads b bs =
    either (is_blank b) _ _ _ _ (λ h. blank_reads b bs h) (λ _.
    either (is_letter b) _ _ _ _ (λ h. word_reads b bs h) (λ _.
    either (is_ascii_digit b) _ _ _ _ (λ h. number_reads b bs h) (λ _.
    either (b == 39) _ _ _ _ (λ h. mark 39 h (string_reads bs (inside_len 39 bs) (reached 39 bs))) (λ _.
    either (b == 34) _ _ _ _ (λ h. mark 34 h (name_reads bs (inside_len 34 bs) (reached 34 bs))) (λ _.
    either (b == 45 && next_is 45 bs) _ _ _ _ (λ h. minus (b == 45) (next_is 45 bs) refl refl h) (λ _.
    sign_reads b bs))))))
  where
    mark : {n : ℕ} {piece : Piece} (d : ℕ) → (b == d) ≡ true → Reads (d ∷ bs) n piece → Reads (b ∷ bs) n piece
    mark {n} {piece} d e r = subst (λ x. Reads (x ∷ bs) n piece) (sym (eqb-true b d e)) r

    minus : (x y : Bool) → (b == 45) ≡ x → next_is 45 bs ≡ y → (x && y) ≡ true → Reads (b ∷ bs) (prefix_len (λ c. not (c == 10)) bs + 1) (comment_at bs)
    minus true true d e _ = mark 45 d
        (subst (λ (x : List ℕ). Reads (45 ∷ x) (prefix_len (λ c. not (c == 10)) x + 1) (comment_at x)) (sym (next_cons 45 bs e)) (comment_reads (drop 1 bs)))
    minus true false d e h = absurd cc
    minus false y d e h = absurd cc

within : (b : ℕ) (bs other after : List ℕ) (u : PieceForm) → b ∷ bs ≡ other ++ after → HasForm other u → length other ≤ size_at b bs
within b bs other after u q d = subst (λ (x : List ℕ). length other ≤ size x) (sym q) (form_within d after)

begins : (b n : ℕ) (bs : List ℕ) (form : PieceForm) → size_at b bs ≡ n → Front (b ∷ bs) (size_at b bs) form → BeginsWith (b ∷ bs) n form
begins b n bs form e r = record {
  front = r.front;
  rest = r.rest;
  splits = r.splits;
  size = r.size ∙ e;
  fits = r.fits;
  longest = λ other after u q d. subst (λ m. length other ≤ m) e (within b bs other after u q d);
}

pub token_longest : (b : ℕ) (bs : List ℕ) (t : Token) (n : ℕ) → piece_at b bs ≡ p.Token t n → BeginsWith (b ∷ bs) (n + 1) (f.token t)
token_longest b bs t n e = let r = subst (Fits (b ∷ bs) (size_at b bs)) e (reads b bs).fits in begins b (n + 1) bs (f.token t) r.0 r.1

pub passed_longest : (b : ℕ) (bs : List ℕ) (n : ℕ) → piece_at b bs ≡ p.Passed n → BeginsWith (b ∷ bs) (n + 1) f.passed
passed_longest b bs n e = let r = subst (Fits (b ∷ bs) (size_at b bs)) e (reads b bs).fits in begins b (n + 1) bs f.passed r.0 r.1

pub broken_longest : (b : ℕ) (bs : List ℕ) → piece_at b bs ≡ p.Broken → ((n : ℕ) × BeginsWith (b ∷ bs) n f.broken) ⊎ BeginsWithNone (b ∷ bs)
broken_longest b bs e = go (subst (Fits (b ∷ bs) (size_at b bs)) e (reads b bs).fits)
  where
    go : (size_at b bs ≡ 0) ⊎ Front (b ∷ bs) (size_at b bs) f.broken → ((n : ℕ) × BeginsWith (b ∷ bs) n f.broken) ⊎ BeginsWithNone (b ∷ bs)
    go (inl z) = inr (λ front rest u q d. omega (arith, z, form_takes d, within b bs front rest u q d))
    go (inr r) = inl (size_at b bs, begins b (size_at b bs) bs f.broken refl r)
