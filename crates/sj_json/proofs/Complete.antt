-- The reader of bytes gives each tree that a text spells.
use Rattle.std.proofs.Common.{◌≡◌, ℕ, ◌+◌, ◌<◌, ◌≤◌, max, List, [], ◌∷◌, ◌++◌, length, Bool, true, false, not, cond, ◌||◌, ◌==◌, nat_lt, Option, Some, None, option_map, option_and_then, is_some, ◌*◌, refl, sym, ap, ◌∙◌, subst, append_assoc, arith, ◌&&◌}
use Rattle.std.specs.List.{AllByRecursion, flat_map}
use Rattle.std.specs.Char.{digit_value}
use Rattle.std.specs.Str.Parse.{AllDigits, digits_value_after}
use Rattle.std.proofs.lemmas.List.{append-nil}
use borrow.Author.Tests.{lt-ltb}
use Rattle.std.specs.List.{list_all}
use Rattle.std.proofs.lemmas.Bool.{eqb-true, cond-true, eq-eqb, ne_eqb}
use Rattle.sj_decimal.specs.Number.{is_number_byte, begins_number}
use Rattle.sj_decimal.proofs.NumberBytes.{BeginsAsNumber, number_bytes, number_begins}
use Rattle.sj_json.specs.Tree.{Number, exact, wide, Tree, null, truth, string, number, array, object, Items, no_items, item, Members, no_members, member, depth, items_depth, members_depth}
use Rattle.sj_json.specs.Building.{Part, elements, pairs, State, items_push, members_push, with_value, with_open, fresh}
use Rattle.sj_json.specs.Strings.{IsPlain, IsHex, code, Piece, plain, letter, unicode, pair, IsPiece, piece_bytes, char_text, piece_text, Quoted}
use Rattle.std.specs.Char.Utf16.{is_low_surrogate, surrogate_pair_char}
use Rattle.sj_base.specs.ByteClasses.{is_plain, letter_char, is_blank}
use Rattle.sj_json.specs.Spelling.{IsBlank, Blank, Spaced, Sign, SpellsNumber, Spells, SpellsItems, SpellsMoreItems, SpellsMembers, SpellsMoreMembers, SpellsText}
use Rattle.sj_json.specs.Numbers.{number_of}
use Rattle.sj_json.proofs.Numbers.{number_complete}
use Rattle.sj_json.specs.Machine.{Mode, value, value_or_close, key, key_or_close, colon, after_value, quoted, escaped, begun, unit, high, second, EscapeStep, wait, char, unit_done, unit_step, after_step, digits, root, end_number, unless_blank, first_mode, open_turn, close_turn, start, separate, end_quote, turn, run, reading}

-- ---- parts of a list

joined : Items → Items → Items
joined pre no_items = pre
joined pre (item t ts) = joined (items_push pre t) ts

joined-item : (u : Tree) (pre ts : Items) → joined (item u pre) ts ≡ item u (joined pre ts)
unfolding joined
joined-item u pre no_items = refl
joined-item u pre (item t ts) = joined-item u (items_push pre t) ts

joined-none : (ts : Items) → joined no_items ts ≡ ts
unfolding joined
joined-none no_items = refl
joined-none (item t ts) = joined-item t no_items ts ∙ ap (item t) (joined-none ts)

first_joined : (t : Tree) (ts : Items) → joined (item t no_items) ts ≡ item t ts
first_joined t ts = joined-item t no_items ts ∙ ap (item t) (joined-none ts)

joined_members : Members → Members → Members
joined_members pre no_members = pre
joined_members pre (member k t ms) = joined_members (members_push pre k t) ms

joined-member : (l : List ℕ) (u : Tree) (pre ms : Members) → joined_members (member l u pre) ms ≡ member l u (joined_members pre ms)
unfolding joined_members
joined-member l u pre no_members = refl
joined-member l u pre (member k t ms) = joined-member l u (members_push pre k t) ms

joined_members-none : (ms : Members) → joined_members no_members ms ≡ ms
unfolding joined_members
joined_members-none no_members = refl
joined_members-none (member k t ms) = joined-member k t no_members ms ∙ ap (member k t) (joined_members-none ms)

first_joined_members : (k : List ℕ) (t : Tree) (ms : Members) → joined_members (member k t no_members) ms ≡ member k t ms
first_joined_members k t ms = joined-member k t no_members ms ∙ ap (member k t) (joined_members-none ms)

-- ---- tests

pub plain_no_quote : (p q r : Bool) → not (p || q || r) ≡ true → p ≡ false
plain_no_quote true q r h = cc
plain_no_quote false q r h = refl

-- a byte that passes a test is no byte that does not
by_equal : (P : ℕ → Bool) (c k : ℕ) (x : Bool) → (c == k) ≡ x → P c ≡ true → P k ≡ false → (c == k) ≡ false
by_equal P c k false e p q = e
by_equal P c k true e p q = let same : true ≡ false = sym p ∙ ap P (eqb-true c k e) ∙ q in cc

pub differs : (P : ℕ → Bool) (c k : ℕ) → P c ≡ true → P k ≡ false → (c == k) ≡ false
differs P c k p q = by_equal P c k (c == k) refl p q

four_false : (p q r t : Bool) → p ≡ false → q ≡ false → r ≡ false → t ≡ false → (p || q || r || t) ≡ false
four_false false false false false a b c d = refl
four_false true q r t a b c d = cc
four_false false true r t a b c d = cc
four_false false false true t a b c d = cc
four_false false false false true a b c d = cc

pub number_not_blank : (c : ℕ) → is_number_byte c ≡ true → is_blank c ≡ false
number_not_blank c h =
    four_false (c == 32) (c == 9) (c == 10) (c == 13) (differs is_number_byte c 32 h refl) (differs is_number_byte c 9 h refl) (differs is_number_byte c 10 h refl) (differs is_number_byte c 13 h refl)

pub begin_not_blank : (c : ℕ) → begins_number c ≡ true → is_blank c ≡ false
begin_not_blank c h =
    four_false (c == 32) (c == 9) (c == 10) (c == 13) (differs begins_number c 32 h refl) (differs begins_number c 9 h refl) (differs begins_number c 10 h refl) (differs begins_number c 13 h refl)

-- where a number may end: there is no byte, or one that no number has
abbrev pub Ends : List ℕ → Type 0
Ends [] = Unit {0}
Ends (b ∷ bs) = is_number_byte b ≡ false

by_number : (b : ℕ) (x : Bool) → is_number_byte b ≡ x → IsBlank b → is_number_byte b ≡ false
by_number b false e h = e
by_number b true e h = let same : true ≡ false = sym h ∙ number_not_blank b e in cc

blank_ends : (w rest : List ℕ) → Blank w → Ends rest → Ends (w ++ rest)
blank_ends [] rest h e = e
blank_ends (b ∷ w) rest h e = by_number b (is_number_byte b) refl h.0

sign_ends : (c : ℕ) (b rest : List ℕ) → is_number_byte c ≡ false → Spaced (Sign c) b → Ends (b ++ rest)
sign_ends c b rest e h =
    let first : Ends ((c ∷ []) ++ rest) = e in
    subst Ends (sym (ap (λ (x : List ℕ). x ++ rest) (h.4 ∙ ap (λ (x : List ℕ). h.0 ++ x) h.3) ∙ append_assoc h.0 (c ∷ []) rest)) (blank_ends h.0 ((c ∷ []) ++ rest) h.2 first)

more_items_end : (ts : Items) (y rest : List ℕ) → SpellsMoreItems ts y → Ends rest → Ends (y ++ rest)
more_items_end no_items y rest h e = subst (λ (x : List ℕ). Ends (x ++ rest)) (sym h) e
more_items_end (item t ts) y rest h e =
    subst Ends (sym (ap (λ (x : List ℕ). x ++ rest) h.6 ∙ append_assoc h.0 (h.1 ++ h.2) rest)) (sign_ends 44 h.0 ((h.1 ++ h.2) ++ rest) refl h.3)

more_members_end : (ms : Members) (y rest : List ℕ) → SpellsMoreMembers ms y → Ends rest → Ends (y ++ rest)
more_members_end no_members y rest h e = subst (λ (x : List ℕ). Ends (x ++ rest)) (sym h) e
more_members_end (member k t ms) y rest h e =
    subst Ends (sym (ap (λ (x : List ℕ). x ++ rest) h.10 ∙ append_assoc h.0 (h.1 ++ (h.2 ++ (h.3 ++ h.4))) rest)) (sign_ends 44 h.0 ((h.1 ++ (h.2 ++ (h.3 ++ h.4))) ++ rest) refl h.5)

both_true : (a b : Bool) → (a && b) ≡ true → (a ≡ true) × (b ≡ true)
both_true true true h = (refl, refl)
both_true true false h = cc
both_true false b h = cc

-- what the bytes of a number are
pub record NumberBytes (b : List ℕ) : Type 0 where
  pub all : list_all is_number_byte b ≡ true
  pub begins : BeginsAsNumber b

bytes_of : (v : Number) (b : List ℕ) → SpellsNumber v b → NumberBytes b
bytes_of (exact d) b h = record { all = number_bytes b h.value h.spells; begins = number_begins b h.value h.spells }
bytes_of (wide s) b h = record { all = number_bytes b h.0.value h.0.spells; begins = number_begins b h.0.value h.0.spells }

module _ (limit : ℕ) where
  pub run_step : (m : Mode) (s : State) (b : ℕ) (bs : List ℕ) (p : Mode × State) → turn limit m s b ≡ Some p → run limit m s (b ∷ bs) ≡ run limit p.0 p.1 bs
  unfolding run
  run_step m s b bs p e = ap (option_and_then (λ (q : Mode × State). run limit q.0 q.1 bs)) e

  -- a mode that passes over white space
  Skips : Mode → Type 0
  Skips m = (s : State) (b : ℕ) → IsBlank b → turn limit m s b ≡ Some (m, s)

  pub skips_value : (s : State) (b : ℕ) → IsBlank b → turn limit value s b ≡ Some (value, s)
  skips_value s b h = ap (λ (x : Bool). cond x (Some (value, s)) (start limit s b)) h

  pub skips_value_or_close : (s : State) (b : ℕ) → IsBlank b → turn limit value_or_close s b ≡ Some (value_or_close, s)
  skips_value_or_close s b h = ap (λ (x : Bool). cond x (Some (value_or_close, s)) (cond (b == 93) (close_turn s) (start limit s b))) h

  pub skips_key : (s : State) (b : ℕ) → IsBlank b → turn limit key s b ≡ Some (key, s)
  skips_key s b h = ap (λ (x : Bool). cond x (Some (key, s)) (cond (b == 34) (Some (quoted true [], s)) None)) h

  pub skips_key_or_close : (s : State) (b : ℕ) → IsBlank b → turn limit key_or_close s b ≡ Some (key_or_close, s)
  skips_key_or_close s b h = ap (λ (x : Bool). cond x (Some (key_or_close, s)) (cond (b == 125) (close_turn s) (cond (b == 34) (Some (quoted true [], s)) None))) h

  pub skips_colon : (s : State) (b : ℕ) → IsBlank b → turn limit colon s b ≡ Some (colon, s)
  skips_colon s b h = ap (λ (x : Bool). cond x (Some (colon, s)) (cond (b == 58) (Some (value, s)) None)) h

  pub skips_after_value : (s : State) (b : ℕ) → IsBlank b → turn limit after_value s b ≡ Some (after_value, s)
  skips_after_value s b h = ap (λ (x : Bool). cond x (Some (after_value, s)) (separate s b)) h

  run_blank : (m : Mode) → ((s : State) (b : ℕ) → IsBlank b → turn limit m s b ≡ Some (m, s)) → (s : State) (w rest : List ℕ) → Blank w → run limit m s (w ++ rest) ≡ run limit m s rest
  run_blank m skips s [] rest h = refl
  run_blank m skips s (b ∷ w) rest h = run_step m s b (w ++ rest) (m, s) (skips s b h.0) ∙ run_blank m skips s w rest h.1

  -- white space, and then what P says
  run_spaced : (m : Mode) → ((s : State) (b : ℕ) → IsBlank b → turn limit m s b ≡ Some (m, s)) → (s : State) (P : List ℕ → Type 0) (b rest : List ℕ) (o : Option Tree) → Spaced P b
      → ((v : List ℕ) → P v → run limit m s (v ++ rest) ≡ o) → run limit m s (b ++ rest) ≡ o
  run_spaced m skips s P b rest o h f =
      ap (λ (x : List ℕ). run limit m s (x ++ rest)) h.4 ∙ ap (run limit m s) (append_assoc h.0 h.1 rest) ∙ run_blank m skips s h.0 (h.1 ++ rest) h.2 ∙ f h.1 h.3

  -- a sign leads to the next mode
  run_sign : (m : Mode) → ((s : State) (b : ℕ) → IsBlank b → turn limit m s b ≡ Some (m, s)) → (s : State) (c : ℕ) (p : Mode × State) (b rest : List ℕ) → Spaced (Sign c) b → turn limit m s c ≡ Some p
      → run limit m s (b ++ rest) ≡ run limit p.0 p.1 rest
  run_sign m skips s c p b rest h e =
      run_spaced m skips s (Sign c) b rest (run limit p.0 p.1 rest) h (λ v is. ap (λ (x : List ℕ). run limit m s (x ++ rest)) is ∙ run_step m s c rest p e)

  pub plain_turn : (k : Bool) (acc : List ℕ) (s : State) (b : ℕ) → IsPlain b → turn limit (quoted k acc) s b ≡ Some (quoted k (acc ++ b ∷ []), s)
  plain_turn k acc s b h =
      let rest = cond (b == 92) (Some (escaped k acc begun, s)) None in
      ap (λ (y : Bool). cond y (Some (end_quote k acc s)) (cond (is_plain b) (Some (quoted k (acc ++ b ∷ []), s)) rest)) (plain_no_quote (b == 34) (b == 92) (nat_lt b 32) h)
      ∙ ap (λ (y : Bool). cond y (Some (quoted k (acc ++ b ∷ []), s)) rest) h

  -- bytes that stand for themselves
  pub run_plain_bytes : (k : Bool) (acc x rest : List ℕ) (s : State) → AllByRecursion IsPlain x → run limit (quoted k acc) s (x ++ rest) ≡ run limit (quoted k (acc ++ x)) s rest
  run_plain_bytes k acc [] rest s h = ap (λ (a : List ℕ). run limit (quoted k a) s rest) (sym (append-nil acc))
  run_plain_bytes k acc (b ∷ x) rest s h =
      run_step (quoted k acc) s b (x ++ rest) (quoted k (acc ++ b ∷ []), s) (plain_turn k acc s b h.0)
      ∙ run_plain_bytes k (acc ++ b ∷ []) x rest s h.1
      ∙ ap (λ (a : List ℕ). run limit (quoted k a) s rest) (append_assoc acc (b ∷ []) x)

  pub run_plain : (k : Bool) (acc x rest : List ℕ) (s : State) → AllByRecursion IsPlain x → run limit (quoted k acc) s (x ++ 34 ∷ rest) ≡ run limit (end_quote k (acc ++ x) s).0 (end_quote k (acc ++ x) s).1 rest
  run_plain k acc x rest s h = run_plain_bytes k acc x (34 ∷ rest) s h ∙ run_step (quoted k (acc ++ x)) s 34 rest (end_quote k (acc ++ x) s) refl

  -- ---- escapes

  -- where a step of an escape leads
  abbrev goes_to : Bool → List ℕ → State → List ℕ → Option EscapeStep → Option Tree
  goes_to k acc s rest o = option_and_then (λ (p : Mode × State). run limit p.0 p.1 rest) (option_map (after_step k acc s) o)

  run_unit : (o : Option ℕ) (n v : ℕ) (ds rest : List ℕ) (k : Bool) (acc : List ℕ) (s : State) → AllDigits 16 ds → n + length ds ≡ 4 → 0 < length ds
      → run limit (escaped k acc (unit o n v)) s (ds ++ rest) ≡ goes_to k acc s rest (unit_done o (digits_value_after 16 v ds))
  unfolding run
  run_unit o n v [] rest k acc s h e some = absurd (omega (arith, some))
  run_unit o n v (d ∷ []) rest k acc s h e some =
      let w = v * 16 + digit_value d in
      ap (λ (x : Bool). goes_to k acc s rest (cond x (unit_step o n w) None)) (lt-ltb (digit_value d) 16 h.0)
      ∙ ap (λ (x : Bool). goes_to k acc s rest (cond x (unit_done o w) (Some (wait (unit o (n + 1) w))))) (eq-eqb n 3 (omega (arith, e)))
  run_unit o n v (d ∷ c ∷ ds) rest k acc s h e some =
      let w = v * 16 + digit_value d in
      ap (λ (x : Bool). goes_to k acc s (c ∷ ds ++ rest) (cond x (unit_step o n w) None)) (lt-ltb (digit_value d) 16 h.0)
      ∙ ap (λ (x : Bool). goes_to k acc s (c ∷ ds ++ rest) (cond x (unit_done o w) (Some (wait (unit o (n + 1) w))))) (ne_eqb n 3 (λ (z : n ≡ 3). omega (arith, e, z)))
      ∙ run_unit o (n + 1) w (c ∷ ds) rest k acc s h.1 (omega (arith, e)) (omega arith)

  begins_unit : (k : Bool) (acc bs : List ℕ) (s : State) → run limit (quoted k acc) s (92 ∷ 117 ∷ bs) ≡ run limit (escaped k acc (unit None 0 0)) s bs
  begins_unit k acc bs s =
      run_step (quoted k acc) s 92 (117 ∷ bs) (escaped k acc begun, s) refl ∙ run_step (escaped k acc begun) s 117 bs (escaped k acc (unit None 0 0), s) refl

  run_hex : (o : Option ℕ) (ds rest : List ℕ) (k : Bool) (acc : List ℕ) (s : State) → IsHex ds → run limit (escaped k acc (unit o 0 0)) s (ds ++ rest) ≡ goes_to k acc s rest (unit_done o (code ds))
  run_hex o ds rest k acc s h = run_unit o 0 0 ds rest k acc s h.0 (omega (arith, h.1)) (omega (arith, h.1))

  letter_turn : (k : Bool) (acc : List ℕ) (s : State) (c v : ℕ) → letter_char c ≡ Some v → turn limit (escaped k acc begun) s c ≡ Some (quoted k (acc ++ char_text (letter_char c)), s)
  letter_turn k acc s c v e =
      let A = after_step k acc s in
      ap (λ (x : Bool). option_map A (cond x (Some (wait (unit None 0 0))) (option_map char (letter_char c)))) (differs (λ (x : ℕ). is_some (letter_char x)) c 117 (ap is_some e) refl)
      ∙ ap (λ (x : Option ℕ). option_map A (option_map char x)) e
      ∙ ap (λ (x : Option ℕ). Some (quoted k (acc ++ char_text x), s)) (sym e)

  run_piece : (k : Bool) (acc : List ℕ) (q : Piece) (rest : List ℕ) (s : State) → IsPiece q → run limit (quoted k acc) s (piece_bytes q ++ rest) ≡ run limit (quoted k (acc ++ piece_text q)) s rest
  run_piece k acc (plain b) rest s h = run_step (quoted k acc) s b rest (quoted k (acc ++ b ∷ []), s) (plain_turn k acc s b h)
  run_piece k acc (letter c) rest s h =
      run_step (quoted k acc) s 92 (c ∷ rest) (escaped k acc begun, s) refl
      ∙ run_step (escaped k acc begun) s c rest (quoted k (acc ++ char_text (letter_char c)), s) (letter_turn k acc s c h.0 h.1)
  run_piece k acc (unicode ds) rest s h =
      let v = code ds in
      begins_unit k acc (ds ++ rest) s ∙ run_hex None ds rest k acc s h.0
      ∙ ap (λ (x : Bool). goes_to k acc s rest (cond x (Some (wait (high v))) (cond (is_low_surrogate v) None (Some (char v))))) h.1
      ∙ ap (λ (x : Bool). goes_to k acc s rest (cond x None (Some (char v)))) h.2
  run_piece k acc (pair hs ls) rest s h =
      let u = code hs in
      let v = code ls in
      let behind = 92 ∷ 117 ∷ (ls ++ rest) in
      ap (λ (x : List ℕ). run limit (quoted k acc) s (92 ∷ 117 ∷ x)) (append_assoc hs (92 ∷ 117 ∷ ls) rest)
      ∙ begins_unit k acc (hs ++ behind) s ∙ run_hex None hs behind k acc s h.0
      ∙ ap (λ (x : Bool). goes_to k acc s behind (cond x (Some (wait (high u))) (cond (is_low_surrogate u) None (Some (char u))))) h.1
      ∙ run_step (escaped k acc (high u)) s 92 (117 ∷ (ls ++ rest)) (escaped k acc (second u), s) refl
      ∙ run_step (escaped k acc (second u)) s 117 (ls ++ rest) (escaped k acc (unit (Some u) 0 0), s) refl
      ∙ run_hex (Some u) ls rest k acc s h.2
      ∙ ap (λ (x : Bool). goes_to k acc s rest (cond x (Some (char (surrogate_pair_char u v))) None)) h.3

  run_pieces : (k : Bool) (acc : List ℕ) (ps : List Piece) (rest : List ℕ) (s : State) → AllByRecursion IsPiece ps
      → run limit (quoted k acc) s (flat_map piece_bytes ps ++ rest) ≡ run limit (quoted k (acc ++ flat_map piece_text ps)) s rest
  run_pieces k acc [] rest s h = ap (λ (a : List ℕ). run limit (quoted k a) s rest) (sym (append-nil acc))
  run_pieces k acc (q ∷ ps) rest s h =
      ap (run limit (quoted k acc) s) (append_assoc (piece_bytes q) (flat_map piece_bytes ps) rest)
      ∙ run_piece k acc q (flat_map piece_bytes ps ++ rest) s h.0
      ∙ run_pieces k (acc ++ piece_text q) ps rest s h.1
      ∙ ap (λ (a : List ℕ). run limit (quoted k a) s rest) (append_assoc acc (piece_text q) (flat_map piece_text ps))

  -- a mode that begins a string on a quotation mark
  run_quoted : (m : Mode) (k : Bool) (x v rest : List ℕ) (s : State) → turn limit m s 34 ≡ Some (quoted k [], s) → Quoted x v
      → run limit m s (v ++ rest) ≡ run limit (end_quote k x s).0 (end_quote k x s).1 rest
  run_quoted m k x v rest s e h =
      let w = h.1 in
      ap (λ (y : List ℕ). run limit m s (y ++ rest)) h.2
      ∙ run_step m s 34 ((h.0 ++ 34 ∷ []) ++ rest) (quoted k [], s) e
      ∙ ap (run limit (quoted k []) s) (append_assoc h.0 (34 ∷ []) rest ∙ ap (λ (y : List ℕ). y ++ 34 ∷ rest) w.bytes)
      ∙ run_pieces k [] w.pieces (34 ∷ rest) s w.good
      ∙ ap (λ (y : List ℕ). run limit (quoted k y) s (34 ∷ rest)) (sym w.text)
      ∙ run_step (quoted k x) s 34 rest (end_quote k x s) refl

  run_open : (kind : Bool) (s : State) (b : ℕ) (rest : List ℕ) → turn limit value s b ≡ open_turn limit kind s → length s.1 < limit → run limit value s (b ∷ rest) ≡ run limit (first_mode kind) (with_open kind s) rest
  run_open kind s b rest e h =
      run_step value s b rest (first_mode kind, with_open kind s) (e ∙ ap (λ (x : Bool). cond x (Some (first_mode kind, with_open kind s)) None) (lt-ltb (length s.1) limit h))

  -- ---- numbers

  pub run_digits : (a ds rest : List ℕ) (s : State) → list_all is_number_byte ds ≡ true → run limit (digits a) s (ds ++ rest) ≡ run limit (digits (a ++ ds)) s rest
  run_digits a [] rest s h = ap (λ (x : List ℕ). run limit (digits x) s rest) (sym (append-nil a))
  run_digits a (d ∷ ds) rest s h =
      let both = both_true (is_number_byte d) (list_all is_number_byte ds) h in
      run_step (digits a) s d (ds ++ rest) (digits (a ++ d ∷ []), s)
      (ap (λ (x : Bool). cond x (Some (digits (a ++ d ∷ []), s)) (option_and_then (λ (t : State). unless_blank d after_value t (separate t d)) (end_number a s))) both.0)
      ∙ run_digits (a ++ d ∷ []) ds rest s both.1
      ∙ ap (λ (x : List ℕ). run limit (digits x) s rest) (append_assoc a (d ∷ []) ds)

  pub end_is : (a : List ℕ) (s : State) (o : Option Number) → number_of a ≡ o → end_number a s ≡ option_map (λ (v : Number). with_value (number v) s) o
  end_is a s o e = ap (option_map (λ (v : Number). with_value (number v) s)) e

  -- the number ends where another byte stands
  pub number_ends : (a : List ℕ) (v : Number) (s : State) (rest : List ℕ) → number_of a ≡ Some v → Ends rest → run limit (digits a) s rest ≡ run limit after_value (with_value (number v) s) rest
  unfolding run
  number_ends a v s [] e ends = ap (option_and_then root) (end_is a s (Some v) e)
  number_ends a v s (b ∷ bs) e ends =
      ap (option_and_then (λ (p : Mode × State). run limit p.0 p.1 bs))
      (ap (λ (x : Bool). cond x (Some (digits (a ++ b ∷ []), s)) (option_and_then (λ (t : State). unless_blank b after_value t (separate t b)) (end_number a s))) ends
      ∙ ap (option_and_then (λ (t : State). unless_blank b after_value t (separate t b))) (end_is a s (Some v) e))

  -- bytes that are no number
  pub no_number_ends : (a : List ℕ) (s : State) (rest : List ℕ) → number_of a ≡ None → Ends rest → run limit (digits a) s rest ≡ None
  unfolding run
  no_number_ends a s [] e ends = ap (option_and_then root) (end_is a s None e)
  no_number_ends a s (b ∷ bs) e ends =
      ap (option_and_then (λ (p : Mode × State). run limit p.0 p.1 bs))
      (ap (λ (x : Bool). cond x (Some (digits (a ++ b ∷ []), s)) (option_and_then (λ (t : State). unless_blank b after_value t (separate t b)) (end_number a s))) ends
      ∙ ap (option_and_then (λ (t : State). unless_blank b after_value t (separate t b))) (end_is a s None e))

  pub begins_value : (s : State) (c : ℕ) → begins_number c ≡ true → turn limit value s c ≡ Some (digits (c ∷ []), s)
  begins_value s c h =
      ap (λ (x : Bool). cond x (Some (value, s)) (start limit s c)) (begin_not_blank c h)
      ∙ cond-true (begins_number c) _ _ h

  begins_first : (s : State) (c : ℕ) → begins_number c ≡ true → turn limit value_or_close s c ≡ Some (digits (c ∷ []), s)
  begins_first s c h =
      ap (λ (x : Bool). cond x (Some (value_or_close, s)) (cond (c == 93) (close_turn s) (start limit s c))) (begin_not_blank c h)
      ∙ ap (λ (x : Bool). cond x (close_turn s) (start limit s c)) (differs begins_number c 93 h refl)
      ∙ cond-true (begins_number c) _ _ h

  run_number : (v : Number) (b rest : List ℕ) (s : State) → SpellsNumber v b → NumberBytes b → Ends rest → run limit value s (b ++ rest) ≡ run limit after_value (with_value (number v) s) rest
  run_number v [] rest s h n e = absurd (omega (arith, n.begins.nonempty))
  run_number v (c ∷ cs) rest s h n e =
      run_step value s c (cs ++ rest) (digits (c ∷ []), s) (begins_value s c n.begins.first)
      ∙ run_digits (c ∷ []) cs rest s (both_true (is_number_byte c) (list_all is_number_byte cs) n.all).1
      ∙ number_ends (c ∷ cs) v s rest (number_complete v (c ∷ cs) h) e

  first_number : (b rest : List ℕ) (s : State) → NumberBytes b → run limit value_or_close s (b ++ rest) ≡ run limit value s (b ++ rest)
  first_number [] rest s n = absurd (omega (arith, n.begins.nonempty))
  first_number (c ∷ cs) rest s n =
      run_step value_or_close s c (cs ++ rest) (digits (c ∷ []), s) (begins_first s c n.begins.first)
      ∙ sym (run_step value s c (cs ++ rest) (digits (c ∷ []), s) (begins_value s c n.begins.first))

  -- a value may also begin where the array may close
  first_value : (t : Tree) (v rest : List ℕ) (s : State) → Spells t v → run limit value_or_close s (v ++ rest) ≡ run limit value s (v ++ rest)
  unfolding run
  first_value null v rest s h = ap (λ (x : List ℕ). run limit value_or_close s (x ++ rest)) h ∙ ap (λ (x : List ℕ). run limit value s (x ++ rest)) (sym h)
  first_value (truth true) v rest s h = ap (λ (x : List ℕ). run limit value_or_close s (x ++ rest)) h ∙ ap (λ (x : List ℕ). run limit value s (x ++ rest)) (sym h)
  first_value (truth false) v rest s h = ap (λ (x : List ℕ). run limit value_or_close s (x ++ rest)) h ∙ ap (λ (x : List ℕ). run limit value s (x ++ rest)) (sym h)
  first_value (string y) v rest s h = ap (λ (x : List ℕ). run limit value_or_close s (x ++ rest)) h.2 ∙ ap (λ (x : List ℕ). run limit value s (x ++ rest)) (sym h.2)
  first_value (number n) v rest s h = first_number v rest s (bytes_of n v h)
  first_value (array ts) v rest s h = ap (λ (x : List ℕ). run limit value_or_close s (x ++ rest)) h.4 ∙ ap (λ (x : List ℕ). run limit value s (x ++ rest)) (sym h.4)
  first_value (object ms) v rest s h = ap (λ (x : List ℕ). run limit value_or_close s (x ++ rest)) h.4 ∙ ap (λ (x : List ℕ). run limit value s (x ++ rest)) (sym h.4)

  -- a member, from its key on
  run_member : (m : Mode) → ((s : State) (b : ℕ) → IsBlank b → turn limit m s b ≡ Some (m, s)) → ((s : State) → turn limit m s 34 ≡ Some (quoted true [], s))
      → (pre : Members) (k : List ℕ) (t : Tree) (l d x rest : List ℕ) (qs : List Part) → Spaced (Quoted k) l → Spaced (Sign 58) d → Spaced (Spells t) x
      → ((v : List ℕ) → Spells t v → run limit value (pairs pre (Some k), qs) (v ++ rest) ≡ run limit after_value (pairs (members_push pre k t) None, qs) rest)
      → run limit m (pairs pre None, qs) (l ++ (d ++ (x ++ rest))) ≡ run limit after_value (pairs (members_push pre k t) None, qs) rest
  run_member m skips quote pre k t l d x rest qs is_key is_colon is_value reads_value =
      run_spaced m skips (pairs pre None, qs) (Quoted k) l (d ++ (x ++ rest)) (run limit after_value (pairs (members_push pre k t) None, qs) rest) is_key
      (λ v q. run_quoted m true k v (d ++ (x ++ rest)) (pairs pre None, qs) (quote (pairs pre None, qs)) q
      ∙ run_sign colon skips_colon (pairs pre (Some k), qs) 58 (value, (pairs pre (Some k), qs)) d (x ++ rest) is_colon refl
      ∙ run_spaced value skips_value (pairs pre (Some k), qs) (Spells t) x rest (run limit after_value (pairs (members_push pre k t) None, qs) rest) is_value reads_value)

  mutual
    unfolding run joined joined_members

    pub reads : (t : Tree) (v rest : List ℕ) (s : State) → Spells t v → depth t + length s.1 ≤ limit → Ends rest → run limit value s (v ++ rest) ≡ run limit after_value (with_value t s) rest
    reads null v rest s h d e = ap (λ (x : List ℕ). run limit value s (x ++ rest)) h
    reads (truth true) v rest s h d e = ap (λ (x : List ℕ). run limit value s (x ++ rest)) h
    reads (truth false) v rest s h d e = ap (λ (x : List ℕ). run limit value s (x ++ rest)) h
    reads (string y) v rest s h d e = run_quoted value false y v rest s refl h
    reads (number n) v rest s h d e = run_number n v rest s h (bytes_of n v h) e
    reads (array ts) v rest s h d e =
        ap (λ (x : List ℕ). run limit value s (x ++ rest)) h.4
        ∙ ap (λ (x : List ℕ). run limit value s (91 ∷ x)) (append_assoc h.0 h.1 rest)
        ∙ run_open false s 91 (h.0 ++ (h.1 ++ rest)) refl (omega arith)
        ∙ reads_items ts h.0 h.1 rest s h.2 h.3 (omega arith)
    reads (object ms) v rest s h d e =
        ap (λ (x : List ℕ). run limit value s (x ++ rest)) h.4
        ∙ ap (λ (x : List ℕ). run limit value s (123 ∷ x)) (append_assoc h.0 h.1 rest)
        ∙ run_open true s 123 (h.0 ++ (h.1 ++ rest)) refl (omega arith)
        ∙ reads_members ms h.0 h.1 rest s h.2 h.3 (omega arith)

    reads_items : (ts : Items) (x y rest : List ℕ) (s : State) → SpellsItems ts x → Spaced (Sign 93) y → items_depth ts + (length s.1 + 1) ≤ limit
        → run limit value_or_close (elements no_items, s.0 ∷ s.1) (x ++ (y ++ rest)) ≡ run limit after_value (with_value (array ts) s) rest
    reads_items no_items x y rest s h close d =
        ap (λ (z : List ℕ). run limit value_or_close (elements no_items, s.0 ∷ s.1) (z ++ (y ++ rest))) h
        ∙ run_sign value_or_close skips_value_or_close (elements no_items, s.0 ∷ s.1) 93 (after_value, with_value (array no_items) s) y rest close refl
    reads_items (item t ts) x y rest s h close d =
        let z = y ++ rest in
        let here : List Part = s.0 ∷ s.1 in
        ap (λ (q : List ℕ). run limit value_or_close (elements no_items, here) (q ++ z)) h.4
        ∙ ap (run limit value_or_close (elements no_items, here)) (append_assoc h.0 h.1 z)
        ∙ run_spaced value_or_close skips_value_or_close (elements no_items, here) (Spells t) h.0 (h.1 ++ z) (run limit after_value (elements (item t no_items), here) (h.1 ++ z)) h.2
        (λ v sp. first_value t v (h.1 ++ z) (elements no_items, here) sp ∙ reads t v (h.1 ++ z) (elements no_items, here) sp (omega arith) (more_items_end ts h.1 z h.3 (sign_ends 93 y rest refl close)))
        ∙ reads_more_items ts (item t no_items) h.1 z here h.3 (omega arith) (sign_ends 93 y rest refl close)
        ∙ ap (λ (us : Items). run limit after_value (elements us, here) z) (first_joined t ts)
        ∙ run_sign after_value skips_after_value (elements (item t ts), here) 93 (after_value, with_value (array (item t ts)) s) y rest close refl

    reads_more_items : (ts pre : Items) (y rest : List ℕ) (qs : List Part) → SpellsMoreItems ts y → items_depth ts + length qs ≤ limit → Ends rest
        → run limit after_value (elements pre, qs) (y ++ rest) ≡ run limit after_value (elements (joined pre ts), qs) rest
    reads_more_items no_items pre y rest qs h d e = ap (λ (z : List ℕ). run limit after_value (elements pre, qs) (z ++ rest)) h
    reads_more_items (item t ts) pre y rest qs h d e =
        ap (λ (z : List ℕ). run limit after_value (elements pre, qs) (z ++ rest)) h.6
        ∙ ap (run limit after_value (elements pre, qs)) (append_assoc h.0 (h.1 ++ h.2) rest)
        ∙ run_sign after_value skips_after_value (elements pre, qs) 44 (value, (elements pre, qs)) h.0 ((h.1 ++ h.2) ++ rest) h.3 refl
        ∙ ap (run limit value (elements pre, qs)) (append_assoc h.1 h.2 rest)
        ∙ run_spaced value skips_value (elements pre, qs) (Spells t) h.1 (h.2 ++ rest) (run limit after_value (elements (items_push pre t), qs) (h.2 ++ rest)) h.4
        (λ v sp. reads t v (h.2 ++ rest) (elements pre, qs) sp (omega arith) (more_items_end ts h.2 rest h.5 e))
        ∙ reads_more_items ts (items_push pre t) h.2 rest qs h.5 (omega arith) e

    reads_members : (ms : Members) (x y rest : List ℕ) (s : State) → SpellsMembers ms x → Spaced (Sign 125) y → members_depth ms + (length s.1 + 1) ≤ limit
        → run limit key_or_close (pairs no_members None, s.0 ∷ s.1) (x ++ (y ++ rest)) ≡ run limit after_value (with_value (object ms) s) rest
    reads_members no_members x y rest s h close d =
        ap (λ (z : List ℕ). run limit key_or_close (pairs no_members None, s.0 ∷ s.1) (z ++ (y ++ rest))) h
        ∙ run_sign key_or_close skips_key_or_close (pairs no_members None, s.0 ∷ s.1) 125 (after_value, with_value (object no_members) s) y rest close refl
    reads_members (member k t ms) x y rest s h close d =
        let z = y ++ rest in
        let here : List Part = s.0 ∷ s.1 in
        ap (λ (q : List ℕ). run limit key_or_close (pairs no_members None, here) (q ++ z)) h.8
        ∙ ap (run limit key_or_close (pairs no_members None, here)) (append_assoc h.0 (h.1 ++ (h.2 ++ h.3)) z ∙ ap (λ (q : List ℕ). h.0 ++ q) (append_assoc h.1 (h.2 ++ h.3) z ∙ ap (λ (q : List ℕ). h.1 ++ q) (append_assoc h.2 h.3 z)))
        ∙ run_member key_or_close skips_key_or_close (λ u. refl) no_members k t h.0 h.1 h.2 (h.3 ++ z) here h.4 h.5 h.6 (λ v sp. reads t v (h.3 ++ z) (pairs no_members (Some k), here) sp (omega arith) (more_members_end ms h.3 z h.7 (sign_ends 125 y rest refl close)))
        ∙ reads_more_members ms (member k t no_members) h.3 z here h.7 (omega arith) (sign_ends 125 y rest refl close)
        ∙ ap (λ (us : Members). run limit after_value (pairs us None, here) z) (first_joined_members k t ms)
        ∙ run_sign after_value skips_after_value (pairs (member k t ms) None, here) 125 (after_value, with_value (object (member k t ms)) s) y rest close refl

    reads_more_members : (ms pre : Members) (y rest : List ℕ) (qs : List Part) → SpellsMoreMembers ms y → members_depth ms + length qs ≤ limit → Ends rest
        → run limit after_value (pairs pre None, qs) (y ++ rest) ≡ run limit after_value (pairs (joined_members pre ms) None, qs) rest
    reads_more_members no_members pre y rest qs h d e = ap (λ (z : List ℕ). run limit after_value (pairs pre None, qs) (z ++ rest)) h
    reads_more_members (member k t ms) pre y rest qs h d e =
        ap (λ (z : List ℕ). run limit after_value (pairs pre None, qs) (z ++ rest)) h.10
        ∙ ap (run limit after_value (pairs pre None, qs)) (append_assoc h.0 (h.1 ++ (h.2 ++ (h.3 ++ h.4))) rest)
        ∙ run_sign after_value skips_after_value (pairs pre None, qs) 44 (key, (pairs pre None, qs)) h.0 ((h.1 ++ (h.2 ++ (h.3 ++ h.4))) ++ rest) h.5 refl
        ∙ ap (run limit key (pairs pre None, qs)) (append_assoc h.1 (h.2 ++ (h.3 ++ h.4)) rest ∙ ap (λ (q : List ℕ). h.1 ++ q) (append_assoc h.2 (h.3 ++ h.4) rest ∙ ap (λ (q : List ℕ). h.2 ++ q) (append_assoc h.3 h.4 rest)))
        ∙ run_member key skips_key (λ u. refl) pre k t h.1 h.2 h.3 (h.4 ++ rest) qs h.6 h.7 h.8 (λ v sp. reads t v (h.4 ++ rest) (pairs pre (Some k), qs) sp (omega arith) (more_members_end ms h.4 rest h.9 e))
        ∙ reads_more_members ms (members_push pre k t) h.4 rest qs h.9 (omega arith) e

  -- each text that spells a tree of no greater depth is read as that tree
  pub reading_gives : (t : Tree) (b : List ℕ) → SpellsText t b → depth t ≤ limit → reading limit b ≡ Some t
  unfolding run
  reading_gives t b h d =
      ap (run limit value fresh) h.4
      ∙ run_spaced value skips_value fresh (Spells t) h.0 h.1 (run limit after_value (with_value t fresh) h.1) h.2 (λ v sp. reads t v h.1 fresh sp (omega arith) (subst Ends (append-nil h.1) (blank_ends h.1 [] h.3 tt)))
      ∙ ap (run limit after_value (with_value t fresh)) (sym (append-nil h.1))
      ∙ run_blank after_value skips_after_value (with_value t fresh) h.1 [] h.3

pub one_tree_each : (t u : Tree) (b : List ℕ) → SpellsText t b → SpellsText u b → t ≡ u
one_tree_each t u b h g =
    let limit = max (depth t) (depth u) in
    let e : Some t ≡ Some u = sym (reading_gives limit t b h (omega arith)) ∙ reading_gives limit u b g (omega arith) in
    cc
