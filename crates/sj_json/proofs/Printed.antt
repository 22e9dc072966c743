-- The printed text spells its tree.
use Rattle.std.proofs.Common.{◌≡◌, ℕ, ◌/◌, ◌%◌, ◌<◌, List, [], ◌∷◌, ◌++◌, Bool, true, false, not, ◌||◌, cond, ◌==◌, nat_lt, codes, refl, sym, ap, ◌∙◌, subst, arith}
use Rattle.std.specs.List.{AllByRecursion, flat_map}
use Rattle.std.specs.Char.{encode_utf8, digit_char, digit_value}
use Rattle.std.proofs.lemmas.List.{append-nil}
use Rattle.std.proofs.lemmas.Bool.{eqb-true, ltb-true, cond-true}
use Rattle.std.proofs.lemmas.Bool.Decides.{nat_tests}
use Rattle.std.proofs.lemmas.Str.{digit_value-digit_char}
use borrow.Author.Tests.{lt-ltb}
use Rattle.sj_decimal.specs.Number.{SpellsWide}
use Rattle.sj_decimal.proofs.Laws.{decimal_text_spells, IsDecimal-spelled}
use Rattle.sj_json.specs.Tree.{Number, exact, wide, Tree, null, truth, string, number, array, object, Items, no_items, item, Members, no_members, member, subtrees, items_subtrees, members_subtrees}
use Rattle.sj_json.specs.Strings.{code, Piece, plain, letter, unicode, IsPiece, piece_bytes, piece_text, Quoted}
use Rattle.std.specs.Char.Utf16.{is_high_surrogate, is_low_surrogate}
use Rattle.sj_json.specs.Spelling.{Spaced, Sign, SpellsNumber, Spells, SpellsItems, SpellsMoreItems, SpellsMembers, SpellsMoreMembers, SpellsText}
use Rattle.sj_json.specs.Printing.{printed, printed_number, IsWellMade, IsNode, IsTree, printed_byte, printed_string, printed_items, printed_more_items, printed_members, printed_more_members}

-- with no white space before it
bare : (P : List ℕ → Type 0) (b : List ℕ) → P b → Spaced P b
bare P b h = ([], b, tt, h, refl)

spells_number : (v : Number) → IsWellMade v → SpellsNumber v (printed_number v)
spells_number (exact d) h = decimal_text_spells d h
spells_number (wide s) h = (h, refl)

-- ---- strings

-- the printed form of a byte is a piece of its own
abbrev Prints : ℕ → List ℕ → Type 0
Prints b x = (q : Piece) × IsPiece q × (piece_text q ≡ b ∷ []) × (piece_bytes q ≡ x)

choose : (b : ℕ) (x : Bool) (y z : List ℕ) → (x ≡ true → Prints b y) → (x ≡ false → Prints b z) → Prints b (cond x y z)
choose b true y z f g = f refl
choose b false y z f g = g refl

at_letter : (b c v : ℕ) → b ≡ v → Prints v (92 ∷ c ∷ []) → Prints b (92 ∷ c ∷ [])
at_letter b c v e p = subst (λ (n : ℕ). Prints n (92 ∷ c ∷ [])) (sym e) p

no_high : (b : ℕ) → b < 32 → is_high_surrogate b ≡ false
no_high b h = grind (arith, nat_tests)

no_low : (b : ℕ) → b < 32 → is_low_surrogate b ≡ false
no_low b h = grind (arith, nat_tests)

one_byte : (b : ℕ) → b < 32 → encode_utf8 b ≡ b ∷ []
unfolding encode_utf8
one_byte b h = cond-true (nat_lt b 128) _ _ (lt-ltb b 128 (omega (arith, h)))

control : (b : ℕ) → b < 32 → Prints b (codes "\\u00" ++ digit_char (b / 16) ∷ digit_char (b % 16) ∷ [])
control b h =
    let ds : List ℕ = 48 ∷ 48 ∷ digit_char (b / 16) ∷ digit_char (b % 16) ∷ [] in
    let first : digit_value (digit_char (b / 16)) ≡ b / 16 = digit_value-digit_char (b / 16) (omega (arith, h)) in
    let last : digit_value (digit_char (b % 16)) ≡ b % 16 = digit_value-digit_char (b % 16) (omega arith) in
    let zero_digit : digit_value 48 ≡ 0 = refl in
    let value : code ds ≡ b = omega (arith, first, last, zero_digit) in (
      unicode ds,
      (
        (
          (omega (arith, zero_digit), (omega (arith, zero_digit), (omega (arith, first, h), (omega (arith, last), tt)))),
          refl,
        ),
        ap is_high_surrogate value ∙ no_high b h,
        ap is_low_surrogate value ∙ no_low b h,
      ),
      ap encode_utf8 value ∙ one_byte b h,
      refl,
    )

stands : (p q r : Bool) → p ≡ false → q ≡ false → r ≡ false → not (p || q || r) ≡ true
stands false false false a b c = refl
stands true q r a b c = cc
stands false true r a b c = cc
stands false false true a b c = cc

prints : (b : ℕ) → Prints b (printed_byte b)
unfolding encode_utf8
prints b =
    choose b (b == 34) _ _ (λ e. at_letter b 34 34 (eqb-true b 34 e) (letter 34, (34, refl), refl, refl))
    (λ n. choose b (b == 92) _ _ (λ e. at_letter b 92 92 (eqb-true b 92 e) (letter 92, (92, refl), refl, refl))
    (λ m. choose b (b == 8) _ _ (λ e. at_letter b 98 8 (eqb-true b 8 e) (letter 98, (8, refl), refl, refl))
    (λ _. choose b (b == 9) _ _ (λ e. at_letter b 116 9 (eqb-true b 9 e) (letter 116, (9, refl), refl, refl))
    (λ _. choose b (b == 10) _ _ (λ e. at_letter b 110 10 (eqb-true b 10 e) (letter 110, (10, refl), refl, refl))
    (λ _. choose b (b == 12) _ _ (λ e. at_letter b 102 12 (eqb-true b 12 e) (letter 102, (12, refl), refl, refl))
    (λ _. choose b (b == 13) _ _ (λ e. at_letter b 114 13 (eqb-true b 13 e) (letter 114, (13, refl), refl, refl))
    (λ _. choose b (nat_lt b 32) _ _ (λ e. control b (ltb-true b 32 e))
    (λ l. (plain b, stands (b == 34) (b == 92) (nat_lt b 32) n m l, refl, refl)))))))))

pieces_of : List ℕ → List Piece
pieces_of [] = []
pieces_of (b ∷ s) = (prints b).0 ∷ pieces_of s

pieces_good : (s : List ℕ) → AllByRecursion IsPiece (pieces_of s)
unfolding pieces_of
pieces_good [] = tt
pieces_good (b ∷ s) = ((prints b).1, pieces_good s)

pieces_text : (s : List ℕ) → s ≡ flat_map piece_text (pieces_of s)
unfolding pieces_of
pieces_text [] = refl
pieces_text (b ∷ s) = ap (λ (x : List ℕ). b ∷ x) (pieces_text s) ∙ ap (λ (x : List ℕ). x ++ flat_map piece_text (pieces_of s)) (sym (prints b).2)

pieces_bytes : (s : List ℕ) → flat_map printed_byte s ≡ flat_map piece_bytes (pieces_of s)
unfolding pieces_of
pieces_bytes [] = refl
pieces_bytes (b ∷ s) = ap (λ (x : List ℕ). printed_byte b ++ x) (pieces_bytes s) ∙ ap (λ (x : List ℕ). x ++ flat_map piece_bytes (pieces_of s)) (sym (prints b).3)

quoted : (s : List ℕ) → Quoted s (printed_string s)
quoted s = (flat_map printed_byte s, record { pieces = pieces_of s; good = pieces_good s; text = pieces_text s; bytes = pieces_bytes s }, refl)

-- ---- trees

all_front : (xs ys : List Tree) → AllByRecursion IsNode (xs ++ ys) → AllByRecursion IsNode xs × AllByRecursion IsNode ys
all_front [] ys h = (tt, h)
all_front (x ∷ xs) ys h = let rest = all_front xs ys h.1 in ((h.0, rest.0), rest.1)

mutual
  spells : (t : Tree) → IsTree t → Spells t (printed t)
  spells null h = refl
  spells (truth true) h = refl
  spells (truth false) h = refl
  spells (string s) h = quoted s
  spells (number v) h = spells_number v h.0
  spells (array ts) h = (printed_items ts, 93 ∷ [], spells_items ts h.1, bare (Sign 93) (93 ∷ []) refl, refl)
  spells (object ms) h = (printed_members ms, 125 ∷ [], spells_members ms h.1, bare (Sign 125) (125 ∷ []) refl, refl)

  spells_items : (ts : Items) → AllByRecursion IsNode (items_subtrees ts) → SpellsItems ts (printed_items ts)
  spells_items no_items h = refl
  spells_items (item t ts) h =
      let both = all_front (subtrees t) (items_subtrees ts) h in
      (printed t, printed_more_items ts, bare (Spells t) (printed t) (spells t both.0), spells_more_items ts both.1, refl)

  spells_more_items : (ts : Items) → AllByRecursion IsNode (items_subtrees ts) → SpellsMoreItems ts (printed_more_items ts)
  spells_more_items no_items h = refl
  spells_more_items (item t ts) h =
      let both = all_front (subtrees t) (items_subtrees ts) h in
      (44 ∷ [], printed t, printed_more_items ts, bare (Sign 44) (44 ∷ []) refl, bare (Spells t) (printed t) (spells t both.0), spells_more_items ts both.1, refl)

  spells_members : (ms : Members) → AllByRecursion IsNode (members_subtrees ms) → SpellsMembers ms (printed_members ms)
  spells_members no_members h = refl
  spells_members (member k t ms) h =
      let both = all_front (subtrees t) (members_subtrees ms) h in
      (printed_string k, 58 ∷ [], printed t, printed_more_members ms, bare (Quoted k) (printed_string k) (quoted k), bare (Sign 58) (58 ∷ []) refl, bare (Spells t) (printed t) (spells t both.0), spells_more_members ms both.1, refl)

  spells_more_members : (ms : Members) → AllByRecursion IsNode (members_subtrees ms) → SpellsMoreMembers ms (printed_more_members ms)
  spells_more_members no_members h = refl
  spells_more_members (member k t ms) h =
      let both = all_front (subtrees t) (members_subtrees ms) h in
      (44 ∷ [], printed_string k, 58 ∷ [], printed t, printed_more_members ms, bare (Sign 44) (44 ∷ []) refl, bare (Quoted k) (printed_string k) (quoted k), bare (Sign 58) (58 ∷ []) refl, bare (Spells t) (printed t) (spells t both.0), spells_more_members ms both.1, refl)

pub printed_spells : (t : Tree) → IsTree t → SpellsText t (printed t)
printed_spells t h = (printed t, [], bare (Spells t) (printed t) (spells t h), tt, sym (append-nil (printed t)))

-- ---- what a text spells is well made

spelled_number : (v : Number) (b : List ℕ) → SpellsNumber v b → IsWellMade v
spelled_number (exact d) b h = IsDecimal-spelled b d h
spelled_number (wide s) b h = subst SpellsWide h.1 h.0

both_all : (xs ys : List Tree) → AllByRecursion IsNode xs → AllByRecursion IsNode ys → AllByRecursion IsNode (xs ++ ys)
both_all [] ys h g = g
both_all (x ∷ xs) ys h g = (h.0, both_all xs ys h.1 g)

mutual
  made : (t : Tree) (b : List ℕ) → Spells t b → IsTree t
  made null b h = (tt, tt)
  made (truth x) b h = (tt, tt)
  made (string s) b h = (tt, tt)
  made (number v) b h = (spelled_number v b h, tt)
  made (array ts) b h = (tt, made_items ts h.0 h.2)
  made (object ms) b h = (tt, made_members ms h.0 h.2)

  made_items : (ts : Items) (b : List ℕ) → SpellsItems ts b → AllByRecursion IsNode (items_subtrees ts)
  made_items no_items b h = tt
  made_items (item t ts) b h = both_all (subtrees t) (items_subtrees ts) (made t h.2.1 h.2.3) (made_more_items ts h.1 h.3)

  made_more_items : (ts : Items) (b : List ℕ) → SpellsMoreItems ts b → AllByRecursion IsNode (items_subtrees ts)
  made_more_items no_items b h = tt
  made_more_items (item t ts) b h = both_all (subtrees t) (items_subtrees ts) (made t h.4.1 h.4.3) (made_more_items ts h.2 h.5)

  made_members : (ms : Members) (b : List ℕ) → SpellsMembers ms b → AllByRecursion IsNode (members_subtrees ms)
  made_members no_members b h = tt
  made_members (member k t ms) b h = both_all (subtrees t) (members_subtrees ms) (made t h.6.1 h.6.3) (made_more_members ms h.3 h.7)

  made_more_members : (ms : Members) (b : List ℕ) → SpellsMoreMembers ms b → AllByRecursion IsNode (members_subtrees ms)
  made_more_members no_members b h = tt
  made_more_members (member k t ms) b h = both_all (subtrees t) (members_subtrees ms) (made t h.8.1 h.8.3) (made_more_members ms h.4 h.9)

pub spelled_made : (t : Tree) (b : List ℕ) → SpellsText t b → IsTree t
spelled_made t b h = made t h.2.1 h.2.3
