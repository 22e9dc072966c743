-- The canonical text of the tree of a text in UTF-8 is in UTF-8.
use Rattle.std.proofs.Common.{◌≡◌, ℕ, zero, suc, ◌+◌, ◌-◌, ◌*◌, ◌/◌, ◌%◌, ◌^◌, ◌<◌, Bool, true, false, not, ◌&&◌, ◌||◌, ◌==◌, nat_lt, nat_le, cond, List, [], ◌∷◌, ◌++◌, length, take, drop, get_or, slice_index, codes, unsigned_abs, decimal, ℤ, Option, Some, None, refl, sym, ap, subst, ◌∙◌, arith, append_assoc, append-nil, length-append, take_at, drop_at, div-le_self, IsUtf8, encode_utf8}
use Rattle.std.specs.Bool.{⊤}
use Rattle.std.specs.Char.{IsScalar, digit_char, is_ascii_digit}
use Rattle.std.specs.Char.Utf16.{is_high_surrogate, is_low_surrogate, surrogate_pair_char}
use Rattle.std.specs.List.{flat_map, list_all}
use Rattle.std.specs.Str.{IsCharBoundary}
use Rattle.std.proofs.lemmas.Bool.Decides.{nat_tests}
use Rattle.std.proofs.lemmas.Fmt.{IsAscii-decimal_wide}
use Rattle.std.proofs.lemmas.List.{get_or_at}
use Rattle.std.proofs.lemmas.Str.{IsUtf8-append, IsUtf8-nil, IsUtf8-take, IsUtf8-drop, IsUtf8-encode, IsUtf8-from_ascii, IsCharBoundary-before_ascii, IsCharBoundary-after_ascii}
use Rattle.sj_base.specs.ByteClasses.{is_letter, is_word_byte, letter_char}
use Rattle.sj_base.specs.Options.{◌>>=◌}
use Rattle.sj_decimal.specs.Normal.{IsDecimal}
use Rattle.sj_decimal.specs.Signed.{is_negative}
use Rattle.sj_decimal.specs.Text.{decimals_text, decimal_text}
use Rattle.sj_json.specs.Printing.{printed_byte, printed_string}
use Rattle.sj_path_token.specs.declared.token.Token.{Token}
use Rattle.sj_path_token.specs.Words as w
use Rattle.sj_path_token.specs.Words.{AllPass, IsWord}
use Rattle.sj_path_token.specs.Strings as s
use Rattle.sj_path_token.specs.Strings.{hex_digit, unit_of, IsEscape, IsInside}
use Rattle.sj_path_token.specs.Tokens as t
use Rattle.sj_path_token.specs.Tokens.{BeginsWith, HasTokens}
use Rattle.sj_path_token.specs.Reading.{exactly}
use Rattle.sj_path_token.proofs.Boundaries.{escape_boundary, token_boundary, blank_ascii}
use Rattle.sj_path_token.proofs.StringInsides.{escape_full}
use Rattle.sj_path_token.proofs.Texts.{begun}
use Rattle.sj_path_grammar.specs.Grammar.{Tokens}
use Rattle.sj_path_grammar.specs.Answers.{HasTree}
use Rattle.sj_decimal.specs.declared.comparing.Compare.{Compare}
use Rattle.sj_decimal.specs.declared.comparing.Compare.TheVariants as c
use Rattle.sj_path_tree.specs.declared.parts.Arith.{Arith}
use Rattle.sj_path_tree.specs.declared.parts.Arith.TheVariants as arith
use Rattle.sj_path_tree.specs.declared.parts.Literal.{Literal}
use Rattle.sj_path_tree.specs.declared.parts.Literal.TheVariants as literal
use Rattle.sj_path_tree.specs.declared.parts.Initial.{Initial}
use Rattle.sj_path_tree.specs.declared.parts.Initial.TheVariants as initial
use Rattle.sj_path_tree.specs.declared.parts.Mode.{Mode}
use Rattle.sj_path_tree.specs.declared.parts.Mode.TheVariants as mode
use Rattle.sj_path_text.specs.Parentheses.{is_binary, is_operation, is_below, is_not_above, is_or, is_and_or_or, is_exists}
use Rattle.sj_path_tree.specs.Tree.{Path, Expr, Root, Var, Context, Last, Lit, Plus, Minus, Binary, Access, Step, Member, AllMembers, AllElements, Elements, Filter, Call, Sub, One, Range, Subs, NoSubs, More, Pred, Compares, And, Or, Not, IsUnknown, Exists, StartsWith}
use Rattle.sj_path_text.specs.Text.{enclosed, mode_text, arith_text, compare_text, method_name, literal_text, initial_text, expr_text, step_text, sub_text, subs_text, pred_text, path_text}
use Rattle.sj_path_text.proofs.Made.{LiteralOf, InitialOf, ExprOf, StepOf, SubOf, SubsOf, OthersOf, PredOf}
use Rattle.sj_path_text.proofs.Lexing.{word_is}
use Rattle.sj_path_text.proofs.Methods.{name_word}
use Rattle.sj_path_text.proofs.Numbers.{last_digits_pass, unsigned}
use Rattle.sj_path_text.proofs.Strings.{Printed, itself, letter, number, printed}
use Rattle.sj_path_text.proofs.Makings.{MadeTokens, form_made, path_made}

-- ---- a text is cut at an ASCII byte

behind_first : (b : ℕ) (bs : List ℕ) → b < 128 → IsUtf8 (b ∷ bs) → IsUtf8 bs
behind_first b bs h u = IsUtf8-drop (b ∷ bs) 1 u (IsCharBoundary-after_ascii (b ∷ bs) 0 u (omega arith) h)

cut : (front : List ℕ) (b : ℕ) (bs : List ℕ) → b < 128 → IsUtf8 (front ++ b ∷ bs) → IsUtf8 front × IsUtf8 bs
cut front b bs h u =
    let here : get_or (front ++ b ∷ bs) (length front) 0 ≡ b = get_or_at front b bs 0 (length front) refl in
    let at : IsCharBoundary (front ++ b ∷ bs) (length front) = IsCharBoundary-before_ascii (front ++ b ∷ bs) (length front) (omega (arith, length-append front (b ∷ bs))) (subst (λ (x : ℕ). x < 128) (sym here) h) in (
      subst (λ (l : List ℕ). IsUtf8 l) (take_at front (b ∷ bs) (length front) refl) (IsUtf8-take (front ++ b ∷ bs) (length front) u at),
      behind_first b bs h (subst (λ (l : List ℕ). IsUtf8 l) (drop_at front (b ∷ bs) (length front) refl) (IsUtf8-drop (front ++ b ∷ bs) (length front) u at)),
    )

-- ---- ASCII

byte_utf8 : (b : ℕ) → b < 128 → IsUtf8 (b ∷ [])
byte_utf8 b h = IsUtf8-from_ascii (b ∷ []) each
  where
    each : (i : ℕ) → slice_index (b ∷ []) i < 128
    each zero = h
    each (suc i) = omega arith

pub one_more : (b : ℕ) {bs : List ℕ} → b < 128 → IsUtf8 bs → IsUtf8 (b ∷ bs)
one_more b {bs} h u = IsUtf8-append (b ∷ []) bs (byte_utf8 b h) u

pub passing : {test : ℕ → Bool} {bs : List ℕ} → ((b : ℕ) → test b ≡ true → b < 128) → AllPass test bs → IsUtf8 bs
passing low w.none = IsUtf8-nil
passing low (w.more {b = b} h p) = one_more b (low b h) (passing low p)

digit_low : (b : ℕ) → is_ascii_digit b ≡ true → b < 128
digit_low b h = grind (arith, nat_tests)

letter_low : (b : ℕ) → is_letter b ≡ true → b < 128
letter_low b h = grind (arith, nat_tests)

word_low : (b : ℕ) → is_word_byte b ≡ true → b < 128
word_low b h = go (is_letter b) refl h
  where
    go : (x : Bool) → is_letter b ≡ x → (x || is_ascii_digit b) ≡ true → b < 128
    go true e h = letter_low b e
    go false e h = digit_low b h

pub word_utf8 : (text : List ℕ) → IsWord text → IsUtf8 text
word_utf8 text (w.word {b = b} {bs = bs} h p) = one_more b (letter_low b h) (passing word_low p)

-- ---- a string

low_digit : (v : ℕ) → v < 16 → digit_char v < 128
low_digit v h = grind (arith, nat_tests)

number_utf8 : (b : ℕ) → b < 32 → IsUtf8 (codes "\\u00" ++ digit_char (b / 16) ∷ digit_char (b % 16) ∷ [])
number_utf8 b h = one_more 92 (omega arith) (one_more 117 (omega arith) (one_more 48 (omega arith) (one_more 48 (omega arith)
    (one_more (digit_char (b / 16)) (low_digit (b / 16) (omega (arith, h))) (one_more (digit_char (b % 16)) (low_digit (b % 16) (omega arith)) IsUtf8-nil)))))

-- a byte that is printed otherwise is ASCII, and a text may be cut there
print_more : {b : ℕ} {bytes : List ℕ} → Printed b bytes → (front bs : List ℕ) → IsUtf8 (front ++ b ∷ bs) → ((front : List ℕ) → IsUtf8 (front ++ bs) → IsUtf8 (front ++ flat_map printed_byte bs))
    → IsUtf8 (front ++ (bytes ++ flat_map printed_byte bs))
print_more {b} (itself h) front bs u more =
    subst (λ (l : List ℕ). IsUtf8 l) (append_assoc front (b ∷ []) (flat_map printed_byte bs)) (more (front ++ b ∷ []) (subst (λ (l : List ℕ). IsUtf8 l) (sym (append_assoc front (b ∷ []) bs)) u))
print_more {b} (letter {c = c} is low small) front bs u more =
    let parts = cut front b bs small u in
    IsUtf8-append front (92 ∷ c ∷ flat_map printed_byte bs) parts.0 (one_more 92 (omega arith) (one_more c low (more [] parts.1)))
print_more {b} (number h) front bs u more =
    let parts = cut front b bs (omega (arith, h)) u in
    IsUtf8-append front _ parts.0 (IsUtf8-append _ (flat_map printed_byte bs) (number_utf8 b h) (more [] parts.1))

inside_printed : (bs front : List ℕ) → IsUtf8 (front ++ bs) → IsUtf8 (front ++ flat_map printed_byte bs)
inside_printed [] front u = u
inside_printed (b ∷ bs) front u = print_more (printed b) front bs u (inside_printed bs)

pub printed_utf8 : (text : List ℕ) → IsUtf8 text → IsUtf8 (printed_string text)
printed_utf8 text u = one_more 34 (omega arith) (IsUtf8-append (flat_map printed_byte text) (34 ∷ []) (inside_printed text [] u) (byte_utf8 34 (omega arith)))

-- ---- what a string stands for

abbrev LowIn : Option ℕ → Type 0
LowIn None = ⊤
LowIn (Some c) = c < 128

either : (x : Bool) (y z : Option ℕ) → LowIn y → LowIn z → LowIn (cond x y z)
either true y z p q = p
either false y z p q = q

letter_is_low : (e : ℕ) → LowIn (letter_char e)
letter_is_low e =
    either (e == 34) _ _ (omega arith) (either (e == 92) _ _ (omega arith) (either (e == 47) _ _ (omega arith) (either (e == 98) _ _ (omega arith)
    (either (e == 102) _ _ (omega arith) (either (e == 110) _ _ (omega arith) (either (e == 114) _ _ (omega arith) (either (e == 116) _ _ (omega arith) tt)))))))

-- a hexadecimal digit, and four of them
abbrev DigitIn : Option ℕ → Type 0
DigitIn None = ⊤
DigitIn (Some v) = v < 16

where_so : (x : Bool) (y z : Option ℕ) → (x ≡ true → DigitIn y) → DigitIn z → DigitIn (cond x y z)
where_so true y z p q = p refl
where_so false y z p q = q

decimal_digit : (b : ℕ) → is_ascii_digit b ≡ true → b - 48 < 16
decimal_digit b h = grind (arith, nat_tests)

large_digit : (b : ℕ) → (nat_le 65 b && nat_le b 70) ≡ true → b - 55 < 16
large_digit b h = grind (arith, nat_tests)

small_digit : (b : ℕ) → (nat_le 97 b && nat_le b 102) ≡ true → b - 87 < 16
small_digit b h = grind (arith, nat_tests)

hex_below : (b : ℕ) → DigitIn (hex_digit b)
hex_below b = where_so (is_ascii_digit b) _ _ (decimal_digit b) (where_so (nat_le 65 b && nat_le b 70) _ _ (large_digit b) (where_so (nat_le 97 b && nat_le b 102) _ _ (small_digit b) tt))

unit_below : (a b c d n : ℕ) → unit_of a b c d ≡ Some n → n < 65536
unit_below a b c d n h = go (hex_digit a) (hex_digit b) (hex_digit c) (hex_digit d) (hex_below a) (hex_below b) (hex_below c) (hex_below d) h
  where
    some_is : {m : ℕ} → Some m ≡ Some n → m ≡ n
    some_is q = cc

    go : (o p q r : Option ℕ) → DigitIn o → DigitIn p → DigitIn q → DigitIn r → (o >>= λ v. p >>= λ w. q >>= λ x. r >>= λ y. Some (4096 * v + 256 * w + 16 * x + y)) ≡ Some n → n < 65536
    go None p q r h i j k e = absurd cc
    go (Some v) None q r h i j k e = absurd cc
    go (Some v) (Some w) None r h i j k e = absurd cc
    go (Some v) (Some w) (Some x) None h i j k e = absurd cc
    go (Some v) (Some w) (Some x) (Some y) h i j k e = let same : 4096 * v + 256 * w + 16 * x + y ≡ n = some_is e in omega arith

low_scalar : (c : ℕ) → c < 128 → IsScalar c
low_scalar c h = grind (arith, nat_tests)

unit_scalar : (n : ℕ) → n < 65536 → is_high_surrogate n ≡ false → is_low_surrogate n ≡ false → IsScalar n
unit_scalar n h high low = grind (arith, nat_tests)

pair_scalar : (high low : ℕ) → is_high_surrogate high ≡ true → is_low_surrogate low ≡ true → IsScalar (surrogate_pair_char high low)
pair_scalar high low h l = grind (arith, nat_tests)

escape_scalar : {es : List ℕ} {c : ℕ} → IsEscape es c → IsScalar c
escape_scalar (s.short {e = e} {c = c} h) = low_scalar c (subst LowIn h (letter_is_low e))
escape_scalar (s.unit {a = a} {b = b} {c = c} {d = d} {n = n} p high low) = unit_scalar n (unit_below a b c d n p) high low
escape_scalar (s.pair {high = high} {low = low} p h q l) = pair_scalar high low h l

behind_escape : {es : List ℕ} {c : ℕ} → IsEscape es c → (bs : List ℕ) → IsUtf8 (92 ∷ (es ++ bs)) → IsUtf8 bs
behind_escape {es} {c} e bs u =
    let at : IsCharBoundary (92 ∷ (es ++ bs)) (0 + (1 + length es)) = escape_boundary (92 ∷ (es ++ bs)) (es ++ bs) 0 92 c (length es) u refl (escape_full e bs) in
    subst (λ (l : List ℕ). IsUtf8 l) (drop_at (92 ∷ es) bs (0 + (1 + length es)) (omega arith)) (IsUtf8-drop (92 ∷ (es ++ bs)) (0 + (1 + length es)) u at)

stands_utf8 : {bs text : List ℕ} → IsInside bs text → (front : List ℕ) → IsUtf8 (front ++ bs) → IsUtf8 (front ++ text)
stands_utf8 s.end front u = subst (λ (l : List ℕ). IsUtf8 l) (sym (append-nil front)) (cut front 34 [] (omega arith) u).0
stands_utf8 (s.plain {b = b} {bs = bs} {text = text} h d) front u =
    subst (λ (l : List ℕ). IsUtf8 l) (append_assoc front (b ∷ []) text) (stands_utf8 d (front ++ b ∷ []) (subst (λ (l : List ℕ). IsUtf8 l) (sym (append_assoc front (b ∷ []) bs)) u))
stands_utf8 (s.escape {c = c} {es = es} {bs = bs} {text = text} e d) front u =
    let parts = cut front 92 (es ++ bs) (omega arith) u in
    let behind = behind_escape e bs (one_more 92 (omega arith) parts.1) in
    IsUtf8-append front (encode_utf8 c ++ text) parts.0 (IsUtf8-append (encode_utf8 c) text (IsUtf8-encode c (escape_scalar e)) (stands_utf8 d [] behind))

-- ---- tokens

token_cut : (text : List ℕ) (u : Token) (rest : List ℕ) → (b : BeginsWith text (Some u) rest) → IsUtf8 text → IsCharBoundary text (length b.front)
token_cut [] u rest b utf8 = absurd (none (begun [] (Some u) rest b))
  where
    none : {n : ℕ} → ◌≡◌ {A = Option (Option Token × ℕ)} None (Some (Some u, n)) → ⊥
    none q = cc
token_cut (first ∷ after) u rest b utf8 = token_boundary (first ∷ after) after first (length b.front) u utf8 refl (ap exactly (begun (first ∷ after) (Some u) rest b))

tokens_utf8 : {text : List ℕ} {ts : Tokens} → HasTokens text ts → IsUtf8 text → MadeTokens (λ l. IsUtf8 l) ts
tokens_utf8 t.end u = tt
tokens_utf8 (t.blank {b = b} {text = text} h d) u = tokens_utf8 d (behind_first b text (blank_ascii b h) u)
tokens_utf8 (t.token {t = v} {text = text} {rest = rest} b d) u =
    let at = token_cut text v rest b u in
    let front : IsUtf8 b.front = subst (λ (l : List ℕ). IsUtf8 l) (ap (take (length b.front)) b.splits ∙ take_at b.front rest (length b.front) refl) (IsUtf8-take text (length b.front) u at) in
    let behind : IsUtf8 rest = subst (λ (l : List ℕ). IsUtf8 l) (ap (drop (length b.front)) b.splits ∙ drop_at b.front rest (length b.front) refl) (IsUtf8-drop text (length b.front) u at) in
    (form_made (λ l. IsUtf8 l) word_utf8 (λ inside s is d. stands_utf8 d [] (behind_first 34 inside (omega arith) (subst (λ (l : List ℕ). IsUtf8 l) is front))) b.fits, tokens_utf8 d behind)

-- ---- numbers

decimals_utf8 : (s m : ℕ) → IsUtf8 (decimals_text s m)
decimals_utf8 zero m = IsUtf8-nil
decimals_utf8 (suc s) m = one_more 46 (omega arith) (passing digit_low (last_digits_pass (suc s) m))

number_is_utf8 : (d : ℤ × ℕ) → IsDecimal d → is_negative d.0 ≡ false → IsUtf8 (decimal_text d)
number_is_utf8 d h plus =
    let whole : ℕ = unsigned_abs d.0 / 10 ^ d.1 in
    let small : unsigned_abs d.0 / 10 ^ d.1 < 10 ^ 64 = omega (arith, div-le_self (unsigned_abs d.0) (10 ^ d.1), h.limits.coefficient) in
    subst (λ (l : List ℕ). IsUtf8 l) (sym (unsigned d plus)) (IsUtf8-append (decimal whole) (decimals_text d.1 (unsigned_abs d.0)) (IsUtf8-from_ascii (decimal whole) (IsAscii-decimal_wide whole small)) (decimals_utf8 d.1 (unsigned_abs d.0)))

-- ---- the text of a tree

-- a text that is written out
fixed : (text : List ℕ) → list_all (λ b. nat_lt b 128) text ≡ true → IsUtf8 text
fixed [] h = IsUtf8-nil
fixed (b ∷ text) h = go (nat_lt b 128) refl h (fixed text)
  where
    low : nat_lt b 128 ≡ true → b < 128
    low e = grind (arith, nat_tests)

    go : (x : Bool) → nat_lt b 128 ≡ x → (x && list_all (λ b. nat_lt b 128) text) ≡ true → (list_all (λ b. nat_lt b 128) text ≡ true → IsUtf8 text) → IsUtf8 (b ∷ text)
    go true e h more = one_more b (low e) (more h)
    go false e h more = absurd cc

-- a text that is written out, and then another
behind : (front : List ℕ) {text : List ℕ} → list_all (λ b. nat_lt b 128) front ≡ true → IsUtf8 text → IsUtf8 (front ++ text)
behind front {text} h u = IsUtf8-append front text (fixed front h) u

both : {a b : List ℕ} → IsUtf8 a → IsUtf8 b → IsUtf8 (a ++ b)
both {a} {b} u v = IsUtf8-append a b u v

enclosed_utf8 : (b : Bool) {text : List ℕ} → IsUtf8 text → IsUtf8 (enclosed b text)
enclosed_utf8 true u = behind (codes "(") refl (both u (fixed (codes ")") refl))
enclosed_utf8 false u = u

arith_utf8 : (op : Arith) → IsUtf8 (arith_text op)
arith_utf8 arith.Add = fixed (codes " + ") refl
arith_utf8 arith.Sub = fixed (codes " - ") refl
arith_utf8 arith.Mul = fixed (codes " * ") refl
arith_utf8 arith.Div = fixed (codes " / ") refl
arith_utf8 arith.Rem = fixed (codes " % ") refl

compare_utf8 : (op : Compare) → IsUtf8 (compare_text op)
compare_utf8 c.Eq = fixed (codes " == ") refl
compare_utf8 c.Ne = fixed (codes " != ") refl
compare_utf8 c.Lt = fixed (codes " < ") refl
compare_utf8 c.Le = fixed (codes " <= ") refl
compare_utf8 c.Gt = fixed (codes " > ") refl
compare_utf8 c.Ge = fixed (codes " >= ") refl

literal_utf8 : (l : Literal) → LiteralOf (λ t. IsUtf8 t) l → IsUtf8 (literal_text l)
literal_utf8 (literal.Text text) h = printed_utf8 text h
literal_utf8 (literal.Num d) h = number_is_utf8 d h.0 h.1
literal_utf8 (literal.Bool true) h = fixed (codes "true") refl
literal_utf8 (literal.Bool false) h = fixed (codes "false") refl
literal_utf8 literal.Null h = fixed (codes "null") refl

initial_utf8 : (i : Initial) → InitialOf (λ t. IsUtf8 t) i → IsUtf8 (initial_text i)
initial_utf8 (initial.Lit text) h = printed_utf8 text h
initial_utf8 (initial.Var name) h = behind (codes "$") refl (word_utf8 name h)

mutual
  expr_utf8 : (e : Expr) → ExprOf (λ t. IsUtf8 t) e → IsUtf8 (expr_text e)
  expr_utf8 Root h = fixed (codes "$") refl
  expr_utf8 (Var name) h = behind (codes "$") refl (word_utf8 name h)
  expr_utf8 Context h = fixed (codes "@") refl
  expr_utf8 Last h = fixed (codes "last") refl
  expr_utf8 (Lit l) h = literal_utf8 l h
  expr_utf8 (Access e s) h = both (enclosed_utf8 (is_operation e) (expr_utf8 e h.0)) (step_utf8 s h.1)
  expr_utf8 (Plus e) h = behind (codes "+") refl (enclosed_utf8 (is_binary e) (expr_utf8 e h))
  expr_utf8 (Minus e) h = behind (codes "-") refl (enclosed_utf8 (is_binary e) (expr_utf8 e h))
  expr_utf8 (Binary op a b) h = both (enclosed_utf8 (is_below op a) (expr_utf8 a h.0)) (both (arith_utf8 op) (enclosed_utf8 (is_not_above op b) (expr_utf8 b h.1)))

  step_utf8 : (s : Step) → StepOf (λ t. IsUtf8 t) s → IsUtf8 (step_text s)
  step_utf8 (Member key) h = behind (codes ".") refl (printed_utf8 key h)
  step_utf8 AllMembers h = fixed (codes ".*") refl
  step_utf8 AllElements h = fixed (codes "[*]") refl
  step_utf8 (Elements subs) h = behind (codes "[") refl (both (subs_utf8 subs h) (fixed (codes "]") refl))
  step_utf8 (Filter p) h = behind (codes "?(") refl (both (pred_utf8 p h) (fixed (codes ")") refl))
  step_utf8 (Call method) h = behind (codes ".") refl (both (word_utf8 (method_name method) (word_is (method_name method) (name_word method))) (fixed (codes "()") refl))

  sub_utf8 : (s : Sub) → SubOf (λ t. IsUtf8 t) s → IsUtf8 (sub_text s)
  sub_utf8 (One e) h = expr_utf8 e h
  sub_utf8 (Range a b) h = both (expr_utf8 a h.0) (behind (codes " to ") refl (expr_utf8 b h.1))

  subs_utf8 : (subs : Subs) → SubsOf (λ t. IsUtf8 t) subs → IsUtf8 (subs_text [] subs)
  subs_utf8 NoSubs h = absurd h
  subs_utf8 (More s others) h = both (sub_utf8 s h.0) (others_utf8 others h.1)

  others_utf8 : (subs : Subs) → OthersOf (λ t. IsUtf8 t) subs → IsUtf8 (subs_text (codes ", ") subs)
  others_utf8 NoSubs h = IsUtf8-nil
  others_utf8 (More s others) h = behind (codes ", ") refl (both (sub_utf8 s h.0) (others_utf8 others h.1))

  pred_utf8 : (p : Pred) → PredOf (λ t. IsUtf8 t) p → IsUtf8 (pred_text p)
  pred_utf8 (Compares op a b) h = both (expr_utf8 a h.0) (both (compare_utf8 op) (expr_utf8 b h.1))
  pred_utf8 (And p q) h = both (enclosed_utf8 (is_or p) (pred_utf8 p h.0)) (behind (codes " && ") refl (enclosed_utf8 (is_and_or_or q) (pred_utf8 q h.1)))
  pred_utf8 (Or p q) h = both (pred_utf8 p h.0) (behind (codes " || ") refl (enclosed_utf8 (is_or q) (pred_utf8 q h.1)))
  pred_utf8 (Not p) h = behind (codes "!") refl (enclosed_utf8 (not (is_exists p)) (pred_utf8 p h))
  pred_utf8 (IsUnknown p) h = both (enclosed_utf8 true (pred_utf8 p h)) (fixed (codes " is unknown") refl)
  pred_utf8 (Exists e) h = behind (codes "exists(") refl (both (expr_utf8 e h) (fixed (codes ")") refl))
  pred_utf8 (StartsWith e i) h = both (expr_utf8 e h.0) (behind (codes " starts with ") refl (initial_utf8 i h.1))

mode_utf8 : (mode : Mode) → IsUtf8 (mode_text mode)
mode_utf8 mode.Lax = fixed (codes "lax") refl
mode_utf8 mode.Strict = fixed (codes "strict") refl

pub stays_utf8 : (text : List ℕ) (p : Path) → HasTree text p → IsUtf8 text → IsUtf8 (path_text p)
stays_utf8 text p h u = both (mode_utf8 p.mode) (behind (codes " ") refl (expr_utf8 p.expr (path_made (λ t. IsUtf8 t) h.tree (tokens_utf8 h.breaks u))))
