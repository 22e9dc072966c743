-- Every place of a scan can be brought to the end of a text.
use Rattle.std.proofs.Common.{◌≡◌, ℕ, List, [], ◌∷◌, ◌++◌, Bool, true, false, cond, ◌&&◌, eqb, ltb, Option, Some, None, refl, ap, ◌∙◌, eq-eqb, ◌<◌, leb, lt-ltb, arith}
use Rattle.std.proofs.lemmas.Bool.{cond-true, and_parts, ltb-true}
use Rattle.sj_json.specs.Spelling.{max_depth}
use Rattle.sj_scan.specs.declared.numeral.Numeral.{Numeral}
use Rattle.sj_scan.specs.declared.numeral.Numeral.TheVariants.{Nothing, Minus, Zero, Whole, Point, Fraction, Mark, Sign, Exponent}
use Rattle.sj_scan.specs.declared.escape.Escape.{Escape}
use Rattle.sj_scan.specs.declared.escape.Escape.TheVariants.{Begun, First, FirstD, Rest3, Rest2, Rest1, High2, High1, High, Second, Low, LowD, Low2, Low1}
use Rattle.sj_scan.specs.declared.mode.Container.{Container}
use Rattle.sj_scan.specs.declared.mode.Container.TheVariants.{Array, Object}
use Rattle.sj_scan.specs.declared.utf8.Utf8.{Utf8}
use Rattle.sj_scan.specs.declared.utf8.Utf8.TheVariants.{Between, OneMore, TwoMore, AfterE0, AfterEd, ThreeMore, AfterF0, AfterF4}
use Rattle.sj_scan.specs.Utf8.{utf8_after}
use Rattle.sj_scan.specs.Modes.{Mode, value, value_or_close, key, key_or_close, colon, after_value, word, quoted, escaped, number}
use Rattle.sj_scan.proofs.Follows.{accepts}

abbrev pub is_ascii : ℕ → Bool
is_ascii b = ltb b 128

abbrev pub all_ascii : List ℕ → Bool
all_ascii [] = true
all_ascii (b ∷ bs) = is_ascii b && all_ascii bs

-- the letters of words
abbrev pub is_small : ℕ → Bool
is_small b = leb 97 b && ltb b 123

abbrev pub all_small : List ℕ → Bool
all_small [] = true
all_small (b ∷ bs) = is_small b && all_small bs

-- the rest of a word has a byte at least
abbrev pub IsRest : List ℕ → Type 0
IsRest [] = ⊥
IsRest (b ∷ bs) = all_small (b ∷ bs) ≡ true

abbrev pub Lively : Mode → Type 0
Lively value = Unit {0}
Lively value_or_close = Unit {0}
Lively key = Unit {0}
Lively key_or_close = Unit {0}
Lively colon = Unit {0}
Lively after_value = Unit {0}
Lively (word r) = IsRest r
Lively (quoted k) = Unit {0}
Lively (escaped k e) = Unit {0}
Lively (number q) = Unit {0}

-- ---- bytes that end what is open

abbrev closers : List Container → List ℕ
closers [] = []
closers (Array ∷ cs) = 93 ∷ closers cs
closers (Object ∷ cs) = 125 ∷ closers cs

-- behind a string: a key needs a value
abbrev behind_string : Bool → List Container → List ℕ
behind_string false cs = 34 ∷ closers cs
behind_string true cs = 34 ∷ 58 ∷ 34 ∷ 34 ∷ closers cs

abbrev low_half : List ℕ → List ℕ
low_half bs = 68 ∷ 67 ∷ 48 ∷ 48 ∷ bs

abbrev behind_high : List ℕ → List ℕ
behind_high bs = 92 ∷ 117 ∷ low_half bs

abbrev escape_end : Escape → List ℕ → List ℕ
escape_end Begun bs = 110 ∷ bs
escape_end First bs = 48 ∷ 48 ∷ 48 ∷ 48 ∷ bs
escape_end FirstD bs = 48 ∷ 48 ∷ 48 ∷ bs
escape_end Rest3 bs = 48 ∷ 48 ∷ 48 ∷ bs
escape_end Rest2 bs = 48 ∷ 48 ∷ bs
escape_end Rest1 bs = 48 ∷ bs
escape_end High2 bs = 48 ∷ 48 ∷ behind_high bs
escape_end High1 bs = 48 ∷ behind_high bs
escape_end High bs = behind_high bs
escape_end Second bs = 117 ∷ low_half bs
escape_end Low bs = low_half bs
escape_end LowD bs = 67 ∷ 48 ∷ 48 ∷ bs
escape_end Low2 bs = 48 ∷ 48 ∷ bs
escape_end Low1 bs = 48 ∷ bs

abbrev number_end : Numeral → List ℕ → List ℕ
number_end Nothing bs = 48 ∷ bs
number_end Minus bs = 48 ∷ bs
number_end Zero bs = bs
number_end Whole bs = bs
number_end Point bs = 48 ∷ bs
number_end Fraction bs = bs
number_end Mark bs = 48 ∷ bs
number_end Sign bs = 48 ∷ bs
number_end Exponent bs = bs

abbrev pub ending : Mode → List Container → List ℕ
ending value cs = 34 ∷ 34 ∷ closers cs
ending value_or_close cs = 34 ∷ 34 ∷ closers cs
ending key cs = 34 ∷ behind_string true cs
ending key_or_close cs = 34 ∷ behind_string true cs
ending colon cs = 58 ∷ 34 ∷ 34 ∷ closers cs
ending after_value cs = closers cs
ending (word r) cs = r ++ closers cs
ending (quoted k) cs = behind_string k cs
ending (escaped k e) cs = escape_end e (behind_string k cs)
ending (number q) cs = number_end q (closers cs)

-- ---- they are taken

abbrev Takes : Mode → List Container → List ℕ → Type 0
Takes o cs bs = accepts max_depth (Some (o, cs)) bs ≡ true

closed : (cs : List Container) → Takes after_value cs (closers cs)
closed [] = refl
closed (Array ∷ cs) = closed cs
closed (Object ∷ cs) = closed cs

zero_closed : (cs : List Container) → Takes (number Zero) cs (closers cs)
zero_closed [] = refl
zero_closed (Array ∷ cs) = closed cs
zero_closed (Object ∷ cs) = closed cs

whole_closed : (cs : List Container) → Takes (number Whole) cs (closers cs)
whole_closed [] = refl
whole_closed (Array ∷ cs) = closed cs
whole_closed (Object ∷ cs) = closed cs

fraction_closed : (cs : List Container) → Takes (number Fraction) cs (closers cs)
fraction_closed [] = refl
fraction_closed (Array ∷ cs) = closed cs
fraction_closed (Object ∷ cs) = closed cs

exponent_closed : (cs : List Container) → Takes (number Exponent) cs (closers cs)
exponent_closed [] = refl
exponent_closed (Array ∷ cs) = closed cs
exponent_closed (Object ∷ cs) = closed cs

number_ended : (q : Numeral) (cs : List Container) → Takes (number q) cs (number_end q (closers cs))
number_ended Nothing cs = zero_closed cs
number_ended Minus cs = zero_closed cs
number_ended Zero cs = zero_closed cs
number_ended Whole cs = whole_closed cs
number_ended Point cs = fraction_closed cs
number_ended Fraction cs = fraction_closed cs
number_ended Mark cs = exponent_closed cs
number_ended Sign cs = exponent_closed cs
number_ended Exponent cs = exponent_closed cs

string_ended : (k : Bool) (cs : List Container) → Takes (quoted k) cs (behind_string k cs)
string_ended false cs = closed cs
string_ended true cs = closed cs

escape_ended : (k : Bool) (e : Escape) (cs : List Container) (bs : List ℕ) → Takes (quoted k) cs bs → Takes (escaped k e) cs (escape_end e bs)
escape_ended k Begun cs bs h = h
escape_ended k First cs bs h = h
escape_ended k FirstD cs bs h = h
escape_ended k Rest3 cs bs h = h
escape_ended k Rest2 cs bs h = h
escape_ended k Rest1 cs bs h = h
escape_ended k High2 cs bs h = h
escape_ended k High1 cs bs h = h
escape_ended k High cs bs h = h
escape_ended k Second cs bs h = h
escape_ended k Low cs bs h = h
escape_ended k LowD cs bs h = h
escape_ended k Low2 cs bs h = h
escape_ended k Low1 cs bs h = h

same_byte : (b : ℕ) → eqb b b ≡ true
same_byte b = eq-eqb b b refl

word_ended : (r : List ℕ) (cs : List Container) → IsRest r → Takes (word r) cs (r ++ closers cs)
word_ended [] cs h = absurd h
word_ended (x ∷ []) cs h = ap (λ (t : Bool). accepts max_depth (cond t (Some (after_value, cs)) None) (closers cs)) (same_byte x) ∙ closed cs
word_ended (x ∷ y ∷ r) cs h =
    ap (λ (t : Bool). accepts max_depth (cond t (Some (word (y ∷ r), cs)) None) ((y ∷ r) ++ closers cs)) (same_byte x) ∙ word_ended (y ∷ r) cs (and_parts (is_small x) (all_small (y ∷ r)) h).1

pub ending_taken : (o : Mode) (cs : List Container) → Lively o → Takes o cs (ending o cs)
ending_taken value cs h = closed cs
ending_taken value_or_close cs h = closed cs
ending_taken key cs h = closed cs
ending_taken key_or_close cs h = closed cs
ending_taken colon cs h = closed cs
ending_taken after_value cs h = closed cs
ending_taken (word r) cs h = word_ended r cs h
ending_taken (quoted k) cs h = string_ended k cs
ending_taken (escaped k e) cs h = escape_ended k e cs (behind_string k cs) (string_ended k cs)
ending_taken (number q) cs h = number_ended q cs

-- ---- and they are ASCII

closers_ascii : (cs : List Container) → all_ascii (closers cs) ≡ true
closers_ascii [] = refl
closers_ascii (Array ∷ cs) = closers_ascii cs
closers_ascii (Object ∷ cs) = closers_ascii cs

string_ascii : (k : Bool) (cs : List Container) → all_ascii (behind_string k cs) ≡ true
string_ascii false cs = closers_ascii cs
string_ascii true cs = closers_ascii cs

escape_ascii : (e : Escape) (bs : List ℕ) → all_ascii bs ≡ true → all_ascii (escape_end e bs) ≡ true
escape_ascii Begun bs h = h
escape_ascii First bs h = h
escape_ascii FirstD bs h = h
escape_ascii Rest3 bs h = h
escape_ascii Rest2 bs h = h
escape_ascii Rest1 bs h = h
escape_ascii High2 bs h = h
escape_ascii High1 bs h = h
escape_ascii High bs h = h
escape_ascii Second bs h = h
escape_ascii Low bs h = h
escape_ascii LowD bs h = h
escape_ascii Low2 bs h = h
escape_ascii Low1 bs h = h

number_ascii : (q : Numeral) (bs : List ℕ) → all_ascii bs ≡ true → all_ascii (number_end q bs) ≡ true
number_ascii Nothing bs h = h
number_ascii Minus bs h = h
number_ascii Zero bs h = h
number_ascii Whole bs h = h
number_ascii Point bs h = h
number_ascii Fraction bs h = h
number_ascii Mark bs h = h
number_ascii Sign bs h = h
number_ascii Exponent bs h = h

ascii_append : (x y : List ℕ) → all_ascii x ≡ true → all_ascii y ≡ true → all_ascii (x ++ y) ≡ true
ascii_append [] y h k = k
ascii_append (b ∷ x) y h k =
    let both = and_parts (is_ascii b) (all_ascii x) h in
    ap (λ (t : Bool). t && all_ascii (x ++ y)) both.0 ∙ ascii_append x y both.1 k

pub small_below : (b : ℕ) → is_small b ≡ true → b < 123
small_below b h = ltb-true b 123 (and_parts (leb 97 b) (ltb b 123) h).1

small_ascii : (r : List ℕ) → all_small r ≡ true → all_ascii r ≡ true
small_ascii [] h = refl
small_ascii (b ∷ r) h =
    let both = and_parts (is_small b) (all_small r) h in
    let low : b < 123 = small_below b both.0 in
    ap (λ (t : Bool). t && all_ascii r) (lt-ltb b 128 (omega arith)) ∙ small_ascii r both.1

rest_ascii : (r : List ℕ) → IsRest r → all_ascii r ≡ true
rest_ascii [] h = absurd h
rest_ascii (b ∷ r) h = small_ascii (b ∷ r) h

pub ending_ascii : (o : Mode) (cs : List Container) → Lively o → all_ascii (ending o cs) ≡ true
ending_ascii value cs h = closers_ascii cs
ending_ascii value_or_close cs h = closers_ascii cs
ending_ascii key cs h = closers_ascii cs
ending_ascii key_or_close cs h = closers_ascii cs
ending_ascii colon cs h = closers_ascii cs
ending_ascii after_value cs h = closers_ascii cs
ending_ascii (word r) cs h = ascii_append r (closers cs) (rest_ascii r h) (closers_ascii cs)
ending_ascii (quoted k) cs h = string_ascii k cs
ending_ascii (escaped k e) cs h = escape_ascii e (behind_string k cs) (string_ascii k cs)
ending_ascii (number q) cs h = number_ascii q (closers cs) (closers_ascii cs)

pub ascii_taken : (bs : List ℕ) → all_ascii bs ≡ true → utf8_after (Some Between) bs ≡ Some Between
ascii_taken [] h = refl
ascii_taken (b ∷ bs) h =
    let both = and_parts (is_ascii b) (all_ascii bs) h in
    ap (λ (o : Option Utf8). utf8_after o bs) (cond-true (is_ascii b) (Some Between) _ both.0) ∙ ascii_taken bs both.1

-- ---- the rest of a character

abbrev pub char_end : Utf8 → List ℕ → List ℕ
char_end Between bs = bs
char_end OneMore bs = 128 ∷ bs
char_end TwoMore bs = 128 ∷ 128 ∷ bs
char_end AfterE0 bs = 160 ∷ 128 ∷ bs
char_end AfterEd bs = 128 ∷ 128 ∷ bs
char_end ThreeMore bs = 128 ∷ 128 ∷ 128 ∷ bs
char_end AfterF0 bs = 144 ∷ 128 ∷ 128 ∷ bs
char_end AfterF4 bs = 128 ∷ 128 ∷ 128 ∷ bs

pub char_taken : (u : Utf8) (bs : List ℕ) → utf8_after (Some u) (char_end u bs) ≡ utf8_after (Some Between) bs
char_taken Between bs = refl
char_taken OneMore bs = refl
char_taken TwoMore bs = refl
char_taken AfterE0 bs = refl
char_taken AfterEd bs = refl
char_taken ThreeMore bs = refl
char_taken AfterF0 bs = refl
char_taken AfterF4 bs = refl

pub char_in_string : (u : Utf8) (k : Bool) (cs : List Container) (bs : List ℕ) → Takes (quoted k) cs bs → Takes (quoted k) cs (char_end u bs)
char_in_string Between k cs bs h = h
char_in_string OneMore k cs bs h = h
char_in_string TwoMore k cs bs h = h
char_in_string AfterE0 k cs bs h = h
char_in_string AfterEd k cs bs h = h
char_in_string ThreeMore k cs bs h = h
char_in_string AfterF0 k cs bs h = h
char_in_string AfterF4 k cs bs h = h
