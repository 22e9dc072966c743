-- What is kept from byte to byte, so that every place of a scan can be brought to the end of a text.
use Rattle.std.proofs.Common.{◌≡◌, ℕ, ◌<◌, ◌≤◌, List, [], ◌∷◌, length, Bool, true, false, cond, eqb, ltb, leb, Option, Some, None, IfSome, is_some, option_map, refl, sym, ap, ◌∙◌, subst, arith, ne_eqb, le-ltb}
use Rattle.std.specs.Char.{digit_value, is_digit, is_ascii_digit}
use Rattle.std.proofs.lemmas.Bool.{cond-false, and_parts, and_right, or_from, lt-leb}
use Rattle.sj_base.specs.ByteClasses.{is_plain, is_blank, letter_char}
use Rattle.sj_decimal.specs.Number.{is_number_byte, begins_number}
use Rattle.sj_scan.specs.declared.numeral.Numeral.{Numeral}
use Rattle.sj_scan.specs.declared.numeral.Numeral.TheVariants.{Nothing}
use Rattle.sj_scan.specs.declared.escape.Escape.{Escape}
use Rattle.sj_scan.specs.declared.escape.Escape.TheVariants.{Begun, First, FirstD, Rest3, Rest2, Rest1, High2, High1, High, Second, Low, LowD, Low2, Low1}
use Rattle.sj_scan.specs.declared.escape.Escaped.{Escaped}
use Rattle.sj_scan.specs.declared.escape.Escaped.TheVariants.{GoesOn, Ended}
use Rattle.sj_scan.specs.declared.mode.Container.{Container}
use Rattle.sj_scan.specs.declared.mode.Container.TheVariants.{Array, Object}
use Rattle.sj_scan.specs.Numerals.{numeral_step, may_end}
use Rattle.sj_scan.specs.Escapes.{hex_step, escape_step}
use Rattle.sj_scan.specs.Modes.{Mode, value, value_or_close, key, key_or_close, colon, after_value, word, quoted, escaped, number, Place, Advance, number_turn, start, open_turn, close_turn, separate, quote_turn, end_quote, after_escape, after_value_turn, word_turn, turn}
use Rattle.sj_scan.proofs.Endings.{is_small, all_small, small_below, IsRest, Lively}

abbrev IsLively : Place → Type 0
IsLively p = Lively p.0

either : (P : Place → Type 0) (x : Bool) (s t : Advance) → IfSome s P → IfSome t P → IfSome (cond x s t) P
either P true s t h k = h
either P false s t h k = k

numbers : (cs : List Container) (o : Option Numeral) → IfSome (number_turn cs o) IsLively
numbers cs None = tt
numbers cs (Some q) = tt

module _ (limit : ℕ) where
  opens : (c : Container) (cs : List Container) → IfSome (open_turn limit c cs) IsLively
  opens Array cs = either IsLively (ltb (length cs) limit) (Some (value_or_close, Array ∷ cs)) None tt tt
  opens Object cs = either IsLively (ltb (length cs) limit) (Some (key_or_close, Object ∷ cs)) None tt tt

  starts : (cs : List Container) (b : ℕ) → IfSome (start limit cs b) IsLively
  starts cs b =
      either IsLively (begins_number b) _ _ (numbers cs (numeral_step Nothing b))
      (either IsLively (eqb b 34) _ _ tt (either IsLively (eqb b 91) _ _ (opens Array cs) (either IsLively (eqb b 123) _ _ (opens Object cs)
      (either IsLively (eqb b 110) _ _ refl (either IsLively (eqb b 116) _ _ refl (either IsLively (eqb b 102) _ _ refl tt))))))

  closes : (cs : List Container) → IfSome (close_turn cs) IsLively
  closes [] = tt
  closes (c ∷ cs) = tt

  separates : (cs : List Container) (b : ℕ) → IfSome (separate cs b) IsLively
  separates [] b = tt
  separates (Array ∷ cs) b = either IsLively (eqb b 44) _ _ tt (either IsLively (eqb b 93) _ _ tt tt)
  separates (Object ∷ cs) b = either IsLively (eqb b 44) _ _ tt (either IsLively (eqb b 125) _ _ tt tt)

  quotes : (cs : List Container) (b : ℕ) → IfSome (quote_turn cs b) IsLively
  quotes cs b = either IsLively (eqb b 34) _ _ tt tt

  afters : (cs : List Container) (b : ℕ) → IfSome (after_value_turn cs b) IsLively
  afters cs b = either IsLively (is_blank b) _ _ tt (separates cs b)

  words : (r : List ℕ) (cs : List Container) (b : ℕ) → IsRest r → IfSome (word_turn r cs b) IsLively
  words [] cs b h = tt
  words (x ∷ []) cs b h = either IsLively (eqb b x) _ _ tt tt
  words (x ∷ y ∷ r) cs b h = either IsLively (eqb b x) _ _ (and_parts (is_small x) (all_small (y ∷ r)) h).1 tt

  ended_string : (k : Bool) (cs : List Container) → IsLively (end_quote k, cs)
  ended_string false cs = tt
  ended_string true cs = tt

  escapes : (k : Bool) (cs : List Container) (o : Option Escaped) → IfSome (option_map (λ (r : Escaped). (after_escape k r, cs)) o) IsLively
  escapes k cs None = tt
  escapes k cs (Some (GoesOn e)) = tt
  escapes k cs (Some Ended) = tt

  pub turn_lives : (o : Mode) (cs : List Container) (b : ℕ) → Lively o → IfSome (turn limit o cs b) IsLively
  turn_lives value cs b h = either IsLively (is_blank b) _ _ tt (starts cs b)
  turn_lives value_or_close cs b h = either IsLively (is_blank b) _ _ tt (either IsLively (eqb b 93) _ _ (closes cs) (starts cs b))
  turn_lives key cs b h = either IsLively (is_blank b) _ _ tt (quotes cs b)
  turn_lives key_or_close cs b h = either IsLively (is_blank b) _ _ tt (either IsLively (eqb b 125) _ _ (closes cs) (quotes cs b))
  turn_lives colon cs b h = either IsLively (is_blank b) _ _ tt (either IsLively (eqb b 58) _ _ tt tt)
  turn_lives after_value cs b h = afters cs b
  turn_lives (word r) cs b h = words r cs b h
  turn_lives (quoted k) cs b h = either IsLively (eqb b 34) _ _ (ended_string k cs) (either IsLively (is_plain b) _ _ tt (either IsLively (eqb b 92) _ _ tt tt))
  turn_lives (escaped k e) cs b h = escapes k cs (escape_step e b)
  turn_lives (number q) cs b h = either IsLively (is_number_byte b) _ _ (numbers cs (numeral_step q b)) (either IsLively (may_end q) _ _ (afters cs b) tt)

-- ---- a byte that is not ASCII stands in a string

abbrev pub InString : Mode → Type 0
InString o = (k : Bool) × (o ≡ quoted k)

abbrev IsInString : Place → Type 0
IsInString p = InString p.0

module _ (limit b : ℕ) (high : 128 ≤ b) where
  is_no : (n : ℕ) → n < 128 → eqb b n ≡ false
  is_no n h = ne_eqb b n (λ e. omega (arith, high, h, e))

  passes : (P : Place → Type 0) (x : Bool) (s t : Advance) → x ≡ false → IfSome t P → IfSome (cond x s t) P
  passes P x s t e h = subst (λ (o : Advance). IfSome o P) (sym (cond-false x s t e)) h

  no_blank : is_blank b ≡ false
  no_blank = or_from _ (eqb b 13) (or_from _ (eqb b 10) (or_from (eqb b 32) (eqb b 9) (is_no 32 (omega arith)) (is_no 9 (omega arith))) (is_no 10 (omega arith))) (is_no 13 (omega arith))

  no_digit : is_ascii_digit b ≡ false
  no_digit = and_right (leb 48 b) _ (lt-leb b 57 (omega (arith, high)))

  begins_none : begins_number b ≡ false
  begins_none = or_from (is_ascii_digit b) (eqb b 45) no_digit (is_no 45 (omega arith))

  no_number : is_number_byte b ≡ false
  no_number =
      or_from (is_ascii_digit b) _ no_digit (or_from (eqb b 43) _ (is_no 43 (omega arith)) (or_from (eqb b 45) _ (is_no 45 (omega arith)) (or_from (eqb b 46) _ (is_no 46 (omega arith)) (or_from (eqb b 69) (eqb b 101) (is_no 69 (omega arith)) (is_no 101 (omega arith))))))

  no_start : (cs : List Container) → IfSome (start limit cs b) IsInString
  no_start cs =
      passes IsInString (begins_number b) _ _ begins_none
      (passes IsInString (eqb b 34) _ _ (is_no 34 (omega arith)) (passes IsInString (eqb b 91) _ _ (is_no 91 (omega arith)) (passes IsInString (eqb b 123) _ _ (is_no 123 (omega arith))
      (passes IsInString (eqb b 110) _ _ (is_no 110 (omega arith)) (passes IsInString (eqb b 116) _ _ (is_no 116 (omega arith)) (passes IsInString (eqb b 102) _ None (is_no 102 (omega arith)) tt))))))

  no_separator : (cs : List Container) → IfSome (separate cs b) IsInString
  no_separator [] = tt
  no_separator (Array ∷ cs) = passes IsInString (eqb b 44) _ _ (is_no 44 (omega arith)) (passes IsInString (eqb b 93) _ None (is_no 93 (omega arith)) tt)
  no_separator (Object ∷ cs) = passes IsInString (eqb b 44) _ _ (is_no 44 (omega arith)) (passes IsInString (eqb b 125) _ None (is_no 125 (omega arith)) tt)

  no_after : (cs : List Container) → IfSome (after_value_turn cs b) IsInString
  no_after cs = passes IsInString (is_blank b) _ _ no_blank (no_separator cs)

  no_quote : (cs : List Container) → IfSome (quote_turn cs b) IsInString
  no_quote cs = passes IsInString (eqb b 34) _ None (is_no 34 (omega arith)) tt

  no_small : (x : ℕ) → is_small x ≡ true → eqb b x ≡ false
  no_small x h = let low : x < 123 = small_below x h in is_no x (omega arith)

  no_word : (r : List ℕ) (cs : List Container) → IsRest r → IfSome (word_turn r cs b) IsInString
  no_word [] cs h = tt
  no_word (x ∷ []) cs h = passes IsInString (eqb b x) _ None (no_small x (and_parts (is_small x) true h).0) tt
  no_word (x ∷ y ∷ r) cs h = passes IsInString (eqb b x) _ None (no_small x (and_parts (is_small x) (all_small (y ∷ r)) h).0) tt

  no_hex : is_digit b 16 ≡ false
  no_hex = ap (λ (v : ℕ). ltb v 16) value_is
    where
      value_is : digit_value b ≡ 36
      value_is =
          cond-false _ _ _ (le-ltb b 48 (omega (arith, high))) ∙ cond-false _ _ _ (le-ltb b 58 (omega (arith, high))) ∙ cond-false _ _ _ (le-ltb b 65 (omega (arith, high)))
          ∙ cond-false _ _ _ (le-ltb b 91 (omega (arith, high))) ∙ cond-false _ _ _ (le-ltb b 97 (omega (arith, high))) ∙ cond-false _ _ _ (le-ltb b 123 (omega (arith, high)))

  no_letter : letter_char b ≡ None
  no_letter =
      cond-false _ _ _ (is_no 34 (omega arith)) ∙ cond-false _ _ _ (is_no 92 (omega arith)) ∙ cond-false _ _ _ (is_no 47 (omega arith)) ∙ cond-false _ _ _ (is_no 98 (omega arith))
      ∙ cond-false _ _ _ (is_no 102 (omega arith)) ∙ cond-false _ _ _ (is_no 110 (omega arith)) ∙ cond-false _ _ _ (is_no 114 (omega arith)) ∙ cond-false _ _ _ (is_no 116 (omega arith))

  no_hex_step : (e : Escape) → hex_step e b ≡ None
  no_hex_step e = cond-false (is_digit b 16) _ _ no_hex

  no_escape : (e : Escape) → escape_step e b ≡ None
  no_escape Begun = cond-false (eqb b 117) _ _ (is_no 117 (omega arith)) ∙ ap (λ (o : Option ℕ). cond (is_some o) (Some Ended) None) no_letter
  no_escape High = cond-false (eqb b 92) _ _ (is_no 92 (omega arith))
  no_escape Second = cond-false (eqb b 117) _ _ (is_no 117 (omega arith))
  no_escape First = no_hex_step First
  no_escape FirstD = no_hex_step FirstD
  no_escape Rest3 = no_hex_step Rest3
  no_escape Rest2 = no_hex_step Rest2
  no_escape Rest1 = no_hex_step Rest1
  no_escape High2 = no_hex_step High2
  no_escape High1 = no_hex_step High1
  no_escape Low = no_hex_step Low
  no_escape LowD = no_hex_step LowD
  no_escape Low2 = no_hex_step Low2
  no_escape Low1 = no_hex_step Low1

  pub turn_in_string : (o : Mode) (cs : List Container) → Lively o → IfSome (turn limit o cs b) IsInString
  turn_in_string value cs h = passes IsInString (is_blank b) _ _ no_blank (no_start cs)
  turn_in_string value_or_close cs h = passes IsInString (is_blank b) _ _ no_blank (passes IsInString (eqb b 93) _ _ (is_no 93 (omega arith)) (no_start cs))
  turn_in_string key cs h = passes IsInString (is_blank b) _ _ no_blank (no_quote cs)
  turn_in_string key_or_close cs h = passes IsInString (is_blank b) _ _ no_blank (passes IsInString (eqb b 125) _ _ (is_no 125 (omega arith)) (no_quote cs))
  turn_in_string colon cs h = passes IsInString (is_blank b) _ _ no_blank (passes IsInString (eqb b 58) _ None (is_no 58 (omega arith)) tt)
  turn_in_string after_value cs h = no_after cs
  turn_in_string (word r) cs h = no_word r cs h
  turn_in_string (quoted k) cs h =
      passes IsInString (eqb b 34) _ _ (is_no 34 (omega arith))
      (either IsInString (is_plain b) (Some (quoted k, cs)) _ (k, refl) (passes IsInString (eqb b 92) _ None (is_no 92 (omega arith)) tt))
  turn_in_string (escaped k e) cs h = subst (λ (o : Option Escaped). IfSome (option_map (λ (r : Escaped). (after_escape k r, cs)) o) IsInString) (sym (no_escape e)) tt
  turn_in_string (number q) cs h = passes IsInString (is_number_byte b) _ _ no_number (either IsInString (may_end q) _ None (no_after cs) tt)
