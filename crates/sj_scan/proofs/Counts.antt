-- The open containers of a scan are as many as the brackets outside strings say.
use Rattle.std.proofs.Common.{◌≡◌, ℕ, ◌+◌, ◌-◌, List, [], ◌∷◌, length, Bool, true, false, cond, ◌||◌, eqb, ltb, Option, Some, None, IfSome, is_some, option_map, refl, sym, ap, ◌∙◌, subst, arith, eqb-true}
use Rattle.std.specs.Char.{digit_value, is_digit}
use Rattle.std.proofs.lemmas.Bool.{cond-false, or_from, and_parts}
use Rattle.sj_base.specs.ByteClasses.{is_plain, is_blank, letter_char}
use Rattle.sj_decimal.specs.Number.{is_number_byte, begins_number}
use Rattle.sj_json.proofs.Complete.{differs}
use Rattle.sj_scan.specs.declared.numeral.Numeral.{Numeral}
use Rattle.sj_scan.specs.declared.numeral.Numeral.TheVariants.{Nothing}
use Rattle.sj_scan.specs.declared.escape.Escape.{Escape}
use Rattle.sj_scan.specs.declared.escape.Escape.TheVariants.{Begun, First, FirstD, Rest3, Rest2, Rest1, High2, High1, High, Second, Low, LowD, Low2, Low1}
use Rattle.sj_scan.specs.declared.escape.Escaped.{Escaped}
use Rattle.sj_scan.specs.declared.escape.Escaped.TheVariants.{GoesOn, Ended}
use Rattle.sj_scan.specs.declared.mode.Container.{Container}
use Rattle.sj_scan.specs.declared.mode.Container.TheVariants.{Array, Object}
use Rattle.sj_scan.specs.Numerals.{numeral_step, may_end}
use Rattle.sj_scan.specs.Escapes.{digit_step, hex_step, escape_step}
use Rattle.sj_scan.specs.Modes.{Mode, value, value_or_close, key, key_or_close, colon, after_value, word, quoted, escaped, number, Place, Advance, number_turn, start, open_turn, close_turn, separate, quote_turn, end_quote, after_escape, after_value_turn, word_turn, turn}
use Rattle.sj_scan.specs.Opened.{Quoting, outside, inside, behind_backslash, quoting_step, count_step}
use Rattle.sj_scan.proofs.Endings.{is_small, all_small, IsRest, Lively}

abbrev quoting_in : Escape → Quoting
quoting_in Begun = behind_backslash
quoting_in First = inside
quoting_in FirstD = inside
quoting_in Rest3 = inside
quoting_in Rest2 = inside
quoting_in Rest1 = inside
quoting_in High2 = inside
quoting_in High1 = inside
quoting_in High = inside
quoting_in Second = behind_backslash
quoting_in Low = inside
quoting_in LowD = inside
quoting_in Low2 = inside
quoting_in Low1 = inside

abbrev pub quoting_of : Mode → Quoting
quoting_of value = outside
quoting_of value_or_close = outside
quoting_of key = outside
quoting_of key_or_close = outside
quoting_of colon = outside
quoting_of after_value = outside
quoting_of (word r) = outside
quoting_of (quoted k) = inside
quoting_of (escaped k e) = quoting_in e
quoting_of (number q) = outside

-- behind the byte b, where n containers were open
abbrev pub Counted : Quoting → ℕ → ℕ → Place → Type 0
Counted q n b p = (quoting_of p.0 ≡ quoting_step q b) × (length p.1 ≡ count_step q n b)

by_test : (P : Place → Type 0) (x : Bool) (s t : Advance) → (x ≡ true → IfSome s P) → (x ≡ false → IfSome t P) → IfSome (cond x s t) P
by_test P true s t f g = f refl
by_test P false s t f g = g refl

-- a byte that is this one
exact : (P : ℕ → Type 0) (b k : ℕ) → eqb b k ≡ true → P k → P b
exact P b k e p = subst P (sym (eqb-true b k e)) p

-- a byte outside strings that is no quotation mark and no bracket
record Plain (b : ℕ) : Type 0 where
  quote : eqb b 34 ≡ false
  opening : (eqb b 91 || eqb b 123) ≡ false
  closing : (eqb b 93 || eqb b 125) ≡ false

plain : (P : ℕ → Bool) (b : ℕ) → P b ≡ true → P 34 ≡ false → P 91 ≡ false → P 123 ≡ false → P 93 ≡ false → P 125 ≡ false → Plain b
plain P b h quote array object end_array end_object =
    record {
      quote = differs P b 34 h quote;
      opening = or_from (eqb b 91) (eqb b 123) (differs P b 91 h array) (differs P b 123 h object);
      closing = or_from (eqb b 93) (eqb b 125) (differs P b 93 h end_array) (differs P b 125 h end_object);
    }

same : (o : Mode) (cs : List Container) (b : ℕ) → outside ≡ quoting_of o → Plain b → Counted outside (length cs) b (o, cs)
same o cs b e h =
    (sym (cond-false (eqb b 34) inside outside h.quote ∙ e), sym (cond-false (eqb b 91 || eqb b 123) (length cs + 1) _ h.opening ∙ cond-false (eqb b 93 || eqb b 125) (length cs - 1) (length cs) h.closing))

blank_is : (b : ℕ) → is_blank b ≡ true → Plain b
blank_is b h = plain is_blank b h refl refl refl refl refl

numbers : (cs : List Container) (b : ℕ) (o : Option Numeral) → Plain b → IfSome (number_turn cs o) (Counted outside (length cs) b)
numbers cs b None h = tt
numbers cs b (Some q) h = same (number q) cs b refl h

module _ (limit : ℕ) where
  opens : (c : Container) (cs : List Container) → IfSome (open_turn limit c cs) (λ p. (quoting_of p.0 ≡ outside) × (length p.1 ≡ length cs + 1))
  opens Array cs = by_test _ (ltb (length cs) limit) (Some (value_or_close, Array ∷ cs)) None (λ _. (refl, omega arith)) (λ _. tt)
  opens Object cs = by_test _ (ltb (length cs) limit) (Some (key_or_close, Object ∷ cs)) None (λ _. (refl, omega arith)) (λ _. tt)

  starts : (cs : List Container) (b : ℕ) → IfSome (start limit cs b) (Counted outside (length cs) b)
  starts cs b =
      by_test _ (begins_number b) _ _ (λ h. numbers cs b (numeral_step Nothing b) (plain begins_number b h refl refl refl refl refl))
      (λ _. by_test _ (eqb b 34) _ _ (λ e. exact (λ x. Counted outside (length cs) x (quoted false, cs)) b 34 e (refl, refl))
      (λ _. by_test _ (eqb b 91) _ _ (λ e. exact (λ x. IfSome (open_turn limit Array cs) (Counted outside (length cs) x)) b 91 e (opens Array cs))
      (λ _. by_test _ (eqb b 123) _ _ (λ e. exact (λ x. IfSome (open_turn limit Object cs) (Counted outside (length cs) x)) b 123 e (opens Object cs))
      (λ _. by_test _ (eqb b 110) _ _ (λ e. exact (λ x. Counted outside (length cs) x (value, cs)) b 110 e (refl, refl))
      (λ _. by_test _ (eqb b 116) _ _ (λ e. exact (λ x. Counted outside (length cs) x (value, cs)) b 116 e (refl, refl))
      (λ _. by_test _ (eqb b 102) _ None (λ e. exact (λ x. Counted outside (length cs) x (value, cs)) b 102 e (refl, refl)) (λ _. tt)))))))

  closed : (c : Container) (cs : List Container) (b k : ℕ) → eqb b k ≡ true → Counted outside (length (c ∷ cs)) k (after_value, cs) → Counted outside (length (c ∷ cs)) b (after_value, cs)
  closed c cs b k e h = exact (λ x. Counted outside (length (c ∷ cs)) x (after_value, cs)) b k e h

  closes : (cs : List Container) (b k : ℕ) → eqb b k ≡ true → ((c : Container) (ds : List Container) → Counted outside (length (c ∷ ds)) k (after_value, ds)) → IfSome (close_turn cs) (Counted outside (length cs) b)
  closes [] b k e h = tt
  closes (c ∷ cs) b k e h = closed c cs b k e (h c cs)

  ends_array : (c : Container) (cs : List Container) → Counted outside (length (c ∷ cs)) 93 (after_value, cs)
  ends_array c cs = (refl, omega arith)

  ends_object : (c : Container) (cs : List Container) → Counted outside (length (c ∷ cs)) 125 (after_value, cs)
  ends_object c cs = (refl, omega arith)

  separates : (cs : List Container) (b : ℕ) → IfSome (separate cs b) (Counted outside (length cs) b)
  separates [] b = tt
  separates (Array ∷ cs) b =
      by_test _ (eqb b 44) _ _ (λ e. exact (λ x. Counted outside (length (Array ∷ cs)) x (value, Array ∷ cs)) b 44 e (refl, refl))
      (λ _. by_test _ (eqb b 93) _ None (λ e. closed Array cs b 93 e (ends_array Array cs)) (λ _. tt))
  separates (Object ∷ cs) b =
      by_test _ (eqb b 44) _ _ (λ e. exact (λ x. Counted outside (length (Object ∷ cs)) x (key, Object ∷ cs)) b 44 e (refl, refl))
      (λ _. by_test _ (eqb b 125) _ None (λ e. closed Object cs b 125 e (ends_object Object cs)) (λ _. tt))

  quotes : (cs : List Container) (b : ℕ) → IfSome (quote_turn cs b) (Counted outside (length cs) b)
  quotes cs b = by_test _ (eqb b 34) _ None (λ e. exact (λ x. Counted outside (length cs) x (quoted true, cs)) b 34 e (refl, refl)) (λ _. tt)

  afters : (cs : List Container) (b : ℕ) → IfSome (after_value_turn cs b) (Counted outside (length cs) b)
  afters cs b = by_test _ (is_blank b) _ _ (λ h. same after_value cs b refl (blank_is b h)) (λ _. separates cs b)

  small_is : (b x : ℕ) → eqb b x ≡ true → is_small x ≡ true → Plain b
  small_is b x e h = plain is_small b (ap is_small (eqb-true b x e) ∙ h) refl refl refl refl refl

  words : (r : List ℕ) (cs : List Container) (b : ℕ) → IsRest r → IfSome (word_turn r cs b) (Counted outside (length cs) b)
  words [] cs b h = tt
  words (x ∷ []) cs b h = by_test _ (eqb b x) _ None (λ e. same after_value cs b refl (small_is b x e (and_parts (is_small x) true h).0)) (λ _. tt)
  words (x ∷ y ∷ r) cs b h = by_test _ (eqb b x) _ None (λ e. same (word (y ∷ r)) cs b refl (small_is b x e (and_parts (is_small x) (all_small (y ∷ r)) h).0)) (λ _. tt)

  string_ends : (k : Bool) (cs : List Container) → Counted inside (length cs) 34 (end_quote k, cs)
  string_ends false cs = (refl, refl)
  string_ends true cs = (refl, refl)

  -- escapes

  abbrev Within : Quoting → Escaped → Type 0
  Within q (GoesOn e) = quoting_in e ≡ q
  Within q Ended = inside ≡ q

  if_within : (q : Quoting) (x : Bool) (s t : Option Escaped) → IfSome s (Within q) → IfSome t (Within q) → IfSome (cond x s t) (Within q)
  if_within q true s t h k = h
  if_within q false s t h k = k

  digits : (e : Escape) (d : ℕ) → IfSome (digit_step e d) (Within inside)
  digits Begun d = tt
  digits First d = if_within inside (eqb d 13) (Some (GoesOn FirstD)) (Some (GoesOn Rest3)) refl refl
  digits FirstD d = if_within inside (ltb d 8) (Some (GoesOn Rest2)) _ refl (if_within inside (ltb d 12) (Some (GoesOn High2)) None refl tt)
  digits Rest3 d = refl
  digits Rest2 d = refl
  digits Rest1 d = refl
  digits High2 d = refl
  digits High1 d = refl
  digits High d = tt
  digits Second d = tt
  digits Low d = if_within inside (eqb d 13) (Some (GoesOn LowD)) None refl tt
  digits LowD d = if_within inside (ltb d 12) None (Some (GoesOn Low2)) tt refl
  digits Low2 d = refl
  digits Low1 d = refl

  by_hex : (x : Bool) (q : Quoting) (o : Option Escaped) → (x ≡ true → inside ≡ q) → IfSome o (Within inside) → IfSome (cond x o None) (Within q)
  by_hex true q o f h = subst (λ (r : Quoting). IfSome o (Within r)) (f refl) h
  by_hex false q o f h = tt

  hexes : (e : Escape) (b : ℕ) → IfSome (hex_step e b) (Within (quoting_step inside b))
  hexes e b =
      by_hex (is_digit b 16) (quoting_step inside b) (digit_step e (digit_value b))
      (λ h. sym (cond-false (eqb b 34) _ _ (differs (λ (c : ℕ). is_digit c 16) b 34 h refl) ∙ cond-false (eqb b 92) _ _ (differs (λ (c : ℕ). is_digit c 16) b 92 h refl)))
      (digits e (digit_value b))

  by_escape : (q : Quoting) (x : Bool) (s t : Option Escaped) → (x ≡ true → IfSome s (Within q)) → IfSome t (Within q) → IfSome (cond x s t) (Within q)
  by_escape q true s t h k = h refl
  by_escape q false s t h k = k

  escapes : (e : Escape) (b : ℕ) → IfSome (escape_step e b) (Within (quoting_step (quoting_in e) b))
  escapes Begun b = if_within inside (eqb b 117) (Some (GoesOn First)) _ refl (if_within inside (is_some (letter_char b)) (Some Ended) None refl tt)
  escapes High b = by_escape (quoting_step inside b) (eqb b 92) (Some (GoesOn Second)) None (λ e. exact (λ x. behind_backslash ≡ quoting_step inside x) b 92 e refl) tt
  escapes Second b = if_within inside (eqb b 117) (Some (GoesOn Low)) None refl tt
  escapes First b = hexes First b
  escapes FirstD b = hexes FirstD b
  escapes Rest3 b = hexes Rest3 b
  escapes Rest2 b = hexes Rest2 b
  escapes Rest1 b = hexes Rest1 b
  escapes High2 b = hexes High2 b
  escapes High1 b = hexes High1 b
  escapes Low b = hexes Low b
  escapes LowD b = hexes LowD b
  escapes Low2 b = hexes Low2 b
  escapes Low1 b = hexes Low1 b

  not_counted : (e : Escape) (n b : ℕ) → count_step (quoting_in e) n b ≡ n
  not_counted Begun n b = refl
  not_counted First n b = refl
  not_counted FirstD n b = refl
  not_counted Rest3 n b = refl
  not_counted Rest2 n b = refl
  not_counted Rest1 n b = refl
  not_counted High2 n b = refl
  not_counted High1 n b = refl
  not_counted High n b = refl
  not_counted Second n b = refl
  not_counted Low n b = refl
  not_counted LowD n b = refl
  not_counted Low2 n b = refl
  not_counted Low1 n b = refl

  escaped_counts : (k : Bool) (e : Escape) (cs : List Container) (b : ℕ) (o : Option Escaped) → IfSome o (Within (quoting_step (quoting_in e) b))
      → IfSome (option_map (λ (r : Escaped). (after_escape k r, cs)) o) (Counted (quoting_in e) (length cs) b)
  escaped_counts k e cs b None h = tt
  escaped_counts k e cs b (Some (GoesOn n)) h = (h, sym (not_counted e (length cs) b))
  escaped_counts k e cs b (Some Ended) h = (h, sym (not_counted e (length cs) b))

  pub turn_counts : (o : Mode) (cs : List Container) (b : ℕ) → Lively o → IfSome (turn limit o cs b) (Counted (quoting_of o) (length cs) b)
  turn_counts value cs b h = by_test _ (is_blank b) _ _ (λ e. same value cs b refl (blank_is b e)) (λ _. starts cs b)
  turn_counts value_or_close cs b h =
      by_test _ (is_blank b) _ _ (λ e. same value_or_close cs b refl (blank_is b e)) (λ _. by_test _ (eqb b 93) _ _ (λ e. closes cs b 93 e ends_array) (λ _. starts cs b))
  turn_counts key cs b h = by_test _ (is_blank b) _ _ (λ e. same key cs b refl (blank_is b e)) (λ _. quotes cs b)
  turn_counts key_or_close cs b h =
      by_test _ (is_blank b) _ _ (λ e. same key_or_close cs b refl (blank_is b e)) (λ _. by_test _ (eqb b 125) _ _ (λ e. closes cs b 125 e ends_object) (λ _. quotes cs b))
  turn_counts colon cs b h =
      by_test _ (is_blank b) _ _ (λ e. same colon cs b refl (blank_is b e))
      (λ _. by_test _ (eqb b 58) _ None (λ e. exact (λ x. Counted outside (length cs) x (value, cs)) b 58 e (refl, refl)) (λ _. tt))
  turn_counts after_value cs b h = afters cs b
  turn_counts (word r) cs b h = words r cs b h
  turn_counts (quoted k) cs b h =
      by_test _ (eqb b 34) _ _ (λ e. exact (λ x. Counted inside (length cs) x (end_quote k, cs)) b 34 e (string_ends k cs))
      (λ n. by_test _ (is_plain b) _ _ (λ p. (sym (cond-false (eqb b 34) _ _ n ∙ cond-false (eqb b 92) _ _ (differs is_plain b 92 p refl)), refl))
      (λ _. by_test _ (eqb b 92) _ None (λ e. exact (λ x. Counted inside (length cs) x (escaped k Begun, cs)) b 92 e (refl, refl)) (λ _. tt)))
  turn_counts (escaped k e) cs b h = escaped_counts k e cs b (escape_step e b) (escapes e b)
  turn_counts (number q) cs b h =
      by_test _ (is_number_byte b) _ _ (λ e. numbers cs b (numeral_step q b) (plain is_number_byte b e refl refl refl refl refl)) (λ _. by_test _ (may_end q) _ None (λ _. afters cs b) (λ _. tt))
