-- The line feeds behind a line change nothing.
use Rattle.std.proofs.Common.{◌≡◌, ◌≢◌, ℕ, zero, suc, ◌+◌, ◌-◌, ◌≤◌, List, [], ◌∷◌, ◌++◌, length, drop, replicate, Bool, true, false, cond, Option, Some, None, option_map, option_and_then, refl, sym, ap, ◌∙◌, arith, append_assoc, length-append, ◌==◌, nat_lt}
use Rattle.std.specs.List.{AllByRecursion}
use Rattle.std.proofs.lemmas.List.{append-nil, length-replicate}
use Rattle.std.proofs.Math.Seq.{drop-append-add}
use Rattle.sj_base.specs.ByteClasses.{is_blank, is_plain}
use Rattle.sj_decimal.specs.Number.{begins_number, is_number_byte}
use Rattle.sj_json.specs.Tree.{Tree}
use Rattle.sj_json.specs.Building.{top, elements, pairs, State, with_value, fresh}
use Rattle.sj_json.specs.Machine.{Mode, value, value_or_close, key, key_or_close, colon, after_value, letters, quoted, escaped, digits, begun, unit, high, second, EscapeStep, wait, char, Advance, open_turn, start, separate, after_step, escape_step, unless_blank, turn, ending, end_number, end_quote, root, run, reading}
use Rattle.sj_doc.specs.Builders.{feeds_behind, held}
use Rattle.sj_read.specs.declared.reader.Mode as coded
use Rattle.sj_json.proofs.Complete.{run_step}
use Rattle.sj_read.specs.Turns.{mode_of}
use Rattle.sj_read.proofs.Steps.{blank_turn, ne_false}

-- the rest of a word has no line feed
abbrev Fine : Mode → Type 0
Fine (letters r t) = AllByRecursion (λ x. x ≢ 10) r
Fine _ = Unit {0}

abbrev FineAdvance : Advance → Type 0
FineAdvance None = Unit {0}
FineAdvance (Some p) = Fine p.0

either : (b : Bool) (x y : Advance) → FineAdvance x → FineAdvance y → FineAdvance (cond b x y)
either true x y h k = h
either false x y h k = k

fine_open : (limit : ℕ) (kind : Bool) (s : State) → FineAdvance (open_turn limit kind s)
fine_open limit false s = either (nat_lt (length s.1) limit) _ _ tt tt
fine_open limit true s = either (nat_lt (length s.1) limit) _ _ tt tt

fine_start : (limit : ℕ) (s : State) (b : ℕ) → FineAdvance (start limit s b)
fine_start limit s b =
    either (begins_number b) _ _ tt (either (b == 34) _ _ tt (either (b == 91) _ _ (fine_open limit false s) (either (b == 123) _ _ (fine_open limit true s)
    (either (b == 110) _ _ (λ e. cc, (λ e. cc, (λ e. cc, tt))) (either (b == 116) _ _ (λ e. cc, (λ e. cc, (λ e. cc, tt))) (either (b == 102) _ _ (λ e. cc, (λ e. cc, (λ e. cc, (λ e. cc, tt)))) tt))))))

fine_separate : (s : State) (b : ℕ) → FineAdvance (separate s b)
fine_separate (top o, qs) b = tt
fine_separate (elements ts, qs) b = either (b == 44) _ _ tt (either (b == 93) _ _ tt tt)
fine_separate (pairs ms k, qs) b = either (b == 44) _ _ tt (either (b == 125) _ _ tt tt)

fine_number : (o : Option State) (b : ℕ) → FineAdvance (option_and_then (λ (t : State). unless_blank b after_value t (separate t b)) o)
fine_number None b = tt
fine_number (Some t) b = either (is_blank b) _ _ tt (fine_separate t b)

fine_quote : (k : Bool) (x : List ℕ) (s : State) → Fine (end_quote k x s).0
fine_quote false x s = tt
fine_quote true x s = tt

fine_escape : (k : Bool) (x : List ℕ) (s : State) (o : Option EscapeStep) → FineAdvance (option_map (after_step k x s) o)
fine_escape k x s None = tt
fine_escape k x s (Some (wait e)) = tt
fine_escape k x s (Some (char c)) = tt

fine_turn : (limit : ℕ) (m : Mode) (s : State) (b : ℕ) → Fine m → FineAdvance (turn limit m s b)
fine_turn limit value s b h = either (is_blank b) _ _ tt (fine_start limit s b)
fine_turn limit value_or_close s b h = either (is_blank b) _ _ tt (either (b == 93) _ _ tt (fine_start limit s b))
fine_turn limit key s b h = either (is_blank b) _ _ tt (either (b == 34) _ _ tt tt)
fine_turn limit key_or_close s b h = either (is_blank b) _ _ tt (either (b == 125) _ _ tt (either (b == 34) _ _ tt tt))
fine_turn limit colon s b h = either (is_blank b) _ _ tt (either (b == 58) _ _ tt tt)
fine_turn limit after_value s b h = either (is_blank b) _ _ tt (fine_separate s b)
fine_turn limit (digits a) s b h = either (is_number_byte b) _ _ tt (fine_number (end_number a s) b)
fine_turn limit (letters [] t) s b h = tt
fine_turn limit (letters (x ∷ []) t) s b h = either (b == x) _ _ tt tt
fine_turn limit (letters (x ∷ y ∷ r) t) s b h = either (b == x) _ _ h.1 tt
fine_turn limit (quoted k x) s b h = either (b == 34) _ _ (fine_quote k x s) (either (is_plain b) _ _ tt (either (b == 92) _ _ tt tt))
fine_turn limit (escaped k x e) s b h = fine_escape k x s (escape_step e b)

number_end : (limit : ℕ) (o : Option State) → option_and_then (λ (p : Mode × State). run limit p.0 p.1 []) (option_and_then (λ (t : State). unless_blank 10 after_value t (separate t 10)) o) ≡ option_and_then root o
unfolding run
number_end limit None = refl
number_end limit (Some t) = refl

-- a line feed at the end
feed_end : (limit : ℕ) (m : Mode) (s : State) → Fine m → run limit m s (10 ∷ []) ≡ ending m s
unfolding run
feed_end limit value s h = refl
feed_end limit value_or_close s h = refl
feed_end limit key s h = refl
feed_end limit key_or_close s h = refl
feed_end limit colon s h = refl
feed_end limit after_value s h = refl
feed_end limit (digits a) s h = number_end limit (end_number a s)
feed_end limit (letters [] t) s h = refl
feed_end limit (letters (x ∷ []) t) s h = ap (λ (b : Bool). option_and_then (λ (p : Mode × State). run limit p.0 p.1 []) (cond b (Some (after_value, with_value t s)) None)) (ne_false 10 x (λ e. h.0 (sym e)))
feed_end limit (letters (x ∷ y ∷ r) t) s h = ap (λ (b : Bool). option_and_then (λ (p : Mode × State). run limit p.0 p.1 []) (cond b (Some (letters (y ∷ r) t, s)) None)) (ne_false 10 x (λ e. h.0 (sym e)))
feed_end limit (quoted k x) s h = refl
feed_end limit (escaped k x begun) s h = refl
feed_end limit (escaped k x (unit o n v)) s h = refl
feed_end limit (escaped k x (high u)) s h = refl
feed_end limit (escaped k x (second u)) s h = refl

by_turn : (K L : Mode × State → Option Tree) → ((p : Mode × State) → Fine p.0 → K p ≡ L p) → (a : Advance) → FineAdvance a → option_and_then K a ≡ option_and_then L a
by_turn K L h None f = refl
by_turn K L h (Some p) f = h p f

fed : (limit : ℕ) (m : Mode) (s : State) → Fine m → (bs : List ℕ) → run limit m s (bs ++ 10 ∷ []) ≡ run limit m s bs
unfolding run
fed limit m s fine [] = feed_end limit m s fine
fed limit m s fine (b ∷ bs) =
    by_turn (λ p. run limit p.0 p.1 (bs ++ 10 ∷ [])) (λ p. run limit p.0 p.1 bs) (λ p f. fed limit p.0 p.1 f bs) (turn limit m s b) (fine_turn limit m s b fine)

fed_often : (limit : ℕ) (n : ℕ) (line : List ℕ) → reading limit (line ++ replicate n 10) ≡ reading limit line
fed_often limit zero line = ap (reading limit) (append-nil line)
fed_often limit (suc n) line = ap (reading limit) (sym (append_assoc line (10 ∷ []) (replicate n 10))) ∙ fed_often limit n (line ++ 10 ∷ []) ∙ fed limit value fresh tt line

-- a line is read as it is held
pub held_reading : (limit : ℕ) (line : List ℕ) → reading limit (held line) ≡ reading limit line
held_reading limit line = fed_often limit feeds_behind line

pub held_length : (line : List ℕ) → length (held line) ≡ length line + feeds_behind
held_length line = length-append line (replicate feeds_behind 10) ∙ ap (λ (n : ℕ). length line + n) (length-replicate {A = ℕ} feeds_behind 10)

-- ---- behind a line

abbrev AreFeeds : List ℕ → Type 0
AreFeeds bs = AllByRecursion (λ x. x ≡ 10) bs

are_feeds : (n : ℕ) → AreFeeds (replicate n 10)
are_feeds zero = tt
are_feeds (suc n) = (refl, are_feeds n)

fewer_feeds : (n : ℕ) (bs : List ℕ) → AreFeeds bs → AreFeeds (drop n bs)
fewer_feeds zero bs h = h
fewer_feeds (suc n) [] h = h
fewer_feeds (suc n) (b ∷ bs) h = fewer_feeds n bs h.1

feeds_alone : (limit : ℕ) (m : coded.Mode) (s : State) (bs : List ℕ) → AreFeeds bs → run limit (mode_of m) s bs ≡ ending (mode_of m) s
unfolding run
feeds_alone limit m s [] h = refl
feeds_alone limit m s (b ∷ bs) h = run_step limit (mode_of m) s b bs (mode_of m, s) (blank_turn limit m s b (ap is_blank h.0)) ∙ feeds_alone limit m s bs h.1

-- behind a line nothing comes
pub behind_line : (limit : ℕ) (m : coded.Mode) (s : State) (line : List ℕ) (at : ℕ) → length line ≤ at → run limit (mode_of m) s (drop at (held line)) ≡ ending (mode_of m) s
behind_line limit m s line at far =
    let k : ℕ = at - length line in
    let place : at ≡ length line + k = omega (arith, far) in
    ap (λ (i : ℕ). run limit (mode_of m) s (drop i (held line))) place ∙ ap (run limit (mode_of m) s) (drop-append-add line (replicate feeds_behind 10) k)
    ∙ feeds_alone limit m s (drop k (replicate feeds_behind 10)) (fewer_feeds k (replicate feeds_behind 10) (are_feeds feeds_behind))
