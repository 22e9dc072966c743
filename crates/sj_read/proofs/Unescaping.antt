-- A string with escapes, part by part.
use Rattle.std.proofs.Common.{◌≡◌, ◌≢◌, ℕ, suc, ◌+◌, ◌-◌, ◌<◌, ◌≤◌, List, [], ◌∷◌, ◌++◌, length, take, drop, get_or, Bool, false, ◌==◌, refl, sym, ap, ◌∙◌, subst, arith, inl, inr}
use Rattle.std.specs.List.{prefix_len}
use Rattle.std.specs.Char.{encode_utf8}
use Rattle.std.specs.Str.{IsUtf8, IsCharBoundary}
use Rattle.std.proofs.lemmas.List.{drop_all, take_all, append-nil, take-take, take-append-le, length-take, length-take-le}
use Rattle.std.proofs.lemmas.Str.{IsCharBoundary-before_ascii, IsCharBoundary-after_ascii, IsCharBoundary-end}
use Rattle.std.proofs.lemmas.Bool.{cases_lt}
use Rattle.std.proofs.lemmas.Bool.Decides.{nat_tests}
use Rattle.sj_base.specs.ByteClasses.{is_plain}
use Rattle.sj_json.specs.Building.{State}
use Rattle.sj_json.specs.Machine.{quoted, escaped, begun, end_quote, run}
use Rattle.sj_json.proofs.Complete.{run_plain_bytes}
use Rattle.sj_read.specs.Strings.{FindsString, NoString, FindsEscape, NoEscape}
use Rattle.sj_read.proofs.Steps.{goes, halts, cut, cond_no, ne_false}
use Rattle.sj_read.proofs.Scanned.{plain_run, no_plain}

-- a byte at which plain text stops is ASCII
stop_ascii : (b : ℕ) → is_plain b ≡ false → b < 128
stop_ascii b h = grind (arith, nat_tests)

-- what stands from the place on is read as what stands from the other place on, where the text so far is x
abbrev pub Reaches : List ℕ → ℕ → ℕ → List ℕ → Type 0
Reaches text from at x = (limit : ℕ) (k : Bool) (s : State) → run limit (quoted k []) s (drop from text) ≡ run limit (quoted k x) s (drop at text)

module _ (text : List ℕ) (from at end : ℕ) (within : at ≤ length text) (found : end ≡ at + prefix_len is_plain (drop at text)) where
  pub stop_boundary : end ≤ length text → IsCharBoundary text end
  stop_boundary small =
      elim (cases_lt end (length text)) as (λ _. IsCharBoundary text end) [
        | inl l ↦ IsCharBoundary-before_ascii text end l (stop_ascii (get_or text end 0) (no_plain text at end within found l))
        | inr g ↦ let last : length text ≡ end = omega (arith, small) in subst (IsCharBoundary text) last (IsCharBoundary-end text)
      ]

  pub passes : (x y : List ℕ) → Reaches text from at x → y ≡ x ++ take (end - at) (drop at text) → Reaches text from end y
  passes x y h e limit k s =
      h limit k s
      ∙ ap (run limit (quoted k x) s) (cut text at end (omega (arith, found)))
      ∙ run_plain_bytes limit k x (take (end - at) (drop at text)) (drop end text) s (plain_run text at end within found)
      ∙ ap (λ (z : List ℕ). run limit (quoted k z) s (drop end text)) (sym e)

module _ (text : List ℕ) (from end : ℕ) (x : List ℕ) (h : Reaches text from end x) where
  -- the text ends within the string
  pub string_cut : length text ≤ end → NoString text from
  unfolding run
  string_cut l limit k s = h limit k s ∙ ap (run limit (quoted k x) s) (drop_all end text l)

  module _ (l : end < length text) where
    pub string_closes : from ≤ end → get_or text end 0 ≡ 34 → FindsString text from end x
    string_closes later e = record { reads = λ limit k s. h limit k s ∙ goes limit (quoted k x) s text end 34 l e (end_quote k x s) refl; later = later; within = l; quote = e }

    begins : get_or text end 0 ≡ 92 → (limit : ℕ) (k : Bool) (s : State) → run limit (quoted k []) s (drop from text) ≡ run limit (escaped k x begun) s (drop (end + 1) text)
    begins e limit k s = h limit k s ∙ goes limit (quoted k x) s text end 92 l e (escaped k x begun, s) refl

    pub escape_passes : get_or text end 0 ≡ 92 → (c next : ℕ) → FindsEscape text (end + 1) c next → (y : List ℕ) → y ≡ x ++ encode_utf8 c → Reaches text from next y
    escape_passes e c next f y is limit k s = begins e limit k s ∙ f.reads limit k x s ∙ ap (λ (z : List ℕ). run limit (quoted k z) s (drop next text)) (sym is)

    pub bad_escape : get_or text end 0 ≡ 92 → NoEscape text (end + 1) → NoString text from
    bad_escape e f limit k s = begins e limit k s ∙ f limit k x s

    pub bad_byte : is_plain (get_or text end 0) ≡ false → get_or text end 0 ≢ 34 → get_or text end 0 ≢ 92 → NoString text from
    bad_byte p q r limit k s =
        let b = get_or text end 0 in
        h limit k s ∙ halts limit (quoted k x) s text end b l refl (cond_no (b == 34) _ _ (ne_false b 34 q) ∙ cond_no (is_plain b) _ _ p ∙ cond_no (b == 92) _ _ (ne_false b 92 r))

pub escape_boundary : (text : List ℕ) (from c next : ℕ) → IsUtf8 text → FindsEscape text from c next → IsCharBoundary text next
escape_boundary text from c next good f =
    let last : next - 1 + 1 ≡ next = omega (arith, f.later) in
    subst (IsCharBoundary text) last (IsCharBoundary-after_ascii text (next - 1) good (omega (arith, f.later, f.within)) f.ascii)

-- ---- the front of the buffer

take_over : (xs ys : List ℕ) (n : ℕ) → take (length xs + n) (xs ++ ys) ≡ xs ++ take n ys
take_over [] ys n = let e : 0 + n ≡ n = omega arith in ap (λ (k : ℕ). take k ys) e
take_over (x ∷ xs) ys n = let e : suc (length xs) + n ≡ suc (length xs + n) = omega arith in ap (λ (k : ℕ). take k (x ∷ (xs ++ ys))) e ∙ ap (λ (l : List ℕ). x ∷ l) (take_over xs ys n)

-- of what was written, the first n count
pub front_of : (out old run : List ℕ) (at k n : ℕ) → n ≤ k → at ≤ length old → take (at + k) out ≡ take at old ++ take k run → take (at + n) out ≡ take at old ++ take n run
front_of out old run at k n le within e =
    let long = length-take-le at old within in
    sym (take-take (at + n) (at + k) out (omega (arith, le))) ∙ ap (take (at + n)) e ∙ ap (λ (j : ℕ). take (j + n) (take at old ++ take k run)) (sym long)
    ∙ take_over (take at old) (take k run) n ∙ ap (λ (x : List ℕ). take at old ++ x) (take-take n k run le)

-- the front stays where the buffer grows
pub front_kept : (old more : List ℕ) (n m : ℕ) → n ≤ m → n ≤ length old → take n (take m old ++ more) ≡ take n old
front_kept old more n m le within =
    take-append-le n (take m old) more (omega (arith, le, within, length-take m old)) ∙ take-take n m old le

-- a slice of the whole buffer was written to
pub written_back : (n : ℕ) (new old : List ℕ) → n ≡ length old → length new ≡ length old → take n (new ++ drop (length new) old) ≡ new
written_back n new old e same =
    ap (λ (x : List ℕ). take n (new ++ x)) (drop_all (length new) old (omega (arith, same))) ∙ ap (take n) (append-nil new) ∙ take_all n new (omega (arith, e, same))
