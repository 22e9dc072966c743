-- A splitter goes on standing for the bytes that it was fed.
use Rattle.std.proofs.Common.{◌≡◌, ℕ, zero, suc, ◌+◌, ◌≤◌, List, [], ◌∷◌, ◌++◌, length, take, drop, map, min, Bool, refl, sym, ◌∙◌, ap, arith, length-append, add-one, Option, inl, inr}
use Rattle.std.proofs.lemmas.List.{map-append, drop-append-le, drop-drop, drop_all}
use Rattle.std.proofs.lemmas.Bool.Decides.{leb_tells}
use Rattle.sj_rows.specs.Lines.{whole_lines, open_part, lines, last_line, seen}
use Rattle.sj_rows.specs.HeldLines.{HeldLines, StandsFor, StandsAtEnd, GoesOnStanding, gives, at_end, closing, held_of, lines_left, part_left}
use Rattle.sj_rows.proofs.Splits.{seen_cases, First}

behind_first : List (Option (List ℕ)) → List (Option (List ℕ))
behind_first [] = []
behind_first (x ∷ xs) = xs

-- the first of the lines that were not given is given
first_given : (ls : List (List ℕ)) (g : ℕ) (line : Option (List ℕ)) (rest : List (Option (List ℕ))) → g ≤ length ls → line ∷ rest ≡ map seen (drop g ls) →
    (suc g ≤ length ls) × (rest ≡ map seen (drop (suc g) ls))
unfolding behind_first
first_given [] zero line rest within is = absurd (cc is)
first_given (x ∷ ls) zero line rest within is = (omega arith, ap behind_first is)
first_given [] (suc g) line rest within is = absurd (omega (arith, within))
first_given (x ∷ ls) (suc g) line rest within is = let below = first_given ls g line rest (omega (arith, within)) is in (omega (arith, below.0), below.1)

drop_min : (xs : List ℕ) (m k : ℕ) → m ≡ min (length xs) k → drop m xs ≡ drop k xs
drop_min xs m k is = elim (leb_tells k (length xs)) [
  | inl p ↦ (let same : m ≡ k = omega (arith, is, p.1) in ap (λ (i : ℕ). drop i xs) same)
  | inr p ↦ drop_all m xs (omega (arith, is, p.1)) ∙ sym (drop_all k xs (omega (arith, p.1)))
]

-- what is left behind the first line and its LF, seen from the start of all bytes
pub gives_first : (held : HeldLines) (ended : Bool) (items : List ℕ) (start n m given fed : ℕ) (line : Option (List ℕ)) → held_of ended (drop start items) given fed ≡ held →
    First ended (drop start items) n → m ≡ min (length items) (start + n + 1) → line ≡ seen (take n (drop start items)) → gives held line (held_of ended (drop m items) (given + 1) fed)
gives_first held ended items start n m given fed line is first at seen_is =
    let same : drop (n + 1) (drop start items) ≡ drop m items =
    drop-drop (n + 1) start items ∙ ap (λ (i : ℕ). drop i items) (omega arith) ∙ sym (drop_min items m (start + n + 1) at) in
    rw (← is) (
      ap (map seen) first.1 ∙ ap (λ (l : Option (List ℕ)). l ∷ map seen (lines_left ended (drop (n + 1) (drop start items)))) (sym seen_is) ∙ ap (λ (b : List ℕ). line ∷ map seen (lines_left ended b)) same,
      ap (part_left ended) (sym same) ∙ sym first.2,
      refl,
      refl,
      refl,
    )

pub goes_on_standing : (old new : HeldLines) (line : Option (List ℕ)) → gives old line new → GoesOnStanding old new
goes_on_standing old new line (first, rest, given, fed, ended) =
    let count : new.given ≡ suc old.given = given ∙ add-one old.given in
    record {
      stands = λ bytes s.
          let f = first_given (whole_lines bytes) old.given line new.waiting s.enough (sym first ∙ s.waiting) in record {
            enough = rw count f.0;
            waiting = rw count f.1;
            rest = rest ∙ s.rest;
            fed = fed ∙ s.fed;
          };
      at_end = λ bytes s.
          let f = first_given (lines bytes) old.given line new.waiting s.enough (sym first ∙ s.waiting) in record {
            enough = rw count f.0;
            waiting = rw count f.1;
            fed = fed ∙ s.fed;
            ended = ended ∙ s.ended;
          };
    }

-- an open part at the end is a line where it isn't empty
closing-seen : (part : List ℕ) → closing (seen part) ≡ map seen (last_line part)
closing-seen [] = refl
closing-seen (x ∷ xs) = elim (seen_cases (x ∷ xs)) [
  | inl p ↦ ap closing p.0 ∙ ap (λ (s : Option (List ℕ)). s ∷ []) (sym p.0)
  | inr p ↦ ap closing p.0 ∙ ap (λ (s : Option (List ℕ)). s ∷ []) (sym p.0)
]

pub stands_at_end : (old : HeldLines) (bytes : List ℕ) → StandsFor bytes old → StandsAtEnd bytes (at_end old)
stands_at_end old bytes s = record {
  enough = omega (arith, s.enough, length-append (whole_lines bytes) (last_line (open_part bytes)));
  waiting = ap (λ (l : List (Option (List ℕ))). l ++ closing old.rest) s.waiting
      ∙ ap (λ (r : Option (List ℕ)). map seen (drop old.given (whole_lines bytes)) ++ closing r) s.rest
      ∙ ap (λ (l : List (Option (List ℕ))). map seen (drop old.given (whole_lines bytes)) ++ l) (closing-seen (open_part bytes))
      ∙ sym (map-append seen (drop old.given (whole_lines bytes)) (last_line (open_part bytes)))
      ∙ ap (map seen) (sym (drop-append-le old.given (whole_lines bytes) (last_line (open_part bytes)) s.enough));
  fed = s.fed;
  ended = refl;
}
