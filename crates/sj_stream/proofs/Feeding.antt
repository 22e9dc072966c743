-- A splitter that is fed a piece, and gives the lines that end in it.
use Rattle.std.proofs.Common.{◌≡◌, ℕ, ◌+◌, List, [], ◌∷◌, ◌++◌, length, map, Bool, false, Option, Result, Ok, Err, OnOk, inl, inr, refl, sym, ◌∙◌, ap, arith, length-append}
use Rattle.std.proofs.lemmas.List.{map-append, length-map}
use Rattle.sj_rows.specs.Lines.{whole_lines, whole_from, open_part, last_line, lines, seen}
use Rattle.sj_rows.specs.HeldLines.{HeldLines, Fed, closing, at_end, drained}
use Rattle.sj_rows.proofs.Splits.{whole-append, open-append, seen_cases}
use Rattle.sj_stream.specs.LineJob.{LineJob, lines_print, lines_cost, piece_print, piece_cost, last_print, last_cost}
use Rattle.sj_stream.specs.Splitting.{kept_of}

-- ---- a piece

waits : (held held' : HeldLines) (h p : List ℕ) → held ≡ kept_of h → Fed held p held' → held'.waiting ≡ map seen (whole_from (open_part h) p)
waits held held' h p is f = f.waiting (open_part h) (ap (λ (v : HeldLines). v.rest) is) ∙ ap (λ (v : HeldLines). v.waiting ++ map seen (whole_from (open_part h) p)) is

number : (held held' : HeldLines) (h p : List ℕ) → held ≡ kept_of h → Fed held p held' → held'.given ≡ length (whole_lines h)
number held held' h p is f = f.given ∙ ap (λ (v : HeldLines). v.given) is

pub fed_print : (K : LineJob) (held held' : HeldLines) (h p : List ℕ) → held ≡ kept_of h → Fed held p held' → lines_print K (held'.given + 1) held'.waiting ≡ piece_print K h p
unfolding piece_print
fed_print K held held' h p is f = ap (lines_print K (held'.given + 1)) (waits held held' h p is f) ∙ ap (λ (n : ℕ). lines_print K (n + 1) (map seen (whole_from (open_part h) p))) (number held held' h p is f)

pub fed_cost : (K : LineJob) (held held' : HeldLines) (h p : List ℕ) → held ≡ kept_of h → Fed held p held' → lines_cost K (held'.given + 1) held'.waiting ≡ piece_cost K h p
unfolding piece_cost
fed_cost K held held' h p is f = ap (lines_cost K (held'.given + 1)) (waits held held' h p is f) ∙ ap (λ (n : ℕ). lines_cost K (n + 1) (map seen (whole_from (open_part h) p))) (number held held' h p is f)

-- a splitter with no line that waits
abbrev between : Option (List ℕ) → ℕ → ℕ → Bool → HeldLines
between rest given fed ended = record { waiting = []; rest = rest; given = given; fed = fed; ended = ended }

same_between : (rest rest' : Option (List ℕ)) (given given' fed fed' : ℕ) (ended ended' : Bool) → rest ≡ rest' → given ≡ given' → fed ≡ fed' → ended ≡ ended' → between rest given fed ended ≡ between rest' given' fed' ended'
same_between rest rest' given given' fed fed' ended ended' r g f e = cc

pub fed_keeps : (held held' held'' : HeldLines) (h p : List ℕ) → held ≡ kept_of h → Fed held p held' → held'' ≡ drained held' → held'' ≡ kept_of (h ++ p)
fed_keeps held held' held'' h p is f kept =
    kept ∙ same_between held'.rest (seen (open_part (h ++ p))) (held'.given + length held'.waiting) (length (whole_lines (h ++ p))) held'.fed (length (h ++ p)) held'.ended false
    (f.rest (open_part h) (ap (λ (v : HeldLines). v.rest) is) ∙ ap seen (sym (open-append [] h p)))
    (omega (arith, number held held' h p is f, ap length (waits held held' h p is f), length-map (whole_from (open_part h) p) seen, ap length (whole-append [] h p), length-append (whole_lines h) (whole_from (open_part h) p)))
    (f.fed ∙ ap (λ (v : HeldLines). v.fed + length p) is ∙ sym (length-append h p))
    (f.ended ∙ ap (λ (v : HeldLines). v.ended) is)

-- the lines that were given
pub fed_lines : (held held' : HeldLines) (h p : List ℕ) → held ≡ kept_of h → Fed held p held' → map seen (whole_lines h) ++ held'.waiting ≡ map seen (whole_lines (h ++ p))
fed_lines held held' h p is f =
    ap (λ (l : List (Option (List ℕ))). map seen (whole_lines h) ++ l) (waits held held' h p is f) ∙ sym (ap (map seen) (whole-append [] h p) ∙ map-append seen (whole_lines h) (whole_from (open_part h) p))

-- ---- the end of the input

closing_seen : (o : List ℕ) → map seen (last_line o) ≡ closing (seen o)
closing_seen [] = refl
closing_seen (x ∷ xs) = elim (seen_cases (x ∷ xs)) [
  | inl p ↦ ap (λ (s : Option (List ℕ)). s ∷ []) p.0 ∙ ap closing (sym p.0)
  | inr p ↦ ap (λ (s : Option (List ℕ)). s ∷ []) p.0 ∙ ap closing (sym p.0)
]

rest_waits : (held held' : HeldLines) (h : List ℕ) → held ≡ kept_of h → held' ≡ at_end held → held'.waiting ≡ map seen (last_line (open_part h))
rest_waits held held' h is ends = ap (λ (v : HeldLines). v.waiting) ends ∙ ap (λ (v : HeldLines). v.waiting ++ closing v.rest) is ∙ sym (closing_seen (open_part h))

last_number : (held held' : HeldLines) (h : List ℕ) → held ≡ kept_of h → held' ≡ at_end held → held'.given ≡ length (whole_lines h)
last_number held held' h is ends = ap (λ (v : HeldLines). v.given) ends ∙ ap (λ (v : HeldLines). v.given) is

pub end_print : (K : LineJob) (held held' : HeldLines) (h : List ℕ) → held ≡ kept_of h → held' ≡ at_end held → lines_print K (held'.given + 1) held'.waiting ≡ last_print K h
unfolding last_print
end_print K held held' h is ends = ap (lines_print K (held'.given + 1)) (rest_waits held held' h is ends) ∙ ap (λ (n : ℕ). lines_print K (n + 1) (map seen (last_line (open_part h)))) (last_number held held' h is ends)

pub end_cost : (K : LineJob) (held held' : HeldLines) (h : List ℕ) → held ≡ kept_of h → held' ≡ at_end held → lines_cost K (held'.given + 1) held'.waiting ≡ last_cost K h
unfolding last_cost
end_cost K held held' h is ends = ap (lines_cost K (held'.given + 1)) (rest_waits held held' h is ends) ∙ ap (λ (n : ℕ). lines_cost K (n + 1) (map seen (last_line (open_part h)))) (last_number held held' h is ends)

pub end_lines : (held held' : HeldLines) (h : List ℕ) → held ≡ kept_of h → held' ≡ at_end held → map seen (whole_lines h) ++ held'.waiting ≡ map seen (lines h)
end_lines held held' h is ends =
    ap (λ (l : List (Option (List ℕ))). map seen (whole_lines h) ++ l) (rest_waits held held' h is ends) ∙ sym (map-append seen (whole_lines h) (last_line (open_part h)))

-- ---- results

pub on_ok : {T E : Type 0} (r : Result T E) (A B : Type 0) → OnOk r A → (A → B) → OnOk r B
on_ok (Ok x) A B a f = f a
on_ok (Err e) A B a f = tt

pub on_both : {T E : Type 0} (r : Result T E) (A B C : Type 0) → OnOk r A → OnOk r B → (A → B → C) → OnOk r C
on_both (Ok x) A B C a b f = f a b
on_both (Err e) A B C a b f = tt
