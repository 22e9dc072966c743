-- Commands that tell a text.
use Rattle.std.proofs.Common.{◌≡◌, ◌≢◌, ◌⊎◌, inl, inr, ℕ, ◌≤◌, List, [], ◌∷◌, ◌++◌, length, map, Option, None, Some, Result, Ok, Err, IsOk, codes, decimal, refl, sym, ◌∙◌, ap, subst, arith}
use Rattle.std.proofs.lemmas.List.{append-nil, length-map}
use Rattle.std.specs.Io.Iter.{u64_saturate}
use Rattle.sj_base.specs.Count.{raised}
use Rattle.sj_bound.specs.Bound.{Bound}
use Rattle.sj_bound.specs.View.{bound_of}
use Rattle.sj_bound.specs.declared.bound.Bound.{Bound as BoundHeld}
use Rattle.sj_generated.specs.Lines.{most_lines, generated}
use Rattle.sj_generated.proofs.Lengths.{generated_short}
use Rattle.sj_page.specs.Sides.{OutputSide, Grew, Wrote, joined}
use Rattle.sj_page.specs.declared.page.Page.{Page}
use Rattle.sj_file.specs.declared.job.Keys.TheVariants.{Any}
use Rattle.sj_file.specs.declared.status.Status.{Status}
use Rattle.sj_file.specs.declared.status.Status.TheVariants.{Done, Memory, WriteFault}
use Rattle.sj_file.specs.File.{ShelfSide, checking, generating, showing}
use Rattle.sj_file.specs.Accepted.{Accepted, AcceptedWithText}
use Rattle.sj_stream.specs.Input.{InputSide}
use Rattle.sj_stream.specs.LineJob.{all_print, output, allowed}
use Rattle.sj_run.specs.Output.{job}
use Rattle.sj_stream.specs.Stream.{Streamed}
use Rattle.sj_run.specs.Summary.{counts_text, summary_text}
use Rattle.sj_run.specs.Ran.{moment, accepted_text, Tells, Ran}
use Rattle.sj_stream.proofs.Steps.{counted_is}
use Rattle.sj_stream.proofs.Streaming.{told}
use Rattle.sj_stream.proofs.Then.{all_taken}
use Rattle.sj_run.proofs.Ending.{streamed_complete}

tells_done : {T E : Type 0} (text : List ℕ) (o o' : OutputSide) (r : Result T E) (x : T) → Wrote o o' text r → r ≡ Ok x → Tells text o o' Done
tells_done text o o' (Ok y) x w ok = (subst (Grew o o') (sym (w.split ∙ ap (λ (t : List ℕ). w.written ++ t) w.whole ∙ append-nil w.written)) w.grew, w.cause.kept)
tells_done text o o' (Err e) x w ok = absurd (cc ok)

tells_cut : {T E : Type 0} (text : List ℕ) (o o' : OutputSide) (r : Result T E) → Wrote o o' text r → (IsOk r → ⊥) → Tells text o o' WriteFault
tells_cut text o o' (Ok y) w bad = absurd (bad refl)
tells_cut text o o' (Err e) w bad = (record { text = w.written; grew = w.grew; front = (w.left, w.split) }, w.cause.failed)

-- ---- checks

counted : (items : List BoundHeld) → joined (codes "accepted " ∷ decimal (length items) ∷ codes "\n" ∷ []) ≡ accepted_text (map bound_of items)
counted items = ap (λ (n : ℕ). joined (codes "accepted " ∷ decimal n ∷ codes "\n" ∷ [])) (sym (length-map items bound_of))

pub check_done : {T E : Type 0} (name : List ℕ) (s s' : ShelfSide) (from : InputSide) (o o' : OutputSide) (items : List BoundHeld) (r : Result T E) (x : T) → Accepted name s s' (map bound_of items)
    → Wrote o o' (joined (codes "accepted " ∷ decimal (length items) ∷ codes "\n" ∷ [])) r → r ≡ Ok x → Ran (Some (checking name)) (moment s from o) (moment s' from o') Done
check_done name s s' from o o' items r x accepted w ok =
    inr (record { statements = map bound_of items; accepted = accepted; does = (refl, subst (λ (t : List ℕ). Tells t o o' Done) (counted items) (tells_done _ o o' r x w ok)) })

pub check_cut : {T E : Type 0} (name : List ℕ) (s s' : ShelfSide) (from : InputSide) (o o' : OutputSide) (items : List BoundHeld) (r : Result T E) → Accepted name s s' (map bound_of items)
    → Wrote o o' (joined (codes "accepted " ∷ decimal (length items) ∷ codes "\n" ∷ [])) r → (IsOk r → ⊥) → Ran (Some (checking name)) (moment s from o) (moment s' from o') WriteFault
check_cut name s s' from o o' items r accepted w bad =
    inr (record { statements = map bound_of items; accepted = accepted; does = (refl, subst (λ (t : List ℕ). Tells t o o' WriteFault) (counted items) (tells_cut _ o o' r w bad)) })

-- ---- canonical texts

pub show_done : {T E : Type 0} (name : List ℕ) (s s' : ShelfSide) (from : InputSide) (o o' : OutputSide) (text : List ℕ) (r : Result T E) (x : T) → AcceptedWithText name s s' text → Wrote o o' text r → r ≡ Ok x
    → Ran (Some (showing name)) (moment s from o) (moment s' from o') Done
show_done name s s' from o o' text r x a w ok =
    inr (record { statements = a.0; accepted = a.1; does = (refl, subst (λ (t : List ℕ). Tells t o o' Done) a.2 (tells_done text o o' r x w ok)) })

pub show_cut : {T E : Type 0} (name : List ℕ) (s s' : ShelfSide) (from : InputSide) (o o' : OutputSide) (text : List ℕ) (r : Result T E) (e : E) → AcceptedWithText name s s' text → Wrote o o' text r → r ≡ Err e
    → Ran (Some (showing name)) (moment s from o) (moment s' from o') WriteFault
show_cut name s s' from o o' text r e a w is =
    inr (record { statements = a.0; accepted = a.1; does = (refl, subst (λ (t : List ℕ). Tells t o o' WriteFault) a.2 (tells_err text o o' r e w is)) })
  where
    tells_err : {T E : Type 0} (text : List ℕ) (o o' : OutputSide) (r : Result T E) (e : E) → Wrote o o' text r → r ≡ Err e → Tells text o o' WriteFault
    tells_err text o o' (Ok y) e w is = absurd (cc is)
    tells_err text o o' (Err x) e w is = (record { text = w.written; grew = w.grew; front = (w.left, w.split) }, w.cause.failed)

-- ---- runs over generated lines

-- a run over the generated lines, of which this is left, to a sink that counted so many bytes
abbrev pub OverLines : ℕ → List Bound → List ℕ → ℕ → ℕ → ℕ → Page → Status → Type 0
OverLines number K rest steps steps' size page status =
    Streamed (job Any K) (record { left = Some (generated number); faults = 0; steps = steps }) (record { left = Some rest; faults = 0; steps = steps' })
    (record { taken = None; size = Some 0; faults = 0 }) (record { out = record { taken = None; size = Some size; faults = 0 }; page = page }) status

-- the lines and the sink as they begin
pub over_lines : (number : ℕ) (K : List Bound) (lines rest : List ℕ) (steps steps' start size : ℕ) (page : Page) (status : Status) → lines ≡ generated number → start ≡ 0
    → Streamed (job Any K) (record { left = Some lines; faults = 0; steps = steps }) (record { left = Some rest; faults = 0; steps = steps' })
    (record { taken = None; size = Some start; faults = 0 }) (record { out = record { taken = None; size = Some size; faults = 0 }; page = page }) status
    → OverLines number K rest steps steps' size page status
over_lines number K lines rest steps steps' start size page status these none s =
    subst (λ (z : ℕ). Streamed (job Any K) (record { left = Some (generated number); faults = 0; steps = steps }) (record { left = Some rest; faults = 0; steps = steps' }) (record { taken = None; size = Some z; faults = 0 }) (record { out = record { taken = None; size = Some size; faults = 0 }; page = page }) status) none
    (subst (λ (l : List ℕ). Streamed (job Any K) (record { left = Some l; faults = 0; steps = steps }) (record { left = Some rest; faults = 0; steps = steps' }) (record { taken = None; size = Some start; faults = 0 }) (record { out = record { taken = None; size = Some size; faults = 0 }; page = page }) status) these s)

steps_over : (number : ℕ) (K : List Bound) (rest : List ℕ) (steps steps' size : ℕ) (page : Page) (status : Status) → OverLines number K rest steps steps' size page status → steps' ≤ raised steps (allowed (job Any K) (generated number))
steps_over number K rest steps steps' size page status s =
    let t = told (Some (generated number)) (Some rest) (generated number) s.bytes refl s.consumed in
    subst (λ (l : List ℕ). steps' ≤ raised steps (allowed (job Any K) l)) (sym t.2) (s.costs_of_all t.0 t.1)

-- the numbers are those of the output
summed : (number : ℕ) (K : List Bound) (rest : List ℕ) (steps steps' size : ℕ) (page : Page) → OverLines number K rest steps steps' size page Done → counts_text number page.rows page.errors size ≡ summary_text number K
summed number K rest steps steps' size page s =
    let bytes : s.bytes ≡ generated number = all_taken (Some (generated number)) (Some rest) (generated number) s.bytes refl s.consumed s.why.1 in
    let rows : page.rows ≡ u64_saturate (all_print (job Any K) (generated number)).rows = s.why.5.rows ∙ ap (λ (b : List ℕ). u64_saturate (all_print (job Any K) b).rows) bytes in
    let errors : page.errors ≡ u64_saturate (all_print (job Any K) (generated number)).errors = s.why.5.errors ∙ ap (λ (b : List ℕ). u64_saturate (all_print (job Any K) b).errors) bytes in
    let text : length s.text ≡ length (output (job Any K) (generated number)) = ap length (s.why.0 ∙ ap (output (job Any K)) bytes) in
    let all : size ≡ u64_saturate (length (output (job Any K) (generated number))) = counted_is size (length s.text) s.grew.number_is ∙ ap u64_saturate text in
    ap (λ (n : ℕ). counts_text number n page.errors size) rows ∙ ap (λ (n : ℕ). counts_text number (u64_saturate (all_print (job Any K) (generated number)).rows) n size) errors
    ∙ ap (λ (n : ℕ). counts_text number (u64_saturate (all_print (job Any K) (generated number)).rows) (u64_saturate (all_print (job Any K) (generated number)).errors) n) all

abbrev pub RanLines : ℕ → List ℕ → ShelfSide → ShelfSide → Option (List ℕ) → ℕ → ℕ → ℕ → OutputSide → OutputSide → Status → Type 0
RanLines number name s s' left faults steps steps' o o' status =
    Ran (Some (generating number name)) (moment s (record { left = left; faults = faults; steps = steps }) o) (moment s' (record { left = left; faults = faults; steps = steps' }) o') status

pub lines_done : {T E : Type 0} (number : ℕ) (name : List ℕ) (s s' : ShelfSide) (left : Option (List ℕ)) (faults steps steps' size : ℕ) (o o' : OutputSide) (K : List Bound) (rest : List ℕ) (page : Page) (r : Result T E) (x : T)
    → Accepted name s s' K → OverLines number K rest steps steps' size page Done → Wrote o o' (counts_text number page.rows page.errors size) r → r ≡ Ok x → RanLines number name s s' left faults steps steps' o o' Done
lines_done number name s s' left faults steps steps' size o o' K rest page r x accepted over w ok = inr (record {
  statements = K;
  accepted = accepted;
  does = (
    record { left = refl; faults = refl; costs = steps_over number K rest steps steps' size page Done over },
    subst (λ (t : List ℕ). Tells t o o' Done) (summed number K rest steps steps' size page over) (tells_done _ o o' r x w ok),
  );
})

pub lines_cut : {T E : Type 0} (number : ℕ) (name : List ℕ) (s s' : ShelfSide) (left : Option (List ℕ)) (faults steps steps' size : ℕ) (o o' : OutputSide) (K : List Bound) (rest : List ℕ) (page : Page) (r : Result T E)
    → Accepted name s s' K → OverLines number K rest steps steps' size page Done → Wrote o o' (counts_text number page.rows page.errors size) r → (IsOk r → ⊥) → RanLines number name s s' left faults steps steps' o o' WriteFault
lines_cut number name s s' left faults steps steps' size o o' K rest page r accepted over w bad = inr (record {
  statements = K;
  accepted = accepted;
  does = (
    record { left = refl; faults = refl; costs = steps_over number K rest steps steps' size page Done over },
    subst (λ (t : List ℕ). Tells t o o' WriteFault) (summed number K rest steps steps' size page over) (tells_cut _ o o' r w bad),
  );
})

-- nothing but being out of memory stops it
pub lines_stopped : (number : ℕ) (name : List ℕ) (s s' : ShelfSide) (left : Option (List ℕ)) (faults steps steps' size : ℕ) (o : OutputSide) (K : List Bound) (rest : List ℕ) (page : Page) (status : Status)
    → number ≤ most_lines → Accepted name s s' K → OverLines number K rest steps steps' size page status → status ≢ Done → RanLines number name s s' left faults steps steps' o o status
lines_stopped number name s s' left faults steps steps' size o K rest page status few accepted over not_done = by_status (streamed_complete (job Any K) _ _ _ _ status (generated number) refl (generated_short number few) (λ rose. omega (arith, rose)) (λ rose. omega (arith, rose)) over)
  where
    by_status : (status ≡ Done) ⊎ (status ≡ Memory) → RanLines number name s s' left faults steps steps' o o status
    by_status (inl is) = absurd (not_done is)
    by_status (inr is) = inr (record {
      statements = K;
      accepted = accepted;
      does = (
        record { left = refl; faults = refl; costs = steps_over number K rest steps steps' size page status over },
        subst (λ (x : Status). Tells (summary_text number K) o o x) (sym is) refl,
      );
    })
