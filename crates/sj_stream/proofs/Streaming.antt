-- How the output grows with the bytes that are taken.
use Rattle.std.proofs.Common.{◌≡◌, ◌⊎◌, inl, inr, ℕ, ◌+◌, ◌-◌, ◌<◌, ◌≤◌, List, [], ◌∷◌, ◌++◌, length, take, drop, map, Option, None, Some, refl, sym, ◌∙◌, ap, subst, arith, length-append, append_assoc, add-zero}
use Rattle.std.proofs.lemmas.List.{take-append-drop, append-nil, map-append, length-map, take-append-le}
use Rattle.std.specs.Io.KnownBytes.{Consumes, Keeps, IsAtEnd}
use Rattle.sj_base.specs.Count.{Rose, raised}
use Rattle.sj_rows.specs.Lines.{max_input, whole_from, whole_lines, open_part, last_line, seen}
use Rattle.sj_rows.proofs.Splits.{whole-append}
use Rattle.sj_page.specs.declared.stop.Stop.{Stop}
use Rattle.sj_page.specs.declared.stop.Stop.TheVariants as cause
use Rattle.sj_page.specs.Sides.{OutputSide, Grew}
use Rattle.sj_page.specs.Pages.{Print, nothing, followed_by, PrintState, Printed, IsCause, Stopped}
use Rattle.sj_page.specs.declared.page.Page.{Page}
use Rattle.sj_page.proofs.Writing.{grew_more, grew_none}
use Rattle.sj_page.proofs.Printing.{nothing_before, followed_assoc, printed_none, printed_more, stopped_before}
use Rattle.sj_file.specs.declared.status.Status.{Status}
use Rattle.sj_file.specs.declared.status.Status.TheVariants.{Done, Usage, Refused, ShelfFault, ReadFault, WriteFault, Memory, InputLimit, FileTooLong}
use Rattle.sj_file.specs.Piece.{max_piece}
use Rattle.sj_stream.specs.Input.{InputSide}
use Rattle.sj_stream.specs.LineJob.{LineJob, lines_print, lines_cost, all_print, whole_print, output, whole_output, allowed, whole_allowed, piece_print, piece_cost, last_print, last_cost}
use Rattle.sj_stream.proofs.Steps.{zero_before, added_on, raised_none, raised_more, raised_same, raised_on, counted_is, part_within, part_within_more, parts_within, parts_within_more, parts_are}
use Rattle.sj_stream.specs.Stream.{IsPrefix, IsCutShort, fresh, GoesOn, IsWhy, Streamed, status_of, StreamedWith, GoesOnWith, IsFrontOf}

-- ---- what is printed for more lines, and what they may cost

pub lines_print-append : (K : LineJob) (n : ℕ) (ls ms : List (Option (List ℕ))) → lines_print K n (ls ++ ms) ≡ followed_by (lines_print K n ls) (lines_print K (n + length ls) ms)
lines_print-append K n [] ms = ap (λ (k : ℕ). lines_print K k ms) (sym (add-zero n)) ∙ sym (nothing_before (lines_print K (n + 0) ms))
lines_print-append K n (l ∷ ls) ms =
    let same : n + 1 + length ls ≡ n + length (l ∷ ls) = omega arith in
    ap (followed_by (K.prints n l)) (lines_print-append K (n + 1) ls ms ∙ ap (λ (k : ℕ). followed_by (lines_print K (n + 1) ls) (lines_print K k ms)) same)
    ∙ sym (followed_assoc (K.prints n l) (lines_print K (n + 1) ls) (lines_print K (n + length (l ∷ ls)) ms))

pub lines_cost-append : (K : LineJob) (n : ℕ) (ls ms : List (Option (List ℕ))) → lines_cost K n (ls ++ ms) ≡ lines_cost K n ls + lines_cost K (n + length ls) ms
lines_cost-append K n [] ms = ap (λ (k : ℕ). lines_cost K k ms) (sym (add-zero n)) ∙ zero_before (lines_cost K (n + 0) ms)
lines_cost-append K n (l ∷ ls) ms =
    let same : n + 1 + length ls ≡ n + length (l ∷ ls) = omega arith in
    ap (λ (k : ℕ). K.costs n l + k) (lines_cost-append K (n + 1) ls ms ∙ ap (λ (k : ℕ). lines_cost K (n + 1) ls + lines_cost K k ms) same)
    ∙ added_on (K.costs n l) (lines_cost K (n + 1) ls) (lines_cost K (n + length (l ∷ ls)) ms)

-- the number of the first of the lines behind
next_number : (ls : List (List ℕ)) → 1 + length (map seen ls) ≡ length ls + 1
next_number ls = omega (arith, length-map ls seen)

more_print : (K : LineJob) (ls ms : List (List ℕ)) → lines_print K 1 (map seen (ls ++ ms)) ≡ followed_by (lines_print K 1 (map seen ls)) (lines_print K (length ls + 1) (map seen ms))
more_print K ls ms =
    ap (lines_print K 1) (map-append seen ls ms) ∙ lines_print-append K 1 (map seen ls) (map seen ms) ∙ ap (λ (k : ℕ). followed_by (lines_print K 1 (map seen ls)) (lines_print K k (map seen ms))) (next_number ls)

more_cost : (K : LineJob) (ls ms : List (List ℕ)) → lines_cost K 1 (map seen (ls ++ ms)) ≡ lines_cost K 1 (map seen ls) + lines_cost K (length ls + 1) (map seen ms)
more_cost K ls ms =
    ap (lines_cost K 1) (map-append seen ls ms) ∙ lines_cost-append K 1 (map seen ls) (map seen ms) ∙ ap (λ (k : ℕ). lines_cost K 1 (map seen ls) + lines_cost K k (map seen ms)) (next_number ls)

-- each piece adds the lines that it makes whole
pub whole_print-append : (K : LineJob) (h p : List ℕ) → whole_print K (h ++ p) ≡ followed_by (whole_print K h) (piece_print K h p)
unfolding piece_print
whole_print-append K h p = ap (λ (ls : List (List ℕ)). lines_print K 1 (map seen ls)) (whole-append [] h p) ∙ more_print K (whole_lines h) (whole_from (open_part h) p)

pub whole_output-append : (K : LineJob) (h p : List ℕ) → whole_output K (h ++ p) ≡ whole_output K h ++ (piece_print K h p).text
whole_output-append K h p = ap (λ (q : Print). q.text) (whole_print-append K h p)

pub whole_allowed-append : (K : LineJob) (h p : List ℕ) → whole_allowed K (h ++ p) ≡ whole_allowed K h + piece_cost K h p
unfolding piece_cost
whole_allowed-append K h p = ap (λ (ls : List (List ℕ)). lines_cost K 1 (map seen ls)) (whole-append [] h p) ∙ more_cost K (whole_lines h) (whole_from (open_part h) p)

-- and the end of the input adds the last part
print-end : (K : LineJob) (h : List ℕ) → all_print K h ≡ followed_by (whole_print K h) (last_print K h)
unfolding last_print
print-end K h = more_print K (whole_lines h) (last_line (open_part h))

pub output-end : (K : LineJob) (h : List ℕ) → output K h ≡ whole_output K h ++ (last_print K h).text
output-end K h = ap (λ (q : Print). q.text) (print-end K h)

pub allowed-end : (K : LineJob) (h : List ℕ) → allowed K h ≡ whole_allowed K h + last_cost K h
unfolding last_cost
allowed-end K h = more_cost K (whole_lines h) (last_line (open_part h))

-- ---- fronts

pub whole_within : (K : LineJob) (h : List ℕ) → whole_allowed K h ≤ allowed K h
whole_within K h = part_within (allowed K h) (whole_allowed K h) (last_cost K h) (allowed-end K h)

-- whatever comes behind them
pub whole_within_more : (K : LineJob) (h p : List ℕ) → whole_allowed K h ≤ allowed K (h ++ p)
whole_within_more K h p = part_within_more (allowed K (h ++ p)) (whole_allowed K (h ++ p)) (whole_allowed K h) (piece_cost K h p) (whole_allowed-append K h p) (whole_within K (h ++ p))

pub prefix_trans : (a b c : List ℕ) → IsPrefix a b → IsPrefix b c → IsPrefix a c
prefix_trans a b c p q = (p.0 ++ q.0, q.1 ∙ ap (λ (l : List ℕ). l ++ q.0) p.1 ∙ append_assoc a p.0 q.0)

pub front_of_output : (K : LineJob) (h p : List ℕ) → IsPrefix (whole_output K h) (output K (h ++ p))
front_of_output K h p = prefix_trans (whole_output K h) (whole_output K (h ++ p)) (output K (h ++ p)) (_, whole_output-append K h p) (_, output-end K (h ++ p))

-- what stands before the last piece was written before it was read
pub least : (K : LineJob) (h p : List ℕ) → length p ≤ max_piece → IsPrefix (whole_output K (take (length (h ++ p) - max_piece) (h ++ p))) (whole_output K h)
least K h p short =
    let m = length (h ++ p) - max_piece in
    let within : m ≤ length h = omega (arith, length-append h p) in
    let cut : take m (h ++ p) ≡ take m h = take-append-le m h p within in
    (_, ap (whole_output K) (sym (take-append-drop m h)) ∙ whole_output-append K (take m h) (drop m h) ∙ ap (λ (f : List ℕ). whole_output K f ++ (piece_print K (take m h) (drop m h)).text) (sym cut))

consumes_more : (a b c : Option (List ℕ)) (xs ys : List ℕ) → Consumes a b xs → Consumes b c ys → Consumes a c (xs ++ ys)
consumes_more None b c xs ys p q = tt
consumes_more (Some a) None c xs ys p q = absurd p
consumes_more (Some a) (Some b) None xs ys p q = absurd q
consumes_more (Some a) (Some b) (Some c) xs ys p q = p ∙ ap (λ (l : List ℕ). xs ++ l) q ∙ sym (append_assoc xs ys c)

-- ---- a run that is over, or goes on

-- what was printed so far is written, since the page is empty
pub so_far : (K : LineJob) (from now : InputSide) (to : OutputSide) (to' : PrintState) (h : List ℕ) → GoesOn K from now to to' h → Grew to to'.out (whole_output K h)
so_far K from now to to' h o =
    subst (Grew to to'.out) (sym (append-nil o.printed.written) ∙ ap (λ (t : List ℕ). o.printed.written ++ t) (sym o.written) ∙ o.printed.all) o.printed.grew

stop_why : (K : LineJob) (from from' : InputSide) (to : OutputSide) (to' to'' : PrintState) (bytes written : List ℕ) (stop : Stop) → IsCutShort K from'.left bytes written → from'.faults ≡ from.faults → to'.out.faults ≡ to.faults → IsCause to'.out to''.out stop
    → IsWhy K from from' to to'' bytes written (status_of stop)
stop_why K from from' to to' to'' bytes written cause.Memory cut read same why = (cut, read, why ∙ same)
stop_why K from from' to to' to'' bytes written cause.Output cut read same why = (cut, subst (λ (n : ℕ). Rose n to''.out.faults) same why, read)

-- Rows were printed no further, behind what was written before the last piece.
pub stops : (K : LineJob) (from now now' : InputSide) (to : OutputSide) (to' to'' : PrintState) (h p : List ℕ) (q : Print) (stop : Stop) (n : ℕ) →
    GoesOn K from now to to' h → Consumes now.left now'.left p → now'.faults ≡ now.faults → now'.steps ≤ raised now.steps n → ((rest : List ℕ) → (now'.left ≡ Some rest) ⊎ (rest ≡ []) → whole_allowed K h + n ≤ allowed K ((h ++ p) ++ rest)) → length h + length p ≤ max_input → length p ≤ max_piece →
    ((rest : List ℕ) → (now'.left ≡ Some rest) ⊎ (rest ≡ []) → IsPrefix (whole_output K h ++ q.text) (output K ((h ++ p) ++ rest))) → Stopped q to' to'' stop → Streamed K from now' to to'' (status_of stop)
stops K from now now' to to' to'' h p q stop n o took read spent allows fits short within s = record {
  bytes = h ++ p;
  text = whole_output K h ++ s.written;
  consumed = consumes_more from.left now.left now'.left h p o.consumed took;
  grew = grew_more to to'.out to''.out (whole_output K h) s.written (so_far K from now to to' h o) s.grew;
  costs = raised_on from.steps now.steps now'.steps (whole_allowed K h) n (allowed K (h ++ p)) o.costs spent (subst (λ (l : List ℕ). whole_allowed K h + n ≤ allowed K l) (append-nil (h ++ p)) (allows [] (inr refl)));
  costs_of_all = λ rest is. raised_on from.steps now.steps now'.steps (whole_allowed K h) n (allowed K ((h ++ p) ++ rest)) o.costs spent (allows rest (inl is));
  no_more = omega (arith, length-append h p, fits);
  why = stop_why K from now' to to' to'' (h ++ p) (whole_output K h ++ s.written) stop (record {
    front = subst (λ (l : List ℕ). IsPrefix (whole_output K h ++ s.written) (output K l)) (append-nil (h ++ p)) (front [] (inr refl));
    front_of_all = λ rest is. front rest (inl is);
    least = prefix_trans _ _ _ (least K h p short) (s.written, refl);
  }) (read ∙ o.no_read_fault) o.printed.no_fault s.cause;
}
  where
    front : (rest : List ℕ) → (now'.left ≡ Some rest) ⊎ (rest ≡ []) → IsPrefix (whole_output K h ++ s.written) (output K ((h ++ p) ++ rest))
    front rest e =
        let split : q.text ≡ s.written ++ s.left = ap (λ (t : List ℕ). t ++ q.text) (sym o.written) ∙ s.split in
        prefix_trans _ (whole_output K h ++ q.text) _ (s.left, ap (λ (l : List ℕ). whole_output K h ++ l) split ∙ sym (append_assoc (whole_output K h) s.written s.left)) (within rest e)

-- more was printed
more_printed : (p q all : Print) (a b c : PrintState) → Printed p a b → Printed q b c → all ≡ followed_by p q → Printed all a c
more_printed p q all a b c x y is = subst (λ (t : Print). Printed t a c) (sym is) (printed_more p q a b c x y)

-- all that was printed is written
pub all_written : (p : Print) (to : OutputSide) (to' : PrintState) → Printed p (fresh to) to' → to'.page.text ≡ [] → Grew to to'.out p.text
all_written p to to' x empty = subst (Grew to to'.out) (sym (append-nil x.written) ∙ ap (λ (t : List ℕ). x.written ++ t) (sym empty) ∙ x.all) x.grew

-- All lines of the input were written.
pub finishes : (ended : List ℕ → Type 0) (K : LineJob) (from now now' : InputSide) (to : OutputSide) (to' to'' : PrintState) (h p : List ℕ) →
    GoesOn K from now to to' h → Consumes now.left now'.left p → now'.steps ≤ raised now.steps (last_cost K h) → p ≡ [] → now'.faults ≡ now.faults → IsAtEnd now'.left → length h < max_input →
    Printed (last_print K h) to' to'' → to''.page.text ≡ [] → ended h → StreamedWith ended K from now' to to'' Done
finishes ended K from now now' to to' to'' h p o took spent none same end fits w empty has = (
  record {
    bytes = h;
    text = output K h;
    consumed = subst (Consumes from.left now'.left) (append-nil h) (consumes_more from.left now.left now'.left h [] o.consumed (subst (Consumes now.left now'.left) none took));
    grew = all_written (all_print K h) to to'' all empty;
    costs = spent_all;
    costs_of_all = λ rest is. subst (λ (l : List ℕ). now'.steps ≤ raised from.steps (allowed K l)) (sym (ap (λ (l : List ℕ). h ++ l) (subst IsAtEnd is end) ∙ append-nil h)) spent_all;
    no_more = omega (arith, fits);
    why = (
      refl,
      end,
      fits,
      same ∙ o.no_read_fault,
      all.no_fault,
      record {
        rows = counted_is to''.page.rows (all_print K h).rows all.rows;
        errors = counted_is to''.page.errors (all_print K h).errors all.errors;
      },
    );
  },
  λ _. has,
)
  where
    spent_all : now'.steps ≤ raised from.steps (allowed K h)
    spent_all =
        raised_on from.steps now.steps now'.steps (whole_allowed K h) (last_cost K h) (allowed K h) o.costs spent
        (parts_within (allowed K h) (whole_allowed K h) (last_cost K h) (last_cost K h) refl (allowed-end K h))

    all : Printed (all_print K h) (fresh to) to''
    all = more_printed (whole_print K h) (last_print K h) (all_print K h) (fresh to) to' to'' o.printed w (print-end K h)

-- A piece more was written.
pub goes_on : (K : LineJob) (from now now' : InputSide) (to : OutputSide) (to' to'' : PrintState) (h p : List ℕ) →
    GoesOn K from now to to' h → Consumes now.left now'.left p → now'.steps ≤ raised now.steps (piece_cost K h p) → now'.faults ≡ now.faults →
    Printed (piece_print K h p) to' to'' → to''.page.text ≡ [] → GoesOn K from now' to to'' (h ++ p)
goes_on K from now now' to to' to'' h p o took spent same w empty = record {
  consumed = consumes_more from.left now.left now'.left h p o.consumed took;
  printed = more_printed (whole_print K h) (piece_print K h p) (whole_print K (h ++ p)) (fresh to) to' to'' o.printed w (whole_print-append K h p);
  written = empty;
  costs = raised_on from.steps now.steps now'.steps (whole_allowed K h) (piece_cost K h p) (whole_allowed K (h ++ p)) o.costs spent
      (parts_within (whole_allowed K (h ++ p)) (whole_allowed K h) (piece_cost K h p) (piece_cost K h p) refl (whole_allowed-append K h p));
  no_read_fault = same ∙ o.no_read_fault;
}

pub consumes_none : (t : Option (List ℕ)) → Consumes t t []
consumes_none None = tt
consumes_none (Some t) = refl

-- Nothing was read or printed.
pub starts : (K : LineJob) (from : InputSide) (to : OutputSide) → GoesOn K from from to (fresh to) []
starts K from to = record {
  consumed = consumes_none from.left;
  printed = printed_none (fresh to);
  written = refl;
  costs = raised_none from.steps (whole_allowed K []);
  no_read_fault = refl;
}

-- As many bytes were taken as an input may have.
pub limit_reached : (K : LineJob) (from now : InputSide) (to : OutputSide) (to' : PrintState) (h : List ℕ) → GoesOn K from now to to' h → length h ≡ max_input → Streamed K from now to to' InputLimit
limit_reached K from now to to' h o all = record {
  bytes = h;
  text = whole_output K h;
  consumed = o.consumed;
  grew = so_far K from now to to' h o;
  costs = raised_more from.steps now.steps (whole_allowed K h) (allowed K h) o.costs (whole_within K h);
  costs_of_all = λ rest is. raised_more from.steps now.steps (whole_allowed K h) (allowed K (h ++ rest)) o.costs (whole_within_more K h rest);
  no_more = omega (arith, all);
  why = (refl, all, o.no_read_fault, o.printed.no_fault);
}

-- nothing more is taken
kept_consumes : (a b c : Option (List ℕ)) (xs : List ℕ) → Consumes a b xs → Keeps b c → Consumes a c xs
kept_consumes None b c xs p q = tt
kept_consumes (Some a) None c xs p q = absurd p
kept_consumes (Some a) (Some b) None xs p q = absurd q
kept_consumes (Some a) (Some b) (Some c) xs p q = cc

-- A read failed, which takes nothing and makes no step.
pub read_fails : (K : LineJob) (from now now' : InputSide) (to : OutputSide) (to' : PrintState) (h : List ℕ) → GoesOn K from now to to' h → Keeps now.left now'.left
    → now'.steps ≡ now.steps → Rose now.faults now'.faults → length h ≤ max_input → Streamed K from now' to to' ReadFault
read_fails K from now now' to to' h o took same rose fits = record {
  bytes = h;
  text = whole_output K h;
  consumed = kept_consumes from.left now.left now'.left h o.consumed took;
  grew = so_far K from now to to' h o;
  costs = raised_same from.steps now.steps now'.steps (whole_allowed K h) (allowed K h) same o.costs (whole_within K h);
  costs_of_all = λ rest is. raised_same from.steps now.steps now'.steps (whole_allowed K h) (allowed K (h ++ rest)) same o.costs (whole_within_more K h rest);
  no_more = fits;
  why = (refl, subst (λ (n : ℕ). Rose n now'.faults) o.no_read_fault rose, o.printed.no_fault);
}

-- Memory ran out before anything was read.
pub no_memory : (K : LineJob) (from : InputSide) (to : OutputSide) (page : Page) → Streamed K from from to (record { out = to; page = page }) Memory
no_memory K from to page = record {
  bytes = [];
  text = [];
  consumed = consumes_none from.left;
  grew = grew_none to;
  costs = raised_none from.steps (allowed K []);
  costs_of_all = λ rest is. raised_none from.steps (allowed K rest);
  no_more = omega arith;
  why = (record { front = (output K [], refl); front_of_all = λ rest is. (output K rest, refl); least = ([], refl) }, refl, refl);
}

-- the texts of whole lines go in front of whatever comes
pub piece_within : (K : LineJob) (h p text : List ℕ) (left : Option (List ℕ)) → IsPrefix (whole_output K h ++ text) (whole_output K (h ++ p)) →
    (rest : List ℕ) → (left ≡ Some rest) ⊎ (rest ≡ []) → IsPrefix (whole_output K h ++ text) (output K ((h ++ p) ++ rest))
piece_within K h p text left within rest e = prefix_trans _ (whole_output K (h ++ p)) _ within (front_of_output K (h ++ p) rest)

at_end_within : (K : LineJob) (h p text rest : List ℕ) → p ≡ [] → output K h ≡ whole_output K h ++ text → rest ≡ [] → IsPrefix (whole_output K h ++ text) (output K ((h ++ p) ++ rest))
at_end_within K h p text rest none is done =
    let same : (h ++ p) ++ rest ≡ h = ap (λ (l : List ℕ). (h ++ p) ++ l) done ∙ append-nil (h ++ p) ∙ ap (λ (l : List ℕ). h ++ l) none ∙ append-nil h in
    ([], ap (output K) same ∙ is ∙ sym (append-nil (whole_output K h ++ text)))

-- and those of all lines where nothing comes
pub end_within : (K : LineJob) (h p text : List ℕ) (left : Option (List ℕ)) → IsAtEnd left → p ≡ [] → output K h ≡ whole_output K h ++ text →
    (rest : List ℕ) → (left ≡ Some rest) ⊎ (rest ≡ []) → IsPrefix (whole_output K h ++ text) (output K ((h ++ p) ++ rest))
end_within K h p text left end none is rest (inl e) = at_end_within K h p text rest none is (subst IsAtEnd e end)
end_within K h p text left end none is rest (inr e) = at_end_within K h p text rest none is e

-- what a piece allows is allowed whatever comes behind it
pub piece_allows : (K : LineJob) (h p rest : List ℕ) (left : Option (List ℕ)) (n : ℕ) → n ≤ piece_cost K h p → (left ≡ Some rest) ⊎ (rest ≡ []) → whole_allowed K h + n ≤ allowed K ((h ++ p) ++ rest)
piece_allows K h p rest left n few e =
    parts_within_more (allowed K ((h ++ p) ++ rest)) (whole_allowed K (h ++ p)) (whole_allowed K h) (piece_cost K h p) n few (whole_allowed-append K h p) (whole_within_more K (h ++ p) rest)

last_allows : (K : LineJob) (h p rest : List ℕ) → p ≡ [] → rest ≡ [] → whole_allowed K h + last_cost K h ≤ allowed K ((h ++ p) ++ rest)
last_allows K h p rest none done =
    let same : (h ++ p) ++ rest ≡ h = ap (λ (l : List ℕ). (h ++ p) ++ l) done ∙ append-nil (h ++ p) ∙ ap (λ (l : List ℕ). h ++ l) none ∙ append-nil h in
    parts_are (allowed K ((h ++ p) ++ rest)) (allowed K h) (whole_allowed K h) (last_cost K h) (ap (allowed K) same) (allowed-end K h)

-- and what the last part allows, where nothing comes
pub end_allows : (K : LineJob) (h p rest : List ℕ) (left : Option (List ℕ)) → IsAtEnd left → p ≡ [] → (left ≡ Some rest) ⊎ (rest ≡ []) → whole_allowed K h + last_cost K h ≤ allowed K ((h ++ p) ++ rest)
end_allows K h p rest left end none (inl e) = last_allows K h p rest none (subst IsAtEnd e end)
end_allows K h p rest left end none (inr e) = last_allows K h p rest none e

-- Memory ran out before more was read.
pub memory_ends : (K : LineJob) (from now : InputSide) (to : OutputSide) (to' : PrintState) (h : List ℕ) → GoesOn K from now to to' h → length h ≤ max_input → Streamed K from now to to' Memory
memory_ends K from now to to' h o fits =
    let within : IsPrefix (whole_output K h ++ []) (whole_output K (h ++ [])) = subst (λ (l : List ℕ). IsPrefix l (whole_output K (h ++ []))) (sym (append-nil (whole_output K h))) (_, whole_output-append K h []) in
    stops K from now now to to' to' h [] nothing cause.Memory 0 o (consumes_none now.left) refl (omega arith) (λ rest e. piece_allows K h [] rest now.left 0 (omega arith) e) (omega (arith, fits)) (omega arith)
    (piece_within K h [] [] now.left within) (stopped_before nothing to' to' refl)

-- what was written is a front of the output of all bytes
front_by_why : (K : LineJob) (from from' : InputSide) (to : OutputSide) (to' : PrintState) (bytes text rest : List ℕ) (status : Status) → from'.left ≡ Some rest → IsWhy K from from' to to' bytes text status → IsPrefix text (output K (bytes ++ rest))
front_by_why K from from' to to' bytes text rest Done is why =
    let none : rest ≡ [] = subst IsAtEnd is why.1 in
    rw (none, append-nil bytes) ([], sym (append-nil text ∙ why.0) ∙ refl)
front_by_why K from from' to to' bytes text rest ReadFault is why = subst (λ (l : List ℕ). IsPrefix l (output K (bytes ++ rest))) (sym why.0) (front_of_output K bytes rest)
front_by_why K from from' to to' bytes text rest WriteFault is why = why.0.front_of_all rest is
front_by_why K from from' to to' bytes text rest InputLimit is why = subst (λ (l : List ℕ). IsPrefix l (output K (bytes ++ rest))) (sym why.0) (front_of_output K bytes rest)
front_by_why K from from' to to' bytes text rest Memory is why = why.0.front_of_all rest is
front_by_why K from from' to to' bytes text rest Usage is why = absurd why
front_by_why K from from' to to' bytes text rest ShelfFault is why = absurd why
front_by_why K from from' to to' bytes text rest FileTooLong is why = absurd why
front_by_why K from from' to to' bytes text rest (Refused k kind) is why = absurd why

pub told : (a b : Option (List ℕ)) (all xs : List ℕ) → a ≡ Some all → Consumes a b xs → (rest : List ℕ) × (b ≡ Some rest) × (all ≡ xs ++ rest)
told None b all xs is c = absurd (cc is)
told (Some a) None all xs is c = absurd c
told (Some a) (Some b) all xs is c = (b, refl, (let e : a ≡ all = cc is in sym e ∙ c))

pub streamed_front : (K : LineJob) (from from' : InputSide) (to : OutputSide) (to' : PrintState) (status : Status) (all : List ℕ) → Streamed K from from' to to' status → from.left ≡ Some all → IsFrontOf (output K all) to to'.out
streamed_front K from from' to to' status all s is =
    let t = told from.left from'.left all s.bytes is s.consumed in
    record { text = s.text; grew = s.grew; front = subst (λ (l : List ℕ). IsPrefix s.text (output K l)) (sym t.2) (front_by_why K from from' to to' s.bytes s.text t.0 status t.1 s.why) }

-- ---- with whoever takes the pieces

-- piece behind piece
pub goes_on_same : (took : LineJob → List ℕ → Type 0) (K : LineJob) (from now : InputSide) (to : OutputSide) (to' : PrintState) (h m p : List ℕ) → GoesOnWith took K from now to to' ((h ++ m) ++ p) → GoesOnWith took K from now to to' (h ++ (m ++ p))
goes_on_same took K from now to to' h m p o = subst (GoesOnWith took K from now to to') (append_assoc h m p) o

stop_not_done : (stop : Stop) → status_of stop ≡ Done → ⊥
stop_not_done cause.Memory is = absurd (cc is)
stop_not_done cause.Output is = absurd (cc is)

-- a run that ended otherwise than with Done
pub ended_otherwise : (ended : List ℕ → Type 0) (K : LineJob) (from from' : InputSide) (to : OutputSide) (to' : PrintState) (status : Status) → (status ≡ Done → ⊥) → Streamed K from from' to to' status → StreamedWith ended K from from' to to' status
ended_otherwise ended K from from' to to' status other s = (s, λ done. absurd (other done))

pub stopped : (ended : List ℕ → Type 0) (K : LineJob) (from from' : InputSide) (to : OutputSide) (to' : PrintState) (stop : Stop) (status : Status) → status ≡ status_of stop → Streamed K from from' to to' (status_of stop) → StreamedWith ended K from from' to to' status
stopped ended K from from' to to' stop status is s = subst (StreamedWith ended K from from' to to') (sym is) (ended_otherwise ended K from from' to to' (status_of stop) (stop_not_done stop) s)

-- rows of a piece were printed no further
pub piece_stops : (ended : List ℕ → Type 0) (K : LineJob) (from now now' : InputSide) (to : OutputSide) (to' to'' : PrintState) (h p : List ℕ) (stop : Stop) (status : Status) → status ≡ status_of stop → GoesOn K from now to to' h → Consumes now.left now'.left p → now'.faults ≡ now.faults
    → now'.steps ≤ raised now.steps (piece_cost K h p) → length h + length p ≤ max_input → length p ≤ max_piece → Stopped (piece_print K h p) to' to'' stop → StreamedWith ended K from now' to to'' status
piece_stops ended K from now now' to to' to'' h p stop status is o took same spent fits short s =
    let within : IsPrefix (whole_output K h ++ (piece_print K h p).text) (whole_output K (h ++ p)) = ([], whole_output-append K h p ∙ sym (append-nil _)) in
    stopped ended K from now' to to'' stop status is
    (stops K from now now' to to' to'' h p (piece_print K h p) stop (piece_cost K h p) o took same spent (λ rest e. piece_allows K h p rest now'.left (piece_cost K h p) (omega arith) e) fits short
    (piece_within K h p (piece_print K h p).text now'.left within) s)

-- nor those of the last part
pub end_stops : (ended : List ℕ → Type 0) (K : LineJob) (from now now' : InputSide) (to : OutputSide) (to' to'' : PrintState) (h p : List ℕ) (stop : Stop) (status : Status) → status ≡ status_of stop → GoesOn K from now to to' h → Consumes now.left now'.left p → now'.faults ≡ now.faults
    → now'.steps ≤ raised now.steps (last_cost K h) → length h ≤ max_input → p ≡ [] → IsAtEnd now'.left → Stopped (last_print K h) to' to'' stop → StreamedWith ended K from now' to to'' status
end_stops ended K from now now' to to' to'' h p stop status is o took same spent fits none end s =
    let len : length p ≡ 0 = ap length none in
    stopped ended K from now' to to'' stop status is
    (stops K from now now' to to' to'' h p (last_print K h) stop (last_cost K h) o took same spent (λ rest e. end_allows K h p rest now'.left end none e) (omega (arith, len, fits)) (omega (arith, len))
    (end_within K h p (last_print K h).text now'.left end none (output-end K h)) s)
