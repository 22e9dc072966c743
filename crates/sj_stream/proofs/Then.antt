-- What follows of a run with a text behind its output.
use Rattle.std.proofs.Common.{◌≡◌, inl, inr, ℕ, List, [], ◌++◌, Option, Some, refl, sym, ◌∙◌, ap, subst, append_assoc}
use Rattle.std.proofs.lemmas.List.{append-nil}
use Rattle.std.specs.Io.KnownBytes.{Consumes, IsAtEnd}
use Rattle.sj_page.specs.declared.stop.Stop.{Stop}
use Rattle.sj_page.specs.declared.stop.Stop.TheVariants as cause
use Rattle.sj_page.specs.Sides.{OutputSide, Grew}
use Rattle.sj_page.specs.Pages.{Print, PrintState, Printed, Stopped}
use Rattle.sj_page.proofs.Writing.{grew_more}
use Rattle.sj_file.specs.declared.status.Status.{Status}
use Rattle.sj_file.specs.declared.status.Status.TheVariants.{Done, Usage, Refused, ShelfFault, ReadFault, WriteFault, Memory, InputLimit, FileTooLong}
use Rattle.sj_stream.specs.Input.{InputSide}
use Rattle.sj_stream.specs.LineJob.{LineJob, output, text_behind, whole_text}
use Rattle.sj_stream.specs.Stream.{fresh, status_of, IsFrontOf, WroteWhole}
use Rattle.sj_stream.specs.Then.{Ends, StreamedThen}
use Rattle.sj_stream.proofs.Streaming.{told, all_written, streamed_front}

pub all_taken : (left left' : Option (List ℕ)) (all bytes : List ℕ) → left ≡ Some all → Consumes left left' bytes → IsAtEnd left' → bytes ≡ all
all_taken left left' all bytes is took end =
    let t = told left left' all bytes is took in
    let none : t.0 ≡ [] = subst IsAtEnd t.1 end in
    sym (t.2 ∙ ap (λ (r : List ℕ). bytes ++ r) none ∙ append-nil bytes)

-- ---- the text

-- all of it was printed by a page of its own, and written
pub ends_done : (text : Print) (to : OutputSide) (to' : PrintState) → Printed text (fresh to) to' → to'.page.text ≡ [] → Ends text.text to to'.out Done
ends_done text to to' p empty = (all_written text to to' p empty, p.no_fault)

-- or a front of it
pub ends_cut : (text : Print) (to : OutputSide) (to' : PrintState) (stop : Stop) → Stopped text (fresh to) to' stop → Ends text.text to to'.out (status_of stop)
ends_cut text to to' cause.Memory s = (record { text = s.written; grew = s.grew; front = (s.left, s.split) }, s.cause)
ends_cut text to to' cause.Output s = (record { text = s.written; grew = s.grew; front = (s.left, s.split) }, s.cause)

ends_front : (text : List ℕ) (o o' : OutputSide) (status : Status) → Ends text o o' status → IsFrontOf text o o'
ends_front text o o' Done e = record { text = text; grew = e.0; front = ([], sym (append-nil text)) }
ends_front text o o' WriteFault e = e.0
ends_front text o o' Memory e = e.0
ends_front text o o' Usage e = absurd e
ends_front text o o' (Refused k kind) e = absurd e
ends_front text o o' ShelfFault e = absurd e
ends_front text o o' ReadFault e = absurd e
ends_front text o o' InputLimit e = absurd e
ends_front text o o' FileTooLong e = absurd e

-- ---- what was written in all

-- at Done all was written
pub then_done : (K : LineJob) (from from' : InputSide) (to to' : OutputSide) (all : List ℕ) → StreamedThen K from from' to to' Done → from.left ≡ Some all → Grew to to' (whole_text K all)
then_done K from from' to to' all (inl x) left = absurd (x.not_done refl)
then_done K from from' to to' all (inr b) left =
    let bytes : b.streamed.bytes ≡ all = all_taken from.left from'.left all b.streamed.bytes left b.streamed.consumed b.streamed.why.1 in
    let grew : Grew to to' (b.streamed.text ++ text_behind K b.streamed.bytes) = grew_more to b.mid.out to' b.streamed.text (text_behind K b.streamed.bytes) b.streamed.grew b.ends.0 in
    subst (λ (h : List ℕ). Grew to to' (whole_text K h)) bytes (subst (λ (t : List ℕ). Grew to to' (t ++ text_behind K b.streamed.bytes)) b.streamed.why.0 grew)

more_front : (a b : List ℕ) (o o' : OutputSide) → IsFrontOf a o o' → IsFrontOf (a ++ b) o o'
more_front a b o o' f = record { text = f.text; grew = f.grew; front = (f.front.0 ++ b, ap (λ (l : List ℕ). l ++ b) f.front.1 ∙ append_assoc f.text f.front.0 b) }

-- however it ended, a front was written
pub then_front : (K : LineJob) (from from' : InputSide) (to to' : OutputSide) (status : Status) (all : List ℕ) → StreamedThen K from from' to to' status → from.left ≡ Some all → IsFrontOf (whole_text K all) to to'
then_front K from from' to to' status all (inl x) left = more_front (output K all) (text_behind K all) to to' (streamed_front K from from' to (record { out = to'; page = x.page }) status all x.streamed left)
then_front K from from' to to' status all (inr b) left =
    let bytes : b.streamed.bytes ≡ all = all_taken from.left from'.left all b.streamed.bytes left b.streamed.consumed b.streamed.why.1 in
    let f : IsFrontOf (text_behind K b.streamed.bytes) b.mid.out to' = ends_front (text_behind K b.streamed.bytes) b.mid.out to' status b.ends in
    subst (λ (h : List ℕ). IsFrontOf (whole_text K h) to to') bytes (record {
      text = output K b.streamed.bytes ++ f.text;
      grew = grew_more to b.mid.out to' (output K b.streamed.bytes) f.text (subst (Grew to b.mid.out) b.streamed.why.0 b.streamed.grew) f.grew;
      front = (f.front.0, ap (λ (l : List ℕ). output K b.streamed.bytes ++ l) f.front.1 ∙ sym (append_assoc (output K b.streamed.bytes) f.text f.front.0));
    })

-- nothing of the text was written unless the input was read to its end
pub then_none : (K : LineJob) (from from' : InputSide) (to to' : OutputSide) (status : Status) (all : List ℕ) → StreamedThen K from from' to to' status → from.left ≡ Some all → (IsAtEnd from'.left → ⊥) → IsFrontOf (output K all) to to'
then_none K from from' to to' status all (inl x) left more = streamed_front K from from' to (record { out = to'; page = x.page }) status all x.streamed left
then_none K from from' to to' status all (inr b) left more = absurd (more b.streamed.why.1)

-- after a failed read, and at the limit of an input, the texts of the whole lines were written
pub then_read_fault : (K : LineJob) (from from' : InputSide) (to to' : OutputSide) → StreamedThen K from from' to to' ReadFault → WroteWhole K from from' to to'
then_read_fault K from from' to to' (inl x) = record { bytes = x.streamed.bytes; consumed = x.streamed.consumed; grew = subst (Grew to to') x.streamed.why.0 x.streamed.grew }
then_read_fault K from from' to to' (inr b) = absurd b.ends

pub then_limit : (K : LineJob) (from from' : InputSide) (to to' : OutputSide) → StreamedThen K from from' to to' InputLimit → WroteWhole K from from' to to'
then_limit K from from' to to' (inl x) = record { bytes = x.streamed.bytes; consumed = x.streamed.consumed; grew = subst (Grew to to') x.streamed.why.0 x.streamed.grew }
then_limit K from from' to to' (inr b) = absurd b.ends
