-- What follows of how a command ended.
use Rattle.std.proofs.Common.{◌≡◌, inl, inr, ◌↔◌, ℕ, ◌+◌, ◌-◌, ◌<◌, ◌≤◌, List, [], length, take, drop, Option, None, Some, IsTrue, IfSome, refl, sym, ◌∙◌, ap, subst, arith, length-append}
use Rattle.std.proofs.lemmas.List.{take-append-drop, append-nil}
use Rattle.std.specs.Io.KnownBytes.{Consumes, IsAtEnd}
use Rattle.sj_base.specs.Count.{Rose, raised}
use Rattle.sj_outside.specs.Outside.{HasFile}
use Rattle.sj_sql_grammar.specs.declared.refusal.FileKind.{FileKind}
use Rattle.sj_path_tree.specs.Tree.{Path}
use Rattle.sj_sql_grammar.specs.Tree.{Statement}
use Rattle.sj_sql_text.specs.Statements.{lines_text}
use Rattle.sj_bound.specs.Bound.{Bound}
use Rattle.sj_generated.specs.Lines.{generated}
use Rattle.sj_page.specs.Sides.{OutputSide, Grew}
use Rattle.sj_page.specs.Pages.{PrintState}
use Rattle.sj_page.specs.declared.page.Page.{Page}
use Rattle.sj_page.proofs.Writing.{grew_none}
use Rattle.sj_sql_grammar.specs.Answers.{max_file}
use Rattle.sj_rows.specs.Lines.{max_input}
use Rattle.sj_file.specs.declared.job.Keys.{Keys}
use Rattle.sj_file.specs.declared.job.Keys.TheVariants.{Any}
use Rattle.sj_file.specs.declared.status.Status.{Status}
use Rattle.sj_file.specs.declared.status.Status.TheVariants.{Done, Usage, Refused, ShelfFault, ReadFault, WriteFault, Memory, InputLimit, FileTooLong}
use Rattle.sj_file.specs.Piece.{max_piece}
use Rattle.sj_file.specs.File.{ShelfSide, Form, running, checking, generating, showing, grouping, scanning, named_in, file_named, file_run, file_shown}
use Rattle.sj_file.specs.Verdict.{Accepts, IsReadAs, Refuses}
use Rattle.sj_file.specs.ToGroup.{RefusesFor}
use Rattle.sj_file.specs.Conditions.{IfRuns, IfChecks, IfGenerates, IfShows, IfNames, IfAccepted, IfRead, IsOrMemory}
use Rattle.sj_file.proofs.Verdicts.{one_accepted, not_both}
use Rattle.sj_file.proofs.ShownFiles.{by_some, no_name, past_limit, long_file, left_of, no_file, accepted_as, accepted_read, accepted_short, refused_as, for_run, for_check, for_generated, for_show}
use Rattle.sj_file.proofs.ShownAgain.{canonical}
use Rattle.sj_file.proofs.Grouped.{one_refusal_for, not_unfit}
use Rattle.sj_file.proofs.Unaccepted.{only_memory, this_refusal, too_long_alone, absent_alone}
use Rattle.sj_stream.specs.Input.{InputSide}
use Rattle.sj_stream.specs.LineJob.{LineJob, output, whole_output, allowed, text_behind}
use Rattle.sj_stream.specs.Then.{Ends, StreamedThen}
use Rattle.sj_group_run.specs.GroupJob.{group_job}
use Rattle.sj_run.specs.Output.{job}
use Rattle.sj_stream.specs.Stream.{IsPrefix, IsWhy, Streamed, IsFrontOf, WroteLeast, WroteWhole, StepsWithin, TookMost}
use Rattle.sj_run.specs.Scanned.{scan_job, IsUnscanned}
use Rattle.sj_run.specs.Summary.{summary_text}
use Rattle.sj_run.specs.Ran.{Moment, accepted_text, WroteCanonical, Tells, RanGenerated, Does, Idle, Did, IsUnwanted, RanOver, Ran, IsRefusedBy, IsBefore}
use Rattle.sj_stream.proofs.Steps.{raised_none}
use Rattle.sj_stream.proofs.Then.{all_taken}
use Rattle.sj_stream.proofs.Streaming.{whole_output-append, output-end, prefix_trans, consumes_none, told, streamed_front}

-- ---- what was done

-- it was done with the statements of the file
does_with : (f : Form) (name : List ℕ) (b a : Moment) (status : Status) (file : List ℕ) (K : List Bound) → file_shown b.shelf.files (Some name) ≡ Some file → Accepts file K → (d : Did f name b a status)
    → Does f d.accepted.accepted.statements K b.input a.input b.out a.out status
does_with f name b a status file K shown accepts d =
    subst (λ (k : List Bound). Does f d.accepted.accepted.statements k b.input a.input b.out a.out status) (one_accepted file d.statements K (accepted_as name b.shelf a.shelf d.statements file shown d.accepted) accepts) d.does

why_not_before : (K : LineJob) (i i' : InputSide) (o : OutputSide) (o' : PrintState) (bytes text : List ℕ) (status : Status) → IsWhy K i i' o o' bytes text status → IsBefore status → ⊥
why_not_before K i i' o o' bytes text Done why is = is
why_not_before K i i' o o' bytes text ReadFault why is = is
why_not_before K i i' o o' bytes text WriteFault why is = is
why_not_before K i i' o o' bytes text InputLimit why is = is
why_not_before K i i' o o' bytes text Memory why is = is
why_not_before K i i' o o' bytes text Usage why is = why
why_not_before K i i' o o' bytes text ShelfFault why is = why
why_not_before K i i' o o' bytes text FileTooLong why is = why
why_not_before K i i' o o' bytes text (Refused k kind) why is = why

pub streamed_not_before : (K : LineJob) (i i' : InputSide) (o : OutputSide) (o' : PrintState) (status : Status) → Streamed K i i' o o' status → IsBefore status → ⊥
streamed_not_before K i i' o o' status s is = why_not_before K i i' o o' s.bytes s.text status s.why is

tells_not_before : (text : List ℕ) (o o' : OutputSide) (status : Status) → Tells text o o' status → IsBefore status → ⊥
tells_not_before text o o' Done why is = is
tells_not_before text o o' ReadFault why is = is
tells_not_before text o o' WriteFault why is = is
tells_not_before text o o' InputLimit why is = is
tells_not_before text o o' Memory why is = is
tells_not_before text o o' Usage why is = why
tells_not_before text o o' ShelfFault why is = why
tells_not_before text o o' FileTooLong why is = why
tells_not_before text o o' (Refused k kind) why is = why

ends_not_before : (text : List ℕ) (o o' : OutputSide) (status : Status) → Ends text o o' status → IsBefore status → ⊥
ends_not_before text o o' Done why is = is
ends_not_before text o o' ReadFault why is = is
ends_not_before text o o' WriteFault why is = is
ends_not_before text o o' InputLimit why is = is
ends_not_before text o o' Memory why is = is
ends_not_before text o o' Usage why is = why
ends_not_before text o o' ShelfFault why is = why
ends_not_before text o o' FileTooLong why is = why
ends_not_before text o o' (Refused k kind) why is = why

then_not_before : (K : LineJob) (i i' : InputSide) (o o' : OutputSide) (status : Status) → StreamedThen K i i' o o' status → IsBefore status → ⊥
then_not_before K i i' o o' status (inl x) is = streamed_not_before K i i' o (record { out = o'; page = x.page }) status x.streamed is
then_not_before K i i' o o' status (inr b) is = ends_not_before (text_behind K b.streamed.bytes) b.mid.out o' status b.ends is

not_before : (f : Form) (T : List (Statement Path)) (K : List Bound) (i i' : InputSide) (o o' : OutputSide) (status : Status) → Does f T K i i' o o' status → IsBefore status → ⊥
not_before (running keys name) T K i i' o o' status d is = streamed_not_before (job keys K) i i' o (record { out = o'; page = d.0 }) status d.1 is
not_before (checking name) T K i i' o o' status d is = tells_not_before (accepted_text K) o o' status d.1 is
not_before (generating number name) T K i i' o o' status d is = tells_not_before (summary_text number K) o o' status d.1 is
not_before (showing name) T K i i' o o' status d is = tells_not_before (lines_text T) o o' status d.1 is
not_before (grouping name) T K i i' o o' status d is = then_not_before (group_job d.aggregate d.statement) i i' o o' status d.streamed is
not_before (scanning text) T K i i' o o' status d is = streamed_not_before (scan_job d.path) i i' o (record { out = o'; page = d.page }) status d.streamed is

-- a form that was not taken, and that names no file, ended with a refusal or for want of memory
abbrev Unwanted : Status → Type 0
Unwanted (Refused k kind) = Unit {0}
Unwanted Memory = Unit {0}
Unwanted _ = ⊥

unscanned : (text : List ℕ) (status : Status) → IsUnscanned text status → Unwanted status
unscanned text (Refused k kind) why = tt
unscanned text Memory why = tt
unscanned text Done why = absurd why
unscanned text Usage why = absurd why
unscanned text ShelfFault why = absurd why
unscanned text ReadFault why = absurd why
unscanned text WriteFault why = absurd why
unscanned text InputLimit why = absurd why
unscanned text FileTooLong why = absurd why

unwanted : (f : Form) (status : Status) → IsUnwanted f status → Unwanted status
unwanted (scanning text) status why = unscanned text status why
unwanted (running keys name) status why = absurd why
unwanted (checking name) status why = absurd why
unwanted (generating number name) status why = absurd why
unwanted (showing name) status why = absurd why
unwanted (grouping name) status why = absurd why

-- ---- by the form

-- either no file was accepted, or this was done with its statements
either : (f : Form) (name : List ℕ) (b a : Moment) (status : Status) (file : List ℕ) (K : List Bound) (Q : Type 0) → file_shown b.shelf.files (Some name) ≡ Some file → Accepts file K → RanOver f (Some name) b a status
    → (Idle f name b a status → Q) → ((T : List (Statement Path)) → Does f T K b.input a.input b.out a.out status → Q) → Q
either f name b a status file K Q shown accepts (inl idle) h g = h idle
either f name b a status file K Q shown accepts (inr d) h g = g d.accepted.accepted.statements (does_with f name b a status file K shown accepts d)

-- What holds where no file was accepted, and where its statements were run, holds of a run. So for the other two forms.
on_run : (f : Option Form) (b a : Moment) (status : Status) (P : Keys → List Bound → Type 0) → Ran f b a status
    → ((keys : Keys) (K : List Bound) (name : List ℕ) → Idle (running keys name) name b a status → P keys K)
    → ((keys : Keys) (K : List Bound) (page : Page) → Streamed (job keys K) b.input a.input b.out (record { out = a.out; page = page }) status → P keys K)
    → IfRuns f b.shelf.files (λ keys file. IfAccepted file (P keys))
on_run f b a status P r idle ran =
    for_run f b.shelf.files (λ keys file. IfAccepted file (P keys))
    (λ keys name file is shown K accepts.
    either (running keys name) name b a status file K (P keys K) shown accepts (subst (λ (x : Option Form). Ran x b a status) is r) (idle keys K name) (λ T d. ran keys K d.0 d.1))

on_check : (f : Option Form) (b a : Moment) (status : Status) (P : List Bound → Type 0) → Ran f b a status
    → ((K : List Bound) (name : List ℕ) → Idle (checking name) name b a status → P K) → ((K : List Bound) → Tells (accepted_text K) b.out a.out status → P K)
    → IfChecks f b.shelf.files (λ file. IfAccepted file P)
on_check f b a status P r idle told =
    for_check f b.shelf.files (λ file. IfAccepted file P)
    (λ name file is shown K accepts.
    either (checking name) name b a status file K (P K) shown accepts (subst (λ (x : Option Form). Ran x b a status) is r) (idle K name) (λ T d. told K d.1))

on_generated : (f : Option Form) (b a : Moment) (status : Status) (P : ℕ → List Bound → Type 0) → Ran f b a status
    → ((number : ℕ) (K : List Bound) (name : List ℕ) → Idle (generating number name) name b a status → P number K)
    → ((number : ℕ) (K : List Bound) → RanGenerated number K b.input a.input → Tells (summary_text number K) b.out a.out status → P number K)
    → IfGenerates f b.shelf.files (λ number file. IfAccepted file (P number))
on_generated f b a status P r idle told =
    for_generated f b.shelf.files (λ number file. IfAccepted file (P number))
    (λ number name file is shown K accepts.
    either (generating number name) name b a status file K (P number K) shown accepts (subst (λ (x : Option Form). Ran x b a status) is r) (idle number K name) (λ T d. told number K d.0 d.1))

-- What holds where no file was accepted, and where its canonical text was told, holds of a file that is shown.
on_show : (f : Option Form) (b a : Moment) (status : Status) (P : List (Statement Path) → Type 0) → Ran f b a status
    → ((T : List (Statement Path)) (name : List ℕ) → Idle (showing name) name b a status → P T) → ((T : List (Statement Path)) → Tells (lines_text T) b.out a.out status → P T)
    → IfShows f b.shelf.files (λ file. IfRead file P)
on_show f b a status P r idle told =
    for_show f b.shelf.files (λ file. IfRead file P)
    (λ name file is shown T read. go name file T shown read (subst (λ (x : Option Form). Ran x b a status) is r))
  where
    go : (name file : List ℕ) (T : List (Statement Path)) → file_shown b.shelf.files (Some name) ≡ Some file → IsReadAs file T → RanOver (showing name) (Some name) b a status → P T
    go name file T shown read (inl i) = idle T name i
    go name file T shown read (inr d) =
        told T (subst (λ (t : List (Statement Path)). Tells (lines_text t) b.out a.out status) (accepted_read name b.shelf a.shelf d.statements file T shown d.accepted read) d.does.1)

-- ---- runs over the input

-- what a run that is Done has written
pub ran_headline : (f : Option Form) (b a : Moment) (status : Status) → Ran f b a status → status ≡ Done
    → IfRuns f b.shelf.files (λ keys file. IfAccepted file (λ K. IfSome b.input.left (λ all. Grew b.out a.out (output (job keys K) all))))
ran_headline f b a status r done =
    on_run f b a Done (λ keys K. IfSome b.input.left (λ all. Grew b.out a.out (output (job keys K) all))) (subst (Ran f b a) done r)
    (λ keys K name idle. absurd idle.why)
    (λ keys K page s. by_some b.input.left _ (λ all left.
    subst (Grew b.out a.out) (s.why.0 ∙ ap (output (job keys K)) (all_taken b.input.left a.input.left all s.bytes left s.consumed s.why.1)) s.grew))

pub idle_front : (whole : List ℕ) (o o' : OutputSide) → o' ≡ o → IsFrontOf whole o o'
idle_front whole o o' same = record { text = []; grew = subst (λ (p : OutputSide). Grew o p []) (sym same) (grew_none o); front = (whole, refl) }

-- what was written is a front of the output, however the run ended
pub ran_front : (f : Option Form) (b a : Moment) (status : Status) → Ran f b a status
    → IfRuns f b.shelf.files (λ keys file. IfAccepted file (λ K. IfSome b.input.left (λ all. IsFrontOf (output (job keys K) all) b.out a.out)))
ran_front f b a status r =
    on_run f b a status (λ keys K. IfSome b.input.left (λ all. IsFrontOf (output (job keys K) all) b.out a.out)) r
    (λ keys K name idle. by_some b.input.left _ (λ all left. idle_front (output (job keys K) all) b.out a.out idle.out))
    (λ keys K page s. by_some b.input.left _ (λ all left. streamed_front (job keys K) b.input a.input b.out (record { out = a.out; page = page }) status all s left))

-- the texts of the whole lines of a front go in front of those of all
front_whole : (K : LineJob) (h : List ℕ) (m : ℕ) → IsPrefix (whole_output K (take m h)) (whole_output K h)
front_whole K h m = (_, ap (whole_output K) (sym (take-append-drop m h)) ∙ whole_output-append K (take m h) (drop m h))

whole_front : (K : LineJob) (h : List ℕ) → IsPrefix (whole_output K h) (output K h)
whole_front K h = (_, output-end K h)

front_and_least : LineJob → List ℕ → List ℕ → Type 0
front_and_least K bytes text = IsPrefix text (output K bytes) × IsPrefix (whole_output K (take (length bytes - max_piece) bytes)) text

least_by_why : (K : LineJob) (i i' : InputSide) (o : OutputSide) (o' : PrintState) (bytes text : List ℕ) (status : Status) → IsWhy K i i' o o' bytes text status → front_and_least K bytes text
unfolding front_and_least
least_by_why K i i' o o' bytes text Done why =
    subst (λ (t : List ℕ). IsPrefix t (output K bytes) × IsPrefix (whole_output K (take (length bytes - max_piece) bytes)) t) (sym why.0)
    (([], sym (append-nil (output K bytes))), prefix_trans _ (whole_output K bytes) _ (front_whole K bytes (length bytes - max_piece)) (whole_front K bytes))
least_by_why K i i' o o' bytes text ReadFault why =
    subst (λ (t : List ℕ). IsPrefix t (output K bytes) × IsPrefix (whole_output K (take (length bytes - max_piece) bytes)) t) (sym why.0)
    (whole_front K bytes, front_whole K bytes (length bytes - max_piece))
least_by_why K i i' o o' bytes text InputLimit why =
    subst (λ (t : List ℕ). IsPrefix t (output K bytes) × IsPrefix (whole_output K (take (length bytes - max_piece) bytes)) t) (sym why.0)
    (whole_front K bytes, front_whole K bytes (length bytes - max_piece))
least_by_why K i i' o o' bytes text WriteFault why = (why.0.front, why.0.least)
least_by_why K i i' o o' bytes text Memory why = (why.0.front, why.0.least)
least_by_why K i i' o o' bytes text Usage why = absurd why
least_by_why K i i' o o' bytes text ShelfFault why = absurd why
least_by_why K i i' o o' bytes text FileTooLong why = absurd why
least_by_why K i i' o o' bytes text (Refused k kind) why = absurd why

pub streamed_least : (K : LineJob) (i i' : InputSide) (o : OutputSide) (o' : PrintState) (status : Status) → Streamed K i i' o o' status → WroteLeast K i i' o o'.out
unfolding front_and_least
streamed_least K i i' o o' status s =
    let l = least_by_why K i i' o o' s.bytes s.text status s.why in
    record { bytes = s.bytes; consumed = s.consumed; text = s.text; grew = s.grew; front = l.0; least = l.1 }

idle_consumes : (i i' : InputSide) → i' ≡ i → Consumes i.left i'.left []
idle_consumes i i' same = subst (λ (p : InputSide). Consumes i.left p.left []) (sym same) (consumes_none i.left)

pub idle_least : (K : LineJob) (i i' : InputSide) (o o' : OutputSide) → i' ≡ i → o' ≡ o → WroteLeast K i i' o o'
idle_least K i i' o o' input out = record {
  bytes = [];
  consumed = idle_consumes i i' input;
  text = [];
  grew = subst (λ (p : OutputSide). Grew o p []) (sym out) (grew_none o);
  front = (output K [], refl);
  least = ([], refl);
}

-- however a run ended, it had written the lines whose LF stands before the last piece of the bytes taken
pub ran_least : (f : Option Form) (b a : Moment) (status : Status) → Ran f b a status
    → IfRuns f b.shelf.files (λ keys file. IfAccepted file (λ K. WroteLeast (job keys K) b.input a.input b.out a.out))
ran_least f b a status r =
    on_run f b a status (λ keys K. WroteLeast (job keys K) b.input a.input b.out a.out) r
    (λ keys K name idle. idle_least (job keys K) b.input a.input b.out a.out idle.input idle.out)
    (λ keys K page s. streamed_least (job keys K) b.input a.input b.out (record { out = a.out; page = page }) status s)

pub idle_within : (K : LineJob) (i i' : InputSide) → i' ≡ i → StepsWithin K i i'
idle_within K i i' same = subst (λ (p : InputSide). StepsWithin K i p) (sym same) (record { bytes = []; consumed = consumes_none i.left; costs = raised_none i.steps (allowed K []) })

-- however a run ended, its steps are within what the lines of the bytes taken allow
pub ran_within : (f : Option Form) (b a : Moment) (status : Status) → Ran f b a status
    → IfRuns f b.shelf.files (λ keys file. IfAccepted file (λ K. StepsWithin (job keys K) b.input a.input))
ran_within f b a status r =
    on_run f b a status (λ keys K. StepsWithin (job keys K) b.input a.input) r
    (λ keys K name idle. idle_within (job keys K) b.input a.input idle.input)
    (λ keys K page s. record { bytes = s.bytes; consumed = s.consumed; costs = s.costs })

-- whole lines alone
pub ran_read_fault : (f : Option Form) (b a : Moment) (status : Status) → Ran f b a status → status ≡ ReadFault
    → IfRuns f b.shelf.files (λ keys file. IfAccepted file (λ K. WroteWhole (job keys K) b.input a.input b.out a.out))
ran_read_fault f b a status r so =
    on_run f b a ReadFault (λ keys K. WroteWhole (job keys K) b.input a.input b.out a.out) (subst (Ran f b a) so r)
    (λ keys K name idle. absurd idle.why)
    (λ keys K page s. record { bytes = s.bytes; consumed = s.consumed; grew = subst (Grew b.out a.out) s.why.0 s.grew })

pub ran_limit : (f : Option Form) (b a : Moment) (status : Status) → Ran f b a status → status ≡ InputLimit
    → IfRuns f b.shelf.files (λ keys file. IfAccepted file (λ K. WroteWhole (job keys K) b.input a.input b.out a.out))
ran_limit f b a status r so =
    on_run f b a InputLimit (λ keys K. WroteWhole (job keys K) b.input a.input b.out a.out) (subst (Ran f b a) so r)
    (λ keys K name idle. absurd idle.why)
    (λ keys K page s. record { bytes = s.bytes; consumed = s.consumed; grew = subst (Grew b.out a.out) s.why.0 s.grew })

pub ran_to_end : (f : Option Form) (b a : Moment) (status : Status) → Ran f b a status → status ≡ Done → IfSome (file_run f) (λ _. IsAtEnd a.input.left)
ran_to_end None b a status r so = tt
ran_to_end (Some (running keys name)) b a status r so = at_end (subst (Ran (Some (running keys name)) b a) so r)
  where
    at_end : Ran (Some (running keys name)) b a Done → IsAtEnd a.input.left
    at_end (inl idle) = absurd idle.why
    at_end (inr d) = d.does.1.why.1
ran_to_end (Some (checking name)) b a status r so = tt
ran_to_end (Some (generating number name)) b a status r so = tt
ran_to_end (Some (showing name)) b a status r so = tt
ran_to_end (Some (grouping name)) b a status r so = tt
ran_to_end (Some (scanning text)) b a status r so = tt

-- ---- when a command is done

below_limit : (i i' : InputSide) (all bytes : List ℕ) → i.left ≡ Some all → Consumes i.left i'.left bytes → length all < max_input → length bytes ≡ max_input → ⊥
below_limit i i' all bytes is took fits long =
    let t = told i.left i'.left all bytes is took in
    omega (arith, ap length t.2, length-append bytes t.0, fits, long)

pub streamed_complete : (K : LineJob) (i i' : InputSide) (o : OutputSide) (o' : PrintState) (status : Status) (all : List ℕ) → i.left ≡ Some all → length all < max_input → (Rose i.faults i'.faults → ⊥) → (Rose o.faults o'.out.faults → ⊥) → Streamed K i i' o o' status → IsOrMemory status Done
streamed_complete K i i' o o' Done all left fits read out s = inl refl
streamed_complete K i i' o o' Memory all left fits read out s = inr refl
streamed_complete K i i' o o' ReadFault all left fits read out s = absurd (read s.why.1)
streamed_complete K i i' o o' WriteFault all left fits read out s = absurd (out s.why.1)
streamed_complete K i i' o o' InputLimit all left fits read out s = absurd (below_limit i i' all s.bytes left s.consumed fits s.why.1)
streamed_complete K i i' o o' Usage all left fits read out s = absurd s.why
streamed_complete K i i' o o' ShelfFault all left fits read out s = absurd s.why
streamed_complete K i i' o o' FileTooLong all left fits read out s = absurd s.why
streamed_complete K i i' o o' (Refused k kind) all left fits read out s = absurd s.why

pub ran_completes : (f : Option Form) (b a : Moment) (status : Status) → Ran f b a status
    → (Rose b.shelf.faults a.shelf.faults → ⊥) → (Rose b.input.faults a.input.faults → ⊥) → (Rose b.out.faults a.out.faults → ⊥)
    → IfRuns f b.shelf.files (λ keys file. length file ≤ max_file → IfAccepted file (λ K. IfSome b.input.left (λ all. length all < max_input → IsOrMemory status Done)))
ran_completes f b a status r shelf read out =
    for_run f b.shelf.files (λ keys file. length file ≤ max_file → IfAccepted file (λ K. IfSome b.input.left (λ all. length all < max_input → IsOrMemory status Done)))
    (λ keys name file is shown short K accepts. by_some b.input.left _ (λ all left fits.
    either (running keys name) name b a status file K _ shown accepts (subst (λ (x : Option Form). Ran x b a status) is r)
    (λ idle. inr (only_memory Refuses name b.shelf a.shelf status file shown (λ k kind. not_both file K k kind accepts) short shelf idle.why))
    (λ T d. streamed_complete (job keys K) b.input a.input b.out (record { out = a.out; page = d.0 }) status all left fits read out d.1)))

tells_complete : (text : List ℕ) (o o' : OutputSide) (status : Status) → (Rose o.faults o'.faults → ⊥) → Tells text o o' status → IsOrMemory status Done
tells_complete text o o' Done out t = inl refl
tells_complete text o o' Memory out t = inr refl
tells_complete text o o' WriteFault out t = absurd (out t.1)
tells_complete text o o' ReadFault out t = absurd t
tells_complete text o o' InputLimit out t = absurd t
tells_complete text o o' Usage out t = absurd t
tells_complete text o o' ShelfFault out t = absurd t
tells_complete text o o' FileTooLong out t = absurd t
tells_complete text o o' (Refused k kind) out t = absurd t

tells_front : (text : List ℕ) (o o' : OutputSide) (status : Status) → Tells text o o' status → IsFrontOf text o o'
tells_front text o o' Done t = record { text = text; grew = t.0; front = ([], sym (append-nil text)) }
tells_front text o o' Memory t = idle_front text o o' t
tells_front text o o' WriteFault t = t.0
tells_front text o o' ReadFault t = absurd t
tells_front text o o' InputLimit t = absurd t
tells_front text o o' Usage t = absurd t
tells_front text o o' ShelfFault t = absurd t
tells_front text o o' FileTooLong t = absurd t
tells_front text o o' (Refused k kind) t = absurd t

-- ---- checks

pub ran_checked : (f : Option Form) (b a : Moment) (status : Status) → Ran f b a status → status ≡ Done
    → IfChecks f b.shelf.files (λ file. IfAccepted file (λ K. Grew b.out a.out (accepted_text K)))
ran_checked f b a status r so =
    on_check f b a Done (λ K. Grew b.out a.out (accepted_text K)) (subst (Ran f b a) so r) (λ K name idle. absurd idle.why) (λ K t. t.0)

pub ran_check_front : (f : Option Form) (b a : Moment) (status : Status) → Ran f b a status
    → IfChecks f b.shelf.files (λ file. IfAccepted file (λ K. IsFrontOf (accepted_text K) b.out a.out))
ran_check_front f b a status r =
    on_check f b a status (λ K. IsFrontOf (accepted_text K) b.out a.out) r
    (λ K name idle. idle_front (accepted_text K) b.out a.out idle.out) (λ K t. tells_front (accepted_text K) b.out a.out status t)

pub ran_check_completes : (f : Option Form) (b a : Moment) (status : Status) → Ran f b a status → (Rose b.shelf.faults a.shelf.faults → ⊥) → (Rose b.out.faults a.out.faults → ⊥)
    → IfChecks f b.shelf.files (λ file. length file ≤ max_file → IfAccepted file (λ K. IsOrMemory status Done))
ran_check_completes f b a status r shelf out =
    for_check f b.shelf.files (λ file. length file ≤ max_file → IfAccepted file (λ K. IsOrMemory status Done))
    (λ name file is shown short K accepts.
    either (checking name) name b a status file K _ shown accepts (subst (λ (x : Option Form). Ran x b a status) is r)
    (λ idle. inr (only_memory Refuses name b.shelf a.shelf status file shown (λ k kind. not_both file K k kind accepts) short shelf idle.why)) (λ T d. tells_complete (accepted_text K) b.out a.out status out d.1))

-- ---- canonical texts

pub ran_shown : (f : Option Form) (b a : Moment) (status : Status) → Ran f b a status → status ≡ Done
    → IfShows f b.shelf.files (λ file. IfRead file (λ T. Grew b.out a.out (lines_text T)))
ran_shown f b a status r so =
    on_show f b a Done (λ T. Grew b.out a.out (lines_text T)) (subst (Ran f b a) so r) (λ T name idle. absurd idle.why) (λ T t. t.0)

pub ran_show_front : (f : Option Form) (b a : Moment) (status : Status) → Ran f b a status
    → IfShows f b.shelf.files (λ file. IfRead file (λ T. IsFrontOf (lines_text T) b.out a.out))
ran_show_front f b a status r =
    on_show f b a status (λ T. IsFrontOf (lines_text T) b.out a.out) r
    (λ T name idle. idle_front (lines_text T) b.out a.out idle.out) (λ T t. tells_front (lines_text T) b.out a.out status t)

-- what was shown, as a file
pub ran_shown_again : (f : Option Form) (b a : Moment) (status : Status) → Ran f b a status → status ≡ Done
    → IfShows f b.shelf.files (λ file. IfAccepted file (λ K. WroteCanonical K b.out a.out))
ran_shown_again f b a status r so =
    for_show f b.shelf.files (λ file. IfAccepted file (λ K. WroteCanonical K b.out a.out))
    (λ name file is shown K accepts. go name file K shown accepts (subst (λ (x : Option Form). Ran x b a Done) is (subst (Ran f b a) so r)))
  where
    go : (name file : List ℕ) (K : List Bound) → file_shown b.shelf.files (Some name) ≡ Some file → Accepts file K → RanOver (showing name) (Some name) b a Done → WroteCanonical K b.out a.out
    go name file K shown accepts (inl idle) = absurd idle.why
    go name file K shown accepts (inr d) =
        let same = one_accepted file d.statements K (accepted_as name b.shelf a.shelf d.statements file shown d.accepted) accepts in
        let text = lines_text d.accepted.accepted.statements in
        let wrote : WroteCanonical d.statements b.out a.out = record { text = text; grew = d.does.1.0; canonical = canonical d.accepted.file d.statements d.accepted.accepted } in
        subst (λ (k : List Bound). WroteCanonical k b.out a.out) same wrote

pub ran_show_completes : (f : Option Form) (b a : Moment) (status : Status) → Ran f b a status → (Rose b.shelf.faults a.shelf.faults → ⊥) → (Rose b.out.faults a.out.faults → ⊥)
    → IfShows f b.shelf.files (λ file. length file ≤ max_file → IfAccepted file (λ K. IsOrMemory status Done))
ran_show_completes f b a status r shelf out =
    for_show f b.shelf.files (λ file. length file ≤ max_file → IfAccepted file (λ K. IsOrMemory status Done))
    (λ name file is shown short K accepts.
    either (showing name) name b a status file K _ shown accepts (subst (λ (x : Option Form). Ran x b a status) is r)
    (λ idle. inr (only_memory Refuses name b.shelf a.shelf status file shown (λ k kind. not_both file K k kind accepts) short shelf idle.why)) (λ T d. tells_complete (lines_text T) b.out a.out status out d.1))

-- ---- runs over generated lines

pub ran_generated : (f : Option Form) (b a : Moment) (status : Status) → Ran f b a status → status ≡ Done
    → IfGenerates f b.shelf.files (λ number file. IfAccepted file (λ K. Grew b.out a.out (summary_text number K)))
ran_generated f b a status r so =
    on_generated f b a Done (λ number K. Grew b.out a.out (summary_text number K)) (subst (Ran f b a) so r) (λ number K name idle. absurd idle.why) (λ number K g t. t.0)

pub ran_generated_front : (f : Option Form) (b a : Moment) (status : Status) → Ran f b a status
    → IfGenerates f b.shelf.files (λ number file. IfAccepted file (λ K. IsFrontOf (summary_text number K) b.out a.out))
ran_generated_front f b a status r =
    on_generated f b a status (λ number K. IsFrontOf (summary_text number K) b.out a.out) r
    (λ number K name idle. idle_front (summary_text number K) b.out a.out idle.out) (λ number K g t. tells_front (summary_text number K) b.out a.out status t)

pub ran_generated_completes : (f : Option Form) (b a : Moment) (status : Status) → Ran f b a status → (Rose b.shelf.faults a.shelf.faults → ⊥) → (Rose b.out.faults a.out.faults → ⊥)
    → IfGenerates f b.shelf.files (λ number file. length file ≤ max_file → IfAccepted file (λ K. IsOrMemory status Done))
ran_generated_completes f b a status r shelf out =
    for_generated f b.shelf.files (λ number file. length file ≤ max_file → IfAccepted file (λ K. IsOrMemory status Done))
    (λ number name file is shown short K accepts.
    either (generating number name) name b a status file K _ shown accepts (subst (λ (x : Option Form). Ran x b a status) is r)
    (λ idle. inr (only_memory Refuses name b.shelf a.shelf status file shown (λ k kind. not_both file K k kind accepts) short shelf idle.why)) (λ T d. tells_complete (summary_text number K) b.out a.out status out d.1))

idle_steps : (i i' : InputSide) (n : ℕ) → i' ≡ i → i'.steps ≤ raised i.steps n
idle_steps i i' n same = subst (λ (p : InputSide). p.steps ≤ raised i.steps n) (sym same) (raised_none i.steps n)

pub ran_generated_within : (f : Option Form) (b a : Moment) (status : Status) → Ran f b a status
    → IfGenerates f b.shelf.files (λ number file. IfAccepted file (λ K. a.input.steps ≤ raised b.input.steps (allowed (job Any K) (generated number))))
ran_generated_within f b a status r =
    on_generated f b a status (λ number K. a.input.steps ≤ raised b.input.steps (allowed (job Any K) (generated number))) r
    (λ number K name idle. idle_steps b.input a.input (allowed (job Any K) (generated number)) idle.input) (λ number K g t. g.costs)

-- ---- refusals

-- statements with which something was done are not refused
did_not_refuse : (f : Form) (name : List ℕ) (b a : Moment) (status : Status) (file : List ℕ) (n : ℕ) (other : FileKind) → Did f name b a status → file_shown b.shelf.files (Some name) ≡ Some file → RefusesFor f file n other → ⊥
did_not_refuse (running keys named) name b a status file n other d shown bad = not_both file d.statements n other (accepted_as name b.shelf a.shelf d.statements file shown d.accepted) bad
did_not_refuse (checking named) name b a status file n other d shown bad = not_both file d.statements n other (accepted_as name b.shelf a.shelf d.statements file shown d.accepted) bad
did_not_refuse (generating number named) name b a status file n other d shown bad = not_both file d.statements n other (accepted_as name b.shelf a.shelf d.statements file shown d.accepted) bad
did_not_refuse (showing named) name b a status file n other d shown bad = not_both file d.statements n other (accepted_as name b.shelf a.shelf d.statements file shown d.accepted) bad
did_not_refuse (grouping named) name b a status file n other d shown bad =
    not_unfit file d.does.statement d.does.aggregate (subst (Accepts file) d.does.only (accepted_as name b.shelf a.shelf d.statements file shown d.accepted)) d.does.fits n other bad
did_not_refuse (scanning text) name b a status file n other d shown bad = bad

pub ran_refuses : (f : Option Form) (b a : Moment) (status : Status) → Ran f b a status → (Rose b.shelf.faults a.shelf.faults → ⊥)
    → IfNames f b.shelf.files (λ file. length file ≤ max_file → (n : ℕ) (other : FileKind) → IsRefusedBy f file n other → IsOrMemory status (Refused n other))
ran_refuses None b a status r shelf = by_some (file_shown b.shelf.files None) _ (λ file shown. absurd (no_name b.shelf.files file shown))
ran_refuses (Some f) b a status r shelf = over (named_in f) r
  where
    over : (named : Option (List ℕ)) → RanOver f named b a status → IfSome (file_shown b.shelf.files named) (λ file. length file ≤ max_file → (n : ℕ) (other : FileKind) → RefusesFor f file n other → IsOrMemory status (Refused n other))
    over None d = by_some (file_shown b.shelf.files None) _ (λ file shown. absurd (no_name b.shelf.files file shown))
    over (Some name) (inl idle) =
        by_some (file_shown b.shelf.files (Some name)) _ (λ file shown short n other bad. this_refusal (RefusesFor f) name b.shelf a.shelf status file n other (λ k kind. one_refusal_for f file k n kind other) shown short bad shelf idle.why)
    over (Some name) (inr d) =
        by_some (file_shown b.shelf.files (Some name)) _ (λ file shown short n other bad. absurd (did_not_refuse f name b a status file n other d shown bad))

-- a refusal is that of the file
pub ran_refused : (f : Option Form) (b a : Moment) (status : Status) → Ran f b a status → (k : ℕ) (kind : FileKind) → status ≡ Refused k kind
    → (a.shelf.faults ≡ b.shelf.faults) × IfNames f b.shelf.files (λ file. (length file ≤ max_file) × IsRefusedBy f file k kind)
ran_refused None b a status r k kind is = absurd (cc (r.0, is))
ran_refused (Some f) b a status r k kind is = over (named_in f) (subst (Ran (Some f) b a) is r)
  where
    over : (named : Option (List ℕ)) → RanOver f named b a (Refused k kind) → (a.shelf.faults ≡ b.shelf.faults) × IfSome (file_shown b.shelf.files named) (λ file. (length file ≤ max_file) × RefusesFor f file k kind)
    over None (inl idle) = (ap (λ (m : Moment). m.shelf.faults) idle.same, by_some (file_shown b.shelf.files None) _ (λ file shown. absurd (no_name b.shelf.files file shown)))
    over None (inr d) = absurd (not_before f [] [] b.input a.input b.out a.out (Refused k kind) d.does tt)
    over (Some name) (inl idle) = (idle.why.holds.no_fault, by_some (file_shown b.shelf.files (Some name)) _ (λ file shown. refused_as (RefusesFor f) name b.shelf a.shelf k kind file shown idle.why))
    over (Some name) (inr d) = absurd (not_before f d.accepted.accepted.statements d.statements b.input a.input b.out a.out (Refused k kind) d.does tt)

-- ---- files that are too long or absent

pub ran_too_long : (f : Option Form) (b a : Moment) (status : Status) → Ran f b a status → status ≡ FileTooLong
    → (a.shelf.faults ≡ b.shelf.faults) × IfNames f b.shelf.files (λ file. max_file < length file)
ran_too_long None b a status r is = absurd (cc (r.0, is))
ran_too_long (Some f) b a status r is = over (named_in f) (subst (Ran (Some f) b a) is r)
  where
    over : (named : Option (List ℕ)) → RanOver f named b a FileTooLong → (a.shelf.faults ≡ b.shelf.faults) × IfSome (file_shown b.shelf.files named) (λ file. max_file < length file)
    over None (inl idle) = absurd (unwanted f FileTooLong idle.why)
    over None (inr d) = absurd (not_before f [] [] b.input a.input b.out a.out FileTooLong d.does tt)
    over (Some name) (inl idle) = (idle.why.1, by_some (file_shown b.shelf.files (Some name)) _ (λ file shown. long_file b.shelf.files name file a.shelf.left shown idle.why.0))
    over (Some name) (inr d) = absurd (not_before f d.accepted.accepted.statements d.statements b.input a.input b.out a.out FileTooLong d.does tt)

-- no more of it was read than the first byte past the limit
pub ran_too_long_reads : (f : Option Form) (b a : Moment) (status : Status) → Ran f b a status → status ≡ FileTooLong
    → IfNames f b.shelf.files (λ file. IfSome a.shelf.left (λ rest. length file ≡ max_file + 1 + length rest))
ran_too_long_reads None b a status r is = absurd (cc (r.0, is))
ran_too_long_reads (Some f) b a status r is = over (named_in f) (subst (Ran (Some f) b a) is r)
  where
    over : (named : Option (List ℕ)) → RanOver f named b a FileTooLong → IfSome (file_shown b.shelf.files named) (λ file. IfSome a.shelf.left (λ rest. length file ≡ max_file + 1 + length rest))
    over None (inl idle) = absurd (unwanted f FileTooLong idle.why)
    over None (inr d) = absurd (not_before f [] [] b.input a.input b.out a.out FileTooLong d.does tt)
    over (Some name) (inl idle) = by_some (file_shown b.shelf.files (Some name)) _ (λ file shown. by_some a.shelf.left _ (λ rest left. left_of file a.shelf.left rest left (past_limit b.shelf.files name file a.shelf.left shown idle.why.0)))
    over (Some name) (inr d) = absurd (not_before f d.accepted.accepted.statements d.statements b.input a.input b.out a.out FileTooLong d.does tt)

pub ran_finds_too_long : (f : Option Form) (b a : Moment) (status : Status) → Ran f b a status → (Rose b.shelf.faults a.shelf.faults → ⊥)
    → IfNames f b.shelf.files (λ file. max_file < length file → IsOrMemory status FileTooLong)
ran_finds_too_long None b a status r shelf = by_some (file_shown b.shelf.files None) _ (λ file shown. absurd (no_name b.shelf.files file shown))
ran_finds_too_long (Some f) b a status r shelf = over (named_in f) r
  where
    over : (named : Option (List ℕ)) → RanOver f named b a status → IfSome (file_shown b.shelf.files named) (λ file. max_file < length file → IsOrMemory status FileTooLong)
    over None d = by_some (file_shown b.shelf.files None) _ (λ file shown. absurd (no_name b.shelf.files file shown))
    over (Some name) (inl idle) = by_some (file_shown b.shelf.files (Some name)) _ (λ file shown long. too_long_alone (RefusesFor f) name b.shelf a.shelf status file shown long shelf idle.why)
    over (Some name) (inr d) =
        by_some (file_shown b.shelf.files (Some name)) _ (λ file shown long. absurd (omega (arith, long, accepted_short name b.shelf a.shelf d.statements file shown d.accepted)))

pub ran_absent : (f : Option Form) (b a : Moment) (status : Status) → Ran f b a status
    → IfSome b.shelf.files (λ files. IfSome (file_named f) (λ name. files name ≡ None → IsOrMemory status ShelfFault))
ran_absent None b a status r = by_some b.shelf.files _ (λ files is. tt)
ran_absent (Some f) b a status r = over (named_in f) r
  where
    over : (named : Option (List ℕ)) → RanOver f named b a status → IfSome b.shelf.files (λ files. IfSome named (λ name. files name ≡ None → IsOrMemory status ShelfFault))
    over None d = by_some b.shelf.files _ (λ files is. tt)
    over (Some name) (inl idle) = by_some b.shelf.files _ (λ files is none. absent_alone (RefusesFor f) name b.shelf a.shelf status files is none idle.why)
    over (Some name) (inr d) = by_some b.shelf.files _ (λ files is none. absurd (no_file b.shelf.files files name d.accepted.file is none d.accepted.holds.is))

-- ---- causes

pub not_usage : (f : Form) (named : Option (List ℕ)) (b a : Moment) (status : Status) → RanOver f named b a status → status ≡ Usage → ⊥
not_usage f named b a status r is = over named (subst (RanOver f named b a) is r)
  where
    over : (named : Option (List ℕ)) → RanOver f named b a Usage → ⊥
    over None (inl idle) = unwanted f Usage idle.why
    over None (inr d) = not_before f [] [] b.input a.input b.out a.out Usage d.does tt
    over (Some name) (inl idle) = idle.why
    over (Some name) (inr d) = not_before f d.accepted.accepted.statements d.statements b.input a.input b.out a.out Usage d.does tt

pub ran_usage : (f : Option Form) (b a : Moment) (status : Status) → Ran f b a status → (status ≡ Usage) ↔ (f ≡ None)
ran_usage None b a status r = (λ _. refl, λ _. r.0)
ran_usage (Some f) b a status r = (λ is. absurd (not_usage f (named_in f) b a status r is), λ is. absurd (cc is))

pub ran_shelf_fault : (f : Option Form) (b a : Moment) (status : Status) → Ran f b a status → status ≡ ShelfFault → Rose b.shelf.faults a.shelf.faults
ran_shelf_fault None b a status r is = absurd (cc (r.0, is))
ran_shelf_fault (Some f) b a status r is = over (named_in f) (subst (Ran (Some f) b a) is r)
  where
    over : (named : Option (List ℕ)) → RanOver f named b a ShelfFault → Rose b.shelf.faults a.shelf.faults
    over None (inl idle) = absurd (unwanted f ShelfFault idle.why)
    over None (inr d) = absurd (not_before f [] [] b.input a.input b.out a.out ShelfFault d.does tt)
    over (Some name) (inl idle) = idle.why.0
    over (Some name) (inr d) = absurd (not_before f d.accepted.accepted.statements d.statements b.input a.input b.out a.out ShelfFault d.does tt)

pub ran_quiet : (f : Option Form) (b a : Moment) (status : Status) → Ran f b a status → IsTrue b.shelf.quiet → IfSome (file_named f) (λ name. HasFile b.shelf.files name → status ≡ ShelfFault → ⊥)
ran_quiet None b a status r quiet = tt
ran_quiet (Some f) b a status r quiet = over (named_in f) r
  where
    over : (named : Option (List ℕ)) → RanOver f named b a status → IfSome named (λ name. HasFile b.shelf.files name → status ≡ ShelfFault → ⊥)
    over None d = tt
    over (Some name) d = λ has is. by_fault has (subst (RanOver f (Some name) b a) is d)
      where
        by_fault : HasFile b.shelf.files name → RanOver f (Some name) b a ShelfFault → ⊥
        by_fault has (inl idle) = idle.why.1 quiet has
        by_fault has (inr d) = not_before f d.accepted.accepted.statements d.statements b.input a.input b.out a.out ShelfFault d.does tt

then_read_rose : (K : LineJob) (i i' : InputSide) (o o' : OutputSide) → StreamedThen K i i' o o' ReadFault → Rose i.faults i'.faults × (o'.faults ≡ o.faults)
then_read_rose K i i' o o' (inl x) = (x.streamed.why.1, x.streamed.why.2)
then_read_rose K i i' o o' (inr b) = absurd b.ends

read_rose : (f : Form) (T : List (Statement Path)) (K : List Bound) (i i' : InputSide) (o o' : OutputSide) → Does f T K i i' o o' ReadFault → Rose i.faults i'.faults × (o'.faults ≡ o.faults)
read_rose (running keys name) T K i i' o o' d = (d.1.why.1, d.1.why.2)
read_rose (checking name) T K i i' o o' d = absurd d.1
read_rose (generating number name) T K i i' o o' d = absurd d.1
read_rose (showing name) T K i i' o o' d = absurd d.1
read_rose (grouping name) T K i i' o o' d = then_read_rose (group_job d.aggregate d.statement) i i' o o' d.streamed
read_rose (scanning text) T K i i' o o' d = (d.streamed.why.1, d.streamed.why.2)

pub ran_read_rose : (f : Option Form) (b a : Moment) (status : Status) → Ran f b a status → status ≡ ReadFault → Rose b.input.faults a.input.faults × (a.out.faults ≡ b.out.faults)
ran_read_rose None b a status r is = absurd (cc (r.0, is))
ran_read_rose (Some f) b a status r is = over (named_in f) (subst (Ran (Some f) b a) is r)
  where
    over : (named : Option (List ℕ)) → RanOver f named b a ReadFault → Rose b.input.faults a.input.faults × (a.out.faults ≡ b.out.faults)
    over None (inl idle) = absurd (unwanted f ReadFault idle.why)
    over None (inr d) = read_rose f [] [] b.input a.input b.out a.out d.does
    over (Some name) (inl idle) = absurd idle.why
    over (Some name) (inr d) = read_rose f d.accepted.accepted.statements d.statements b.input a.input b.out a.out d.does

then_write_rose : (K : LineJob) (i i' : InputSide) (o o' : OutputSide) → StreamedThen K i i' o o' WriteFault → Rose o.faults o'.faults × (i'.faults ≡ i.faults)
then_write_rose K i i' o o' (inl x) = (x.streamed.why.1, x.streamed.why.2)
then_write_rose K i i' o o' (inr b) = (subst (λ (n : ℕ). Rose n o'.faults) b.streamed.why.4 b.ends.1, b.streamed.why.3)

write_rose : (f : Form) (T : List (Statement Path)) (K : List Bound) (i i' : InputSide) (o o' : OutputSide) → Does f T K i i' o o' WriteFault → Rose o.faults o'.faults × (i'.faults ≡ i.faults)
write_rose (running keys name) T K i i' o o' d = (d.1.why.1, d.1.why.2)
write_rose (checking name) T K i i' o o' d = (d.1.1, ap (λ (p : InputSide). p.faults) d.0)
write_rose (generating number name) T K i i' o o' d = (d.1.1, d.0.faults)
write_rose (showing name) T K i i' o o' d = (d.1.1, ap (λ (p : InputSide). p.faults) d.0)
write_rose (grouping name) T K i i' o o' d = then_write_rose (group_job d.aggregate d.statement) i i' o o' d.streamed
write_rose (scanning text) T K i i' o o' d = (d.streamed.why.1, d.streamed.why.2)

pub ran_write_rose : (f : Option Form) (b a : Moment) (status : Status) → Ran f b a status → status ≡ WriteFault → Rose b.out.faults a.out.faults × (a.input.faults ≡ b.input.faults)
ran_write_rose None b a status r is = absurd (cc (r.0, is))
ran_write_rose (Some f) b a status r is = over (named_in f) (subst (Ran (Some f) b a) is r)
  where
    over : (named : Option (List ℕ)) → RanOver f named b a WriteFault → Rose b.out.faults a.out.faults × (a.input.faults ≡ b.input.faults)
    over None (inl idle) = absurd (unwanted f WriteFault idle.why)
    over None (inr d) = write_rose f [] [] b.input a.input b.out a.out d.does
    over (Some name) (inl idle) = absurd idle.why
    over (Some name) (inr d) = write_rose f d.accepted.accepted.statements d.statements b.input a.input b.out a.out d.does

then_no_fault : (K : LineJob) (i i' : InputSide) (o o' : OutputSide) → StreamedThen K i i' o o' Done → (i'.faults ≡ i.faults) × (o'.faults ≡ o.faults)
then_no_fault K i i' o o' (inl x) = absurd (x.not_done refl)
then_no_fault K i i' o o' (inr b) = (b.streamed.why.3, b.ends.1 ∙ b.streamed.why.4)

no_fault : (f : Form) (T : List (Statement Path)) (K : List Bound) (i i' : InputSide) (o o' : OutputSide) → Does f T K i i' o o' Done → (i'.faults ≡ i.faults) × (o'.faults ≡ o.faults)
no_fault (running keys name) T K i i' o o' d = (d.1.why.3, d.1.why.4)
no_fault (checking name) T K i i' o o' d = (ap (λ (p : InputSide). p.faults) d.0, d.1.1)
no_fault (generating number name) T K i i' o o' d = (d.0.faults, d.1.1)
no_fault (showing name) T K i i' o o' d = (ap (λ (p : InputSide). p.faults) d.0, d.1.1)
no_fault (grouping name) T K i i' o o' d = then_no_fault (group_job d.aggregate d.statement) i i' o o' d.streamed
no_fault (scanning text) T K i i' o o' d = (d.streamed.why.3, d.streamed.why.4)

pub ran_done : (f : Option Form) (b a : Moment) (status : Status) → Ran f b a status → status ≡ Done → (a.shelf.faults ≡ b.shelf.faults) × (a.input.faults ≡ b.input.faults) × (a.out.faults ≡ b.out.faults)
ran_done None b a status r is = absurd (cc (r.0, is))
ran_done (Some f) b a status r is = over (named_in f) (subst (Ran (Some f) b a) is r)
  where
    over : (named : Option (List ℕ)) → RanOver f named b a Done → (a.shelf.faults ≡ b.shelf.faults) × (a.input.faults ≡ b.input.faults) × (a.out.faults ≡ b.out.faults)
    over None (inl idle) = absurd (unwanted f Done idle.why)
    over None (inr d) = let same = no_fault f [] [] b.input a.input b.out a.out d.does in (ap (λ (s : ShelfSide). s.faults) d.shelf, same.0, same.1)
    over (Some name) (inl idle) = absurd idle.why
    over (Some name) (inr d) = let same = no_fault f d.accepted.accepted.statements d.statements b.input a.input b.out a.out d.does in (d.accepted.holds.no_fault, same.0, same.1)

then_no_fault_before : (K : LineJob) (i i' : InputSide) (o o' : OutputSide) → StreamedThen K i i' o o' Memory → (i'.faults ≡ i.faults) × (o'.faults ≡ o.faults)
then_no_fault_before K i i' o o' (inl x) = (x.streamed.why.1, x.streamed.why.2)
then_no_fault_before K i i' o o' (inr b) = (b.streamed.why.3, b.ends.1 ∙ b.streamed.why.4)

no_fault_before : (f : Form) (T : List (Statement Path)) (K : List Bound) (i i' : InputSide) (o o' : OutputSide) → Does f T K i i' o o' Memory → (i'.faults ≡ i.faults) × (o'.faults ≡ o.faults)
no_fault_before (running keys name) T K i i' o o' d = (d.1.why.1, d.1.why.2)
no_fault_before (checking name) T K i i' o o' d = (ap (λ (p : InputSide). p.faults) d.0, ap (λ (p : OutputSide). p.faults) d.1)
no_fault_before (generating number name) T K i i' o o' d = (d.0.faults, ap (λ (p : OutputSide). p.faults) d.1)
no_fault_before (showing name) T K i i' o o' d = (ap (λ (p : InputSide). p.faults) d.0, ap (λ (p : OutputSide). p.faults) d.1)
no_fault_before (grouping name) T K i i' o o' d = then_no_fault_before (group_job d.aggregate d.statement) i i' o o' d.streamed
no_fault_before (scanning text) T K i i' o o' d = (d.streamed.why.1, d.streamed.why.2)

-- where memory ran out, no call had failed
pub ran_memory : (f : Option Form) (b a : Moment) (status : Status) → Ran f b a status → status ≡ Memory → (a.shelf.faults ≡ b.shelf.faults) × (a.input.faults ≡ b.input.faults) × (a.out.faults ≡ b.out.faults)
ran_memory None b a status r is = absurd (cc (r.0, is))
ran_memory (Some f) b a status r is = over (named_in f) (subst (Ran (Some f) b a) is r)
  where
    over : (named : Option (List ℕ)) → RanOver f named b a Memory → (a.shelf.faults ≡ b.shelf.faults) × (a.input.faults ≡ b.input.faults) × (a.out.faults ≡ b.out.faults)
    over None (inl idle) = (ap (λ (m : Moment). m.shelf.faults) idle.same, ap (λ (m : Moment). m.input.faults) idle.same, ap (λ (m : Moment). m.out.faults) idle.same)
    over None (inr d) = let same = no_fault_before f [] [] b.input a.input b.out a.out d.does in (ap (λ (s : ShelfSide). s.faults) d.shelf, same.0, same.1)
    over (Some name) (inl idle) = (idle.why, ap (λ (p : InputSide). p.faults) idle.input, ap (λ (p : OutputSide). p.faults) idle.out)
    over (Some name) (inr d) = let same = no_fault_before f d.accepted.accepted.statements d.statements b.input a.input b.out a.out d.does in (d.accepted.holds.no_fault, same.0, same.1)

-- ---- the limit of an input

then_took_most : (K : LineJob) (i i' : InputSide) (o o' : OutputSide) → StreamedThen K i i' o o' InputLimit → (i'.faults ≡ i.faults) × (o'.faults ≡ o.faults) × TookMost i.left i'.left
then_took_most K i i' o o' (inl x) = (x.streamed.why.2, x.streamed.why.3, (x.streamed.bytes, x.streamed.consumed, x.streamed.why.1))
then_took_most K i i' o o' (inr b) = absurd b.ends

took_most : (f : Form) (T : List (Statement Path)) (K : List Bound) (b a : Moment) → Does f T K b.input a.input b.out a.out InputLimit → (a.input.faults ≡ b.input.faults) × (a.out.faults ≡ b.out.faults) × TookMost b.input.left a.input.left
took_most (running keys name) T K b a d = (d.1.why.2, d.1.why.3, (d.1.bytes, d.1.consumed, d.1.why.1))
took_most (checking name) T K b a d = absurd d.1
took_most (generating number name) T K b a d = absurd d.1
took_most (showing name) T K b a d = absurd d.1
took_most (grouping name) T K b a d = then_took_most (group_job d.aggregate d.statement) b.input a.input b.out a.out d.streamed
took_most (scanning text) T K b a d = (d.streamed.why.2, d.streamed.why.3, (d.streamed.bytes, d.streamed.consumed, d.streamed.why.1))

pub ran_input_limit : (f : Option Form) (b a : Moment) (status : Status) → Ran f b a status → status ≡ InputLimit → (a.input.faults ≡ b.input.faults) × (a.out.faults ≡ b.out.faults) × TookMost b.input.left a.input.left
ran_input_limit None b a status r is = absurd (cc (r.0, is))
ran_input_limit (Some f) b a status r is = over (named_in f) (subst (Ran (Some f) b a) is r)
  where
    over : (named : Option (List ℕ)) → RanOver f named b a InputLimit → (a.input.faults ≡ b.input.faults) × (a.out.faults ≡ b.out.faults) × TookMost b.input.left a.input.left
    over None (inl idle) = absurd (unwanted f InputLimit idle.why)
    over None (inr d) = took_most f [] [] b a d.does
    over (Some name) (inl idle) = absurd idle.why
    over (Some name) (inr d) = took_most f d.accepted.accepted.statements d.statements b a d.does

-- where nothing is taken, the limit is not reached
same_below : (i i' : InputSide) (all rest : List ℕ) → i'.left ≡ i.left → i.left ≡ Some all → i'.left ≡ Some rest → length all ≡ length rest + max_input → ⊥
same_below i i' all rest same is is' len =
    let these : all ≡ rest = cc (same, is, is') in
    omega (arith, ap length these, len)

-- as many were taken as the two sides tell
taken : (a b : Option (List ℕ)) (all rest bytes : List ℕ) → a ≡ Some all → b ≡ Some rest → Consumes a b bytes → length all ≡ length bytes + length rest
taken a b all rest bytes is is' c =
    let t = told a b all bytes is c in
    let same : t.0 ≡ rest = cc (t.1, is') in
    ap length t.2 ∙ length-append bytes t.0 ∙ ap (λ (l : List ℕ). length bytes + length l) same

limit_by_why : (K : LineJob) (i i' : InputSide) (o : OutputSide) (o' : PrintState) (status : Status) (all rest : List ℕ) → (s : Streamed K i i' o o' status) → i.left ≡ Some all → i'.left ≡ Some rest
    → length all ≡ length rest + max_input → (Rose i.faults i'.faults → ⊥) → (Rose o.faults o'.out.faults → ⊥) → IsOrMemory status InputLimit
limit_by_why K i i' o o' Done all rest s is is' len read write = absurd (omega (arith, s.why.2, taken i.left i'.left all rest s.bytes is is' s.consumed, len))
limit_by_why K i i' o o' ReadFault all rest s is is' len read write = absurd (read s.why.1)
limit_by_why K i i' o o' WriteFault all rest s is is' len read write = absurd (write s.why.1)
limit_by_why K i i' o o' InputLimit all rest s is is' len read write = inl refl
limit_by_why K i i' o o' Memory all rest s is is' len read write = inr refl
limit_by_why K i i' o o' Usage all rest s is is' len read write = absurd s.why
limit_by_why K i i' o o' ShelfFault all rest s is is' len read write = absurd s.why
limit_by_why K i i' o o' FileTooLong all rest s is is' len read write = absurd s.why
limit_by_why K i i' o o' (Refused k kind) all rest s is is' len read write = absurd s.why

then_limit_by_why : (K : LineJob) (i i' : InputSide) (o o' : OutputSide) (status : Status) (all rest : List ℕ) → StreamedThen K i i' o o' status → i.left ≡ Some all → i'.left ≡ Some rest
    → length all ≡ length rest + max_input → (Rose i.faults i'.faults → ⊥) → (Rose o.faults o'.faults → ⊥) → IsOrMemory status InputLimit
then_limit_by_why K i i' o o' status all rest (inl x) is is' len read write = limit_by_why K i i' o (record { out = o'; page = x.page }) status all rest x.streamed is is' len read write
then_limit_by_why K i i' o o' status all rest (inr b) is is' len read write = absurd (omega (arith, b.streamed.why.2, taken i.left i'.left all rest b.streamed.bytes is is' b.streamed.consumed, len))

does_limit : (f : Form) (T : List (Statement Path)) (K : List Bound) (i i' : InputSide) (o o' : OutputSide) (status : Status) (all rest : List ℕ) → Does f T K i i' o o' status → i.left ≡ Some all → i'.left ≡ Some rest
    → length all ≡ length rest + max_input → (Rose i.faults i'.faults → ⊥) → (Rose o.faults o'.faults → ⊥) → IsOrMemory status InputLimit
does_limit (running keys name) T K i i' o o' status all rest d is is' len read write = limit_by_why (job keys K) i i' o (record { out = o'; page = d.0 }) status all rest d.1 is is' len read write
does_limit (checking name) T K i i' o o' status all rest d is is' len read write = absurd (same_below i i' all rest (ap (λ (p : InputSide). p.left) d.0) is is' len)
does_limit (generating number name) T K i i' o o' status all rest d is is' len read write = absurd (same_below i i' all rest d.0.left is is' len)
does_limit (showing name) T K i i' o o' status all rest d is is' len read write = absurd (same_below i i' all rest (ap (λ (p : InputSide). p.left) d.0) is is' len)
does_limit (grouping name) T K i i' o o' status all rest d is is' len read write = then_limit_by_why (group_job d.aggregate d.statement) i i' o o' status all rest d.streamed is is' len read write
does_limit (scanning text) T K i i' o o' status all rest d is is' len read write = limit_by_why (scan_job d.path) i i' o (record { out = o'; page = d.page }) status all rest d.streamed is is' len read write

ends_limit : (f : Option Form) (b a : Moment) (status : Status) (all rest : List ℕ) → Ran f b a status → b.input.left ≡ Some all → a.input.left ≡ Some rest
    → length all ≡ length rest + max_input → (Rose b.input.faults a.input.faults → ⊥) → (Rose b.out.faults a.out.faults → ⊥) → IsOrMemory status InputLimit
ends_limit None b a status all rest r is is' len read write = absurd (same_below b.input a.input all rest (ap (λ (m : Moment). m.input.left) r.1) is is' len)
ends_limit (Some f) b a status all rest r is is' len read write = over (named_in f) r
  where
    over : (named : Option (List ℕ)) → RanOver f named b a status → IsOrMemory status InputLimit
    over None (inl idle) = absurd (same_below b.input a.input all rest (ap (λ (m : Moment). m.input.left) idle.same) is is' len)
    over None (inr d) = does_limit f [] [] b.input a.input b.out a.out status all rest d.does is is' len read write
    over (Some name) (inl idle) = absurd (same_below b.input a.input all rest (ap (λ (p : InputSide). p.left) idle.input) is is' len)
    over (Some name) (inr d) = does_limit f d.accepted.accepted.statements d.statements b.input a.input b.out a.out status all rest d.does is is' len read write

-- where as many bytes were taken as an input may have, and no call failed, the run stops at the limit
pub ran_finds_limit : (f : Option Form) (b a : Moment) (status : Status) → Ran f b a status → (Rose b.input.faults a.input.faults → ⊥) → (Rose b.out.faults a.out.faults → ⊥)
    → IfSome b.input.left (λ all. IfSome a.input.left (λ rest. length all ≡ length rest + max_input → IsOrMemory status InputLimit))
ran_finds_limit f b a status r read write =
    by_some b.input.left _ (λ all is. by_some a.input.left _ (λ rest is' len. ends_limit f b a status all rest r is is' len read write))
