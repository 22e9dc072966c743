-- What follows of how a scan ended.
use Rattle.std.proofs.Common.{◌≡◌, inl, inr, ℕ, ◌<◌, List, length, Option, None, Some, IfSome, refl, sym, ◌∙◌, ap, subst}
use Rattle.std.specs.Io.KnownBytes.{IsAtEnd}
use Rattle.sj_base.specs.Count.{Rose}
use Rattle.sj_path_tree.specs.Tree.{Path}
use Rattle.sj_path_grammar.specs.declared.refusal.PathRefusal.{PathRefusal}
use Rattle.sj_path_grammar.specs.declared.refusal.PathRefusal.TheVariants as r
use Rattle.sj_path_grammar.specs.Answers.{Accepts}
use Rattle.sj_path_grammar.proofs.Acceptance.{accepted_is}
use Rattle.sj_path_grammar.proofs.Laws as grammar
use Rattle.sj_sql_grammar.specs.declared.refusal.FileKind.{FileKind}
use Rattle.sj_scan_statement.specs.Statement.{IsToScan, refusal_kind, RefusesToScan}
use Rattle.sj_page.specs.Sides.{OutputSide, Grew}
use Rattle.sj_rows.specs.Lines.{max_input}
use Rattle.sj_file.specs.declared.status.Status.{Status}
use Rattle.sj_file.specs.declared.status.Status.TheVariants.{Done, Usage, Refused, ShelfFault, ReadFault, WriteFault, Memory, InputLimit, FileTooLong}
use Rattle.sj_file.specs.File.{ShelfSide, Form, running, checking, generating, showing, grouping, scanning, path_scanned}
use Rattle.sj_file.specs.Conditions.{IsOrMemory}
use Rattle.sj_file.proofs.ShownFiles.{by_some}
use Rattle.sj_stream.specs.LineJob.{output}
use Rattle.sj_stream.specs.Stream.{Streamed, IsFrontOf, WroteLeast, WroteWhole, StepsWithin}
use Rattle.sj_stream.proofs.Then.{all_taken}
use Rattle.sj_stream.proofs.Streaming.{streamed_front}
use Rattle.sj_stream.specs.Input.{InputSide}
use Rattle.sj_page.specs.Pages.{PrintState}
use Rattle.sj_bound.specs.Bound.{Bound}
use Rattle.sj_file.specs.declared.job.Keys.TheVariants.{Any}
use Rattle.sj_run.specs.Output.{job}
use Rattle.sj_run.specs.Scanned.{AreScanOf, scan_job, IfScans, IfRefusesToScan, IsUnscanned}
use Rattle.sj_run.specs.Ran.{Moment, moment, RanOver, Ran}
use Rattle.sj_run.proofs.Ending.{idle_front, idle_within, idle_least, streamed_least, streamed_complete}

-- ---- a text has one path at the most, or one refusal

same_some : {A : Type 0} {x y : A} → Some x ≡ Some y → x ≡ y
same_some e = cc e

one_path : (text : List ℕ) (p q : Path) → Accepts text p → Accepts text q → p ≡ q
one_path text p q a b = same_some (sym (accepted_is text p a) ∙ accepted_is text q b)

no_memory : (refusal : PathRefusal) (x : FileKind) → refusal_kind refusal ≡ Some x → refusal ≡ r.Memory → ⊥
no_memory refusal x called is = cc (called, ap refusal_kind is)

not_both : (text : List ℕ) (p : Path) (x : FileKind) → IsToScan text p → RefusesToScan text x → ⊥
not_both text p x to (inl unread) = no_memory unread.refusal x unread.called (grammar.accepted text p unread.refusal to.accepted unread.refused)
not_both text p x to (inr back) =
    cc (to.forward, back.backward, one_path text p back.path to.accepted back.accepted)

one_refusal : (text : List ℕ) (x y : FileKind) → RefusesToScan text x → RefusesToScan text y → x ≡ y
one_refusal text x y (inl unread) (inl other) =
    same_some (sym unread.called ∙ ap refusal_kind (grammar.refused text unread.refusal other.refusal unread.refused other.refused (no_memory unread.refusal x unread.called) (no_memory other.refusal y other.called)) ∙ other.called)
one_refusal text x y (inl unread) (inr back) = absurd (no_memory unread.refusal x unread.called (grammar.accepted text back.path unread.refusal back.accepted unread.refused))
one_refusal text x y (inr back) (inl unread) = absurd (no_memory unread.refusal y unread.called (grammar.accepted text back.path unread.refusal back.accepted unread.refused))
one_refusal text x y (inr back) (inr other) = back.called ∙ sym other.called

-- ---- what was done

-- the one statement of a path ran
pub did_scan : (shelf : ShelfSide) (text : List ℕ) (i i' : InputSide) (o : OutputSide) (o' : PrintState) (K : List Bound) (status : Status) → AreScanOf text K → Streamed (job Any K) i i' o o' status
    → Ran (Some (scanning text)) (moment shelf i o) (moment shelf i' o'.out) status
did_scan shelf text i i' o o' K status of s = inr (record {
  shelf = refl;
  does = record { path = of.0; taken = of.1; page = o'.page; streamed = subst (λ (k : List Bound). Streamed (job Any k) i i' o o' status) of.2 s };
})

-- its text was not taken
pub did_not_scan : (shelf : ShelfSide) (text : List ℕ) (i : InputSide) (o : OutputSide) (status : Status) → IsUnscanned text status → Ran (Some (scanning text)) (moment shelf i o) (moment shelf i o) status
did_not_scan shelf text i o status why = inl (record { why = why; same = refl })

-- ---- by the form

-- what holds of every text that is scanned for
for_scan : (f : Option Form) (P : List ℕ → Type 0) → ((text : List ℕ) → f ≡ Some (scanning text) → P text) → IfSome (path_scanned f) P
for_scan None P h = tt
for_scan (Some (running keys name)) P h = tt
for_scan (Some (checking name)) P h = tt
for_scan (Some (generating number name)) P h = tt
for_scan (Some (showing name)) P h = tt
for_scan (Some (grouping name)) P h = tt
for_scan (Some (scanning text)) P h = h text refl

-- either its text was not taken, which is then refused or memory ran out, or the items of its path were told
on_scan : (f : Option Form) (b a : Moment) (status : Status) (P : Path → Type 0) → Ran f b a status
    → ((path : Path) (text : List ℕ) → IsToScan text path → IsUnscanned text status → a ≡ b → P path)
    → ((path : Path) → (page : _) → Streamed (scan_job path) b.input a.input b.out (record { out = a.out; page = page }) status → P path)
    → IfScans f P
on_scan f b a status P r idle scanned =
    for_scan f (λ text. (path : Path) → IsToScan text path → P path) (λ text is path to. go text path to (subst (λ (x : Option Form). Ran x b a status) is r))
  where
    go : (text : List ℕ) (path : Path) → IsToScan text path → RanOver (scanning text) None b a status → P path
    go text path to (inl i) = idle path text to i.why i.same
    go text path to (inr d) =
        scanned path d.does.page (subst (λ (p : Path). Streamed (scan_job p) b.input a.input b.out (record { out = a.out; page = d.does.page }) status) (one_path text d.does.path path d.does.taken.accepted to.accepted) d.does.streamed)

-- what a scan that is Done has written
pub ran_scanned : (f : Option Form) (b a : Moment) (status : Status) → Ran f b a status → status ≡ Done
    → IfScans f (λ path. IfSome b.input.left (λ all. Grew b.out a.out (output (scan_job path) all)))
ran_scanned f b a status r done =
    on_scan f b a Done (λ path. IfSome b.input.left (λ all. Grew b.out a.out (output (scan_job path) all))) (subst (Ran f b a) done r)
    (λ path text to why same. absurd why)
    (λ path page s. by_some b.input.left _ (λ all left.
    subst (Grew b.out a.out) (s.why.0 ∙ ap (output (scan_job path)) (all_taken b.input.left a.input.left all s.bytes left s.consumed s.why.1)) s.grew))

-- however it ended, a front of it
pub ran_scan_front : (f : Option Form) (b a : Moment) (status : Status) → Ran f b a status
    → IfScans f (λ path. IfSome b.input.left (λ all. IsFrontOf (output (scan_job path) all) b.out a.out))
ran_scan_front f b a status r =
    on_scan f b a status (λ path. IfSome b.input.left (λ all. IsFrontOf (output (scan_job path) all) b.out a.out)) r
    (λ path text to why same. by_some b.input.left _ (λ all left. idle_front (output (scan_job path) all) b.out a.out (ap (λ (m : Moment). m.out) same)))
    (λ path page s. by_some b.input.left _ (λ all left. streamed_front (scan_job path) b.input a.input b.out (record { out = a.out; page = page }) status all s left))

pub ran_scan_least : (f : Option Form) (b a : Moment) (status : Status) → Ran f b a status
    → IfScans f (λ path. WroteLeast (scan_job path) b.input a.input b.out a.out)
ran_scan_least f b a status r =
    on_scan f b a status (λ path. WroteLeast (scan_job path) b.input a.input b.out a.out) r
    (λ path text to why same. idle_least (scan_job path) b.input a.input b.out a.out (ap (λ (m : Moment). m.input) same) (ap (λ (m : Moment). m.out) same))
    (λ path page s. streamed_least (scan_job path) b.input a.input b.out (record { out = a.out; page = page }) status s)

-- whole lines alone
pub ran_scan_read_fault : (f : Option Form) (b a : Moment) (status : Status) → Ran f b a status → status ≡ ReadFault
    → IfScans f (λ path. WroteWhole (scan_job path) b.input a.input b.out a.out)
ran_scan_read_fault f b a status r so =
    on_scan f b a ReadFault (λ path. WroteWhole (scan_job path) b.input a.input b.out a.out) (subst (Ran f b a) so r)
    (λ path text to why same. absurd why)
    (λ path page s. record { bytes = s.bytes; consumed = s.consumed; grew = subst (Grew b.out a.out) s.why.0 s.grew })

pub ran_scan_limit : (f : Option Form) (b a : Moment) (status : Status) → Ran f b a status → status ≡ InputLimit
    → IfScans f (λ path. WroteWhole (scan_job path) b.input a.input b.out a.out)
ran_scan_limit f b a status r so =
    on_scan f b a InputLimit (λ path. WroteWhole (scan_job path) b.input a.input b.out a.out) (subst (Ran f b a) so r)
    (λ path text to why same. absurd why)
    (λ path page s. record { bytes = s.bytes; consumed = s.consumed; grew = subst (Grew b.out a.out) s.why.0 s.grew })

-- to the end of the input
pub ran_scan_to_end : (f : Option Form) (b a : Moment) (status : Status) → Ran f b a status → status ≡ Done → IfSome (path_scanned f) (λ _. IsAtEnd a.input.left)
ran_scan_to_end f b a status r so =
    for_scan f (λ _. IsAtEnd a.input.left) (λ text is. at_end text (subst (λ (x : Option Form). Ran x b a Done) is (subst (Ran f b a) so r)))
  where
    at_end : (text : List ℕ) → RanOver (scanning text) None b a Done → IsAtEnd a.input.left
    at_end text (inl idle) = absurd idle.why
    at_end text (inr d) = d.does.streamed.why.1

-- within what the lines allow
pub ran_scan_within : (f : Option Form) (b a : Moment) (status : Status) → Ran f b a status
    → IfScans f (λ path. StepsWithin (scan_job path) b.input a.input)
ran_scan_within f b a status r =
    on_scan f b a status (λ path. StepsWithin (scan_job path) b.input a.input) r
    (λ path text to why same. idle_within (scan_job path) b.input a.input (ap (λ (m : Moment). m.input) same))
    (λ path page s. record { bytes = s.bytes; consumed = s.consumed; costs = s.costs })

-- ---- refusals

streamed_not_refused : (path : Path) (b a : Moment) (page : _) (k : ℕ) (kind : FileKind) → Streamed (scan_job path) b.input a.input b.out (record { out = a.out; page = page }) (Refused k kind) → ⊥
streamed_not_refused path b a page k kind s = s.why

pub ran_scan_refused : (f : Option Form) (b a : Moment) (status : Status) → Ran f b a status → (k : ℕ) (kind : FileKind) → status ≡ Refused k kind
    → IfSome (path_scanned f) (λ text. (k ≡ 1) × RefusesToScan text kind)
ran_scan_refused f b a status r k kind is =
    for_scan f (λ text. (k ≡ 1) × RefusesToScan text kind) (λ text asked. go text (subst (λ (x : Option Form). Ran x b a (Refused k kind)) asked (subst (Ran f b a) is r)))
  where
    go : (text : List ℕ) → RanOver (scanning text) None b a (Refused k kind) → (k ≡ 1) × RefusesToScan text kind
    go text (inl idle) = idle.why
    go text (inr d) = absurd (streamed_not_refused d.does.path b a d.does.page k kind d.does.streamed)

this_kind : (text : List ℕ) (status : Status) (kind : FileKind) → RefusesToScan text kind → IsUnscanned text status → IsOrMemory status (Refused 1 kind)
this_kind text (Refused k x) kind bad why = inl (same_refusal k x kind why.0 (one_refusal text x kind why.1 bad))
  where
    same_refusal : (k : ℕ) (x kind : FileKind) → k ≡ 1 → x ≡ kind → Refused k x ≡ Refused 1 kind
    same_refusal k x kind number same = cc (number, same)
this_kind text Memory kind bad why = inr refl
this_kind text Done kind bad why = absurd why
this_kind text Usage kind bad why = absurd why
this_kind text ShelfFault kind bad why = absurd why
this_kind text ReadFault kind bad why = absurd why
this_kind text WriteFault kind bad why = absurd why
this_kind text InputLimit kind bad why = absurd why
this_kind text FileTooLong kind bad why = absurd why

pub ran_scan_refuses : (f : Option Form) (b a : Moment) (status : Status) → Ran f b a status → IfRefusesToScan f (λ kind. IsOrMemory status (Refused 1 kind))
ran_scan_refuses f b a status r =
    for_scan f (λ text. (kind : FileKind) → RefusesToScan text kind → IsOrMemory status (Refused 1 kind)) (λ text asked kind bad. go text kind bad (subst (λ (x : Option Form). Ran x b a status) asked r))
  where
    go : (text : List ℕ) (kind : FileKind) → RefusesToScan text kind → RanOver (scanning text) None b a status → IsOrMemory status (Refused 1 kind)
    go text kind bad (inl idle) = this_kind text status kind bad idle.why
    go text kind bad (inr d) = absurd (not_both text d.does.path kind d.does.taken bad)

-- ---- when it is done

memory_alone : (text : List ℕ) (path : Path) (status : Status) → IsToScan text path → IsUnscanned text status → IsOrMemory status Done
memory_alone text path (Refused k x) to why = absurd (not_both text path x to why.1)
memory_alone text path Memory to why = inr refl
memory_alone text path Done to why = absurd why
memory_alone text path Usage to why = absurd why
memory_alone text path ShelfFault to why = absurd why
memory_alone text path ReadFault to why = absurd why
memory_alone text path WriteFault to why = absurd why
memory_alone text path InputLimit to why = absurd why
memory_alone text path FileTooLong to why = absurd why

pub ran_scan_completes : (f : Option Form) (b a : Moment) (status : Status) → Ran f b a status
    → (Rose b.input.faults a.input.faults → ⊥) → (Rose b.out.faults a.out.faults → ⊥)
    → IfScans f (λ _. IfSome b.input.left (λ all. length all < max_input → IsOrMemory status Done))
ran_scan_completes f b a status r read out =
    on_scan f b a status (λ _. IfSome b.input.left (λ all. length all < max_input → IsOrMemory status Done)) r
    (λ path text to why same. by_some b.input.left _ (λ all left fits. memory_alone text path status to why))
    (λ path page s. by_some b.input.left _ (λ all left fits. streamed_complete (scan_job path) b.input a.input b.out (record { out = a.out; page = page }) status all left fits read out s))
