-- What follows of how a command ended that groups.
use Rattle.std.proofs.Common.{◌≡◌, inl, inr, ℕ, ◌<◌, ◌≤◌, List, [], ◌∷◌, length, Option, None, Some, IfSome, refl, subst, arith}
use Rattle.std.specs.Io.KnownBytes.{IsAtEnd}
use Rattle.sj_base.specs.Count.{Rose}
use Rattle.sj_bound.specs.Bound.{Bound}
use Rattle.sj_group.specs.declared.aggregate.Aggregate.{Aggregate}
use Rattle.sj_group.specs.declared.aggregate.Aggregate.TheVariants.{Array, Object}
use Rattle.sj_page.specs.Sides.{OutputSide, Grew}
use Rattle.sj_sql_grammar.specs.Answers.{max_file}
use Rattle.sj_rows.specs.Lines.{max_input}
use Rattle.sj_file.specs.declared.status.Status.{Status}
use Rattle.sj_file.specs.declared.status.Status.TheVariants.{Done, Usage, Refused, ShelfFault, ReadFault, WriteFault, Memory, InputLimit, FileTooLong}
use Rattle.sj_file.specs.File.{Form, running, checking, generating, showing, grouping, scanning, file_to_group, file_shown}
use Rattle.sj_file.specs.Verdict.{Accepts}
use Rattle.sj_file.specs.ToGroup.{CanGroup, RefusesToGroup}
use Rattle.sj_file.specs.Conditions.{IfGroups, IfToGroup, IsOrMemory}
use Rattle.sj_file.proofs.Verdicts.{one_accepted}
use Rattle.sj_file.proofs.ShownFiles.{by_some, accepted_as, for_group}
use Rattle.sj_file.proofs.Grouped.{not_unfit}
use Rattle.sj_file.proofs.Unaccepted.{only_memory}
use Rattle.sj_stream.specs.Input.{InputSide}
use Rattle.sj_stream.specs.LineJob.{LineJob, output}
use Rattle.sj_stream.specs.Stream.{IsFrontOf, WroteWhole, StepsWithin}
use Rattle.sj_stream.specs.Then.{Ends, StreamedThen}
use Rattle.sj_stream.proofs.Then.{then_done, then_front, then_none, then_read_fault, then_limit}
use Rattle.sj_group_run.specs.GroupJob.{group_job, group_output}
use Rattle.sj_run.specs.Ran.{Moment, Grouped, Idle, RanOver, Ran}
use Rattle.sj_run.proofs.Ending.{idle_front, idle_within, streamed_complete}

-- a statement can be grouped in one way at the most
one_aggregate : (a c : Aggregate) (s : Bound) → CanGroup a s → CanGroup c s → a ≡ c
one_aggregate Array Array s p q = refl
one_aggregate Array Object s p q = absurd (omega (arith, p, q.0))
one_aggregate Object Array s p q = absurd (omega (arith, p.0, q))
one_aggregate Object Object s p q = refl

-- What holds where no file was taken, and where the rows of its one statement were grouped, holds of a file to group.
on_group : (f : Option Form) (b a : Moment) (status : Status) (P : Aggregate → Bound → Type 0) → Ran f b a status
    → ((aggregate : Aggregate) (s : Bound) (name : List ℕ) → Idle (grouping name) name b a status → P aggregate s)
    → ((aggregate : Aggregate) (s : Bound) → StreamedThen (group_job aggregate s) b.input a.input b.out a.out status → P aggregate s)
    → IfGroups f b.shelf.files (λ file. IfToGroup file P)
on_group f b a status P r idle grouped =
    for_group f b.shelf.files (λ file. IfToGroup file P)
    (λ name file is shown aggregate s accepts can. go name file aggregate s shown accepts can (subst (λ (x : Option Form). Ran x b a status) is r))
  where
    with : (K : List Bound) (aggregate : Aggregate) (s : Bound) → K ≡ s ∷ [] → CanGroup aggregate s → Grouped K b.input a.input b.out a.out status → P aggregate s
    with K aggregate s is can d =
        let same : d.statement ≡ s = cc (d.only, is) in
        let made : d.aggregate ≡ aggregate = one_aggregate d.aggregate aggregate s (subst (CanGroup d.aggregate) same d.fits) can in
        grouped aggregate s (subst (λ (x : Aggregate). StreamedThen (group_job x s) b.input a.input b.out a.out status) made (subst (λ (x : Bound). StreamedThen (group_job d.aggregate x) b.input a.input b.out a.out status) same d.streamed))

    go : (name file : List ℕ) (aggregate : Aggregate) (s : Bound) → file_shown b.shelf.files (Some name) ≡ Some file → Accepts file (s ∷ []) → CanGroup aggregate s → RanOver (grouping name) (Some name) b a status → P aggregate s
    go name file aggregate s shown accepts can (inl i) = idle aggregate s name i
    go name file aggregate s shown accepts can (inr d) = with d.statements aggregate s (one_accepted file d.statements (s ∷ []) (accepted_as name b.shelf a.shelf d.statements file shown d.accepted) accepts) can d.does

-- what a command that is Done has written
pub ran_grouped : (f : Option Form) (b a : Moment) (status : Status) → Ran f b a status → status ≡ Done
    → IfGroups f b.shelf.files (λ file. IfToGroup file (λ aggregate s. IfSome b.input.left (λ all. Grew b.out a.out (group_output aggregate s all))))
ran_grouped f b a status r done =
    on_group f b a Done (λ aggregate s. IfSome b.input.left (λ all. Grew b.out a.out (group_output aggregate s all))) (subst (Ran f b a) done r)
    (λ aggregate s name idle. absurd idle.why)
    (λ aggregate s t. by_some b.input.left _ (λ all left. then_done (group_job aggregate s) b.input a.input b.out a.out all t left))

-- however it ended, a front of it
pub ran_group_front : (f : Option Form) (b a : Moment) (status : Status) → Ran f b a status
    → IfGroups f b.shelf.files (λ file. IfToGroup file (λ aggregate s. IfSome b.input.left (λ all. IsFrontOf (group_output aggregate s all) b.out a.out)))
ran_group_front f b a status r =
    on_group f b a status (λ aggregate s. IfSome b.input.left (λ all. IsFrontOf (group_output aggregate s all) b.out a.out)) r
    (λ aggregate s name idle. by_some b.input.left _ (λ all left. idle_front (group_output aggregate s all) b.out a.out idle.out))
    (λ aggregate s t. by_some b.input.left _ (λ all left. then_front (group_job aggregate s) b.input a.input b.out a.out status all t left))

-- no group unless the input was read to its end
pub ran_group_none : (f : Option Form) (b a : Moment) (status : Status) → Ran f b a status → (IsAtEnd a.input.left → ⊥)
    → IfGroups f b.shelf.files (λ file. IfToGroup file (λ aggregate s. IfSome b.input.left (λ all. IsFrontOf (output (group_job aggregate s) all) b.out a.out)))
ran_group_none f b a status r more =
    on_group f b a status (λ aggregate s. IfSome b.input.left (λ all. IsFrontOf (output (group_job aggregate s) all) b.out a.out)) r
    (λ aggregate s name idle. by_some b.input.left _ (λ all left. idle_front (output (group_job aggregate s) all) b.out a.out idle.out))
    (λ aggregate s t. by_some b.input.left _ (λ all left. then_none (group_job aggregate s) b.input a.input b.out a.out status all t left more))

-- whole lines alone
pub ran_group_read_fault : (f : Option Form) (b a : Moment) (status : Status) → Ran f b a status → status ≡ ReadFault
    → IfGroups f b.shelf.files (λ file. IfToGroup file (λ aggregate s. WroteWhole (group_job aggregate s) b.input a.input b.out a.out))
ran_group_read_fault f b a status r so =
    on_group f b a ReadFault (λ aggregate s. WroteWhole (group_job aggregate s) b.input a.input b.out a.out) (subst (Ran f b a) so r)
    (λ aggregate s name idle. absurd idle.why) (λ aggregate s t. then_read_fault (group_job aggregate s) b.input a.input b.out a.out t)

pub ran_group_limit : (f : Option Form) (b a : Moment) (status : Status) → Ran f b a status → status ≡ InputLimit
    → IfGroups f b.shelf.files (λ file. IfToGroup file (λ aggregate s. WroteWhole (group_job aggregate s) b.input a.input b.out a.out))
ran_group_limit f b a status r so =
    on_group f b a InputLimit (λ aggregate s. WroteWhole (group_job aggregate s) b.input a.input b.out a.out) (subst (Ran f b a) so r)
    (λ aggregate s name idle. absurd idle.why) (λ aggregate s t. then_limit (group_job aggregate s) b.input a.input b.out a.out t)

-- to the end of the input
then_to_end : (K : LineJob) (i i' : InputSide) (o o' : OutputSide) → StreamedThen K i i' o o' Done → IsAtEnd i'.left
then_to_end K i i' o o' (inl x) = absurd (x.not_done refl)
then_to_end K i i' o o' (inr b) = b.streamed.why.1

pub ran_group_to_end : (f : Option Form) (b a : Moment) (status : Status) → Ran f b a status → status ≡ Done → IfSome (file_to_group f) (λ _. IsAtEnd a.input.left)
ran_group_to_end None b a status r so = tt
ran_group_to_end (Some (running keys name)) b a status r so = tt
ran_group_to_end (Some (checking name)) b a status r so = tt
ran_group_to_end (Some (generating number name)) b a status r so = tt
ran_group_to_end (Some (showing name)) b a status r so = tt
ran_group_to_end (Some (scanning text)) b a status r so = tt
ran_group_to_end (Some (grouping name)) b a status r so = at_end (subst (Ran (Some (grouping name)) b a) so r)
  where
    at_end : Ran (Some (grouping name)) b a Done → IsAtEnd a.input.left
    at_end (inl idle) = absurd idle.why
    at_end (inr d) = then_to_end (group_job d.does.aggregate d.does.statement) b.input a.input b.out a.out d.does.streamed

-- within what the lines allow
then_within : (K : LineJob) (i i' : InputSide) (o o' : OutputSide) (status : Status) → StreamedThen K i i' o o' status → StepsWithin K i i'
then_within K i i' o o' status (inl x) = record { bytes = x.streamed.bytes; consumed = x.streamed.consumed; costs = x.streamed.costs }
then_within K i i' o o' status (inr b) = record { bytes = b.streamed.bytes; consumed = b.streamed.consumed; costs = b.streamed.costs }

pub ran_group_within : (f : Option Form) (b a : Moment) (status : Status) → Ran f b a status
    → IfGroups f b.shelf.files (λ file. IfToGroup file (λ aggregate s. StepsWithin (group_job aggregate s) b.input a.input))
ran_group_within f b a status r =
    on_group f b a status (λ aggregate s. StepsWithin (group_job aggregate s) b.input a.input) r
    (λ aggregate s name idle. idle_within (group_job aggregate s) b.input a.input idle.input)
    (λ aggregate s t. then_within (group_job aggregate s) b.input a.input b.out a.out status t)

-- ---- when it is done

ends_complete : (text : List ℕ) (o mid o' : OutputSide) (status : Status) → mid.faults ≡ o.faults → (Rose o.faults o'.faults → ⊥) → Ends text mid o' status → IsOrMemory status Done
ends_complete text o mid o' Done same out e = inl refl
ends_complete text o mid o' Memory same out e = inr refl
ends_complete text o mid o' WriteFault same out e = absurd (out (subst (λ (n : ℕ). Rose n o'.faults) same e.1))
ends_complete text o mid o' ReadFault same out e = absurd e
ends_complete text o mid o' InputLimit same out e = absurd e
ends_complete text o mid o' Usage same out e = absurd e
ends_complete text o mid o' ShelfFault same out e = absurd e
ends_complete text o mid o' FileTooLong same out e = absurd e
ends_complete text o mid o' (Refused k kind) same out e = absurd e

then_complete : (K : LineJob) (i i' : InputSide) (o o' : OutputSide) (status : Status) (all : List ℕ) → i.left ≡ Some all → length all < max_input → (Rose i.faults i'.faults → ⊥) → (Rose o.faults o'.faults → ⊥) → StreamedThen K i i' o o' status → IsOrMemory status Done
then_complete K i i' o o' status all left fits read out (inl x) = streamed_complete K i i' o (record { out = o'; page = x.page }) status all left fits read out x.streamed
then_complete K i i' o o' status all left fits read out (inr b) = ends_complete _ o b.mid.out o' status b.streamed.why.4 out b.ends

pub ran_group_completes : (f : Option Form) (b a : Moment) (status : Status) → Ran f b a status
    → (Rose b.shelf.faults a.shelf.faults → ⊥) → (Rose b.input.faults a.input.faults → ⊥) → (Rose b.out.faults a.out.faults → ⊥)
    → IfGroups f b.shelf.files (λ file. length file ≤ max_file → IfToGroup file (λ aggregate s. IfSome b.input.left (λ all. length all < max_input → IsOrMemory status Done)))
ran_group_completes f b a status r shelf read out =
    for_group f b.shelf.files (λ file. length file ≤ max_file → IfToGroup file (λ aggregate s. IfSome b.input.left (λ all. length all < max_input → IsOrMemory status Done)))
    (λ name file is shown short aggregate s accepts can. by_some b.input.left _ (λ all left fits. go name file aggregate s all shown short accepts can left fits (subst (λ (x : Option Form). Ran x b a status) is r)))
  where
    go : (name file : List ℕ) (aggregate : Aggregate) (s : Bound) (all : List ℕ) → file_shown b.shelf.files (Some name) ≡ Some file → length file ≤ max_file → Accepts file (s ∷ []) → CanGroup aggregate s → b.input.left ≡ Some all → length all < max_input
        → RanOver (grouping name) (Some name) b a status → IsOrMemory status Done
    go name file aggregate s all shown short accepts can left fits (inl idle) = inr (only_memory RefusesToGroup name b.shelf a.shelf status file shown (not_unfit file s aggregate accepts can) short shelf idle.why)
    go name file aggregate s all shown short accepts can left fits (inr d) = then_complete (group_job d.does.aggregate d.does.statement) b.input a.input b.out a.out status all left fits read out d.does.streamed
