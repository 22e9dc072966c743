-- A run over objects in memory.
use Rattle.std.proofs.Common.{◌≡◌, inl, inr, ℕ, List, [], ◌∷◌, ◌++◌, Option, None, Some, string_bytes, codes, sym, ◌∙◌, ap, subst}
use Rattle.std.specs.declared.string.String.{String}
use Rattle.std.specs.Io.KnownBytes.{Appends}
use Rattle.sj_file.specs.declared.job.Keys.{Keys}
use Rattle.sj_file.specs.declared.job.Keys.TheVariants.{Any, Unique}
use Rattle.sj_file.specs.declared.status.Status.{Status}
use Rattle.sj_file.specs.declared.status.Status.TheVariants.{Done, Usage, Refused, ShelfFault, ReadFault, WriteFault, Memory, InputLimit, FileTooLong}
use Rattle.sj_file.specs.File.{Form, running, form_of, form_with, command, file_shown}
use Rattle.sj_file.proofs.ShownFiles.{accepted_as}
use Rattle.sj_stream.specs.LineJob.{output}
use Rattle.sj_stream.proofs.Then.{all_taken}
use Rattle.sj_run.specs.Output.{job}
use Rattle.sj_run.specs.Ran.{Moment, Did, RanOver, Ran}
use Rattle.sj_host.specs.Host.{file_name, unanswered_by, IsWhy, IsWhyUnwritten, Answers}
use Rattle.sj_host.proofs.Files.{why}

-- ---- the words

pub any_words : {A : Type 0} (words : List (String A)) (w f : String A) → words ≡ w ∷ f ∷ [] → string_bytes w ≡ codes "run" → string_bytes f ≡ file_name → command words ≡ Some (running Any file_name)
any_words words w f is a b = ap command is ∙ ap (λ (n : List ℕ). form_of n (string_bytes f)) a ∙ ap (form_of (codes "run")) b

pub unique_words : {A : Type 0} (words : List (String A)) (w k f : String A) → words ≡ w ∷ k ∷ f ∷ [] → string_bytes w ≡ codes "run" → string_bytes k ≡ codes "--unique-keys" → string_bytes f ≡ file_name
    → command words ≡ Some (running Unique file_name)
unique_words words w k f is a m b =
    ap command is ∙ ap (λ (n : List ℕ). form_with n (string_bytes k) (string_bytes f)) a ∙ ap (λ (n : List ℕ). form_with (codes "run") n (string_bytes f)) m ∙ ap (form_with (codes "run") (codes "--unique-keys")) b

-- ---- what was written

appended : (t t' : Option (List ℕ)) (text bytes : List ℕ) → t ≡ Some [] → t' ≡ Some text → Appends t t' bytes → text ≡ bytes
appended None t' text bytes none all a = absurd (cc none)
appended (Some xs) None text bytes none all a = absurd a
appended (Some xs) (Some ys) text bytes none all a =
    let before : xs ≡ [] = cc none in
    let now : ys ≡ text = cc all in
    sym now ∙ a ∙ ap (λ (l : List ℕ). l ++ bytes) before

-- a run that is Done has written the output of the statements of its file
pub answered : (keys : Keys) (file input text : List ℕ) (asked : Option Form) (b a : Moment) (status : Status) → asked ≡ Some (running keys file_name) → file_shown b.shelf.files (Some file_name) ≡ Some file
    → b.input.left ≡ Some input → b.out.taken ≡ Some [] → a.out.taken ≡ Some text → Ran asked b a status → status ≡ Done → Answers keys file input text
answered keys file input text asked b a status is shown left none all ran done =
    by_form (subst (λ (f : Option Form). Ran f b a Done) is (subst (Ran asked b a) done ran))
  where
    by_form : RanOver (running keys file_name) (Some file_name) b a Done → Answers keys file input text
    by_form (inl idle) = absurd idle.why
    by_form (inr d) =
        let s = d.does.1 in
        record {
          statements = d.statements;
          accepted = accepted_as file_name b.shelf a.shelf d.statements file shown d.accepted;
          output_is = appended b.out.taken a.out.taken text s.text none all s.grew.bytes_are ∙ s.why.0 ∙ ap (output (job keys d.statements)) (all_taken b.input.left a.input.left input s.bytes left s.consumed s.why.1);
        }

-- ---- why nothing was

weaker : (file : List ℕ) (status : Status) → IsWhy file (unanswered_by status) → IsWhyUnwritten file (unanswered_by status)
weaker file (Refused k kind) w = w
weaker file FileTooLong w = w
weaker file WriteFault w = absurd w
weaker file Done w = tt
weaker file Usage w = tt
weaker file ShelfFault w = tt
weaker file ReadFault w = tt
weaker file Memory w = tt
weaker file InputLimit w = tt

-- a run that did something with statements was not refused
pub unwritten : (keys : Keys) (file : List ℕ) (asked : Option Form) (b a : Moment) (status : Status) → asked ≡ Some (running keys file_name) → file_shown b.shelf.files (Some file_name) ≡ Some file → Ran asked b a status
    → IsWhyUnwritten file (unanswered_by status)
unwritten keys file asked b a status is shown ran = by_form (subst (λ (f : Option Form). Ran f b a status) is ran)
  where
    by_status : (status : Status) → Did (running keys file_name) file_name b a status → IsWhyUnwritten file (unanswered_by status)
    by_status (Refused k kind) d = absurd d.does.1.why
    by_status FileTooLong d = absurd d.does.1.why
    by_status WriteFault d = tt
    by_status Done d = tt
    by_status Usage d = tt
    by_status ShelfFault d = tt
    by_status ReadFault d = tt
    by_status Memory d = tt
    by_status InputLimit d = tt

    by_form : RanOver (running keys file_name) (Some file_name) b a status → IsWhyUnwritten file (unanswered_by status)
    by_form (inl idle) = weaker file status (why file b.shelf a.shelf status shown idle.why)
    by_form (inr d) = by_status status d
