-- How a command ends that takes no file, by what is said of refusals.
use Rattle.std.proofs.Common.{◌≡◌, inl, inr, ℕ, ◌<◌, ◌≤◌, List, length, None, Some, refl, ap, arith}
use Rattle.sj_base.specs.Count.{Rose}
use Rattle.sj_outside.specs.Outside.{Files}
use Rattle.sj_sql_grammar.specs.declared.refusal.FileKind.{FileKind}
use Rattle.sj_sql_grammar.specs.Answers.{max_file}
use Rattle.sj_file.specs.declared.status.Status.{Status}
use Rattle.sj_file.specs.declared.status.Status.TheVariants.{Done, Usage, Refused, ShelfFault, ReadFault, WriteFault, Memory, InputLimit, FileTooLong}
use Rattle.sj_file.specs.File.{ShelfSide, file_shown}
use Rattle.sj_file.specs.Accepted.{IsUntaken}
use Rattle.sj_file.specs.Conditions.{IsOrMemory}
use Rattle.sj_file.proofs.ShownFiles.{long_file, no_file, no_long_file, refused_as}

-- where the file is accepted and the shelf did not fail, only being out of memory is a reason
pub only_memory : (refuses : List ℕ → ℕ → FileKind → Type 0) (name : List ℕ) (s s' : ShelfSide) (status : Status) (file : List ℕ) → file_shown s.files (Some name) ≡ Some file → ((k : ℕ) (kind : FileKind) → refuses file k kind → ⊥) → length file ≤ max_file → (Rose s.faults s'.faults → ⊥)
    → IsUntaken refuses name s s' status → status ≡ Memory
only_memory refuses name s s' ShelfFault file shown taken short shelf why = absurd (shelf why.0)
only_memory refuses name s s' FileTooLong file shown taken short shelf why = absurd (omega (arith, short, long_file s.files name file s'.left shown why.0))
only_memory refuses name s s' (Refused k kind) file shown taken short shelf why = absurd (taken k kind (refused_as refuses name s s' k kind file shown why).1)
only_memory refuses name s s' Memory file shown taken short shelf why = refl
only_memory refuses name s s' Done file shown taken short shelf why = absurd why
only_memory refuses name s s' Usage file shown taken short shelf why = absurd why
only_memory refuses name s s' ReadFault file shown taken short shelf why = absurd why
only_memory refuses name s s' WriteFault file shown taken short shelf why = absurd why
only_memory refuses name s s' InputLimit file shown taken short shelf why = absurd why

same_refusal : (k n : ℕ) (kind other : FileKind) → ◌≡◌ {A = ℕ × FileKind} (k, kind) (n, other) → Refused k kind ≡ Refused n other
same_refusal k n kind other is = ap (λ (e : ℕ × FileKind). Refused e.0 e.1) is

-- a refusal is that of the file
pub this_refusal : (refuses : List ℕ → ℕ → FileKind → Type 0) (name : List ℕ) (s s' : ShelfSide) (status : Status) (file : List ℕ) (n : ℕ) (other : FileKind)
    → ((k : ℕ) (kind : FileKind) → refuses file k kind → refuses file n other → ◌≡◌ {A = ℕ × FileKind} (k, kind) (n, other)) → file_shown s.files (Some name) ≡ Some file → length file ≤ max_file → refuses file n other → (Rose s.faults s'.faults → ⊥)
    → IsUntaken refuses name s s' status → IsOrMemory status (Refused n other)
this_refusal refuses name s s' ShelfFault file n other one shown short bad shelf why = absurd (shelf why.0)
this_refusal refuses name s s' FileTooLong file n other one shown short bad shelf why = absurd (omega (arith, short, long_file s.files name file s'.left shown why.0))
this_refusal refuses name s s' (Refused k kind) file n other one shown short bad shelf why = inl (same_refusal k n kind other (one k kind (refused_as refuses name s s' k kind file shown why).1 bad))
this_refusal refuses name s s' Memory file n other one shown short bad shelf why = inr refl
this_refusal refuses name s s' Done file n other one shown short bad shelf why = absurd why
this_refusal refuses name s s' Usage file n other one shown short bad shelf why = absurd why
this_refusal refuses name s s' ReadFault file n other one shown short bad shelf why = absurd why
this_refusal refuses name s s' WriteFault file n other one shown short bad shelf why = absurd why
this_refusal refuses name s s' InputLimit file n other one shown short bad shelf why = absurd why

-- a file that is too long is the reason
pub too_long_alone : (refuses : List ℕ → ℕ → FileKind → Type 0) (name : List ℕ) (s s' : ShelfSide) (status : Status) (file : List ℕ) → file_shown s.files (Some name) ≡ Some file → max_file < length file → (Rose s.faults s'.faults → ⊥) → IsUntaken refuses name s s' status → IsOrMemory status FileTooLong
too_long_alone refuses name s s' ShelfFault file shown long shelf why = absurd (shelf why.0)
too_long_alone refuses name s s' FileTooLong file shown long shelf why = inl refl
too_long_alone refuses name s s' (Refused k kind) file shown long shelf why = absurd (omega (arith, long, (refused_as refuses name s s' k kind file shown why).0))
too_long_alone refuses name s s' Memory file shown long shelf why = inr refl
too_long_alone refuses name s s' Done file shown long shelf why = absurd why
too_long_alone refuses name s s' Usage file shown long shelf why = absurd why
too_long_alone refuses name s s' ReadFault file shown long shelf why = absurd why
too_long_alone refuses name s s' WriteFault file shown long shelf why = absurd why
too_long_alone refuses name s s' InputLimit file shown long shelf why = absurd why

-- and so is an absent one
pub absent_alone : (refuses : List ℕ → ℕ → FileKind → Type 0) (name : List ℕ) (s s' : ShelfSide) (status : Status) (fs : Files) → s.files ≡ Some fs → fs name ≡ None → IsUntaken refuses name s s' status → IsOrMemory status ShelfFault
absent_alone refuses name s s' ShelfFault fs is none why = inl refl
absent_alone refuses name s s' FileTooLong fs is none why = absurd (no_long_file s.files fs name s'.left is none why.0)
absent_alone refuses name s s' (Refused k kind) fs is none why = absurd (no_file s.files fs name why.file is none why.holds.is)
absent_alone refuses name s s' Memory fs is none why = inr refl
absent_alone refuses name s s' Done fs is none why = absurd why
absent_alone refuses name s s' Usage fs is none why = absurd why
absent_alone refuses name s s' ReadFault fs is none why = absurd why
absent_alone refuses name s s' WriteFault fs is none why = absurd why
absent_alone refuses name s s' InputLimit fs is none why = absurd why
