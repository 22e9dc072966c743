-- A file in memory, as a shelf shows it.
use Rattle.std.proofs.Common.{◌≡◌, ℕ, List, ◌∷◌, [], ◌++◌, length, map, take, Option, None, Some, refl, sym, ◌∙◌, ap, subst, arith}
use Rattle.std.proofs.lemmas.List.{take-append-le, take_all}
use Rattle.sj_outside.specs.Outside.{Files, one_file}
use Rattle.sj_outside.specs.InMemory.{QuietShelfState, quiet_shelf_of}
use Rattle.sj_bound.specs.Bound.{Bound}
use Rattle.sj_bound.specs.View.{bound_of}
use Rattle.sj_bound.specs.declared.bound.Bound.{Bound as BoundHeld}
use Rattle.sj_file.specs.declared.status.Status.{Status}
use Rattle.sj_file.specs.declared.status.Status.TheVariants.{Done, Usage, Refused, ShelfFault, ReadFault, WriteFault, Memory, InputLimit, FileTooLong}
use Rattle.sj_file.specs.File.{ShelfSide, IsFile, file_shown}
use Rattle.sj_file.specs.Verdict.{Refuses}
use Rattle.sj_file.specs.Accepted.{Accepted, AcceptedSoMany, AcceptedWithText, IsUnaccepted}
use Rattle.sj_file.specs.Refusals.{AcceptsSoMany, AcceptsWithText}
use Rattle.sj_file.proofs.ShownFiles.{accepted_as, refused_as, long_file}
use Rattle.sj_host.specs.Host.{file_name, unanswered_by, IsWhy, width_of, AcceptsWithWidths}

-- the shelf shows the file
pub shown : (file : List ℕ) (shelf : QuietShelfState) → shelf ≡ quiet_shelf_of file_name file → file_shown (Some (one_file shelf.name shelf.bytes)) (Some file_name) ≡ Some file
shown file shelf is = ap (λ (s : QuietShelfState). file_shown (Some (one_file s.name s.bytes)) (Some file_name)) is

-- why it is not accepted
pub why : (file : List ℕ) (old new : ShelfSide) (status : Status) → file_shown old.files (Some file_name) ≡ Some file → IsUnaccepted file_name old new status → IsWhy file (unanswered_by status)
why file old new (Refused k kind) is r = refused_as Refuses file_name old new k kind file is r
why file old new FileTooLong is r = long_file old.files file_name file new.left is r.0
why file old new ShelfFault is r = tt
why file old new Memory is r = tt
why file old new Done is r = absurd r
why file old new Usage is r = absurd r
why file old new ReadFault is r = absurd r
why file old new WriteFault is r = absurd r
why file old new InputLimit is r = absurd r

pub so_many : (file : List ℕ) (old new : ShelfSide) (count : ℕ) → file_shown old.files (Some file_name) ≡ Some file → AcceptedSoMany file_name old new count → AcceptsSoMany file count
so_many file old new count is a = (a.0, accepted_as file_name old new a.0 file is a.1, a.2)

pub with_widths : (file : List ℕ) (old new : ShelfSide) (statements : List Bound) (widths : List ℕ) → file_shown old.files (Some file_name) ≡ Some file → Accepted file_name old new statements → widths ≡ map width_of statements
    → AcceptsWithWidths file widths
with_widths file old new statements widths is a these = (statements, accepted_as file_name old new statements file is a, these)

-- this is the file
same_file : (files : Option Files) (name file other : List ℕ) → file_shown files (Some name) ≡ Some file → IsFile files name other → other ≡ file
same_file None name file other is here = absurd (cc is)
same_file (Some files) name file other is here = cc (is, here)

pub with_text : (file : List ℕ) (old new : ShelfSide) (text : List ℕ) → file_shown old.files (Some file_name) ≡ Some file → AcceptedWithText file_name old new text → AcceptsWithText file text
with_text file old new text is a =
    subst (λ (f : List ℕ). AcceptsWithText f text) (same_file old.files file_name file a.1.file is a.1.holds.is) (a.0, a.1.accepted, a.2)

-- a text that was copied stands at the front
pub copied_front : (read source copy others text : List ℕ) → read ≡ text → copy ≡ source → source ≡ text → text ≡ take (length read) (copy ++ others)
copied_front read source copy others text a b c =
    let whole : copy ≡ text = b ∙ c in
    let long : length read ≡ length copy = ap length (a ∙ sym whole) in
    sym (ap (λ (n : ℕ). take n (copy ++ others)) long ∙ take-append-le (length copy) copy others (omega arith) ∙ take_all (length copy) copy (omega arith) ∙ whole)

-- the widths of statements as they are held
pub held_widths : (xs : List BoundHeld) → map (λ (s : BoundHeld). width_of (bound_of s)) xs ≡ map width_of (map bound_of xs)
held_widths [] = refl
held_widths (x ∷ xs) = ap (λ (l : List ℕ). width_of (bound_of x) ∷ l) (held_widths xs)
