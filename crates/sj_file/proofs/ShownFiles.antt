-- The file that the words name, where the shelf shows it.
use Rattle.std.proofs.Common.{◌≡◌, ℕ, ◌+◌, ◌<◌, ◌≤◌, List, length, Option, None, Some, IfSome, refl, sym, ap, subst, arith, length-append}
use Rattle.std.specs.Io.KnownBytes.{Consumes}
use Rattle.sj_outside.specs.Outside.{Files}
use Rattle.sj_sql_grammar.specs.declared.refusal.FileKind.{FileKind}
use Rattle.sj_sql_grammar.specs.Answers.{max_file}
use Rattle.sj_path_tree.specs.Tree.{Path}
use Rattle.sj_sql_grammar.specs.Tree.{Statement}
use Rattle.sj_bound.specs.Bound.{Bound}
use Rattle.sj_file.specs.declared.job.Keys.{Keys}
use Rattle.sj_file.specs.File.{ShelfSide, Form, running, checking, generating, showing, grouping, scanning, file_shown, IsFile, IsTooLong}
use Rattle.sj_file.specs.Verdict.{Accepts, IsReadAs}
use Rattle.sj_file.specs.Accepted.{Accepted, RefusedFile}
use Rattle.sj_file.proofs.Texts.{read_as}
use Rattle.sj_file.specs.Conditions.{IfRuns, IfChecks, IfGenerates, IfShows, IfGroups}

pub by_some : {A : Type 0} (x : Option A) (P : A → Type 0) → ((y : A) → x ≡ Some y → P y) → IfSome x P
by_some None P h = tt
by_some (Some y) P h = h y refl

-- no file is shown where none is named
pub no_name : (files : Option Files) (file : List ℕ) → file_shown files None ≡ Some file → ⊥
no_name None file shown = absurd (cc shown)
no_name (Some files) file shown = absurd (cc shown)

same_file : (files : Option Files) (name file file' : List ℕ) → file_shown files (Some name) ≡ Some file → IsFile files name file' → file' ≡ file
same_file None name file file' shown is = absurd (cc shown)
same_file (Some files) name file file' shown is = cc (shown, is)

-- ---- a file that is too long

-- Of a file that is too long no more was read than the first byte past the limit.
abbrev pub IsPast : List ℕ → Option (List ℕ) → Type 0
IsPast file left = (front : List ℕ) × (length front ≡ max_file + 1) × Consumes (Some file) left front

pub past_limit : (files : Option Files) (name file : List ℕ) (left : Option (List ℕ)) → file_shown files (Some name) ≡ Some file → IsTooLong files name left → IsPast file left
past_limit None name file left shown long = absurd (cc shown)
past_limit (Some files) name file left shown long =
    let same : long.0 ≡ file = cc (shown, long.1) in
    subst (λ (f : List ℕ). IsPast f left) same (long.2, long.3, long.4)

longer : (file : List ℕ) (left : Option (List ℕ)) → IsPast file left → max_file < length file
longer file None past = absurd past.2
longer file (Some rest) past = omega (arith, ap length past.2, length-append past.0 rest, past.1)

pub long_file : (files : Option Files) (name file : List ℕ) (left : Option (List ℕ)) → file_shown files (Some name) ≡ Some file → IsTooLong files name left → max_file < length file
long_file files name file left shown long = longer file left (past_limit files name file left shown long)

-- and the others are left
pub left_of : (file : List ℕ) (left : Option (List ℕ)) (rest : List ℕ) → left ≡ Some rest → IsPast file left → length file ≡ max_file + 1 + length rest
left_of file None rest is past = absurd past.2
left_of file (Some all) rest is past =
    let same : all ≡ rest = cc is in
    omega (arith, ap length past.2, length-append past.0 all, past.1, ap length same)

-- ---- a name that no file has

pub no_file : (files : Option Files) (fs : Files) (name file : List ℕ) → files ≡ Some fs → fs name ≡ None → IsFile files name file → ⊥
no_file None fs name file is none here = absurd (cc is)
no_file (Some gs) fs name file is none here =
    let same : gs ≡ fs = cc is in
    let told : gs name ≡ fs name = ap (λ (x : Files). x name) same in
    absurd (cc (told, none, here))

pub no_long_file : (files : Option Files) (fs : Files) (name : List ℕ) (left : Option (List ℕ)) → files ≡ Some fs → fs name ≡ None → IsTooLong files name left → ⊥
no_long_file None fs name left is none long = absurd (cc is)
no_long_file (Some gs) fs name left is none long = no_file (Some gs) fs name long.0 is none long.1

-- ---- a file whose statements are accepted or refused

pub accepted_as : (name : List ℕ) (s s' : ShelfSide) (K : List Bound) (file : List ℕ) → file_shown s.files (Some name) ≡ Some file → Accepted name s s' K → Accepts file K
accepted_as name s s' K file shown a = subst (λ (f : List ℕ). Accepts f K) (same_file s.files name file a.file shown a.holds.is) a.accepted

pub accepted_read : (name : List ℕ) (s s' : ShelfSide) (K : List Bound) (file : List ℕ) (T : List (Statement Path)) → file_shown s.files (Some name) ≡ Some file → (a : Accepted name s s' K) → IsReadAs file T
    → a.accepted.statements ≡ T
accepted_read name s s' K file T shown a read =
    sym (read_as a.file K a.accepted T (subst (λ (f : List ℕ). IsReadAs f T) (sym (same_file s.files name file a.file shown a.holds.is)) read))

pub accepted_short : (name : List ℕ) (s s' : ShelfSide) (K : List Bound) (file : List ℕ) → file_shown s.files (Some name) ≡ Some file → Accepted name s s' K → length file ≤ max_file
accepted_short name s s' K file shown a = subst (λ (f : List ℕ). length f ≤ max_file) (same_file s.files name file a.file shown a.holds.is) a.holds.short

pub refused_as : (refuses : List ℕ → ℕ → FileKind → Type 0) (name : List ℕ) (s s' : ShelfSide) (k : ℕ) (kind : FileKind) (file : List ℕ) → file_shown s.files (Some name) ≡ Some file → RefusedFile refuses name s s' k kind
    → (length file ≤ max_file) × refuses file k kind
refused_as refuses name s s' k kind file shown r =
    subst (λ (f : List ℕ). (length f ≤ max_file) × refuses f k kind) (same_file s.files name file r.file shown r.holds.is) (r.holds.short, r.refused)

-- ---- by the form

pub for_run : (f : Option Form) (files : Option Files) (P : Keys → List ℕ → Type 0) → ((keys : Keys) (name file : List ℕ) → f ≡ Some (running keys name) → file_shown files (Some name) ≡ Some file → P keys file)
    → IfRuns f files P
for_run None files P h = by_some (file_shown files None) _ (λ file shown. absurd (no_name files file shown))
for_run (Some (running keys name)) files P h = by_some (file_shown files (Some name)) _ (λ file shown. h keys name file refl shown)
for_run (Some (checking name)) files P h = by_some (file_shown files None) _ (λ file shown. absurd (no_name files file shown))
for_run (Some (generating number name)) files P h = by_some (file_shown files None) _ (λ file shown. absurd (no_name files file shown))
for_run (Some (showing name)) files P h = by_some (file_shown files None) _ (λ file shown. absurd (no_name files file shown))
for_run (Some (grouping name)) files P h = by_some (file_shown files None) _ (λ file shown. absurd (no_name files file shown))
for_run (Some (scanning path)) files P h = by_some (file_shown files None) _ (λ file shown. absurd (no_name files file shown))

pub for_check : (f : Option Form) (files : Option Files) (P : List ℕ → Type 0) → ((name file : List ℕ) → f ≡ Some (checking name) → file_shown files (Some name) ≡ Some file → P file)
    → IfChecks f files P
for_check None files P h = by_some (file_shown files None) _ (λ file shown. absurd (no_name files file shown))
for_check (Some (running keys name)) files P h = by_some (file_shown files None) _ (λ file shown. absurd (no_name files file shown))
for_check (Some (checking name)) files P h = by_some (file_shown files (Some name)) _ (λ file shown. h name file refl shown)
for_check (Some (generating number name)) files P h = by_some (file_shown files None) _ (λ file shown. absurd (no_name files file shown))
for_check (Some (showing name)) files P h = by_some (file_shown files None) _ (λ file shown. absurd (no_name files file shown))
for_check (Some (grouping name)) files P h = by_some (file_shown files None) _ (λ file shown. absurd (no_name files file shown))
for_check (Some (scanning path)) files P h = by_some (file_shown files None) _ (λ file shown. absurd (no_name files file shown))

pub for_generated : (f : Option Form) (files : Option Files) (P : ℕ → List ℕ → Type 0) → ((number : ℕ) (name file : List ℕ) → f ≡ Some (generating number name) → file_shown files (Some name) ≡ Some file → P number file)
    → IfGenerates f files P
for_generated None files P h = by_some (file_shown files None) _ (λ file shown. absurd (no_name files file shown))
for_generated (Some (running keys name)) files P h = by_some (file_shown files None) _ (λ file shown. absurd (no_name files file shown))
for_generated (Some (checking name)) files P h = by_some (file_shown files None) _ (λ file shown. absurd (no_name files file shown))
for_generated (Some (generating number name)) files P h = by_some (file_shown files (Some name)) _ (λ file shown. h number name file refl shown)
for_generated (Some (showing name)) files P h = by_some (file_shown files None) _ (λ file shown. absurd (no_name files file shown))
for_generated (Some (grouping name)) files P h = by_some (file_shown files None) _ (λ file shown. absurd (no_name files file shown))
for_generated (Some (scanning path)) files P h = by_some (file_shown files None) _ (λ file shown. absurd (no_name files file shown))

pub for_show : (f : Option Form) (files : Option Files) (P : List ℕ → Type 0) → ((name file : List ℕ) → f ≡ Some (showing name) → file_shown files (Some name) ≡ Some file → P file)
    → IfShows f files P
for_show None files P h = by_some (file_shown files None) _ (λ file shown. absurd (no_name files file shown))
for_show (Some (running keys name)) files P h = by_some (file_shown files None) _ (λ file shown. absurd (no_name files file shown))
for_show (Some (checking name)) files P h = by_some (file_shown files None) _ (λ file shown. absurd (no_name files file shown))
for_show (Some (generating number name)) files P h = by_some (file_shown files None) _ (λ file shown. absurd (no_name files file shown))
for_show (Some (showing name)) files P h = by_some (file_shown files (Some name)) _ (λ file shown. h name file refl shown)
for_show (Some (grouping name)) files P h = by_some (file_shown files None) _ (λ file shown. absurd (no_name files file shown))
for_show (Some (scanning path)) files P h = by_some (file_shown files None) _ (λ file shown. absurd (no_name files file shown))

pub for_group : (f : Option Form) (files : Option Files) (P : List ℕ → Type 0) → ((name file : List ℕ) → f ≡ Some (grouping name) → file_shown files (Some name) ≡ Some file → P file)
    → IfGroups f files P
for_group None files P h = by_some (file_shown files None) _ (λ file shown. absurd (no_name files file shown))
for_group (Some (running keys name)) files P h = by_some (file_shown files None) _ (λ file shown. absurd (no_name files file shown))
for_group (Some (checking name)) files P h = by_some (file_shown files None) _ (λ file shown. absurd (no_name files file shown))
for_group (Some (generating number name)) files P h = by_some (file_shown files None) _ (λ file shown. absurd (no_name files file shown))
for_group (Some (showing name)) files P h = by_some (file_shown files None) _ (λ file shown. absurd (no_name files file shown))
for_group (Some (grouping name)) files P h = by_some (file_shown files (Some name)) _ (λ file shown. h name file refl shown)
for_group (Some (scanning path)) files P h = by_some (file_shown files None) _ (λ file shown. absurd (no_name files file shown))
